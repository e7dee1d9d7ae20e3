-- What is asked of the outline of issues in flight, asked of the issues themselves.
use Rattle.std.proofs.Common.{◌≡◌, ℕ, zero, suc, Bool, true, false, not, ◌&&◌, ◌==◌, IsTrue, IsBitSet, ◌↔◌, subst, List, [], ◌∷◌, Option, None, Some, take, refl, sym}
use Rattle.std.proofs.lemmas.List.{length-map, take-map}
use Rattle.std.specs.List.{list_any, position, position_or_len}
use Rattle.std.specs.Prelude.{is_none, option_map}
use Rattle.host_defer.specs.Obstacles.{is_unqueued_at}
use Rattle.host_tags.specs.Slots.{free_below, is_busy, is_queued}
use Rattle.host_tags.specs.declared.in_flight.InFlight.{InFlight}
use Rattle.port_rules.specs.Kick.{outline, place_and_queuing}

-- a test of an outlined slot is one of the slot
pub any_outlined :
    (test : Option (ℕ × Bool) → Bool) (flights : List (Option InFlight))
    → list_any (λ slot. test (option_map place_and_queuing slot)) flights ≡ list_any test (outline flights)
any_outlined test [] = refl
any_outlined test (slot ∷ flights) = rw (any_outlined test flights) refl

-- an outlined slot is free where the slot is
first_outlined : (flights : List (Option InFlight)) → position_or_len is_none (outline flights) ≡ position_or_len is_none flights
first_outlined [] = refl
first_outlined (None ∷ flights) = refl
first_outlined (Some f ∷ flights) = rw (first_outlined flights) refl

position_outlined : (flights : List (Option InFlight)) → position is_none (outline flights) ≡ position is_none flights
position_outlined flights = rw (first_outlined flights, length-map flights (option_map place_and_queuing)) refl

pub free_outlined : (limit : ℕ) (flights : List (Option InFlight)) → free_below limit (outline flights) ≡ free_below limit flights
free_outlined limit flights =
    rw (take-map (option_map place_and_queuing) limit flights) (position_outlined (take limit flights))

-- where no tag is busy, no issue passes a test
none_busy :
    (test : Option (ℕ × Bool) → Bool) (flights : List (Option InFlight)) → test None ≡ false
    → ((tag : ℕ) → IsTrue (is_busy flights tag) → ⊥) → list_any test (outline flights) ≡ false
none_busy test [] free none = refl
none_busy test (None ∷ flights) free none = rw free (none_busy test flights free (λ tag. none (suc tag)))
none_busy test (Some f ∷ flights) free none = absurd (none zero refl)

pub none_such :
    (test : Option (ℕ × Bool) → Bool) (busy : ℕ) (flights : List (Option InFlight)) → test None ≡ false
    → ((tag : ℕ) → IsBitSet busy tag ↔ IsTrue (is_busy flights tag)) → busy ≡ 0
    → false ≡ list_any test (outline flights)
none_such test busy flights free bits idle =
    sym (none_busy test flights free (λ tag is. subst (λ m. IsBitSet m tag) idle ((bits tag).1 is) refl))

and_not : (b queued : Bool) → queued ≡ true → (b && not queued) ≡ false
and_not true queued is = rw is refl
and_not false queued is = refl

-- where each busy tag is a queued one's, no unqueued issue is at a place
all_queued_at :
    (x : ℕ) (flights : List (Option InFlight)) → ((tag : ℕ) → IsTrue (is_busy flights tag) → IsTrue (is_queued flights tag))
    → list_any (is_unqueued_at x) (outline flights) ≡ false
all_queued_at x [] all = refl
all_queued_at x (None ∷ flights) all = all_queued_at x flights (λ tag. all (suc tag))
all_queued_at x (Some f ∷ flights) all =
    rw (and_not (f.place == x) f.queued (all zero refl)) (all_queued_at x flights (λ tag. all (suc tag)))

pub none_unqueued_at :
    (x busy queued : ℕ) (flights : List (Option InFlight)) → ((tag : ℕ) → IsBitSet busy tag ↔ IsTrue (is_busy flights tag))
    → ((tag : ℕ) → IsBitSet queued tag ↔ IsTrue (is_queued flights tag)) → busy ≡ queued
    → false ≡ list_any (is_unqueued_at x) (outline flights)
none_unqueued_at x busy queued flights bits too same =
    sym (all_queued_at x flights (λ tag is. (too tag).0 (subst (λ m. IsBitSet m tag) same ((bits tag).1 is))))
