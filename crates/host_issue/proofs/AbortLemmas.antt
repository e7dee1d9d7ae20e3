-- Slots in which the issue under one tag after the other is given to recovery.
use Rattle.std.proofs.Common.{◌≡◌, ℕ, ◌+◌, ◌<◌, Bool, true, false, List, ◌++◌, Option, None, length, take, drop, refl, sym, ap, ◌∙◌, if◌then◌else◌}
use Rattle.std.specs.Prelude.{slice_set}
use Rattle.std.proofs.lemmas.List.{get_or_default, set-get_or}
use Rattle.std.proofs.lemmas.List.Edits.{map_over_more}
use Rattle.std.proofs.lemmas.Option.{unwrap_or-slice_get}
use Rattle.host_issue.specs.Aborting.{aborted, aborted_slot, is_abortable}
use Rattle.host_tags.specs.Slots.{flight_at}
use Rattle.host_tags.specs.declared.in_flight.InFlight.{InFlight}

else_taken : {A : Type 0} (b : Bool) (x y : A) → b ≡ false → (if b then x else y) ≡ y
else_taken true x y fails = absurd (cc)
else_taken false x y fails = refl

-- where the issue under a tag isn't one to be given up, the slots stay
pub slots_stay : (place : Option ℕ) (slots : List (Option InFlight)) (tag : ℕ) (seen : Option InFlight)
    → seen ≡ flight_at slots tag → false ≡ is_abortable place seen
    → slots ≡ slice_set slots tag (aborted_slot place (flight_at slots tag))
slots_stay place slots tag seen is fails =
    let stays : aborted_slot place seen ≡ seen = else_taken (is_abortable place seen) _ seen (sym fails) in
    let same : aborted_slot place (flight_at slots tag) ≡ flight_at slots tag = ap (aborted_slot place) (sym is) ∙ stays ∙ is in
    sym (ap (λ slot. slice_set slots tag slot) (same ∙ unwrap_or-slice_get slots tag None) ∙ set-get_or slots tag None)

-- one tag more
pub one_more : (place : Option ℕ) (before now : List (Option InFlight)) (tag : ℕ) → tag < length before → tag < length now
    → now ≡ aborted place (take tag before) ++ drop tag before
    → slice_set now tag (aborted_slot place (flight_at now tag)) ≡ aborted place (take (tag + 1) before) ++ drop (tag + 1) before
one_more place before now tag within still were =
    map_over_more (aborted_slot place) before now tag (flight_at now tag) within were
    (unwrap_or-slice_get now tag None ∙ get_or_default now tag None (flight_at now tag) still)
