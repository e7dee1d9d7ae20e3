-- What the drives hold and what recovery has noted, over the entries of a kick, of work, of plugs and of time.
use Rattle.std.proofs.Common.{◌≡◌, ◌∙◌, ℕ, ◌<◌, Bool, true, false, not, ◌&&◌, ◌==◌, List, [], ◌∷◌, Option, None, Some, option_map, take, length, inl, inr, suc, zero, is_none, refl, sym, ap, arith, length-take}
use Rattle.std.specs.Prelude.{slice_index_or}
use Rattle.std.specs.List.{list_all, list_any}
use Rattle.std.proofs.lemmas.Bool.{eq-eqb}
use Rattle.std.proofs.lemmas.List.Quantifiers.{position-Some}
use Rattle.ata_trace.specs.Event.{Event, onto}
use Rattle.ata_trace.specs.declared.act.Act.{Act}
use Rattle.host_defer.specs.Obstacles.{is_link_busy, is_at, is_unqueued_at}
use Rattle.host_tags.specs.Slots.{flight_at, put, free_below}
use Rattle.host_tags.specs.declared.in_flight.InFlight.{InFlight}
use Rattle.port_past.specs.Slots.{slots}
use Rattle.port_rules.specs.Kick.{place_and_queuing, outline}
use Rattle.ata_base.proofs.Truth.{neither}
use Rattle.port_past.proofs.Sizes.{length_slots}
use Rattle.port_stands.proofs.Numbers.{flew, read_written}
use Rattle.port_stands.specs.Whole.{AreUnmixed}
use Rattle.port_stands.specs.Words.{is_no_issue}

-- ---- links unmixed

pub unmixed_onto : (p : List Event) (acts : List Act) → list_all is_no_issue acts ≡ true → AreUnmixed (slots p) → AreUnmixed (slots (onto p acts))
unmixed_onto p acts all was = λ t u f g at_t at_u same apart.
    let a = flew p acts all t f at_t in
    let b = flew p acts all u g at_u in
    a.1.1.queued ∙ was t u a.0 b.0 a.1.0 b.1.0 (sym a.1.1.place ∙ same ∙ b.1.1.place) apart

-- what a link's traffic says of each issue in flight
none_any :
    (seen : Option (ℕ × Bool) → Bool) (slots : List (Option InFlight)) → list_any seen (outline slots) ≡ false
    → (t : ℕ) (f : InFlight) → flight_at slots t ≡ Some f → seen (Some (f.place, f.queued)) ≡ false
none_any seen [] none t f here = absurd (cc)
none_any seen (s ∷ slots) none zero f here =
    let parts = neither (seen (option_map place_and_queuing s)) (list_any seen (outline slots)) none in
    ap (λ x. seen (option_map place_and_queuing x)) (sym here) ∙ parts.0
none_any seen (s ∷ slots) none (suc t) f here =
    none_any seen slots (neither (seen (option_map place_and_queuing s)) (list_any seen (outline slots)) none).1 t f here

pub unmixed_put :
    (slots : List (Option InFlight)) (tag : ℕ) (new : InFlight) (queued : Bool) → new.queued ≡ queued
    → is_link_busy (outline slots) new.place queued ≡ false → AreUnmixed slots → AreUnmixed (put tag new slots)
unmixed_put slots tag new queued kind alone was = λ t u f g at_t at_u same apart.
    elim (read_written slots tag t (Some new) f at_t) [
      | inl a ↦ elim (read_written slots tag u (Some new) g at_u) [
        | inl b ↦ absurd (apart (a.0 ∙ sym b.0))
        | inr b ↦
            let one : new ≡ f = cc (a.1) in
            ap (λ x. x.queued) (sym one) ∙ beside queued kind alone u g b.1 (sym same ∙ ap (λ x. x.place) (sym one))
      ]
      | inr a ↦ elim (read_written slots tag u (Some new) g at_u) [
        | inl b ↦
            let one : new ≡ g = cc (b.1) in
            (beside_other queued alone t f a.1 (same ∙ ap (λ x. x.place) (sym one)))
        | inr b ↦ was t u f g a.1 b.1 same apart
      ]
    ]
  where
    beside : (q : Bool) → new.queued ≡ q → is_link_busy (outline slots) new.place q ≡ false → (u : ℕ) (g : InFlight) → flight_at slots u ≡ Some g → g.place ≡ new.place → new.queued ≡ true
    beside true k free u g here there = k
    beside false k free u g here there = absurd (cc (none_any (is_at new.place) slots free u g here, eq-eqb g.place new.place there))

    unqueued_false : (a b : Bool) → (a && not b) ≡ false → a ≡ true → b ≡ true
    unqueued_false true true e is = refl
    unqueued_false true false e is = absurd (cc)
    unqueued_false false b e is = absurd (cc)

    beside_other : (q : Bool) → is_link_busy (outline slots) new.place q ≡ false → (t : ℕ) (f : InFlight) → flight_at slots t ≡ Some f → f.place ≡ new.place → f.queued ≡ true
    beside_other true free t f here there = unqueued_false (f.place == new.place) f.queued (none_any (is_unqueued_at new.place) slots free t f here) (eq-eqb f.place new.place there)
    beside_other false free t f here there = absurd (cc (none_any (is_at new.place) slots free t f here, eq-eqb f.place new.place there))

-- ---- a tag that is given out is free

none_of : (slot : Option InFlight) → is_none slot ≡ true → slot ≡ None
none_of None is = refl
none_of (Some f) is = absurd (cc)

pub given_free : (limit tag : ℕ) (p : List Event) → free_below limit (slots p) ≡ Some tag → (tag < 32) × (flight_at (slots p) tag ≡ None)
given_free limit tag p is =
    let found = position-Some is_none (take limit (slots p)) tag None is in
    (omega (arith, found.0, length-take limit (slots p), length_slots p), none_of _ (free_at limit tag (slots p) found.0 found.1))
  where
    free_at : (limit t : ℕ) (slots : List (Option InFlight)) → t < length (take limit slots) → is_none (slice_index_or (take limit slots) t None) ≡ true → is_none (flight_at slots t) ≡ true
    free_at zero t slots within is = absurd (omega arith)
    free_at (suc limit) t [] within is = absurd (omega arith)
    free_at (suc limit) zero (s ∷ slots) within is = is
    free_at (suc limit) (suc t) (s ∷ slots) within is = free_at limit t slots (omega arith) is
