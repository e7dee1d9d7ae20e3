-- The gate of a port stays guarded where recovery begins.
use Rattle.std.proofs.Common.{◌≡◌, ◌∙◌, ℕ, Bool, true, false, not, List, [], ◌∷◌, ◌++◌, Option, None, Some, inl, inr, unwrap_or, slice_get, refl, sym, ap, subst, arith}
use Rattle.std.specs.List.{list_all}
use Rattle.ata_script.specs.declared.port_head.PortHead.{PortHead}
use Rattle.ata_trace.specs.Event.{Event, onto}
use Rattle.ata_trace.specs.Event.Event.{Entered, Told}
use Rattle.ata_trace.specs.declared.act.Act.{Act}
use Rattle.ata_trace.specs.declared.act.Act.TheVariants.{Frozen, Begun}
use Rattle.ata_trace.specs.declared.step.Step.{Step}
use Rattle.ata_trace.specs.declared.who.Who.{Who}
use Rattle.eh_flow.specs.declared.phase.Phase.TheVariants.{Idle}
use Rattle.host_tags.specs.Slots.{flight_at}
use Rattle.host_tags.specs.declared.in_flight.InFlight.{InFlight}
use Rattle.port_past.specs.Completions.{completions}
use Rattle.port_past.specs.PortState.{is_frozen, is_asked, is_running}
use Rattle.port_past.specs.Issues.{issue_count}
use Rattle.port_past.specs.Slots.{slots}
use Rattle.port_past.specs.declared.completion.Completion.{Completion}
use Rattle.port_rules.specs.Sorting.{ok_answers, condemnations}
use Rattle.port_rules.specs.Begin.{timed_out, with_freeze, begin_acts}
use Rattle.port_rules.specs.Told.{told_if}
use Rattle.ata_trace.proofs.Pasts.{onto_append}
use Rattle.port_stands.proofs.Blocks.{flight_onto, all_append}
use Rattle.port_stands.proofs.GuardIrq.{Shell, shell, shell_left}
use Rattle.port_past.proofs.Sizes.{length_ends, length_slots, flight_within}
use Rattle.port_stands.proofs.Lists.{all_answers, all_condemnations}
use Rattle.port_stands.proofs.Marks.{was_there, stays, still_same, is_no_leave, slot_append, empty_stays}
use Rattle.port_stands.proofs.Taken.{unanswered, answered, condemned_at, IsOpen, some_open}
use Rattle.port_stands.specs.Driven.{end_at}
use Rattle.port_stands.specs.Gate.{Gate, gate, IsGuarded, AreAll, AreNumbered, IsSomeone, is_host_phase}
use Rattle.port_stands.specs.Words.{recovery, phase_of, slot_onto, is_no_issue, is_slot_act}
use Rattle.ata_base.proofs.EachLemmas.{get_within}

frozen_now :
    (head : PortHead) (past : List Event) (frozen : Bool) → is_frozen past ≡ frozen
    → gate head (onto past (told_if (not frozen) Frozen))
    ≡ record { recovery = recovery head past; frozen = true; asked = is_asked past; slots = slots past }
frozen_now head past true is = ap (λ f. record { recovery = recovery head past; frozen = f; asked = is_asked past; slots = slots past }) is
frozen_now head past false is = refl

module _ (head : PortHead) (past : List Event) where
  ended_or_open :
      (tag : ℕ) (f : InFlight) (found : Option Completion) → flight_at (slots past) tag ≡ Some f
      → slice_get (completions head past) tag ≡ Some found → f.owned ≡ false → (x : InFlight)
      → slot_onto (condemnations (λ f. true) timed_out (slots past) (completions head past)) (slot_onto (ok_answers (slots past) (completions head past)) (Some f)) ≡ Some x
      → x.owned ≡ true
  ended_or_open tag f (Some end) here is free x e =
      let gone = answered (slots past) (completions head past) tag f end here free (ap (λ o. unwrap_or o None) is) in
      absurd (cc (
        gone,
        empty_stays (condemnations (λ f. true) timed_out (slots past) (completions head past)),
        e,
        ap (slot_onto (condemnations (λ f. true) timed_out (slots past) (completions head past))) gone,
      ))
  ended_or_open tag f None here is free x e = open_by (slot_onto (ok_answers (slots past) (completions head past)) (Some f)) refl e
    where
      open_by :
          (slot : Option InFlight) → slot_onto (ok_answers (slots past) (completions head past)) (Some f) ≡ slot
          → slot_onto (condemnations (λ f. true) timed_out (slots past) (completions head past)) slot ≡ Some x → x.owned ≡ true
      open_by None at e = absurd (cc (empty_stays (condemnations (λ f. true) timed_out (slots past) (completions head past)), e))
      open_by (Some y) at e =
          let same = still_same (ok_answers (slots past) (completions head past)) f y at in
          condemned_at (λ f. true) timed_out (slots past) (completions head past) tag f y x here free refl is (ap (λ z. z.n) same.n) e

  -- an issue that is in flight once recovery began is owned
  pub owned_at_begin :
      (tag : ℕ) (f x : InFlight) → flight_at (slots past) tag ≡ Some f
      → slot_onto (ok_answers (slots past) (completions head past) ++ condemnations (λ f. true) timed_out (slots past) (completions head past)) (Some f) ≡ Some x
      → x.owned ≡ true
  owned_at_begin tag f x here e = by_owner f.owned refl
    where
      by_owner : (own : Bool) → f.owned ≡ own → x.owned ≡ true
      by_owner true own = (still_same (ok_answers (slots past) (completions head past) ++ condemnations (λ f. true) timed_out (slots past) (completions head past)) f x e).owned own
      by_owner false own =
          let part = get_within (completions head past) tag (omega (arith, flight_within (slots past) tag f here, length_slots past, length_ends head past)) in
          ended_or_open tag f part.0 here part.1 own x
          (sym (slot_append (ok_answers (slots past) (completions head past)) (condemnations (λ f. true) timed_out (slots past) (completions head past)) (Some f)) ∙ e)

  -- an issue without an end is still in flight
  pub open_at_begin :
      AreNumbered (issue_count past) (slots past) → (o : IsOpen (slots past) (completions head past))
      → (x : InFlight) × (slot_onto (ok_answers (slots past) (completions head past) ++ condemnations (λ f. true) timed_out (slots past) (completions head past)) (Some o.flight) ≡ Some x)
  open_at_begin numbered o =
      let marks : List Act = condemnations (λ f. true) timed_out (slots past) (completions head past) in
      let kept = unanswered (slots past) (completions head past) o.flight
      (λ u h at same. subst (λ t. end_at (completions head past) t ≡ None) (numbered.apart o.tag u o.flight h o.here at (sym same)) o.unended) in
      let s = stays marks o.flight (all_condemnations is_no_leave (λ f. true) timed_out (λ f. refl) (slots past) (completions head past)) in
      (s.0, slot_append (ok_answers (slots past) (completions head past)) marks (Some o.flight) ∙ ap (slot_onto marks) kept ∙ s.1)

module _ (head : PortHead) (past : List Event) (time : ℕ) (who : Who) (seq : ℕ) (step : Step) where
  begun_guarded :
      (frozen : Bool) (slots : List (Option InFlight)) → AreAll (λ f. f.owned ≡ true) slots
      → (head.pmp ≡ true → frozen ≡ true → IsSomeone slots)
      → IsGuarded head.pmp (record { recovery = recovery head (Told Begun ∷ Entered time who seq step ∷ past); frozen = frozen; asked = false; slots = slots })
  begun_guarded frozen slots owned someone = record {
    owned = λ running. owned;
    recovering = λ tag f here own. refl;
    expired = λ tag f here free told. absurd (cc (owned tag f here));
    direct = λ is cold. refl;
    multiplier = λ is cold. inr (refl, someone is cold);
    new = λ running early. (refl, (refl, refl));
    home = λ is. refl;
  }

  idle_thawed :
      (pmp : Bool) (g : Gate) (frozen : Bool) → g.frozen ≡ frozen → g.recovery.running ≡ false → IsGuarded pmp g → pmp ≡ true → frozen ≡ false
  idle_thawed pmp g true is idle was fan =
      let at : phase_of g.recovery ≡ Idle = rw idle refl in
      elim (was.multiplier fan is) [
        | inl turn ↦ absurd (cc (at, turn, ap is_host_phase at))
        | inr logs ↦ absurd (cc (at, logs.0))
      ]
  idle_thawed pmp g false is idle was fan = refl

  begin_by :
      (marks : List Act) → condemnations (λ f. true) timed_out (slots past) (completions head past) ≡ marks
      → is_running past ≡ false → AreNumbered (issue_count past) (slots past) → IsGuarded head.pmp (gate head past)
      → IsGuarded head.pmp (gate head (onto (onto (Told Begun ∷ Entered time who seq step ∷ past) (ok_answers (slots past) (completions head past))) (with_freeze (is_frozen past) marks)))
  begin_by [] is idle numbered was =
      let start : List Event = Told Begun ∷ Entered time who seq step ∷ past in
      let told : List Act = ok_answers (slots past) (completions head past) in
      let same : shell head (onto start told) ≡ shell head start =
      shell_left head start told (all_answers is_slot_act (λ f end. refl) (slots past) (completions head past)) in
      let none : list_all is_no_issue told ≡ true = all_answers is_no_issue (λ f end. refl) (slots past) (completions head past) in
      let after : gate head (onto start told) ≡ record { recovery = recovery head start; frozen = is_frozen past; asked = false; slots = slots (onto start told) } =
      ap (λ (s : Shell). record { recovery = s.recovery; frozen = s.frozen; asked = s.asked; slots = slots (onto start told) }) same in
      subst (IsGuarded head.pmp) (sym after)
      (begun_guarded (is_frozen past) (slots (onto start told))
      (λ tag x here.
      let e : slot_onto told (flight_at (slots past) tag) ≡ Some x = sym (flight_onto start told tag none) ∙ here in
      let a = was_there told (flight_at (slots past) tag) x e in
      owned_at_begin head past tag a.0 x a.1.0
      (slot_append told (condemnations (λ f. true) timed_out (slots past) (completions head past)) (Some a.0)
      ∙ ap (λ m. slot_onto m (slot_onto told (Some a.0))) is
      ∙ ap (slot_onto told) (sym a.1.0) ∙ e))
      (λ fan cold. absurd (cc (idle_thawed head.pmp (gate head past) (is_frozen past) refl idle was fan))))
  begin_by (act ∷ rest) is idle numbered was =
      let start : List Event = Told Begun ∷ Entered time who seq step ∷ past in
      let told : List Act = ok_answers (slots past) (completions head past) in
      let marks : List Act = act ∷ rest in
      let acts : List Act = told ++ condemnations (λ f. true) timed_out (slots past) (completions head past) in
      let base : List Event = onto (onto start told) marks in
      let one : onto start acts ≡ base = onto_append start told _ ∙ ap (onto (onto start told)) is in
      let of_slots : list_all is_slot_act acts ≡ true =
      all_append is_slot_act told _ (all_answers is_slot_act (λ f end. refl) (slots past) (completions head past))
      (all_condemnations is_slot_act (λ f. true) timed_out (λ f. refl) (slots past) (completions head past)) in
      let none : list_all is_no_issue acts ≡ true =
      all_append is_no_issue told _ (all_answers is_no_issue (λ f end. refl) (slots past) (completions head past))
      (all_condemnations is_no_issue (λ f. true) timed_out (λ f. refl) (slots past) (completions head past)) in
      let same : shell head base ≡ shell head start = ap (shell head) (sym one) ∙ shell_left head start acts of_slots in
      let at : (tag : ℕ) → flight_at (slots base) tag ≡ slot_onto acts (flight_at (slots past) tag) =
      λ tag. ap (λ p. flight_at (slots p) tag) (sym one) ∙ flight_onto start acts tag none in
      let after : gate head (onto base (told_if (not (is_frozen past)) Frozen))
      ≡ record { recovery = recovery head start; frozen = true; asked = false; slots = slots base } =
      frozen_now head base (is_frozen past) (ap (λ (s : Shell). s.frozen) same)
      ∙ ap (λ (s : Shell). record { recovery = s.recovery; frozen = true; asked = s.asked; slots = slots base }) same in
      subst (IsGuarded head.pmp) (sym (ap (gate head) (onto_append (onto start told) marks (told_if (not (is_frozen past)) Frozen)) ∙ after))
      (begun_guarded true (slots base)
      (λ tag x here.
      let e : slot_onto acts (flight_at (slots past) tag) ≡ Some x = sym (at tag) ∙ here in
      let a = was_there acts (flight_at (slots past) tag) x e in
      owned_at_begin head past tag a.0 x a.1.0 (ap (slot_onto acts) (sym a.1.0) ∙ e))
      (λ fan cold.
      let o = some_open (λ f. true) timed_out (slots past) (completions head past) act rest is in
      let x = open_at_begin head past numbered o in
      record { tag = o.tag; flight = x.0; here = at o.tag ∙ ap (slot_onto acts) o.here ∙ x.1 }))

  pub begin_guarded :
      is_running past ≡ false → AreNumbered (issue_count past) (slots past) → IsGuarded head.pmp (gate head past)
      → IsGuarded head.pmp (gate head (onto (Entered time who seq step ∷ past) (begin_acts head past)))
  begin_guarded idle numbered was =
      let told : List Act = ok_answers (slots past) (completions head past) in
      let marks : List Act = condemnations (λ f. true) timed_out (slots past) (completions head past) in
      subst (λ p. IsGuarded head.pmp (gate head p))
      (sym (onto_append (Told Begun ∷ Entered time who seq step ∷ past) told (with_freeze (is_frozen past) marks)))
      (begin_by marks refl idle numbered was)
