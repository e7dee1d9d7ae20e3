-- All stands over the entries of an interrupt and where recovery begins.
use Rattle.std.proofs.Common.{◌≡◌, ◌≢◌, ◌∙◌, ℕ, Bool, true, false, not, ◌&&◌, ◌||◌, List, [], ◌∷◌, ◌++◌, Option, None, Some, ◌⊎◌, inl, inr, is_some, slice_get, refl, sym, ap, subst, if◌then◌else◌}
use Rattle.std.specs.Prelude.{slice_index_or}
use Rattle.std.specs.List.{list_all}
use Rattle.ata_script.specs.declared.port_head.PortHead.{PortHead}
use Rattle.ata_trace.specs.Event.{Event, onto}
use Rattle.ata_trace.specs.Event.Event.{Entered, Told}
use Rattle.ata_trace.specs.declared.act.Act.{Act}
use Rattle.ata_trace.specs.declared.act.Act.TheVariants.{Frozen, Requested, Nothing, Begun}
use Rattle.ata_trace.specs.declared.step.Step.{Step}
use Rattle.ata_trace.specs.declared.step.Step.TheVariants.{Irq, Recover}
use Rattle.ata_trace.specs.declared.who.Who.{Who}
use Rattle.drive_model.specs.View.{DriveView}
use Rattle.drive_model.specs.declared.held.Held.{Held}
use Rattle.drive_model.specs.declared.queued_error.QueuedError.{QueuedError}
use Rattle.host_tags.specs.Slots.{flight_at}
use Rattle.host_tags.specs.declared.in_flight.InFlight.{InFlight}
use Rattle.port_past.specs.Causes.{tferr}
use Rattle.port_past.specs.Drives.{drives}
use Rattle.port_past.specs.Completions.{completions}
use Rattle.port_past.specs.PortState.{is_frozen, is_asked, is_running}
use Rattle.port_past.specs.Issues.{issue_count}
use Rattle.port_past.specs.Line.{is_irq_served, is_line_up}
use Rattle.port_past.specs.Links.{links, link_at, linked_at}
use Rattle.port_past.specs.Places.{nowhere}
use Rattle.port_past.specs.Noted.{tferr_noted, with_later}
use Rattle.port_past.specs.Slots.{slots}
use Rattle.drive_model.specs.declared.log_told.LogTold.{LogTold}
use Rattle.eh_autopsy.specs.declared.failed_issue.FailedIssue.{FailedIssue}
use Rattle.port_rules.specs.Sorting.{ok_answers, condemnations}
use Rattle.port_rules.specs.Interrupt.{no_kinds, has_failed, must_freeze, must_request, served_acts, irq_acts}
use Rattle.port_rules.specs.Begin.{timed_out, with_freeze, begin_acts}
use Rattle.port_rules.specs.Told.{told_if, or_nothing}
use Rattle.ata_base.proofs.Truth.{both}
use Rattle.port_stands.proofs.Blocks.{left_alone, flight_onto, all_append}
use Rattle.ata_trace.proofs.Pasts.{onto_append}
use Rattle.port_stands.proofs.Driven.{linked_plugged}
use Rattle.port_stands.proofs.DrivenEntries.{is_free, free_onto, driven_began, driven_answers, answers_ended}
use Rattle.port_stands.proofs.GuardBegin.{owned_at_begin}
use Rattle.port_stands.proofs.Handled.{handled_served, handled_begun}
use Rattle.port_stands.proofs.Likes.{Back, back, is_behind, back_left}
use Rattle.port_stands.proofs.Lists.{all_answers, all_condemnations, all_told, all_with_freeze}
use Rattle.port_stands.proofs.Marks.{was_there, empty_stays, slot_append}
use Rattle.port_stands.proofs.GuardIrq.{unmarked}
use Rattle.port_stands.proofs.StandingKinds.{all_irq}
use Rattle.port_stands.proofs.WholeQuiet.{is_frosty, frosty_step}
use Rattle.port_stands.proofs.Wholes.{unmixed_onto}
use Rattle.port_stands.proofs.WholeSteps.{IsMade, behind_handled}
use Rattle.port_stands.proofs.Within.{read_same}
use Rattle.port_stands.specs.Driven.{IsHeld, AreDriven}
use Rattle.port_stands.specs.Gate.{AreNumbered}
use Rattle.port_stands.specs.Handled.{handling, AreHandled}
use Rattle.ata_base.specs.Each.{Each}
use Rattle.port_stands.specs.Whole.{IsWhole}
use Rattle.port_stands.specs.Words.{slot_onto, is_no_issue, is_answer}
use Rattle.port_stands.proofs.TakenNotes.{spared, kept_later, taken_later, so_false, failed_stops}
use Rattle.port_stands.proofs.Numbers.{some_same}
use Rattle.port_past.proofs.PlaceSizes.{length_failures, length_noted}

module _ (head : PortHead) (past : List Event) (time : ℕ) (who : Who) (seq : ℕ) (was : IsWhole head past) where
  numbered_at : (step : Step) → AreNumbered (issue_count (Entered time who seq step ∷ past)) (slots (Entered time who seq step ∷ past))
  numbered_at step = record { apart = was.stands.numbered.apart; from_one = was.stands.numbered.from_one; up_to = was.stands.numbered.up_to }

  nothing_driven : (p : List Event) (acts : List Act) → AreDriven head (onto p acts) → AreDriven head (onto p (or_nothing acts))
  nothing_driven p [] d = free_onto head p (Nothing ∷ []) refl d
  nothing_driven p (act ∷ rest) d = d

  -- ---- an interrupt

  irq_driven : (served : Bool) → AreDriven head (onto (Entered time who seq Irq ∷ past) (if served then or_nothing (served_acts head past) else Nothing ∷ []))
  irq_driven false = free_onto head (Entered time who seq Irq ∷ past) (Nothing ∷ []) refl (driven_began head past time who seq Irq was.driven)
  irq_driven true =
      let start : List Event = Entered time who seq Irq ∷ past in
      let a : List Act = ok_answers (slots past) (completions head past) in
      let c : List Act = condemnations (λ f. must_freeze head past || has_failed (tferr past) f) no_kinds (slots past) (completions head past) in
      let f : List Act = told_if (must_freeze head past) Frozen in
      let r : List Act = told_if (must_request head past && not (is_asked past)) Requested in
      let d = driven_answers head start a (answers_ended head start (numbered_at Irq)) (driven_began head past time who seq Irq was.driven) in
      let e = free_onto head (onto start a) c (all_condemnations is_free (λ f. must_freeze head past || has_failed (tferr past) f) no_kinds (λ f. refl) (slots past) (completions head past)) d in
      let g = free_onto head (onto (onto start a) c) f (all_told is_free (must_freeze head past) Frozen refl) e in
      let h = free_onto head (onto (onto (onto start a) c) f) r (all_told is_free (must_request head past && not (is_asked past)) Requested refl) g in
      nothing_driven start (a ++ c ++ f ++ r)
      (subst (AreDriven head)
      (sym (onto_append start (a ++ c ++ f) r ∙ ap (λ p. onto p r) (onto_append start (a ++ c) f) ∙ ap (λ p. onto (onto p f) r) (onto_append start a c))) h)

  -- an issue that is owned after an interrupt and wasn't before is at a place that failed, where the port isn't frozen
  owned_by_irq :
      (tag : ℕ) (g f : InFlight) → flight_at (slots past) tag ≡ Some g → must_freeze head past ≡ false → is_some (slice_index_or (tferr past) g.place None) ≡ false
      → slot_onto (ok_answers (slots past) (completions head past) ++ condemnations (λ f. must_freeze head past || has_failed (tferr past) f) no_kinds (slots past) (completions head past)) (Some g) ≡ Some f
      → f.owned ≡ g.owned
  owned_by_irq tag g f here cool clear e =
      let a : List Act = ok_answers (slots past) (completions head past) in
      let test : InFlight → Bool = λ f. must_freeze head past || has_failed (tferr past) f in
      let c : List Act = condemnations test no_kinds (slots past) (completions head past) in
      let never : test g ≡ false = ap (λ b. b || has_failed (tferr past) g) cool ∙ clear in
      let stay : slot_onto c (Some g) ≡ Some g =
      spared test no_kinds (slots past) (completions head past) g
      (λ u h at same. ap test (some_same h g (sym at ∙ ap (flight_at (slots past)) (was.stands.numbered.apart u tag h g at here same) ∙ here)) ∙ never) in
      by (slot_onto a (Some g)) refl (sym (slot_append a c (Some g)) ∙ e) stay
    where
      by :
          (slot : Option InFlight) → slot_onto (ok_answers (slots past) (completions head past)) (Some g) ≡ slot
          → slot_onto (condemnations (λ f. must_freeze head past || has_failed (tferr past) f) no_kinds (slots past) (completions head past)) slot ≡ Some f
          → slot_onto (condemnations (λ f. must_freeze head past || has_failed (tferr past) f) no_kinds (slots past) (completions head past)) (Some g) ≡ Some g
          → f.owned ≡ g.owned
      by None at e stay = absurd (cc (empty_stays (condemnations (λ f. must_freeze head past || has_failed (tferr past) f) no_kinds (slots past) (completions head past)), e))
      by (Some x) at e stay =
          let same : g ≡ x = unmarked (ok_answers (slots past) (completions head past)) g x (all_answers is_answer (λ f end. refl) (slots past) (completions head past)) at in
          let one : f ≡ g = some_same f g (sym e ∙ ap (λ y. slot_onto (condemnations (λ f. must_freeze head past || has_failed (tferr past) f) no_kinds (slots past) (completions head past)) (Some y)) (sym same) ∙ stay) in
          ap (λ x. x.owned) one

  -- acts that add frost to the end
  frozen_last : (p : List Event) (more : Bool) → is_frozen (onto (Told Frozen ∷ p) (told_if more Requested)) ≡ true
  frozen_last p true = refl
  frozen_last p false = refl

  freezes_now : (p : List Event) (b more : Bool) → b ≡ true → is_frozen (onto (onto p (told_if b Frozen)) (told_if more Requested)) ≡ true
  freezes_now p true more is = frozen_last p more
  freezes_now p false more is = absurd (cc)

  tail_slots : (freeze request : Bool) (slot : Option InFlight) → slot_onto (told_if request Requested) (slot_onto (told_if freeze Frozen) slot) ≡ slot
  tail_slots true true slot = refl
  tail_slots true false slot = refl
  tail_slots false true slot = refl
  tail_slots false false slot = refl

  served_handled : is_irq_served past ≡ true → AreHandled (handling head (onto (Entered time who seq Irq ∷ past) (or_nothing (served_acts head past))))
  served_handled served =
      let start : List Event = Entered time who seq Irq ∷ past in
      let a : List Act = ok_answers (slots past) (completions head past) in
      let c : List Act = condemnations (λ f. must_freeze head past || has_failed (tferr past) f) no_kinds (slots past) (completions head past) in
      let fr : List Act = told_if (must_freeze head past) Frozen in
      let re : List Act = told_if (must_request head past && not (is_asked past)) Requested in
      let acts : List Act = a ++ c ++ fr ++ re in
      let q : List Event = onto start acts in
      let behind : list_all is_behind acts ≡ true =
      all_append is_behind (a ++ c ++ fr) re (all_append is_behind (a ++ c) fr (all_append is_behind a c
      (all_answers is_behind (λ f end. refl) (slots past) (completions head past))
      (all_condemnations is_behind (λ f. must_freeze head past || has_failed (tferr past) f) no_kinds (λ f. refl) (slots past) (completions head past)))
      (all_told is_behind (must_freeze head past) Frozen refl)) (all_told is_behind (must_request head past && not (is_asked past)) Requested refl) in
      let none : list_all is_no_issue acts ≡ true =
      all_append is_no_issue (a ++ c ++ fr) re (all_append is_no_issue (a ++ c) fr (all_append is_no_issue a c
      (all_answers is_no_issue (λ f end. refl) (slots past) (completions head past))
      (all_condemnations is_no_issue (λ f. must_freeze head past || has_failed (tferr past) f) no_kinds (λ f. refl) (slots past) (completions head past)))
      (all_told is_no_issue (must_freeze head past) Frozen refl)) (all_told is_no_issue (must_request head past && not (is_asked past)) Requested refl) in
      let same : back head q ≡ back head start = back_left head start acts behind in
      let parts : q ≡ onto (onto (onto (onto start a) c) fr) re =
      onto_append start (a ++ c ++ fr) re ∙ ap (λ p. onto p re) (onto_append start (a ++ c) fr) ∙ ap (λ p. onto (onto p fr) re) (onto_append start a c) in
      subst (λ t. AreHandled t) (sym (nothing_sight start acts))
      (handled_served (handling head past) (handling head q) was.handled
      (record {
        recovery = ap (λ (b : Back). b.recovery) same;
        thawed = so_false (is_frozen past) (both (not (is_frozen past)) (is_line_up past) served).0;
        links = ap (λ (b : Back). b.links) same;
        drives = ap (λ (b : Back). b.drives) same;
        logs = ap (λ (b : Back). b.logs) same;
        none = λ x.
            ap (λ (b : Back). slice_index_or b.failures x None) same
            ∙ ap (λ b. slice_index_or (if b then nowhere else tferr past) x None) served ∙ read_same {A = Option FailedIssue} 15 x None;
        kept = λ x is.
            ap (λ (b : Back). is_some (slice_index_or b.noted x None)) same
            ∙ ap (λ b. is_some (slice_index_or (if b then with_later (tferr past) (tferr_noted past) else tferr_noted past) x None)) served
            ∙ kept_later (tferr past) (tferr_noted past) x is;
        taken = λ x is.
            ap (λ (b : Back). is_some (slice_index_or b.noted x None)) same
            ∙ ap (λ b. is_some (slice_index_or (if b then with_later (tferr past) (tferr_noted past) else tferr_noted past) x None)) served
            ∙ taken_later (tferr past) (tferr_noted past) x (length_failures past ∙ sym (length_noted past)) is;
        flew = λ tag f here.
            let e : slot_onto acts (flight_at (slots past) tag) ≡ Some f = sym (flight_onto start acts tag none) ∙ here in
            let w = was_there acts (flight_at (slots past) tag) f e in
            let at : slot_onto acts (Some w.0) ≡ Some f = ap (slot_onto acts) (sym w.1.0) ∙ e in
            let short : slot_onto (a ++ c) (Some w.0) ≡ Some f =
            sym (tail_slots (must_freeze head past) (must_request head past && not (is_asked past)) (slot_onto (a ++ c) (Some w.0)))
            ∙ ap (slot_onto re) (sym (slot_append (a ++ c) fr (Some w.0))) ∙ sym (slot_append (a ++ c ++ fr) re (Some w.0)) ∙ at in (
              w.0,
              (
                w.1.0,
                (
                  w.1.1.place,
                  λ cool own. owner_by (must_freeze head past) (is_some (slice_index_or (tferr past) w.0.place None)) refl tag w.0 f refl w.1.0 short
                      (λ must. cc (cool, ap is_frozen parts, freezes_now (onto (onto start a) c) (must_freeze head past) (must_request head past && not (is_asked past)) must)) own,
                ),
              ),
            );
        stops = failed_stops head past was.driven was.unmixed;
      }))
    where
      nothing_sight : (p : List Event) (acts : List Act) → handling head (onto p (or_nothing acts)) ≡ handling head (onto p acts)
      nothing_sight p [] = refl
      nothing_sight p (act ∷ rest) = refl

      owner_by :
          (must some : Bool) → must_freeze head past ≡ must → (tag : ℕ) (g f : InFlight) → is_some (slice_index_or (tferr past) g.place None) ≡ some
          → flight_at (slots past) tag ≡ Some g
          → slot_onto (ok_answers (slots past) (completions head past) ++ condemnations (λ f. must_freeze head past || has_failed (tferr past) f) no_kinds (slots past) (completions head past)) (Some g) ≡ Some f
          → (must_freeze head past ≡ true → ⊥) → f.owned ≡ true → (g.owned ≡ true) ⊎ (is_some (slice_index_or (tferr past) g.place None) ≡ true)
      owner_by true some e tag g f is here at never own = absurd (never e)
      owner_by false true e tag g f is here at never own = inr is
      owner_by false false e tag g f is here at never own = inl (sym (owned_by_irq tag g f here e is at) ∙ own)

  irq_handled : (served : Bool) → is_irq_served past ≡ served → AreHandled (handling head (onto (Entered time who seq Irq ∷ past) (if served then or_nothing (served_acts head past) else Nothing ∷ [])))
  irq_handled true is = served_handled is
  irq_handled false is =
      behind_handled head (Entered time who seq Irq ∷ past) (Nothing ∷ []) refl refl refl refl (subst AreHandled (sym (unserved is)) was.handled)
    where
      unserved : is_irq_served past ≡ false → handling head (Entered time who seq Irq ∷ past) ≡ handling head past
      unserved is = rw is refl

  pub irq_made : IsMade head (onto (Entered time who seq Irq ∷ past) (irq_acts head past))
  irq_made = record {
    unmixed = unmixed_onto (Entered time who seq Irq ∷ past) (irq_acts head past) (all_irq is_no_issue head past (λ f e. refl) (λ f. refl) refl refl refl) was.unmixed;
    driven = irq_driven (is_irq_served past);
    handled = irq_handled (is_irq_served past) refl;
  }

-- ---- recovery begins

frosty_all : (head : PortHead) (past : List Event) → list_all is_frosty (ok_answers (slots past) (completions head past)) ≡ true
frosty_all head past = all_answers is_frosty (λ f end. refl) (slots past) (completions head past)

frozen_with : (p : List Event) (frozen : Bool) → is_frozen p ≡ frozen → is_frozen (onto p (told_if (not frozen) Frozen)) ≡ true
frozen_with p true is = is
frozen_with p false is = refl

module _ (head : PortHead) (past : List Event) (time : ℕ) (who : Who) (seq : ℕ) (was : IsWhole head past) where
  marks_frosty : list_all is_frosty (condemnations (λ f. true) timed_out (slots past) (completions head past)) ≡ true
  marks_frosty = all_condemnations is_frosty (λ f. true) timed_out (λ f. refl) (slots past) (completions head past)

  -- the port is frozen once recovery began, but where it wasn't and nothing was condemned
  begun_frost :
      (marks : List Act) → condemnations (λ f. true) timed_out (slots past) (completions head past) ≡ marks
      → is_frozen (onto (onto (Told Begun ∷ Entered time who seq Recover ∷ past) (ok_answers (slots past) (completions head past))) (with_freeze (is_frozen past) marks)) ≡ false
      → (is_frozen past ≡ false) × (marks ≡ [])
  begun_frost [] is cool =
      (sym (left_alone is_frosty is_frozen frosty_step (Told Begun ∷ Entered time who seq Recover ∷ past) (ok_answers (slots past) (completions head past)) (frosty_all head past)) ∙ cool, refl)
  begun_frost (act ∷ rest) is cool =
      let start : List Event = Told Begun ∷ Entered time who seq Recover ∷ past in
      let a : List Act = ok_answers (slots past) (completions head past) in
      let marks : List Act = act ∷ rest in
      let frost : is_frozen (onto (onto start a) marks) ≡ is_frozen past =
      left_alone is_frosty is_frozen frosty_step (onto start a) marks (subst (λ m. list_all is_frosty m ≡ true) is marks_frosty)
      ∙ left_alone is_frosty is_frozen frosty_step start a (frosty_all head past) in
      absurd (cc (cool, ap is_frozen (onto_append (onto start a) marks (told_if (not (is_frozen past)) Frozen)), frozen_with (onto (onto start a) marks) (is_frozen past) frost))

  begin_driven : AreDriven head (onto (Entered time who seq Recover ∷ past) (begin_acts head past))
  begin_driven =
      let start : List Event = Entered time who seq Recover ∷ past in
      let p : List Event = Told Begun ∷ start in
      let a : List Act = ok_answers (slots past) (completions head past) in
      let w : List Act = with_freeze (is_frozen past) (condemnations (λ f. true) timed_out (slots past) (completions head past)) in
      let begun = free_onto head start (Begun ∷ []) refl (driven_began head past time who seq Recover was.driven) in
      let numbered : AreNumbered (issue_count p) (slots p) = record { apart = was.stands.numbered.apart; from_one = was.stands.numbered.from_one; up_to = was.stands.numbered.up_to } in
      subst (AreDriven head) (sym (onto_append p a w))
      (free_onto head (onto p a) w
      (all_with_freeze is_free (is_frozen past) (condemnations (λ f. true) timed_out (slots past) (completions head past)) refl
      (all_condemnations is_free (λ f. true) timed_out (λ f. refl) (slots past) (completions head past)))
      (driven_answers head p a (answers_ended head p numbered) begun))

  begin_handled :
      is_running past ≡ false → AreDriven head (onto (Entered time who seq Recover ∷ past) (begin_acts head past))
      → AreHandled (handling head (onto (Entered time who seq Recover ∷ past) (begin_acts head past)))
  begin_handled idle driven =
      let p : List Event = Told Begun ∷ Entered time who seq Recover ∷ past in
      let a : List Act = ok_answers (slots past) (completions head past) in
      let c : List Act = condemnations (λ f. true) timed_out (slots past) (completions head past) in
      let w : List Act = with_freeze (is_frozen past) c in
      let q : List Event = onto p (a ++ w) in
      let behind : list_all is_behind (a ++ w) ≡ true =
      all_append is_behind a w (all_answers is_behind (λ f end. refl) (slots past) (completions head past))
      (all_with_freeze is_behind (is_frozen past) c refl (all_condemnations is_behind (λ f. true) timed_out (λ f. refl) (slots past) (completions head past))) in
      let none : list_all is_no_issue (a ++ w) ≡ true =
      all_append is_no_issue a w (all_answers is_no_issue (λ f end. refl) (slots past) (completions head past))
      (all_with_freeze is_no_issue (is_frozen past) c refl (all_condemnations is_no_issue (λ f. true) timed_out (λ f. refl) (slots past) (completions head past))) in
      let same : back head q ≡ back head p = back_left head p (a ++ w) behind in
      let parts : q ≡ onto (onto p a) w = onto_append p a w in
      handled_begun (handling head past) (handling head q) was.handled
      (record {
        idle = idle;
        running = ap (λ (b : Back). b.recovery.running) same;
        early = ap (λ (b : Back). b.recovery.autopsied) same;
        no_tasks = ap (λ (b : Back). b.recovery.tasks) same;
        links = ap (λ (b : Back). b.links) same;
        drives = ap (λ (b : Back). b.drives) same;
        failures = ap (λ (b : Back). b.failures) same;
        noted = ap (λ (b : Back). b.noted) same;
        logs = λ x. ap (λ (b : Back). slice_index_or b.logs x None) same ∙ read_same {A = Option LogTold} 15 x None;
        owned = λ cool.
            let f = begun_frost c refl (sym (ap is_frozen parts) ∙ cool) in (
              f.0,
              λ tag x here.
                  let e : slot_onto (a ++ w) (flight_at (slots past) tag) ≡ Some x = sym (flight_onto p (a ++ w) tag none) ∙ here in
                  let g = was_there (a ++ w) (flight_at (slots past) tag) x e in
                  let at : slot_onto (a ++ w) (Some g.0) ≡ Some x = ap (slot_onto (a ++ w)) (sym g.1.0) ∙ e in
                  let alone : slot_onto a (Some g.0) ≡ Some x =
                  ap (λ m. slot_onto (with_freeze (is_frozen past) m) (slot_onto a (Some g.0))) (sym f.1) ∙ sym (slot_append a w (Some g.0)) ∙ at in
                  let one : g.0 ≡ x = unmarked a g.0 x (all_answers is_answer (λ f end. refl) (slots past) (completions head past)) alone in
                  let own : x.owned ≡ true =
                  owned_at_begin head past tag g.0 x g.1.0
                  (slot_append a c (Some g.0) ∙ ap (λ m. slot_onto m (slot_onto a (Some g.0))) f.1 ∙ alone) in
                  (g.0, (g.1.0, (g.1.1.place, (ap (λ n. n.n) g.1.1.n, ap (λ y. y.owned) one ∙ own)))),
            );
        held = λ x d v linked at. held_by x d linked v.held (driven.held d v at);
        stopped = λ x d v linked at by. stopped_by x d v linked at v.stopped refl by;
      })
    where
      held_by :
          (x d : ℕ) → linked_at (links head (onto (Entered time who seq Recover ∷ past) (begin_acts head past))) x ≡ Some d → (held : List Held)
          → Each (IsHeld head (onto (Entered time who seq Recover ∷ past) (begin_acts head past)) d) held
          → (held ≡ []) ⊎ ((tag : ℕ) × ((f : InFlight) × ((flight_at (slots (onto (Entered time who seq Recover ∷ past) (begin_acts head past))) tag ≡ Some f) × (f.place ≡ x))))
      held_by x d linked [] each = inl refl
      held_by x d linked (h ∷ rest) each =
          let k = each.0 in
          inr (
            h.tag,
            (
              k.flight,
              (
                k.flies.here,
                driven.plugged k.flight.place x d
                    (linked_plugged (link_at (links head (onto (Entered time who seq Recover ∷ past) (begin_acts head past))) k.flight.place) d k.flies.linked)
                    (linked_plugged (link_at (links head (onto (Entered time who seq Recover ∷ past) (begin_acts head past))) x) d linked),
              ),
            ),
          )

      stopped_by :
          (x d : ℕ) (v : DriveView) → linked_at (links head (onto (Entered time who seq Recover ∷ past) (begin_acts head past))) x ≡ Some d
          → slice_get (drives head (onto (Entered time who seq Recover ∷ past) (begin_acts head past))) d ≡ Some v → (stopped : Option QueuedError) → v.stopped ≡ stopped
          → v.stopped ≢ None
          → (tag : ℕ) × ((f : InFlight) × ((flight_at (slots (onto (Entered time who seq Recover ∷ past) (begin_acts head past))) tag ≡ Some f) × (f.place ≡ x)))
      stopped_by x d v linked at None is by = absurd (by is)
      stopped_by x d v linked at (Some e) is by =
          let k = driven.stopped d v e at is in (
            e.tag,
            (
              k.flight,
              (
                k.flies.here,
                driven.plugged k.flight.place x d
                    (linked_plugged (link_at (links head (onto (Entered time who seq Recover ∷ past) (begin_acts head past))) k.flight.place) d k.flies.linked)
                    (linked_plugged (link_at (links head (onto (Entered time who seq Recover ∷ past) (begin_acts head past))) x) d linked),
              ),
            ),
          )

  -- recovery begins
  pub begin_made : is_running past ≡ false → IsMade head (onto (Entered time who seq Recover ∷ past) (begin_acts head past))
  begin_made idle =
      let a : List Act = ok_answers (slots past) (completions head past) in
      let c : List Act = condemnations (λ f. true) timed_out (slots past) (completions head past) in
      record {
        unmixed = unmixed_onto (Entered time who seq Recover ∷ past) (begin_acts head past)
            (all_append is_no_issue a (with_freeze (is_frozen past) c) (all_answers is_no_issue (λ f end. refl) (slots past) (completions head past))
            (all_with_freeze is_no_issue (is_frozen past) c refl (all_condemnations is_no_issue (λ f. true) timed_out (λ f. refl) (slots past) (completions head past)))) was.unmixed;
        driven = begin_driven;
        handled = begin_handled idle begin_driven;
      }
