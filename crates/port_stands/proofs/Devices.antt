-- The devices of what was accepted and of what flies, over each entry.
use Rattle.std.proofs.Common.{◌≡◌, ◌∙◌, ℕ, Bool, true, false, ◌&&◌, ◌||◌, List, [], ◌∷◌, Some, flat_map, refl, sym, ap, subst}
use Rattle.std.specs.Prelude.{slice_index_or, slice_index}
use Rattle.std.specs.List.{list_all}
use Rattle.ata_script.specs.declared.port_head.PortHead.{PortHead}
use Rattle.ata_trace.specs.Entries.{grown}
use Rattle.ata_trace.specs.Event.{Event, onto}
use Rattle.ata_trace.specs.Event.Event.{Entered, Told}
use Rattle.ata_trace.specs.declared.act.Act.{Act}
use Rattle.ata_trace.specs.declared.act.Act.TheVariants.{Accepted, Issued, Attached, Detached, Disabled, Nothing, WaitingTag, Autopsied, Ended, Deferred, Exclusive}
use Rattle.ata_trace.specs.declared.step.Step.{Step}
use Rattle.ata_trace.specs.declared.step.Step.TheVariants.{Submit, Kick, Work, Irq, Drop, Stray, Tick, Expire, Recover, Plug, Unplug, Inject, Boot}
use Rattle.ata_trace.specs.declared.who.Who.{Who}
use Rattle.port_past.specs.Clock.{clock}
use Rattle.port_past.specs.Commands.{commands}
use Rattle.port_past.specs.Attachment.{attached, detachments}
use Rattle.port_past.specs.Completions.{completions}
use Rattle.port_past.specs.PortState.{is_frozen, is_asked, is_running, is_autopsied}
use Rattle.port_past.specs.Judged.{judged}
use Rattle.port_past.specs.Slots.{slots}
use Rattle.port_rules.specs.Autopsy.{examined_acts, autopsy_acts}
use Rattle.port_past.specs.Heads.{places_of}
use Rattle.port_rules.specs.Finish.{finishes}
use Rattle.port_rules.specs.Sorting.{ok_answers, condemnations}
use Rattle.port_rules.specs.Kick.{kick_acts}
use Rattle.port_rules.specs.Legal.{legal_acts, entry_after}
use Rattle.port_rules.specs.Logs.{log_acts}
use Rattle.port_rules.specs.Phase.{phase}
use Rattle.port_rules.specs.Begin.{timed_out, with_freeze, begin_acts}
use Rattle.port_rules.specs.Recover.{recover_acts}
use Rattle.port_rules.specs.AutopsyView.{autopsy_view}
use Rattle.port_rules.specs.Submit.{submit_acts}
use Rattle.port_stands.proofs.Blocks.{all_append, all_wider, left_alone}
use Rattle.ata_trace.proofs.Pasts.{onto_append}
use Rattle.port_stands.proofs.Dated.{is_no_accept, dated_onto, submit_dated}
use Rattle.port_stands.proofs.GuardAutopsy.{Still, still, still_step, is_autopsy_act, autopsy_all}
use Rattle.port_stands.proofs.GuardFrames.{Frame, frame, frame_step, is_gate_row}
use Rattle.port_stands.proofs.Kicks.{is_wait, kick_does}
use Rattle.port_stands.proofs.Kicks.KickDoes.{Waits, Gone, Issues}
use Rattle.port_stands.proofs.Known.{is_no_start}
use Rattle.port_stands.proofs.Lists.{all_answers, all_condemnations, all_with_freeze}
use Rattle.port_stands.proofs.Numbers.{flew}
use Rattle.port_stands.proofs.Phases.{phase_is}
use Rattle.port_stands.proofs.Recovering.{all_recover}
use Rattle.port_stands.proofs.Recovers.{is_rest, IsRow, RecoverDoes, recover_does}
use Rattle.port_stands.proofs.Recovers.RecoverDoes.{Rests, Begins, Reads, Examines, DoesRow, Identifies, Ends}
use Rattle.port_stands.proofs.StandingKinds.{all_irq, all_expire, starts_recovery}
use Rattle.port_stands.proofs.StandingSteps.{place_within}
use Rattle.port_stands.proofs.Steps.{all_submit, all_work, all_drop, all_stray, all_tick, all_plug, all_unplug, all_inject, all_logs}
use Rattle.port_stands.proofs.There.{is_steady, there_entry, there_issued, device_onto, same_device}
use Rattle.port_stands.proofs.WholeEnd.{finish_nobody}
use Rattle.port_stands.specs.All.{AllStands}
use Rattle.port_stands.specs.Dated.{AreDated, AreThere}
use Rattle.port_stands.specs.Words.{is_no_issue}
use Rattle.ata_base.proofs.Truth.{both_true}

start_accepts : (act : Act) → is_no_start act ≡ true → is_no_accept act ≡ true
start_accepts (Accepted id) is = is
start_accepts act is = refl

wait_accepts : (act : Act) → is_wait act ≡ true → is_no_accept act ≡ true
wait_accepts Nothing is = refl
wait_accepts (Deferred id why) is = refl
wait_accepts (Exclusive place) is = refl
wait_accepts act is = absurd (cc)

wait_steady : (act : Act) → is_wait act ≡ true → is_steady act ≡ true
wait_steady Nothing is = refl
wait_steady (Deferred id why) is = refl
wait_steady (Exclusive place) is = refl
wait_steady act is = absurd (cc)

rest_steady : (act : Act) → is_rest act ≡ true → is_steady act ≡ true
rest_steady Nothing is = refl
rest_steady (WaitingTag tag) is = refl
rest_steady act is = absurd (cc)

-- an act that issues nothing and leaves which devices are attached
abbrev pub leaves_devices : Act → Bool
leaves_devices (Issued id number tag deadline fis) = false
leaves_devices (Attached place) = false
leaves_devices (Detached place) = false
leaves_devices (Disabled place) = false
leaves_devices act = true

devices_step : (past : List Event) (act : Act) → leaves_devices act ≡ true → attached (Told act ∷ past) ≡ attached past
devices_step past (Attached place) is = absurd (cc)
devices_step past (Detached place) is = absurd (cc)
devices_step past (Disabled place) is = absurd (cc)
devices_step past act is = refl

counts_step : (past : List Event) (act : Act) → leaves_devices act ≡ true → detachments (Told act ∷ past) ≡ detachments past
counts_step past (Detached place) is = absurd (cc)
counts_step past (Disabled place) is = absurd (cc)
counts_step past act is = refl

devices_issue : (act : Act) → leaves_devices act ≡ true → is_no_issue act ≡ true
devices_issue (Issued id number tag deadline fis) is = is
devices_issue act is = refl

or_none : (a b : Bool) → (a || b) ≡ false → b ≡ false
or_none true b e = absurd (cc)
or_none false b e = e

module _ (head : PortHead) (past : List Event) (time : ℕ) (who : Who) (seq : ℕ) (step : Step) (was : AllStands head past) where
  -- ---- the devices of what was accepted

  dated_entry : (acts : List Act) → list_all is_no_accept acts ≡ true → AreDated (onto (Entered time who seq step ∷ past) acts)
  dated_entry acts all = dated_onto (Entered time who seq step ∷ past) acts all (record { dated = was.dated.dated })

  kick_dated : (place : ℕ) → AreDated (onto (Entered time who seq step ∷ past) (kick_acts head past place))
  kick_dated place = elim (kick_does head past place) [
    | Waits all ↦ dated_entry (kick_acts head past place) (all_wider is_wait is_no_accept wait_accepts (kick_acts head past place) all)
    | Gone answer ↦ dated_entry (kick_acts head past place) (subst (λ a. list_all is_no_accept a ≡ true) (sym answer.told) refl)
    | Issues issue ↦ dated_entry (kick_acts head past place) (subst (λ a. list_all is_no_accept a ≡ true) (sym issue.told) refl)
  ]

  recover_dated : AreDated (onto (Entered time who seq step ∷ past) (recover_acts head past))
  recover_dated =
      dated_entry (recover_acts head past)
      (all_wider is_no_start is_no_accept start_accepts (recover_acts head past)
      (all_recover is_no_start head past (starts_recovery head.places) refl refl
      (place_within head past time who seq step was.whole.stands (phase head past) (sym (phase_is head past)))))

  -- ---- the devices of what flies

  steady_there : (acts : List Act) → list_all is_steady acts ≡ true → AreThere (onto (Entered time who seq step ∷ past) acts)
  steady_there acts all = there_entry past time who seq step acts all was.there

  -- where recovery doesn't run before
  idle_there : (acts : List Act) → list_all leaves_devices acts ≡ true → is_running past ≡ false → AreThere (onto (Entered time who seq step ∷ past) acts)
  idle_there acts all idle = record {
    there = λ early tag f here.
        let start : List Event = Entered time who seq step ∷ past in
        let a = flew start acts (all_wider leaves_devices is_no_issue devices_issue acts all) tag f here in
        ap (λ d. slice_index_or d f.place false) (left_alone leaves_devices attached devices_step start acts all)
        ∙ ap (λ p. slice_index_or (attached past) p false) a.1.1.place
        ∙ was.there.there (ap (λ b. b && is_autopsied past) idle) tag a.0 a.1.0;
    current = λ early tag f here.
        let start : List Event = Entered time who seq step ∷ past in
        let a = flew start acts (all_wider leaves_devices is_no_issue devices_issue acts all) tag f here in
        device_onto start acts f.id (f.place, slice_index (detachments past) f.place)
        (same_device (commands past) (detachments past) f a.0 a.1.1.cmd a.1.1.place
        (was.there.current (ap (λ b. b && is_autopsied past) idle) tag a.0 a.1.0))
        ∙ ap (λ d. Some (f.place, slice_index d f.place)) (sym (left_alone leaves_devices detachments counts_step start acts all));
  }

  -- where recovery runs after its autopsy
  void_there : (q : List Event) → is_running q ≡ true → is_autopsied q ≡ true → AreThere q
  void_there q running autopsied = record {
    there = λ early tag f here. absurd (cc (early, both_true (is_running q) (is_autopsied q) running autopsied));
    current = λ early tag f here. absurd (cc (early, both_true (is_running q) (is_autopsied q) running autopsied));
  }

  row_there : (acts : List Act) → IsRow head past acts → AreThere (onto (Entered time who seq step ∷ past) acts)
  row_there acts row =
      let q : List Event = onto (Entered time who seq step ∷ past) acts in
      let same : frame head q ≡ frame head past = left_alone is_gate_row (frame head) (frame_step head) (Entered time who seq step ∷ past) acts row.all in
      void_there q (ap (λ (f : Frame). f.running) same ∙ row.running) (ap (λ (f : Frame). f.autopsied) same ∙ row.autopsied)

  begin_there : is_running past ≡ false → AreThere (onto (Entered time who seq step ∷ past) (begin_acts head past))
  begin_there idle =
      let marks : List Act = condemnations (λ f. true) timed_out (slots past) (completions head past) in
      idle_there (begin_acts head past)
      (all_append leaves_devices (ok_answers (slots past) (completions head past)) (with_freeze (is_frozen past) marks)
      (all_answers leaves_devices (λ f e. refl) (slots past) (completions head past))
      (all_with_freeze leaves_devices (is_frozen past) marks refl
      (all_condemnations leaves_devices (λ f. true) timed_out (λ f. refl) (slots past) (completions head past)))) idle

  autopsy_there : is_running past ≡ true → AreThere (onto (Entered time who seq step ∷ past) (autopsy_acts head past))
  autopsy_there running =
      let start : List Event = Entered time who seq step ∷ past in
      let told : List Act = flat_map (λ place. examined_acts (autopsy_view head past place)) (places_of head) in
      let base : List Event = onto start told in
      let same : still base ≡ still past = left_alone is_autopsy_act still still_step start told (autopsy_all head past) in
      subst AreThere (sym (onto_append start told (Autopsied ∷ [])))
      (void_there (Told Autopsied ∷ base) (ap (λ (s : Still). s.running) same ∙ running) refl)

module _ (head : PortHead) (past : List Event) (time : ℕ) (who : Who) (seq : ℕ) (was : AllStands head past) where
  recover_there : AreThere (onto (Entered time who seq Recover ∷ past) (recover_acts head past))
  recover_there = by (recover_does head past)
    where
      by : {acts : List Act} → RecoverDoes head past acts → AreThere (onto (Entered time who seq Recover ∷ past) acts)
      by {acts} (Rests idle all) = steady_there head past time who seq Recover was acts (all_wider is_rest is_steady rest_steady acts all)
      by {acts} (Begins begin) =
          subst (λ a. AreThere (onto (Entered time who seq Recover ∷ past) a)) (sym begin.told) (begin_there head past time who seq Recover was begin.idle)
      by {acts} (Reads log) =
          subst (λ a. AreThere (onto (Entered time who seq Recover ∷ past) a)) (sym log.told)
          (steady_there head past time who seq Recover was (log_acts head past log.place)
          (all_logs is_steady (record { page = λ p t s e l c. refl; failed = λ p. refl; bad_sum = λ p. refl; not_queued = λ p. refl; aborted = λ n. refl }) head past log.place))
      by {acts} (Examines autopsy) =
          subst (λ a. AreThere (onto (Entered time who seq Recover ∷ past) a)) (sym autopsy.told) (autopsy_there head past time who seq Recover was autopsy.running)
      by {acts} (DoesRow row modeless) = row_there head past time who seq Recover was acts row
      by {acts} (Identifies identity) = row_there head past time who seq Recover was acts identity.row
      by {acts} (Ends end) =
          subst (λ a. AreThere (onto (Entered time who seq Recover ∷ past) a)) (sym end.told)
          (subst AreThere (sym (onto_append (Entered time who seq Recover ∷ past) (finishes (commands past) (detachments past) (slots past) (judged past)) (Ended ∷ [])))
          (record {
            there = λ early tag f here. absurd (finish_nobody head past time who seq was.whole end.task tag f here);
            current = λ early tag f here. absurd (finish_nobody head past time who seq was.whole end.task tag f here);
          }))

  kick_there : (place : ℕ) → AreThere (onto (Entered time who seq (Kick place) ∷ past) (kick_acts head past place))
  kick_there place = elim (kick_does head past place) [
    | Waits all ↦ steady_there head past time who seq (Kick place) was (kick_acts head past place) (all_wider is_wait is_steady wait_steady (kick_acts head past place) all)
    | Gone answer ↦ steady_there head past time who seq (Kick place) was (kick_acts head past place) (subst (λ a. list_all is_steady a ≡ true) (sym answer.told) refl)
    | Issues issue ↦
        there_issued head past time who seq (Kick place) place (kick_acts head past place) issue was.whole.stands.known was.dated was.there
        (or_none (is_asked past) (is_running past) issue.settled)
  ]

module _ (head : PortHead) (past : List Event) (who : Who) (seq : ℕ) (was : AllStands head past) where
  -- of the step's acts none accepts and all are steady
  quiet_devices :
      (step : Step) → list_all is_no_accept (legal_acts head past step) ≡ true → list_all is_steady (legal_acts head past step) ≡ true
      → AreDated (grown past (entry_after head past who seq step)) × AreThere (grown past (entry_after head past who seq step))
  quiet_devices step accepts steady = (
    dated_entry head past (clock past) who seq step was (legal_acts head past step) accepts,
    steady_there head past (clock past) who seq step was (legal_acts head past step) steady,
  )

  pub devices_after : (step : Step) → AreDated (grown past (entry_after head past who seq step)) × AreThere (grown past (entry_after head past who seq step))
  devices_after (Submit id place op allow wait) = (
    submit_dated head past (clock past) who seq id place op allow wait was.dated,
    steady_there head past (clock past) who seq (Submit id place op allow wait) was (submit_acts past id place op) (all_submit is_steady head past id place op refl (λ r. refl)),
  )
  devices_after (Kick place) = (kick_dated head past (clock past) who seq (Kick place) was place, kick_there head past (clock past) who seq was place)
  devices_after (Work place pick) =
      quiet_devices (Work place pick) (all_work is_no_accept head past place pick refl refl (λ n s e l c. refl)) (all_work is_steady head past place pick refl refl (λ n s e l c. refl))
  devices_after Irq = quiet_devices Irq (all_irq is_no_accept head past (λ f e. refl) (λ f. refl) refl refl refl) (all_irq is_steady head past (λ f e. refl) (λ f. refl) refl refl refl)
  devices_after Drop = quiet_devices Drop (all_drop is_no_accept past refl refl) (all_drop is_steady past refl refl)
  devices_after (Stray tag) = quiet_devices (Stray tag) (all_stray is_no_accept past refl refl) (all_stray is_steady past refl refl)
  devices_after (Tick ms) = quiet_devices (Tick ms) (all_tick is_no_accept past ms refl (λ t. refl)) (all_tick is_steady past ms refl (λ t. refl))
  devices_after Expire = quiet_devices Expire (all_expire is_no_accept head past (λ f. refl) refl refl refl) (all_expire is_steady head past (λ f. refl) refl refl refl)
  devices_after Recover = (recover_dated head past (clock past) who seq Recover was, recover_there head past (clock past) who seq was)
  devices_after (Plug place drive) = quiet_devices (Plug place drive) (all_plug is_no_accept head past place drive refl refl refl) (all_plug is_steady head past place drive refl refl refl)
  devices_after (Unplug place) = quiet_devices (Unplug place) (all_unplug is_no_accept head past place refl refl refl) (all_unplug is_steady head past place refl refl refl)
  devices_after (Inject place fault) = quiet_devices (Inject place fault) (all_inject is_no_accept head past place fault refl refl refl) (all_inject is_steady head past place fault refl refl refl)
  devices_after Boot = quiet_devices Boot refl refl
