-- What stands stays over the entry of each kind of step.
use Rattle.port_rules.proofs.RecoverByPhase.{recover_told, waiting_or_begun, log_or_autopsy, phase_acts}
use Rattle.std.proofs.Common.{◌≡◌, ℕ, ◌<◌, Bool, true, false, ◌||◌, List, [], ◌∷◌, ◌++◌, Option, None, Some, position, refl, sym, subst, if◌then◌else◌}
use Rattle.std.specs.List.{list_all}
use Rattle.ata_script.specs.declared.port_head.PortHead.{PortHead}
use Rattle.ata_trace.specs.Event.{Event, onto}
use Rattle.ata_trace.specs.Event.Event.{Entered, Told}
use Rattle.ata_trace.specs.declared.act.Act.{Act}
use Rattle.ata_trace.specs.declared.act.Act.TheVariants.{Nothing, WaitingTag, Begun, Deferred, Exclusive, Autopsied}
use Rattle.ata_trace.specs.declared.step.Step.{Step}
use Rattle.ata_trace.specs.declared.who.Who.{Who}
use Rattle.eh_flow.specs.declared.phase.Phase.{Phase}
use Rattle.eh_flow.specs.declared.phase.Phase.TheVariants.{Idle, Logs, HostOwed, HostOpen, ResetOwed, ResetOpen, IdentOwed, IdentOpen, Through}
use Rattle.port_past.specs.Clock.{clock}
use Rattle.port_past.specs.Drain.{is_drained}
use Rattle.port_past.specs.Completions.{completions}
use Rattle.ata_base.specs.declared.fault.Fault.{Fault}
use Rattle.port_rules.specs.Line.{drop_acts, stray_acts}
use Rattle.port_rules.specs.Plug.{plug_acts, unplug_acts, inject_acts}
use Rattle.port_rules.specs.Work.{work_acts}
use Rattle.port_past.specs.PortState.{is_frozen, is_asked, is_running, is_autopsied}
use Rattle.port_past.specs.Issues.{issue_count}
use Rattle.port_past.specs.Slots.{slots}
use Rattle.port_past.specs.Tasks.{tasks}
use Rattle.port_rules.specs.Sorting.{ok_answers, condemnations}
use Rattle.port_rules.specs.Interrupt.{irq_acts}
use Rattle.port_rules.specs.Kick.{issued_acts, kick_acts}
use Rattle.port_rules.specs.Logs.{log_owed, log_acts}
use Rattle.port_rules.specs.Phase.{phase}
use Rattle.port_rules.specs.Begin.{is_awaited, timed_out, with_freeze}
use Rattle.port_rules.specs.Recover.{recover_acts}
use Rattle.port_rules.specs.Time.{tick_acts, expire_acts}
use Rattle.port_stands.proofs.Blocks.{all_wider, left_alone}
use Rattle.port_stands.proofs.Guard.{leaves_gate, guarded_left}
use Rattle.port_stands.proofs.GuardExpire.{expire_guarded}
use Rattle.port_stands.proofs.GuardIrq.{irq_guarded}
use Rattle.port_stands.proofs.GuardKick.{kick_guarded}
use Rattle.port_stands.proofs.GuardRecover.{recover_guarded}
use Rattle.port_stands.proofs.Judgements.{is_no_turn, judged_entry, autopsy_judges}
use Rattle.port_stands.proofs.Kicks.{is_wait, IsIssue, kick_does}
use Rattle.port_stands.proofs.Kicks.KickDoes.{Waits, Gone, Issues}
use Rattle.port_stands.proofs.Known.{is_no_start, known_entry, kick_known}
use Rattle.port_stands.proofs.Numbers.{numbered_onto, numbered_put}
use Rattle.port_stands.proofs.Phases.{phase_place, phase_is, is_of_task, logs_runs, task_runs}
use Rattle.port_stands.proofs.Recovering.{all_task, all_recover, all_taken, walk_within}
use Rattle.port_stands.proofs.Steps.{all_work, all_drop, all_stray, all_tick, all_plug, all_unplug, all_inject, all_logs}
use Rattle.port_stands.proofs.Within.{is_fit, within_entry}
use Rattle.port_stands.specs.Gate.{AreNumbered, gate, IsGuarded}
use Rattle.port_stands.proofs.Heads.{HasOnePlace}
use Rattle.port_stands.specs.Stands.{AreJudged, Stands}
use Rattle.port_stands.specs.Within.{IsWithin}
use Rattle.port_stands.specs.Words.{recovery, phase_of, is_no_issue}
use Rattle.port_stands.proofs.StandingKinds.{issues_recovery, starts_recovery, turns_recovery, fit_recovery, all_irq, all_expire}

-- ---- one step

-- the four facts beside the gate over an entry whose acts are of these kinds
pub record IsPlain (head : PortHead) (acts : List Act) : Type 0 where
  pub issues : list_all is_no_issue acts ≡ true
  pub starts : list_all is_no_start acts ≡ true
  pub turns : list_all is_no_turn acts ≡ true
  pub fits : list_all (is_fit head.places) acts ≡ true

module _ (head : PortHead) (past : List Event) (time : ℕ) (who : Who) (seq : ℕ) (step : Step) (was : Stands head past) where
  -- an entry of plain acts after which the gate is guarded
  pub plain_stands :
      (acts : List Act) → IsPlain head acts → IsGuarded head.pmp (gate head (onto (Entered time who seq step ∷ past) acts))
      → Stands head (onto (Entered time who seq step ∷ past) acts)
  plain_stands acts plain guarded = record {
    numbered = numbered_onto (Entered time who seq step ∷ past) acts plain.issues (record { apart = was.numbered.apart; from_one = was.numbered.from_one; up_to = was.numbered.up_to });
    known = known_entry head past time who seq step acts plain.starts was.known;
    within = within_entry head past time who seq step acts plain.fits was.within;
    judged = judged_entry head past time who seq step acts plain.turns was.judged;
    guarded = guarded;
  }

  -- an entry of plain acts that leave the gate as it is
  pub quiet_stands :
      (acts : List Act) → IsPlain head acts → list_all leaves_gate acts ≡ true
      → Stands head (onto (Entered time who seq step ∷ past) acts)
  quiet_stands acts plain leaves = plain_stands acts plain (guarded_left head past time who seq step acts leaves was.guarded)

  pub work_stands : (place pick : ℕ) → Stands head (onto (Entered time who seq step ∷ past) (work_acts head past place pick))
  work_stands place pick = quiet_stands (work_acts head past place pick) (record {
    issues = all_work is_no_issue head past place pick refl refl (λ n s e l c. refl);
    starts = all_work is_no_start head past place pick refl refl (λ n s e l c. refl);
    turns = all_work is_no_turn head past place pick refl refl (λ n s e l c. refl);
    fits = all_work (is_fit head.places) head past place pick refl refl (λ n s e l c. refl);
  }) (all_work leaves_gate head past place pick refl refl (λ n s e l c. refl))

  pub drop_stands : Stands head (onto (Entered time who seq step ∷ past) (drop_acts past))
  drop_stands = quiet_stands (drop_acts past) (record {
    issues = all_drop is_no_issue past refl refl;
    starts = all_drop is_no_start past refl refl;
    turns = all_drop is_no_turn past refl refl;
    fits = all_drop (is_fit head.places) past refl refl;
  }) (all_drop leaves_gate past refl refl)

  pub stray_stands : Stands head (onto (Entered time who seq step ∷ past) (stray_acts past))
  stray_stands = quiet_stands (stray_acts past) (record {
    issues = all_stray is_no_issue past refl refl;
    starts = all_stray is_no_start past refl refl;
    turns = all_stray is_no_turn past refl refl;
    fits = all_stray (is_fit head.places) past refl refl;
  }) (all_stray leaves_gate past refl refl)

  pub tick_stands : (ms : ℕ) → Stands head (onto (Entered time who seq step ∷ past) (tick_acts past ms))
  tick_stands ms = quiet_stands (tick_acts past ms) (record {
    issues = all_tick is_no_issue past ms refl (λ t. refl);
    starts = all_tick is_no_start past ms refl (λ t. refl);
    turns = all_tick is_no_turn past ms refl (λ t. refl);
    fits = all_tick (is_fit head.places) past ms refl (λ t. refl);
  }) (all_tick leaves_gate past ms refl (λ t. refl))

  pub plug_stands : (place drive : ℕ) → Stands head (onto (Entered time who seq step ∷ past) (plug_acts head past place drive))
  plug_stands place drive = quiet_stands (plug_acts head past place drive) (record {
    issues = all_plug is_no_issue head past place drive refl refl refl;
    starts = all_plug is_no_start head past place drive refl refl refl;
    turns = all_plug is_no_turn head past place drive refl refl refl;
    fits = all_plug (is_fit head.places) head past place drive refl refl refl;
  }) (all_plug leaves_gate head past place drive refl refl refl)

  pub unplug_stands : (place : ℕ) → Stands head (onto (Entered time who seq step ∷ past) (unplug_acts head past place))
  unplug_stands place = quiet_stands (unplug_acts head past place) (record {
    issues = all_unplug is_no_issue head past place refl refl refl;
    starts = all_unplug is_no_start head past place refl refl refl;
    turns = all_unplug is_no_turn head past place refl refl refl;
    fits = all_unplug (is_fit head.places) head past place refl refl refl;
  }) (all_unplug leaves_gate head past place refl refl refl)

  pub inject_stands : (place : ℕ) (fault : Fault) → Stands head (onto (Entered time who seq step ∷ past) (inject_acts head past place fault))
  inject_stands place fault = quiet_stands (inject_acts head past place fault) (record {
    issues = all_inject is_no_issue head past place fault refl refl refl;
    starts = all_inject is_no_start head past place fault refl refl refl;
    turns = all_inject is_no_turn head past place fault refl refl refl;
    fits = all_inject (is_fit head.places) head past place fault refl refl refl;
  }) (all_inject leaves_gate head past place fault refl refl refl)

  pub irq_stands : Stands head (onto (Entered time who seq step ∷ past) (irq_acts head past))
  irq_stands = plain_stands (irq_acts head past) (record {
    issues = all_irq is_no_issue head past (λ f e. refl) (λ f. refl) refl refl refl;
    starts = all_irq is_no_start head past (λ f e. refl) (λ f. refl) refl refl refl;
    turns = all_irq is_no_turn head past (λ f e. refl) (λ f. refl) refl refl refl;
    fits = all_irq (is_fit head.places) head past (λ f e. refl) (λ f. refl) refl refl refl;
  }) (irq_guarded head past time who seq step was.guarded)

  pub expire_stands : Stands head (onto (Entered time who seq step ∷ past) (expire_acts head past))
  expire_stands = plain_stands (expire_acts head past) (record {
    issues = all_expire is_no_issue head past (λ f. refl) refl refl refl;
    starts = all_expire is_no_start head past (λ f. refl) refl refl refl;
    turns = all_expire is_no_turn head past (λ f. refl) refl refl refl;
    fits = all_expire (is_fit head.places) head past (λ f. refl) refl refl refl;
  }) (expire_guarded head past time who seq step was.guarded)

  -- ---- a recover step

  pub place_within : (at : Phase) → phase_of (recovery head past) ≡ at → (place : ℕ) → phase_place at ≡ Some place → place < head.places
  place_within at is place there =
      walk_within head.places (recovery head past) (tasks head past) at place was.within.tasks
      (task_runs (recovery head past) at (placed at there) is).at there
    where
      placed : (at : Phase) → phase_place at ≡ Some place → is_of_task at ≡ true
      placed Idle there = absurd (cc)
      placed Logs there = absurd (cc)
      placed at there = refl

  autopsied_step : (p : List Event) (act : Act) → is_no_turn act ≡ true → is_autopsied (Told act ∷ p) ≡ is_autopsied p
  autopsied_step p Begun none = absurd (cc)
  autopsied_step p Autopsied none = absurd (cc)
  autopsied_step p act none = refl

  begin_judged : (found : Option ℕ) → AreJudged (onto (Entered time who seq step ∷ past) (waiting_or_begun head past found))
  begin_judged (Some tag) = judged_entry head past time who seq step (WaitingTag tag ∷ []) refl was.judged
  begin_judged None =
      let taken : List Act = ok_answers (slots past) (completions head past) ++ with_freeze (is_frozen past) (condemnations (λ f. true) timed_out (slots past) (completions head past)) in
      let early : is_autopsied (onto (Told Begun ∷ Entered time who seq step ∷ past) taken) ≡ false =
      left_alone is_no_turn is_autopsied autopsied_step (Told Begun ∷ Entered time who seq step ∷ past) taken
      (all_taken is_no_turn head past (turns_recovery head.places)) in
      record { judged = λ runs done tag f here. absurd (cc (early, done)) }

  idle_judged :
      (asked : Bool) → AreJudged (onto (Entered time who seq step ∷ past)
      (if asked then waiting_or_begun head past (position (is_awaited (clock past) (is_drained past)) (slots past)) else Nothing ∷ []))
  idle_judged true = begin_judged (position (is_awaited (clock past) (is_drained past)) (slots past))
  idle_judged false = judged_entry head past time who seq step (Nothing ∷ []) refl was.judged

  log_judged : (found : Option ℕ) → phase_of (recovery head past) ≡ Logs → AreJudged (onto (Entered time who seq step ∷ past) (log_or_autopsy head past found))
  log_judged (Some place) is =
      judged_entry head past time who seq step (log_acts head past place)
      (all_logs is_no_turn (turns_recovery head.places).logs head past place) was.judged
  log_judged None is =
      autopsy_judges head past time who seq step was.numbered was.known was.within
      (was.guarded.owned (logs_runs (recovery head past) is).0)

  task_judged :
      (at : Phase) → phase_of (recovery head past) ≡ at → (at ≡ Idle → ⊥) → (at ≡ Logs → ⊥)
      → AreJudged (onto (Entered time who seq step ∷ past) (phase_acts head past at))
  task_judged at is idle logs =
      judged_entry head past time who seq step (phase_acts head past at)
      (all_task is_no_turn head past (turns_recovery head.places) at (place_within at is) idle logs) was.judged

  phase_judged : (at : Phase) → phase_of (recovery head past) ≡ at → AreJudged (onto (Entered time who seq step ∷ past) (phase_acts head past at))
  phase_judged Idle is = idle_judged (is_asked past)
  phase_judged Logs is = log_judged (log_owed head past) is
  phase_judged HostOwed is = task_judged HostOwed is (λ e. cc) (λ e. cc)
  phase_judged HostOpen is = task_judged HostOpen is (λ e. cc) (λ e. cc)
  phase_judged (ResetOwed place attempt ident) is = task_judged (ResetOwed place attempt ident) is (λ e. cc) (λ e. cc)
  phase_judged (ResetOpen place attempt ident deadline) is = task_judged (ResetOpen place attempt ident deadline) is (λ e. cc) (λ e. cc)
  phase_judged (IdentOwed place attempt) is = task_judged (IdentOwed place attempt) is (λ e. cc) (λ e. cc)
  phase_judged (IdentOpen place attempt deadline) is = task_judged (IdentOpen place attempt deadline) is (λ e. cc) (λ e. cc)
  phase_judged Through is = task_judged Through is (λ e. cc) (λ e. cc)

  pub recover_stands : HasOnePlace head → Stands head (onto (Entered time who seq step ∷ past) (recover_acts head past))
  recover_stands fits =
      let at : Phase = phase head past in
      let is : phase_of (recovery head past) ≡ at = sym (phase_is head past) in
      let within = place_within at is in
      record {
        numbered = numbered_onto (Entered time who seq step ∷ past) (recover_acts head past)
            (all_recover is_no_issue head past (issues_recovery head.places) refl refl within)
            (record { apart = was.numbered.apart; from_one = was.numbered.from_one; up_to = was.numbered.up_to });
        known = known_entry head past time who seq step (recover_acts head past)
            (all_recover is_no_start head past (starts_recovery head.places) refl refl within) was.known;
        within = within_entry head past time who seq step (recover_acts head past)
            (all_recover (is_fit head.places) head past (fit_recovery head.places) refl refl within) was.within;
        judged =
            subst (λ acts. AreJudged (onto (Entered time who seq step ∷ past) acts)) (sym (recover_told head past))
            (phase_judged at is);
        guarded = recover_guarded head past time who seq step fits was;
      }

  -- ---- a kick

  wait_plain : (acts : List Act) → list_all is_wait acts ≡ true → IsPlain head acts
  wait_plain acts all = record {
    issues = all_wider is_wait is_no_issue of_issues acts all;
    starts = all_wider is_wait is_no_start of_starts acts all;
    turns = all_wider is_wait is_no_turn of_turns acts all;
    fits = all_wider is_wait (is_fit head.places) of_fits acts all;
  }
    where
      of_issues : (act : Act) → is_wait act ≡ true → is_no_issue act ≡ true
      of_issues Nothing is = refl
      of_issues (Deferred id why) is = refl
      of_issues (Exclusive place) is = refl
      of_issues act is = absurd (cc)

      of_starts : (act : Act) → is_wait act ≡ true → is_no_start act ≡ true
      of_starts Nothing is = refl
      of_starts (Deferred id why) is = refl
      of_starts (Exclusive place) is = refl
      of_starts act is = absurd (cc)

      of_turns : (act : Act) → is_wait act ≡ true → is_no_turn act ≡ true
      of_turns Nothing is = refl
      of_turns (Deferred id why) is = refl
      of_turns (Exclusive place) is = refl
      of_turns act is = absurd (cc)

      of_fits : (act : Act) → is_wait act ≡ true → is_fit head.places act ≡ true
      of_fits Nothing is = refl
      of_fits (Deferred id why) is = refl
      of_fits (Exclusive place) is = refl
      of_fits act is = absurd (cc)

  or_none : (a b : Bool) → (a || b) ≡ false → b ≡ false
  or_none true b e = absurd (cc)
  or_none false b e = e

  issued_stands :
      (place : ℕ) (acts : List Act) → IsIssue head past place acts
      → AreNumbered (issue_count (onto (Entered time who seq step ∷ past) acts)) (slots (onto (Entered time who seq step ∷ past) acts))
      × (AreJudged (onto (Entered time who seq step ∷ past) acts) × IsWithin head (onto (Entered time who seq step ∷ past) acts))
  issued_stands place acts issue =
      let idle : is_running past ≡ false = or_none (is_asked past) (is_running past) issue.settled in
      subst (λ a. AreNumbered (issue_count (onto (Entered time who seq step ∷ past) a)) (slots (onto (Entered time who seq step ∷ past) a))
      × (AreJudged (onto (Entered time who seq step ∷ past) a) × IsWithin head (onto (Entered time who seq step ∷ past) a))) (sym issue.told) (
        numbered_put (issue_count past) issue.tag _ (slots past) refl was.numbered,
        (
          record { judged = λ runs done tag f here. absurd (cc (idle, runs)) },
          within_entry head past time who seq step (issued_acts head past issue.cmd issue.queued (Some issue.tag)) refl was.within,
        ),
      )

  pub kick_stands : (place : ℕ) → Stands head (onto (Entered time who seq step ∷ past) (kick_acts head past place))
  kick_stands place =
      let guarded = kick_guarded head past time who seq step place was.guarded in
      elim (kick_does head past place) [
        | Waits all ↦ plain_stands (kick_acts head past place) (wait_plain (kick_acts head past place) all) guarded
        | Gone answer ↦ plain_stands (kick_acts head past place)
            (subst (IsPlain head) (sym answer.told) (record { issues = refl; starts = refl; turns = refl; fits = refl })) guarded
        | Issues issue ↦
            let s = issued_stands place (kick_acts head past place) issue in
            record { numbered = s.0; known = kick_known head past time who seq step place was.known; within = s.1.1; judged = s.1.0; guarded = guarded }
      ]
