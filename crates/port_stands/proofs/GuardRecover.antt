-- The gate of a port stays guarded over a recover step.
use Rattle.eh_flow.specs.Table.{deadline_of}
use Rattle.port_rules.proofs.RecoverByPhase.{recover_told, waiting_or_begun, log_or_autopsy, phase_acts, reset_acts, look_of, open_ident_acts}
use Rattle.std.proofs.Common.{◌≡◌, ℕ, Bool, true, false, List, [], ◌∷◌, Option, None, Some, position, refl, sym, subst, if◌then◌else◌}
use Rattle.std.specs.List.{list_all}
use Rattle.ata_script.specs.declared.port_head.PortHead.{PortHead}
use Rattle.ata_trace.specs.Event.{Event, onto}
use Rattle.ata_trace.specs.Event.Event.{Entered}
use Rattle.ata_trace.specs.declared.act.Act.{Act}
use Rattle.ata_trace.specs.declared.act.Act.TheVariants.{Nothing, WaitingTag, ResetEndedHost, Thawed, IdentAsked}
use Rattle.ata_trace.specs.declared.step.Step.{Step}
use Rattle.ata_trace.specs.declared.who.Who.{Who}
use Rattle.eh_flow.specs.declared.phase.Phase.{Phase}
use Rattle.eh_flow.specs.declared.phase.Phase.TheVariants.{Idle, Logs, HostOwed, HostOpen, ResetOwed, ResetOpen, IdentOwed, IdentOpen, Through}
use Rattle.eh_reval.specs.IdentWaits.{ident_wait_of}
use Rattle.host_tags.specs.Slots.{flight_at}
use Rattle.host_tags.specs.declared.in_flight.InFlight.{InFlight}
use Rattle.port_past.specs.Clock.{clock}
use Rattle.port_past.specs.Commands.{commands}
use Rattle.port_past.specs.Judged.{judged}
use Rattle.port_past.specs.Drain.{is_drained}
use Rattle.port_past.specs.PortState.{is_frozen, is_asked, is_running}
use Rattle.port_past.specs.Slots.{slots}
use Rattle.port_rules.specs.Logs.{log_owed, log_acts}
use Rattle.port_rules.specs.Phase.{phase}
use Rattle.port_rules.specs.Begin.{is_awaited}
use Rattle.port_rules.specs.Recover.{recover_acts}
use Rattle.port_past.specs.Drives.{drive_at}
use Rattle.port_stands.proofs.Guard.{leaves_gate, guarded_left}
use Rattle.port_stands.proofs.GuardAutopsy.{IsEnding, autopsy_guarded, finish_guarded}
use Rattle.port_stands.proofs.GuardBegin.{begin_guarded}
use Rattle.port_stands.proofs.GuardFrames.{is_gate_row, is_row_act, row_is_gate, cool_guarded, still_cool}
use Rattle.port_stands.proofs.GuardRows.{ident_is, reset_guarded, look_guarded, host_guarded}
use Rattle.port_stands.proofs.Blocks.{all_wider}
use Rattle.port_stands.proofs.Phases.{IsTask, phase_is, idle_rests, task_runs}
use Rattle.port_stands.proofs.Rows.{all_open_ident}
use Rattle.port_stands.proofs.Steps.{HasLogs, all_logs}
use Rattle.port_stands.specs.Gate.{gate, IsGuarded}
use Rattle.port_stands.proofs.Heads.{HasOnePlace}
use Rattle.port_stands.specs.Stands.{Stands}
use Rattle.port_stands.specs.Words.{recovery, phase_of}

module _ (head : PortHead) (past : List Event) (time : ℕ) (who : Who) (seq : ℕ) (step : Step) (fits : HasOnePlace head) (was : Stands head past) where
  waiting_guarded :
      (found : Option ℕ) → is_running past ≡ false
      → IsGuarded head.pmp (gate head (onto (Entered time who seq step ∷ past) (waiting_or_begun head past found)))
  waiting_guarded (Some tag) idle = guarded_left head past time who seq step (WaitingTag tag ∷ []) refl was.guarded
  waiting_guarded None idle = begin_guarded head past time who seq step idle was.numbered was.guarded

  idle_guarded :
      (asked : Bool) → is_running past ≡ false
      → IsGuarded head.pmp (gate head (onto (Entered time who seq step ∷ past)
      (if asked then waiting_or_begun head past (position (is_awaited (clock past) (is_drained past)) (slots past)) else Nothing ∷ [])))
  idle_guarded true idle = waiting_guarded (position (is_awaited (clock past) (is_drained past)) (slots past)) idle
  idle_guarded false idle = guarded_left head past time who seq step (Nothing ∷ []) refl was.guarded

  logs_leave : HasLogs leaves_gate
  logs_leave = record { page = λ p t s e l c. refl; failed = λ p. refl; bad_sum = λ p. refl; not_queued = λ p. refl; aborted = λ n. refl }

  log_guarded :
      (found : Option ℕ) → phase_of (recovery head past) ≡ Logs
      → IsGuarded head.pmp (gate head (onto (Entered time who seq step ∷ past) (log_or_autopsy head past found)))
  log_guarded (Some place) at =
      guarded_left head past time who seq step (log_acts head past place) (all_logs leaves_gate logs_leave head past place) was.guarded
  log_guarded None at = autopsy_guarded head past time who seq step fits at was.guarded

  -- an identity is asked for, or read, at a place of a frozen or a thawed port
  by_frost :
      (frozen : Bool) (acts more : List Act) → is_frozen past ≡ frozen
      → IsGuarded head.pmp (gate head (onto (Entered time who seq step ∷ past) acts))
      → (is_frozen past ≡ false → IsGuarded head.pmp (gate head (onto (Entered time who seq step ∷ past) more)))
      → IsGuarded head.pmp (gate head (onto (Entered time who seq step ∷ past) (if frozen then acts else more)))
  by_frost true acts more is cold thawed = cold
  by_frost false acts more is cold thawed = thawed is

  ending :
      IsTask (recovery head past) Through → (tag : ℕ) (f : InFlight) → flight_at (slots past) tag ≡ Some f
      → IsEnding (commands past) (judged past) tag f
  ending task tag f here =
      let j = was.judged.judged task.running task.autopsied tag f here in
      let k = was.known.flying tag f here in
      record { judgement = j.judgement; told = j.told; cmd = k.cmd; known = k.found }

  phase_guarded :
      (at : Phase) → phase_of (recovery head past) ≡ at
      → IsGuarded head.pmp (gate head (onto (Entered time who seq step ∷ past) (phase_acts head past at)))
  phase_guarded Idle is = idle_guarded (is_asked past) (idle_rests (recovery head past) is)
  phase_guarded Logs is = log_guarded (log_owed head past) is
  phase_guarded HostOwed is = host_guarded head past time who seq step (task_runs (recovery head past) HostOwed refl is) was.guarded
  phase_guarded HostOpen is =
      cool_guarded head past time who seq step (ResetEndedHost ∷ Thawed ∷ []) HostOpen (task_runs (recovery head past) HostOpen refl is) refl refl was.guarded
  phase_guarded (ResetOwed place attempt ident) is =
      reset_guarded head past time who seq step place attempt (ResetOwed place attempt ident) is
      (task_runs (recovery head past) (ResetOwed place attempt ident) refl is) refl refl refl refl was.guarded
  phase_guarded (ResetOpen place attempt ident deadline) is =
      look_guarded head past time who seq step place attempt ident deadline (drive_at head past place)
      (look_of (clock past) deadline.n (drive_at head past place)) is
      (task_runs (recovery head past) (ResetOpen place attempt ident deadline) refl is) was.guarded
  phase_guarded (IdentOwed place attempt) is =
      let task = task_runs (recovery head past) (IdentOwed place attempt) refl is in
      let asking : Act = IdentAsked place attempt (deadline_of (clock past) (ident_wait_of attempt)) in
      by_frost (is_frozen past) (reset_acts head past place 1) (asking ∷ []) refl
      (reset_guarded head past time who seq step place 1 (IdentOwed place attempt) is task refl refl refl refl was.guarded)
      (λ thawed. cool_guarded head past time who seq step (asking ∷ []) (IdentOwed place attempt) task refl thawed was.guarded)
  phase_guarded (IdentOpen place attempt deadline) is =
      let task = task_runs (recovery head past) (IdentOpen place attempt deadline) refl is in
      let acts : List Act = open_ident_acts head past place attempt deadline.n (drive_at head past place) in
      let rows : list_all is_row_act acts ≡ true =
      all_open_ident is_row_act head past place attempt deadline.n (drive_at head past place) (ident_is head past time who seq step place) in
      by_frost (is_frozen past) (reset_acts head past place 1) acts refl
      (reset_guarded head past time who seq step place 1 (IdentOpen place attempt deadline) is task refl refl refl refl was.guarded)
      (λ thawed. cool_guarded head past time who seq step acts (IdentOpen place attempt deadline) task
      (all_wider is_row_act is_gate_row row_is_gate acts rows) (still_cool head past time who seq step acts rows thawed) was.guarded)
  phase_guarded Through is =
      let task = task_runs (recovery head past) Through refl is in
      finish_guarded head past time who seq step is task (ending task) was.numbered.from_one was.guarded

  pub recover_guarded : IsGuarded head.pmp (gate head (onto (Entered time who seq step ∷ past) (recover_acts head past)))
  recover_guarded =
      subst (λ acts. IsGuarded head.pmp (gate head (onto (Entered time who seq step ∷ past) acts))) (sym (recover_told head past))
      (phase_guarded (phase head past) (sym (phase_is head past)))
