-- All stands over a recover step, and over each entry.
use Rattle.eh_flow.specs.Table.{deadline_of}
use Rattle.port_rules.proofs.RecoverByPhase.{recover_told, waiting_or_begun, log_or_autopsy, phase_acts, reset_acts, look_acts, look_of, open_ident_acts}
use Rattle.std.proofs.Common.{◌≡◌, ℕ, Bool, true, false, List, [], ◌∷◌, Option, None, Some, position, find, flat_map, refl, sym, subst, if◌then◌else◌}
use Rattle.std.specs.List.{list_all}
use Rattle.ata_base.specs.declared.err_mask.ErrMask.{ErrMask}
use Rattle.ata_base.specs.declared.ms.Ms.{Ms}
use Rattle.ata_base.specs.declared.link_action.LinkAction.{LinkAction}
use Rattle.ata_script.specs.declared.port_head.PortHead.{PortHead}
use Rattle.ata_trace.specs.Event.{Event, onto}
use Rattle.ata_trace.specs.Event.Event.{Entered}
use Rattle.ata_trace.specs.declared.act.Act.{Act}
use Rattle.ata_trace.specs.declared.act.Act.TheVariants.{Nothing, WaitingTag, Action, Autopsied, IdentAsked}
use Rattle.ata_trace.specs.Entries.{grown}
use Rattle.ata_trace.specs.declared.step.Step.{Step}
use Rattle.ata_trace.specs.declared.step.Step.TheVariants.{Submit, Kick, Work, Irq, Drop, Stray, Tick, Expire, Recover, Plug, Unplug, Inject, Boot}
use Rattle.port_rules.specs.Legal.{entry_after}
use Rattle.port_stands.proofs.Standing.{stands_after}
use Rattle.port_stands.proofs.Heads.{HasOnePlace}
use Rattle.ata_trace.specs.declared.who.Who.{Who}
use Rattle.drive_model.specs.View.{DriveView}
use Rattle.eh_flow.specs.declared.phase.Phase.{Phase}
use Rattle.eh_flow.specs.declared.phase.Phase.TheVariants.{Idle, Logs, HostOwed, HostOpen, ResetOwed, ResetOpen, IdentOwed, IdentOpen, Through}
use Rattle.eh_reset.specs.ResetWaits.{reset_wait_of}
use Rattle.eh_reset.specs.declared.look.ResetLook.{ResetLook}
use Rattle.eh_reval.specs.IdentWaits.{ident_wait_of}
use Rattle.port_past.specs.Clock.{clock}
use Rattle.port_past.specs.Drain.{is_drained}
use Rattle.port_past.specs.PortState.{is_frozen, is_asked, is_running}
use Rattle.port_past.specs.Logs.{logs}
use Rattle.port_past.specs.Noted.{tferr_noted}
use Rattle.port_past.specs.Slots.{slots}
use Rattle.port_rules.specs.Autopsy.{examined_acts, autopsy_acts}
use Rattle.port_past.specs.Heads.{places_of}
use Rattle.port_rules.specs.Logs.{is_log_owed, log_owed}
use Rattle.port_rules.specs.Phase.{phase}
use Rattle.port_rules.specs.Begin.{is_awaited}
use Rattle.port_rules.specs.Recover.{recover_acts}
use Rattle.port_rules.specs.AutopsyView.{autopsy_view}
use Rattle.port_past.specs.Drives.{drive_at}
use Rattle.port_stands.proofs.Autopsies.{HasAutopsy, all_places}
use Rattle.port_stands.proofs.Blocks.{all_append}
use Rattle.port_stands.proofs.DrivenEntries.{is_free, free_onto, driven_began}
use Rattle.port_stands.proofs.GuardFrames.{is_gate_row}
use Rattle.port_stands.proofs.Phases.{phase_is, idle_rests, logs_runs, task_runs}
use Rattle.port_stands.proofs.Rows.{all_look, all_open_ident}
use Rattle.port_stands.proofs.WholeEnd.{finish_made, log_made}
use Rattle.port_stands.proofs.WholeQuiet.{quiet_made, submit_made, drop_made, stray_made, tick_made, expire_made, plug_made, unplug_made, inject_made, work_made}
use Rattle.port_stands.proofs.WholeTold.{is_elsewhere}
use Rattle.port_stands.proofs.WholeRows.{is_idle_row, idle_row_made, reset_row_made, asked_made, host_begun_made, host_ended_made}
use Rattle.port_stands.proofs.Wholes.{unmixed_onto}
use Rattle.port_stands.proofs.WholeSteps.{IsMade, kick_made}
use Rattle.port_stands.proofs.WholeTaken.{begin_made, irq_made}
use Rattle.port_stands.specs.Handled.{handling, AreHandled}
use Rattle.port_stands.specs.Whole.{HandsOver, IsWhole}
use Rattle.port_stands.specs.Words.{recovery, phase_of, is_no_issue}

module _ (head : PortHead) (past : List Event) (time : ℕ) (who : Who) (seq : ℕ) (was : IsWhole head past) where
  -- the autopsy, where what it hands to the tasks is known
  autopsy_made : AreHandled (handling head (onto (Entered time who seq Recover ∷ past) (autopsy_acts head past))) → IsMade head (onto (Entered time who seq Recover ∷ past) (autopsy_acts head past))
  autopsy_made handled = record {
    unmixed = unmixed_onto (Entered time who seq Recover ∷ past) (autopsy_acts head past) (all_of is_no_issue (λ p. record { judged = λ n k. refl; recorded = λ i d k n s o e a. refl; cleared = refl; hot = λ g. refl }) (λ p k r. refl) refl) was.unmixed;
    driven = free_onto head (Entered time who seq Recover ∷ past) (autopsy_acts head past) (all_of is_free (λ p. record { judged = λ n k. refl; recorded = λ i d k n s o e a. refl; cleared = refl; hot = λ g. refl }) (λ p k r. refl) refl)
        (driven_began head past time who seq Recover was.driven);
    handled = handled;
  }
    where
      all_of : (kind : Act → Bool) → ((place : ℕ) → HasAutopsy kind place) → ((place : ℕ) (kinds : ErrMask) (chosen : LinkAction) → kind (Action place kinds chosen) ≡ true) → kind Autopsied ≡ true → list_all kind (autopsy_acts head past) ≡ true
      all_of kind has action last =
          all_append kind (flat_map (λ place. examined_acts (autopsy_view head past place)) (places_of head)) (Autopsied ∷ [])
          (all_places kind head past (λ p w. has p) (λ p k r w. action p k r)) (rw last refl)

  waiting_made : is_running past ≡ false → (found : Option ℕ) → IsMade head (onto (Entered time who seq Recover ∷ past) (waiting_or_begun head past found))
  waiting_made idle (Some tag) = quiet_made head past time who seq was Recover (WaitingTag tag ∷ []) refl refl refl refl refl refl
  waiting_made idle None = begin_made head past time who seq was idle

  idle_made : is_running past ≡ false → (asked : Bool) → IsMade head (onto (Entered time who seq Recover ∷ past) (if asked then waiting_or_begun head past (position (is_awaited (clock past) (is_drained past)) (slots past)) else Nothing ∷ []))
  idle_made idle true = waiting_made idle (position (is_awaited (clock past) (is_drained past)) (slots past))
  idle_made idle false = quiet_made head past time who seq was Recover (Nothing ∷ []) refl refl refl refl refl refl

  log_cool : (place : ℕ) (frozen : Bool) (found : Option ℕ) → (if frozen then None else found) ≡ Some place → frozen ≡ false
  log_cool place true found is = absurd (cc)
  log_cool place false found is = refl

  logs_made :
      phase_of (recovery head past) ≡ Logs → (log_owed head past ≡ None → AreHandled (handling head (onto (Entered time who seq Recover ∷ past) (autopsy_acts head past))))
      → (found : Option ℕ) → log_owed head past ≡ found → IsMade head (onto (Entered time who seq Recover ∷ past) (log_or_autopsy head past found))
  logs_made at handled None is = autopsy_made (handled is)
  logs_made at handled (Some place) is =
      let runs = logs_runs (recovery head past) at in
      log_made head past time who seq was runs.0 runs.1 (log_cool place (is_frozen past) (find (is_log_owed (tferr_noted past) (logs past) (slots past)) (places_of head)) is) place

  by_frost : (frozen : Bool) (acts more : List Act) → IsMade head (onto (Entered time who seq Recover ∷ past) acts) → IsMade head (onto (Entered time who seq Recover ∷ past) more)
      → IsMade head (onto (Entered time who seq Recover ∷ past) (if frozen then acts else more))
  by_frost true acts more a b = a
  by_frost false acts more a b = b

  -- the entry of each phase; the last argument is what the autopsy hands to the tasks
  phase_made :
      (at : Phase) → phase_of (recovery head past) ≡ at
      → (phase_of (recovery head past) ≡ Logs → log_owed head past ≡ None → AreHandled (handling head (onto (Entered time who seq Recover ∷ past) (autopsy_acts head past))))
      → IsMade head (onto (Entered time who seq Recover ∷ past) (phase_acts head past at))
  phase_made Idle is autopsy = idle_made (idle_rests (recovery head past) is) (is_asked past)
  phase_made Logs is autopsy = logs_made is (autopsy is) (log_owed head past) refl
  phase_made HostOwed is autopsy = host_begun_made head past time who seq was HostOwed (task_runs (recovery head past) HostOwed refl is) (deadline_of (clock past) (reset_wait_of 1))
  phase_made HostOpen is autopsy = host_ended_made head past time who seq was HostOpen (task_runs (recovery head past) HostOpen refl is)
  phase_made (ResetOwed place attempt ident) is autopsy =
      reset_row_made head past time who seq was (ResetOwed place attempt ident) (task_runs (recovery head past) (ResetOwed place attempt ident) refl is) place attempt
  phase_made (ResetOpen place attempt ident deadline) is autopsy =
      let v : Option DriveView = drive_at head past place in
      let look : ResetLook = look_of (clock past) deadline.n v in
      idle_row_made head past time who seq was (ResetOpen place attempt ident deadline) (task_runs (recovery head past) (ResetOpen place attempt ident deadline) refl is)
      (look_acts head past place attempt v look) place refl refl
      (all_look is_free head past place attempt v look (record { ended = λ g. refl; none = refl; late = refl; failed = refl; disabled = refl; detached = refl; waiting = refl }) (λ d. refl))
      (all_look is_no_issue head past place attempt v look (record { ended = λ g. refl; none = refl; late = refl; failed = refl; disabled = refl; detached = refl; waiting = refl }) (λ d. refl))
      (all_look is_gate_row head past place attempt v look (record { ended = λ g. refl; none = refl; late = refl; failed = refl; disabled = refl; detached = refl; waiting = refl }) (λ d. refl))
      (all_look is_idle_row head past place attempt v look (record { ended = λ g. refl; none = refl; late = refl; failed = refl; disabled = refl; detached = refl; waiting = refl }) (λ d. refl))
      (λ x e. all_look (is_elsewhere x) head past place attempt v look (record { ended = λ g. e; none = e; late = e; failed = e; disabled = e; detached = e; waiting = refl }) (λ d. refl))
  phase_made (IdentOwed place attempt) is autopsy =
      let task = task_runs (recovery head past) (IdentOwed place attempt) refl is in
      let deadline : Ms = deadline_of (clock past) (ident_wait_of attempt) in
      by_frost (is_frozen past) (reset_acts head past place 1) (IdentAsked place attempt deadline ∷ [])
      (reset_row_made head past time who seq was (IdentOwed place attempt) task place 1)
      (asked_made head past time who seq was (IdentOwed place attempt) task place attempt deadline refl refl)
  phase_made (IdentOpen place attempt deadline) is autopsy =
      let task = task_runs (recovery head past) (IdentOpen place attempt deadline) refl is in
      let v : Option DriveView = drive_at head past place in
      let acts : List Act = open_ident_acts head past place attempt deadline.n v in
      by_frost (is_frozen past) (reset_acts head past place 1) acts
      (reset_row_made head past time who seq was (IdentOpen place attempt deadline) task place 1)
      (idle_row_made head past time who seq was (IdentOpen place attempt deadline) task acts place refl refl
      (all_open_ident is_free head past place attempt deadline.n v (record { identified = λ i. refl; same = refl; attached = refl; detached = refl; disabled = refl; mode = λ u o d. refl; late = refl; waiting = refl }))
      (all_open_ident is_no_issue head past place attempt deadline.n v (record { identified = λ i. refl; same = refl; attached = refl; detached = refl; disabled = refl; mode = λ u o d. refl; late = refl; waiting = refl }))
      (all_open_ident is_gate_row head past place attempt deadline.n v (record { identified = λ i. refl; same = refl; attached = refl; detached = refl; disabled = refl; mode = λ u o d. refl; late = refl; waiting = refl }))
      (all_open_ident is_idle_row head past place attempt deadline.n v (record { identified = λ i. refl; same = refl; attached = refl; detached = refl; disabled = refl; mode = λ u o d. refl; late = refl; waiting = refl }))
      (λ x e. all_open_ident (is_elsewhere x) head past place attempt deadline.n v (record { identified = λ i. refl; same = refl; attached = e; detached = e; disabled = e; mode = λ u o d. e; late = e; waiting = refl })))
  phase_made Through is autopsy = finish_made head past time who seq was (task_runs (recovery head past) Through refl is)

  -- a recover step
  pub recover_made :
      (phase_of (recovery head past) ≡ Logs → log_owed head past ≡ None → AreHandled (handling head (onto (Entered time who seq Recover ∷ past) (autopsy_acts head past))))
      → IsMade head (onto (Entered time who seq Recover ∷ past) (recover_acts head past))
  recover_made autopsy =
      subst (λ acts. IsMade head (onto (Entered time who seq Recover ∷ past) acts)) (sym (recover_told head past))
      (phase_made (phase head past) (sym (phase_is head past)) autopsy)

-- ---- each entry

module _ (head : PortHead) (past : List Event) (who : Who) (seq : ℕ) (was : IsWhole head past) where
  step_made : (step : Step) → HandsOver head past who seq → IsMade head (grown past (entry_after head past who seq step))
  step_made (Submit id place op allow wait) over = submit_made head past (clock past) who seq was id place op allow wait
  step_made (Kick place) over = kick_made head past (clock past) who seq was place
  step_made (Work place pick) over = work_made head past (clock past) who seq was place pick
  step_made Irq over = irq_made head past (clock past) who seq was
  step_made Drop over = drop_made head past (clock past) who seq was
  step_made (Stray tag) over = stray_made head past (clock past) who seq was tag
  step_made (Tick ms) over = tick_made head past (clock past) who seq was ms
  step_made Expire over = expire_made head past (clock past) who seq was
  step_made Recover over = recover_made head past (clock past) who seq was over
  step_made (Plug place drive) over = plug_made head past (clock past) who seq was place drive
  step_made (Unplug place) over = unplug_made head past (clock past) who seq was place
  step_made (Inject place fault) over = inject_made head past (clock past) who seq was place fault
  step_made Boot over = quiet_made head past (clock past) who seq was Boot (Nothing ∷ []) refl refl refl refl refl refl

  -- all stands after the entry of each step, where the autopsy hands over what it should
  pub whole_after : HasOnePlace head → (step : Step) → HandsOver head past who seq → IsWhole head (grown past (entry_after head past who seq step))
  whole_after fits step over =
      let m = step_made step over in
      record { stands = stands_after head past who seq fits was.stands step; unmixed = m.unmixed; driven = m.driven; handled = m.handled }
