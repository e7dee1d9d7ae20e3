-- What a recover step does: it rests, begins, reads a log, makes the autopsy, does a row of a task, or ends.
use Rattle.eh_flow.specs.Table.{deadline_of}
use Rattle.port_rules.proofs.RecoverByPhase.{recover_told, waiting_or_begun, log_or_autopsy, phase_acts, reset_acts, look_of, unanswered_acts, open_ident_acts}
use Rattle.std.proofs.Common.{◌≡◌, ℕ, Bool, true, false, nat_le, nat_lt, List, [], ◌∷◌, ◌++◌, Option, None, Some, position, refl, sym, subst, if◌then◌else◌}
use Rattle.std.specs.List.{list_all}
use Rattle.std.specs.Prelude.{slice_index_or}
use Rattle.ata_base.specs.declared.ms.Ms.{Ms}
use Rattle.ata_script.specs.declared.port_head.PortHead.{PortHead}
use Rattle.ata_trace.specs.Event.{Event}
use Rattle.ata_trace.specs.declared.act.Act.{Act}
use Rattle.ata_trace.specs.declared.act.Act.TheVariants.{Nothing, WaitingTag, IdentAsked, ResetBegun, Identified, Mode, Frozen, IdentLate, WaitingIdent, Disabled}
use Rattle.drive_model.specs.View.{DriveView}
use Rattle.eh_flow.specs.declared.phase.Phase.{Phase}
use Rattle.eh_flow.specs.declared.phase.Phase.TheVariants.{Idle, Logs, HostOwed, HostOpen, ResetOwed, ResetOpen, IdentOwed, IdentOpen, Through}
use Rattle.eh_reset.specs.ResetWaits.{reset_wait_of}
use Rattle.eh_reval.specs.IdentWaits.{ident_wait_of}
use Rattle.port_past.specs.Clock.{clock}
use Rattle.port_past.specs.Attachment.{attached}
use Rattle.port_past.specs.IdentAnswers.{is_ident_answered}
use Rattle.port_past.specs.Drain.{is_drained}
use Rattle.port_past.specs.PortState.{is_frozen, is_asked, is_running, is_autopsied}
use Rattle.port_past.specs.Slots.{slots}
use Rattle.port_rules.specs.Autopsy.{autopsy_acts}
use Rattle.port_rules.specs.Finish.{finish_acts}
use Rattle.port_rules.specs.Logs.{log_owed, log_acts}
use Rattle.port_rules.specs.Phase.{phase}
use Rattle.port_rules.specs.Begin.{begin_acts, is_awaited}
use Rattle.port_rules.specs.Recover.{recover_acts}
use Rattle.port_rules.specs.Resets.{if_attached}
use Rattle.port_rules.specs.Identities.{ident_late_acts, identity_acts}
use Rattle.port_rules.specs.Told.{frozen_acts}
use Rattle.port_past.specs.Drives.{drive_at}
use Rattle.port_stands.proofs.Blocks.{all_append}
use Rattle.port_stands.proofs.GuardFrames.{is_gate_row}
use Rattle.port_stands.proofs.Lists.{all_if, all_more, all_told}
use Rattle.port_stands.proofs.Phases.{phase_is, idle_rests, logs_runs, IsTask, is_of_task, task_runs}
use Rattle.port_stands.proofs.Rows.{all_look, all_reset, all_open_ident}
use Rattle.port_stands.specs.Words.{recovery, phase_of}

-- an act that says that recovery waits, or has nothing to do
abbrev pub is_rest : Act → Bool
is_rest Nothing = true
is_rest (WaitingTag tag) = true
is_rest act = false

-- recovery begins
pub record IsBeginning (head : PortHead) (past : List Event) (acts : List Act) : Type 0 where
  pub idle : is_running past ≡ false
  pub asked : is_asked past ≡ true
  pub told : acts ≡ begin_acts head past

-- a log is read
pub record IsReading (head : PortHead) (past : List Event) (acts : List Act) : Type 0 where
  pub running : is_running past ≡ true
  pub early : is_autopsied past ≡ false
  pub place : ℕ
  pub told : acts ≡ log_acts head past place

-- the autopsy is made
pub record IsExamination (head : PortHead) (past : List Event) (acts : List Act) : Type 0 where
  pub running : is_running past ≡ true
  pub early : is_autopsied past ≡ false
  pub at : phase_of (recovery head past) ≡ Logs
  pub waits : log_owed head past ≡ None
  pub told : acts ≡ autopsy_acts head past

-- an act that tells no identity and no mode
abbrev pub is_modeless : Act → Bool
is_modeless (Identified place model serial sectors depth) = false
is_modeless (Mode place udma ncq dubious) = false
is_modeless act = true

-- a row of a task
pub record IsRow (head : PortHead) (past : List Event) (acts : List Act) : Type 0 where
  pub running : is_running past ≡ true
  pub autopsied : is_autopsied past ≡ true
  pub all : list_all is_gate_row acts ≡ true

-- a row by which a drive tells who it is
pub record IsIdentity (head : PortHead) (past : List Event) (acts : List Act) : Type 0 where
  pub row : IsRow head past acts
  pub place : ℕ
  pub view : DriveView
  pub found : drive_at head past place ≡ Some view
  pub told : acts ≡ identity_acts past place view.identity

-- recovery ends
pub record IsEnding (head : PortHead) (past : List Event) (acts : List Act) : Type 0 where
  pub task : IsTask (recovery head past) Through
  pub told : acts ≡ finish_acts past

pub data RecoverDoes (head : PortHead) (past : List Event) (acts : List Act) : Type 0 where
  Rests : (idle : is_running past ≡ false) (all : list_all is_rest acts ≡ true) → RecoverDoes head past acts
  Begins : (begin : IsBeginning head past acts) → RecoverDoes head past acts
  Reads : (log : IsReading head past acts) → RecoverDoes head past acts
  Examines : (autopsy : IsExamination head past acts) → RecoverDoes head past acts
  DoesRow : (row : IsRow head past acts) (modeless : list_all is_modeless acts ≡ true) → RecoverDoes head past acts
  Identifies : (identity : IsIdentity head past acts) → RecoverDoes head past acts
  Ends : (end : IsEnding head past acts) → RecoverDoes head past acts

module _ (head : PortHead) (past : List Event) where
  waiting_does : is_running past ≡ false → is_asked past ≡ true → (found : Option ℕ) → RecoverDoes head past (waiting_or_begun head past found)
  waiting_does idle asked (Some tag) = Rests idle refl
  waiting_does idle asked None = Begins (record { idle = idle; asked = asked; told = refl })

  rests_does :
      is_running past ≡ false → (asked : Bool) → is_asked past ≡ asked
      → RecoverDoes head past (if asked then waiting_or_begun head past (position (is_awaited (clock past) (is_drained past)) (slots past)) else Nothing ∷ [])
  rests_does idle true is = waiting_does idle is (position (is_awaited (clock past) (is_drained past)) (slots past))
  rests_does idle false is = Rests idle refl

  logs_does : phase_of (recovery head past) ≡ Logs → (found : Option ℕ) → log_owed head past ≡ found → RecoverDoes head past (log_or_autopsy head past found)
  logs_does at (Some place) is = let runs = logs_runs (recovery head past) at in Reads (record { running = runs.0; early = runs.1; place = place; told = refl })
  logs_does at None is = let runs = logs_runs (recovery head past) at in Examines (record { running = runs.0; early = runs.1; at = at; waits = is; told = refl })

  row_is : (at : Phase) → is_of_task at ≡ true → phase_of (recovery head past) ≡ at → (acts : List Act) → list_all is_gate_row acts ≡ true → IsRow head past acts
  row_is at of is acts all =
      let task = task_runs (recovery head past) at of is in
      record { running = task.running; autopsied = task.autopsied; all = all }

  reset_all : (kind : Act → Bool) → kind Frozen ≡ true → ((place attempt : ℕ) (d : Ms) → kind (ResetBegun (Some place) attempt d) ≡ true) → (place attempt : ℕ) → list_all kind (reset_acts head past place attempt) ≡ true
  reset_all kind freezes begun place attempt = all_reset kind head past place attempt (begun place attempt) (λ direct. freezes)

  rows : (place attempt : ℕ) → list_all is_gate_row (reset_acts head past place attempt) ≡ true
  rows place attempt = reset_all is_gate_row refl (λ p a d. refl) place attempt

  modeless : (place attempt : ℕ) → list_all is_modeless (reset_acts head past place attempt) ≡ true
  modeless place attempt = reset_all is_modeless refl (λ p a d. refl) place attempt

  unheard_all :
      (kind : Act → Bool) (place attempt deadline : ℕ) → kind (IdentLate place) ≡ true → kind (Disabled place) ≡ true → kind (WaitingIdent place) ≡ true
      → list_all kind (unanswered_acts past place attempt deadline) ≡ true
  unheard_all kind place attempt deadline late disabled waiting =
      all_if kind (nat_le deadline (clock past)) (ident_late_acts past place (nat_lt attempt 3)) (WaitingIdent place ∷ [])
      (all_more kind (IdentLate place) (if nat_lt attempt 3 then [] else if_attached past place (Disabled place)) late
      (all_if kind (nat_lt attempt 3) [] (if_attached past place (Disabled place)) refl (all_told kind (slice_index_or (attached past) place false) (Disabled place) disabled)))
      (all_more kind (WaitingIdent place) [] waiting refl)

  heard_does :
      (place attempt deadline : ℕ) (v : DriveView) (b : Bool) → drive_at head past place ≡ Some v
      → IsRow head past (if b then identity_acts past place v.identity else unanswered_acts past place attempt deadline)
      → RecoverDoes head past (if b then identity_acts past place v.identity else unanswered_acts past place attempt deadline)
  heard_does place attempt deadline v true is row = Identifies (record { row = row; place = place; view = v; found = is; told = refl })
  heard_does place attempt deadline v false is row = DoesRow row (unheard_all is_modeless place attempt deadline refl refl refl)

  ident_does :
      (place attempt deadline : ℕ) (v : Option DriveView) → drive_at head past place ≡ v → IsRow head past (open_ident_acts head past place attempt deadline v)
      → RecoverDoes head past (open_ident_acts head past place attempt deadline v)
  ident_does place attempt deadline None is row = DoesRow row (unheard_all is_modeless place attempt deadline refl refl refl)
  ident_does place attempt deadline (Some v) is row = heard_does place attempt deadline v (slice_index_or (is_ident_answered head past) place false) is row

  by_frost : (frozen : Bool) (acts more : List Act) → RecoverDoes head past acts → RecoverDoes head past more → RecoverDoes head past (if frozen then acts else more)
  by_frost true acts more a b = a
  by_frost false acts more a b = b

  phase_does : (at : Phase) → phase_of (recovery head past) ≡ at → RecoverDoes head past (phase_acts head past at)
  phase_does Idle is = rests_does (idle_rests (recovery head past) is) (is_asked past) refl
  phase_does Logs is = logs_does is (log_owed head past) refl
  phase_does HostOwed is =
      let begun : Act = ResetBegun None 1 (deadline_of (clock past) (reset_wait_of 1)) in
      DoesRow (row_is HostOwed refl is (frozen_acts past ++ begun ∷ []) (all_append is_gate_row (frozen_acts past) (begun ∷ []) (all_if is_gate_row (is_frozen past) [] _ refl refl) refl))
      (all_append is_modeless (frozen_acts past) (begun ∷ []) (all_if is_modeless (is_frozen past) [] _ refl refl) refl)
  phase_does HostOpen is = DoesRow (row_is HostOpen refl is (phase_acts head past HostOpen) refl) refl
  phase_does (ResetOwed place attempt ident) is =
      DoesRow (row_is (ResetOwed place attempt ident) refl is (reset_acts head past place attempt) (rows place attempt)) (modeless place attempt)
  phase_does (ResetOpen place attempt ident deadline) is =
      let v : Option DriveView = drive_at head past place in
      DoesRow (row_is (ResetOpen place attempt ident deadline) refl is (phase_acts head past (ResetOpen place attempt ident deadline))
      (all_look is_gate_row head past place attempt v (look_of (clock past) deadline.n v) (record { ended = λ g. refl; none = refl; late = refl; failed = refl; disabled = refl; detached = refl; waiting = refl }) (λ d. refl)))
      (all_look is_modeless head past place attempt v (look_of (clock past) deadline.n v) (record { ended = λ g. refl; none = refl; late = refl; failed = refl; disabled = refl; detached = refl; waiting = refl }) (λ d. refl))
  phase_does (IdentOwed place attempt) is =
      let asked : List Act = IdentAsked place attempt (deadline_of (clock past) (ident_wait_of attempt)) ∷ [] in
      by_frost (is_frozen past) (reset_acts head past place 1) asked
      (DoesRow (row_is (IdentOwed place attempt) refl is (reset_acts head past place 1) (rows place 1)) (modeless place 1))
      (DoesRow (row_is (IdentOwed place attempt) refl is asked refl) refl)
  phase_does (IdentOpen place attempt deadline) is =
      let v : Option DriveView = drive_at head past place in
      by_frost (is_frozen past) (reset_acts head past place 1) (open_ident_acts head past place attempt deadline.n v)
      (DoesRow (row_is (IdentOpen place attempt deadline) refl is (reset_acts head past place 1) (rows place 1)) (modeless place 1))
      (ident_does place attempt deadline.n v refl
      (row_is (IdentOpen place attempt deadline) refl is (open_ident_acts head past place attempt deadline.n v)
      (all_open_ident is_gate_row head past place attempt deadline.n v (record { identified = λ i. refl; same = refl; attached = refl; detached = refl; disabled = refl; mode = λ u o d. refl; late = refl; waiting = refl }))))
  phase_does Through is = Ends (record { task = task_runs (recovery head past) Through refl is; told = refl })

  pub recover_does : RecoverDoes head past (recover_acts head past)
  recover_does =
      subst (RecoverDoes head past) (sym (recover_told head past)) (phase_does (phase head past) (sym (phase_is head past)))
