-- What recovery has noted of a failure, and what it still has to reset.
use Rattle.std.specs.Prelude.{◌≡◌, ◌≢◌, ℕ, ◌==◌, ◌&&◌, Bool, true, false, is_some, List, [], ◌∷◌, Option, None, Some, slice_get, slice_index_or}
use Rattle.std.specs.List.{list_any}
use Rattle.ata_base.specs.declared.regs.Regs.{Regs}
use Rattle.ata_script.specs.declared.port_head.PortHead.{PortHead}
use Rattle.ata_trace.specs.Event.{Event}
use Rattle.drive_model.specs.View.{DriveView}
use Rattle.eh_flow.specs.declared.phase.Phase.{Phase}
use Rattle.eh_flow.specs.declared.phase.Phase.TheVariants.{ResetOwed}
use Rattle.host_tags.specs.Slots.{flight_at}
use Rattle.host_tags.specs.declared.in_flight.InFlight.{InFlight}
use Rattle.link_model.specs.LinkView.{LinkView}
use Rattle.port_past.specs.Causes.{tferr}
use Rattle.port_past.specs.Drives.{drives}
use Rattle.port_past.specs.PortState.{is_frozen}
use Rattle.port_past.specs.Links.{links, linked_at}
use Rattle.port_past.specs.Logs.{logs}
use Rattle.port_past.specs.Noted.{tferr_noted}
use Rattle.port_past.specs.Slots.{slots}
use Rattle.eh_autopsy.specs.declared.failed_issue.FailedIssue.{FailedIssue}
use Rattle.drive_model.specs.declared.log_told.LogTold.{LogTold}
use Rattle.drive_model.specs.declared.log_told.LogTold.TheVariants.{Page}
use Rattle.port_past.specs.declared.task.Task.{Task}
use Rattle.port_past.specs.declared.task.Task.TheVariants.{Reset, Revalidate}
use Rattle.ata_base.specs.Each.{Each}
use Rattle.port_stands.specs.Words.{RecoveryView, recovery, task_stand}

-- a drive that holds nothing and isn't stopped
pub record IsIdle (v : DriveView) : Type 0 where
  pub holds : v.held ≡ []
  pub stopped : v.stopped ≡ None

-- whether a phase owes a place a reset
abbrev pub owes_reset : ℕ → Option Phase → Bool
owes_reset place (Some (ResetOwed at attempt ident)) = at == place
owes_reset place phase = false

-- whether the recovery that runs is sure to reset a place
abbrev pub to_reset : RecoveryView → ℕ → Bool
to_reset s place = list_any (λ task. owes_reset place (task_stand s task)) s.tasks

-- two tasks aren't of one place
abbrev pub AreOther : Task → Task → Type 0
AreOther (Reset x) (Reset y) = x ≢ y
AreOther (Reset x) (Revalidate y) = x ≢ y
AreOther (Revalidate x) (Reset y) = x ≢ y
AreOther (Revalidate x) (Revalidate y) = x ≢ y
AreOther _ _ = Unit {0}

-- no two tasks are of one place
abbrev pub AreSingleTasks : List Task → Type 0
AreSingleTasks [] = Unit {0}
AreSingleTasks (task ∷ rest) = Each (AreOther task) rest × AreSingleTasks rest

-- what it is seen by
pub record HandlingView : Type 0 where
  pub recovery : RecoveryView
  pub frozen : Bool
  pub slots : List (Option InFlight)
  pub links : List LinkView
  pub drives : List DriveView
  pub failures : List (Option FailedIssue)
  pub noted : List (Option FailedIssue)
  pub logs : List (Option LogTold)

-- that of a port's past
abbrev pub handling : PortHead → List Event → HandlingView
handling head past = record {
  recovery = recovery head past;
  frozen = is_frozen past;
  slots = slots past;
  links = links head past;
  drives = drives head past;
  failures = tferr past;
  noted = tferr_noted past;
  logs = logs past;
}

-- before recovery runs and where the port isn't frozen: of a place with an owned issue a failure is noted, and its
-- drive holds nothing unless it is stopped. Before the autopsy and where the port isn't frozen: a drive that isn't
-- stopped holds nothing; of a stopped one's place a failure is noted, and no log told a page. After the autopsy: a
-- drive whose place isn't to be reset is idle, and nothing failed there. Before it and where the port isn't frozen, an
-- issue that failed and isn't served isn't owned. And no two tasks are of one place
pub record AreHandled (s : HandlingView) : Type 0 where
  pub noted : s.recovery.running ≡ false → s.frozen ≡ false → (tag : ℕ) (f : InFlight) → flight_at s.slots tag ≡ Some f → f.owned ≡ true
      → is_some (slice_index_or s.noted f.place None) ≡ true
  pub halted : s.recovery.running ≡ false → s.frozen ≡ false → (tag : ℕ) (f : InFlight) → flight_at s.slots tag ≡ Some f → f.owned ≡ true
      → (d : ℕ) (v : DriveView) → linked_at s.links f.place ≡ Some d → slice_get s.drives d ≡ Some v → v.stopped ≡ None → v.held ≡ []
  pub logs_halted : s.recovery.running ≡ true → s.recovery.autopsied ≡ false → s.frozen ≡ false
      → (x d : ℕ) (v : DriveView) → linked_at s.links x ≡ Some d → slice_get s.drives d ≡ Some v → v.stopped ≡ None → v.held ≡ []
  pub logs_noted : s.recovery.running ≡ true → s.recovery.autopsied ≡ false → s.frozen ≡ false
      → (x d : ℕ) (v : DriveView) → linked_at s.links x ≡ Some d → slice_get s.drives d ≡ Some v → v.stopped ≢ None
      → (is_some (slice_index_or s.noted x None) ≡ true) × ((tag : ℕ) (regs : Regs) → slice_index_or s.logs x None ≢ Some (Page tag regs))
  pub reset : s.recovery.running ≡ true → s.recovery.autopsied ≡ true
      → (x d : ℕ) (v : DriveView) → linked_at s.links x ≡ Some d → slice_get s.drives d ≡ Some v → to_reset s.recovery x ≡ false → IsIdle v
  pub cold : (s.recovery.running && s.recovery.autopsied) ≡ false → s.frozen ≡ false
      → (x : ℕ) (failure : FailedIssue) → slice_index_or s.failures x None ≡ Some failure
      → (tag : ℕ) (f : InFlight) → flight_at s.slots tag ≡ Some f → f.number.n ≡ failure.number.n → f.owned ≡ false
  pub struck : s.recovery.running ≡ true → s.recovery.autopsied ≡ true → (x : ℕ) → to_reset s.recovery x ≡ false → slice_index_or s.failures x None ≡ None
  pub single : AreSingleTasks s.recovery.tasks
