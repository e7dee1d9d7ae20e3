use Rattle.std.specs.Prelude.{◌≡◌, ℕ, ◌<◌, ◌≤◌, true, List, All, Option, None, Some, length, slice_get, slice_index_or}
use Rattle.ata_base.specs.declared.fault.Fault.{Fault}
use Rattle.ata_base.specs.declared.fault.Fault.TheVariants.{Serr}
use Rattle.ata_trace.specs.declared.step.Step.{Step}
use Rattle.ata_trace.specs.declared.step.Step.TheVariants.{Inject}
use Rattle.drive_model.specs.Inject.{can_inject}
use Rattle.drive_model.specs.View.{DriveView, DriveWithSpare}

-- the drives of a port by number, and for how many more issues each has memory
pub record DriveListView : Type 0 where
  pub list : List DriveView
  pub room : ℕ

-- the drive without its spare
abbrev pub drive_of : DriveWithSpare → DriveView
drive_of d = d.drive

-- each has memory for so many issues
abbrev pub AreRoomy : ℕ → List DriveWithSpare → Type 0
AreRoomy room list = All (λ d. room ≤ d.spare) list

-- each is ready at most a minute after a reset
abbrev pub AreQuick : List DriveWithSpare → Type 0
AreQuick list = All (λ d. d.drive.ready.n ≤ 60000) list

-- the drive of a number
abbrev pub drive_in : List DriveView → Option ℕ → Option DriveView
drive_in views None = None
drive_in views (Some d) = slice_get views d

-- the fault that a step puts in
abbrev pub fault_put : Step → Option Fault
fault_put (Inject place fault) = Some fault
fault_put _ = None

-- a drive that is there can take a fault; a bit of SError isn't a drive's
abbrev pub TakesFault : Fault → Option DriveView → Type 0
TakesFault (Serr bit) v = Unit {0}
TakesFault fault None = Unit {0}
TakesFault fault (Some v) = can_inject fault v ≡ true

-- those before a number have memory for so many issues
pub record RoomyUpTo (room at : ℕ) (list : List DriveWithSpare) : Type 0 where
  pub each : (k : ℕ) (d : DriveWithSpare) → k < at → k < length list → room ≤ (slice_index_or list k d).spare
