-- What is issued: an issue in flight, its frame, and what a drive that is handed in makes of it.
use Rattle.std.proofs.Common.{inl, inr}
use Rattle.std.specs.Prelude.{◌≡◌, ℕ, ◌+◌, Bool, false, ◌⊎◌, List, Option, Some, None, if◌then◌else◌}
use Rattle.std.specs.Borrow.{MutBor}
use Rattle.ata_base.specs.declared.cmd.Cmd.{Cmd}
use Rattle.ata_base.specs.declared.err_mask.ErrMask.{ErrMask}
use Rattle.ata_base.specs.declared.issue_no.IssueNo.{IssueNo}
use Rattle.ata_base.specs.declared.op.Op.{Op}
use Rattle.ata_tf.specs.CommandCodes.{command_frame}
use Rattle.drive_model.specs.Holding.{taken}
use Rattle.drive_model.specs.View.{DriveWithSpare}
use Rattle.host_tags.specs.declared.in_flight.InFlight.{InFlight}

-- no kinds of error
abbrev pub no_kinds : ErrMask
no_kinds = record { 0 = 0 }

-- a command in flight as issue `number`, due after its wait, not told of by the timer and not owned
abbrev pub issue_of : Cmd → Bool → ℕ → IssueNo → InFlight
issue_of c queued now number = record {
  id = c.id;
  number = number;
  place = c.place;
  queued = queued;
  deadline = record { n = now + c.wait.n };
  expired = false;
  owned = false;
  kinds = no_kinds;
}

-- the tag that a frame names: a queued command's
abbrev pub tag_named : Bool → ℕ → Option ℕ
tag_named queued tag = if queued then Some tag else None

-- the frame that gives a command under a tag to its place, which is 0 on a direct port
abbrev pub frame_of : Cmd → Bool → ℕ → List ℕ
frame_of c queued tag = command_frame c.op (tag_named queued tag) c.place

-- a drive has taken an issue, for which it had memory
pub record Holds (number : IssueNo) (tag : ℕ) (op : Op) (queued : Bool) (before now : DriveWithSpare) : Type 0 where
  pub drive : now.drive ≡ taken number tag op queued before.drive
  pub spare : now.spare + 1 ≡ before.spare

-- a drive, where one is handed in, has become what this says of it
abbrev pub GoesOut : (DriveWithSpare → DriveWithSpare → Type 0) → Option (MutBor DriveWithSpare) → Unit {0} ⊎ ((MutBor DriveWithSpare × Unit {0}) ⊎ ⊥) → Type 0
GoesOut Becomes None left = Unit {0}
GoesOut Becomes (Some drive) (inr (inl left)) = Becomes drive.now left.0.now
GoesOut Becomes (Some drive) _ = ⊥
