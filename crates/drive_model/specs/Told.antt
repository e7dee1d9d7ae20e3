-- A drive by what is told of it: the registers with which it has ended an issue, and what a reading of its log says.
use Rattle.std.specs.Prelude.{ℕ, ◌==◌, Bool, not, ◌&&◌, [], Option, Some, None, is_some, if◌then◌else◌}
use Rattle.ata_base.specs.declared.regs.Regs.{Regs}
use Rattle.drive_model.specs.declared.counts.Counts.{Counts}
use Rattle.drive_model.specs.declared.held.Held.{Held}
use Rattle.drive_model.specs.declared.log_fault.LogFault.{LogFault}
use Rattle.drive_model.specs.declared.log_fault.LogFault.TheVariants.{Fail, Sum, NotQueued, Idle}
use Rattle.drive_model.specs.declared.log_told.LogTold.{LogTold}
use Rattle.drive_model.specs.declared.log_told.LogTold.TheVariants.{Page, BadPage, NoPage}
use Rattle.drive_model.specs.declared.queued_error.QueuedError.{QueuedError}
use Rattle.drive_model.specs.Holding.{issue_of, without_issue}
use Rattle.drive_model.specs.Log.{log_fault_of, log_lowered}
use Rattle.drive_model.specs.Sectors.{stored, healed}
use Rattle.drive_model.specs.View.{DriveView}

-- whether registers tell a good end: status DRDY alone, no error, lba 0 (ACS-3, "Normal outputs")
abbrev pub is_good_end : ℕ → ℕ → ℕ → Bool
is_good_end status error lba = (status == 0x40) && (error == 0) && (lba == 0)

-- what stops a drive: the end of a queued issue that isn't good
abbrev pub stopped_by : Held → Regs → Bool → Option QueuedError → Option QueuedError
stopped_by h regs good was = if h.queued && not good then Some (record { tag = h.tag; regs = regs }) else was

-- a drive once it has ended an issue, well or not, with these registers: the issue isn't held any more, and a good write
-- has stored its stamp and made its sectors good
abbrev pub done_with : Bool → Regs → Held → DriveView → DriveView
done_with good regs h v = record v {
  stamps = if good then stored h.op v.stamps else v.stamps;
  bad = if good then healed h.op v.bad else v.bad;
  held = without_issue h.number.n v.held;
  stopped = stopped_by h regs good v.stopped;
}

-- a drive once it has ended the issue that it held with these registers; where it held none, nothing changes
abbrev pub ended_with : Regs → Option Held → DriveView → DriveView
ended_with regs None v = v
ended_with regs (Some h) v = done_with (is_good_end regs.status regs.error regs.lba) regs h v

-- a drive once it has ended the issue of this number with these registers
abbrev pub with_done : ℕ → Regs → DriveView → DriveView
with_done number regs v = ended_with regs (issue_of number v.held) v

-- the counts of a drive once its log was asked for: where it is stopped, the count of the reading's fault falls
abbrev pub counts_asked : Option ℕ → DriveView → Counts
counts_asked idle v = if is_some v.stopped then log_lowered (log_fault_of v.counts idle) v.counts else v.counts

-- a drive once its log was read: where there was a page, good or bad, nothing is held and nothing stops it any more
abbrev pub log_read : Option ℕ → LogTold → DriveView → DriveView
log_read idle NoPage v = record v { counts = counts_asked idle v }
log_read idle _ v = record v { counts = counts_asked idle v; held = []; stopped = None }

-- what a reading tells, by the error that stopped the drive and the fault of the reading
abbrev pub reading_of : QueuedError → Option LogFault → LogTold
reading_of e None = Page e.tag e.regs
reading_of e (Some Fail) = NoPage
reading_of e (Some Sum) = BadPage
reading_of e (Some NotQueued) = BadPage
reading_of e (Some (Idle tag)) = Page tag e.regs
