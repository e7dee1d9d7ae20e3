-- A drive by what is told of it is the drive by its model.
use Rattle.std.proofs.Common.{◌≡◌, ℕ, Option, None, Some, refl, ap}
use Rattle.ata_base.specs.declared.op.Op.{Op}
use Rattle.ata_base.specs.declared.op.Op.TheVariants.{Read, Write, Verify, Flush, Power}
use Rattle.drive_model.specs.declared.assigned.Failure.TheVariants.{Icrc, Abort, Df, BadStat, Idnf}
use Rattle.drive_model.specs.declared.cause.Cause.{Cause}
use Rattle.drive_model.specs.declared.cause.Cause.TheVariants.{Good, Failed, BadSector}
use Rattle.drive_model.specs.declared.held.Held.{Held}
use Rattle.drive_model.specs.declared.log_fault.LogFault.{LogFault}
use Rattle.drive_model.specs.declared.log_fault.LogFault.TheVariants.{Fail, Sum, NotQueued, Idle}
use Rattle.drive_model.specs.declared.queued_error.QueuedError.{QueuedError}
use Rattle.drive_model.specs.Log.{read_with, log_fault_of}
use Rattle.drive_model.specs.Told.{is_good_end, done_with, ended_with, log_read, reading_of}
use Rattle.drive_model.specs.View.{DriveView}
use Rattle.drive_model.specs.Work.{cause_of, registers_of, finished, is_good}

-- registers tell a good end exactly where the cause is good
pub told_good : (cause : Cause) (op : Op) → is_good_end (registers_of cause op).status (registers_of cause op).error (registers_of cause op).lba ≡ is_good cause
told_good (Failed Icrc) op = refl
told_good (Failed Abort) op = refl
told_good (Failed Idnf) op = refl
told_good (Failed Df) op = refl
told_good (Failed BadStat) op = refl
told_good (BadSector lba) op = refl
told_good Good (Read lba count) = refl
told_good Good (Write lba count stamp) = refl
told_good Good (Verify lba count) = refl
told_good Good Flush = refl
told_good Good Power = refl

-- what the drive's model makes of an issue is what its registers tell
pub finished_told : (h : Held) (v : DriveView) → ended_with (registers_of (cause_of h v.bad) h.op) (Some h) v ≡ finished h v
finished_told h v = ap (λ good. done_with good (registers_of (cause_of h v.bad) h.op) h v) (told_good (cause_of h v.bad) h.op)

-- what the drive's model makes of a reading is what the reading tells
pub reading_told :
    (idle : Option ℕ) (e : QueuedError) (v : DriveView) (fault : Option LogFault) → v.stopped ≡ Some e → log_fault_of v.counts idle ≡ fault
    → log_read idle (reading_of e fault) v ≡ read_with fault v
reading_told idle e v None stops is = rw (stops, is) refl
reading_told idle e v (Some Fail) stops is = rw (stops, is) refl
reading_told idle e v (Some Sum) stops is = rw (stops, is) refl
reading_told idle e v (Some NotQueued) stops is = rw (stops, is) refl
reading_told idle e v (Some (Idle tag)) stops is = rw (stops, is) refl
