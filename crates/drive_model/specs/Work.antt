-- How a drive ends an issue (ACS-3, Normal outputs and Error outputs).
use Rattle.std.specs.Prelude.{ℕ, Bool, true, false, List, [], Option, Some, None, if◌then◌else◌}
use Rattle.ata_base.specs.declared.op.Op.{Op}
use Rattle.ata_base.specs.declared.op.Op.TheVariants.{Read, Verify, Power}
use Rattle.ata_base.specs.declared.regs.Regs.{Regs}
use Rattle.drive_model.specs.declared.act.DriveAct.{DriveAct}
use Rattle.drive_model.specs.declared.act.DriveAct.TheVariants.{Idle, Finished}
use Rattle.drive_model.specs.declared.assigned.Assigned.{Assigned}
use Rattle.drive_model.specs.declared.assigned.Assigned.TheVariants.{Fails}
use Rattle.drive_model.specs.declared.assigned.Failure.TheVariants.{Icrc, Abort, Df, BadStat, Idnf}
use Rattle.drive_model.specs.declared.cause.Cause.{Cause}
use Rattle.drive_model.specs.declared.cause.Cause.TheVariants.{Failed, BadSector, Good}
use Rattle.drive_model.specs.declared.held.Held.{Held}
use Rattle.drive_model.specs.Sectors.{stamps_read, least_bad}
use Rattle.drive_model.specs.Told.{done_with}
use Rattle.drive_model.specs.View.{DriveView}

-- No part of the rules of a port, but words of the code: finished, worked.

-- a command over these sectors ends at the least bad one, where there is one
abbrev pub ending_at : Option ℕ → Cause
ending_at None = Good
ending_at (Some lba) = BadSector lba

-- a read and a verify need good sectors
abbrev pub cause_of_medium : Op → List Bool → Cause
cause_of_medium (Read lba count) bad = ending_at (least_bad lba count bad)
cause_of_medium (Verify lba count) bad = ending_at (least_bad lba count bad)
cause_of_medium _ bad = Good

-- the first cause that fits: the failure that was assigned, then a bad sector; a hung issue is never worked on
abbrev pub cause_from : Assigned → Op → List Bool → Cause
cause_from (Fails failure) op bad = Failed failure
cause_from _ op bad = cause_of_medium op bad

-- the cause with which a drive with these bad sectors ends an issue
abbrev pub cause_of : Held → List Bool → Cause
cause_of h bad = cause_from h.assigned h.op bad

-- whether an issue ends well
abbrev pub is_good : Cause → Bool
is_good Good = true
is_good _ = false

-- the registers of an end with this status, error, lba and count; bit 6 of device says LBA
abbrev pub registers : ℕ → ℕ → ℕ → ℕ → Regs
registers status error lba count = record { status = status; error = error; lba = lba; device = 0x40; count = count }

-- the registers of a good end: DRDY alone; the count of CHECK POWER MODE is 255, "active or idle"
abbrev pub good_registers : Op → Regs
good_registers Power = registers 0x40 0 0 255
good_registers _ = registers 0x40 0 0 0

-- the registers with which an operation ends for a cause
abbrev pub registers_of : Cause → Op → Regs
registers_of (Failed Icrc) op = registers 0x41 0x84 0 0
registers_of (Failed Abort) op = registers 0x41 0x04 0 0
registers_of (Failed Idnf) op = registers 0x41 0x10 0 0
registers_of (Failed Df) op = registers 0x60 0 0 0
registers_of (Failed BadStat) op = registers 0x80 0 0 0
registers_of (BadSector lba) op = registers 0x41 0x40 lba 0
registers_of Good op = good_registers op

-- a good read gives the stamps as they then are
abbrev pub stamps_given : Cause → Op → List ℕ → List ℕ
stamps_given cause op stamps = if is_good cause then stamps_read op stamps else []

-- a drive once it has ended an issue: a good write has stored its stamp, a queued one that isn't good stops the drive
abbrev pub finished : Held → DriveView → DriveView
finished h v = done_with (is_good (cause_of h v.bad)) (registers_of (cause_of h v.bad) h.op) h v

-- a drive once it has worked: on an issue, or on nothing
abbrev pub worked : Option Held → DriveView → DriveView
worked None v = v
worked (Some h) v = finished h v

-- what a drive's work tells
abbrev pub act_of : Option Held → DriveView → DriveAct
act_of None v = Idle
act_of (Some h) v = Finished h.number h.tag h.queued (registers_of (cause_of h v.bad) h.op) (stamps_given (cause_of h v.bad) h.op v.stamps)
