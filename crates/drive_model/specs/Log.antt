-- The error log and the identity that a drive is asked for (ACS-3, NCQ Command Error log; IDENTIFY DEVICE).
use Rattle.std.specs.Prelude.{ℕ, ◌+◌, ◌-◌, ◌%◌, ◌==◌, Bool, nat_lt, List, [], Option, Some, None, slice_index, slice_set, if◌then◌else◌}
use Rattle.ata_ident.specs.Build.{identity_page}
use Rattle.ata_log.specs.Page.{log_page}
use Rattle.drive_model.specs.declared.counts.Counts.{Counts}
use Rattle.drive_model.specs.declared.log_fault.LogFault.{LogFault}
use Rattle.drive_model.specs.declared.log_fault.LogFault.TheVariants.{Fail, Sum, NotQueued, Idle}
use Rattle.drive_model.specs.declared.queued_error.QueuedError.{QueuedError}
use Rattle.drive_model.specs.View.{DriveView}

-- No part of the rules of a port, but words of the code: with_wrong_sum, page_with, log_said, read_with, after_log,
-- identity_said.

-- a count of logidle that isn't 0 applies where a tag isn't in flight
abbrev pub idle_fault : ℕ → Option ℕ → Option LogFault
idle_fault count None = None
idle_fault count (Some tag) = if nat_lt 0 count then Some (Idle tag) else None

-- the fault of the next reading of the log: the first of logfail, logsum, lognq and logidle that applies
abbrev pub log_fault_of : Counts → Option ℕ → Option LogFault
log_fault_of c idle =
    if nat_lt 0 c.log_fail then Some Fail
    else if nat_lt 0 c.log_sum then Some Sum
    else if nat_lt 0 c.log_nq then Some NotQueued
    else idle_fault c.log_idle idle

-- the count of a fault that a reading had falls by 1
abbrev pub log_lowered : Option LogFault → Counts → Counts
log_lowered None c = c
log_lowered (Some Fail) c = record c { log_fail = c.log_fail - 1 }
log_lowered (Some Sum) c = record c { log_sum = c.log_sum - 1 }
log_lowered (Some NotQueued) c = record c { log_nq = c.log_nq - 1 }
log_lowered (Some (Idle tag)) c = record c { log_idle = c.log_idle - 1 }

-- a page whose byte 511 is one more
abbrev pub with_wrong_sum : List ℕ → List ℕ
with_wrong_sum page = slice_set page 511 ((slice_index page 511 + 1) % 256)

-- the page that says of a queued error with a fault of the log: its tag and registers; a wrong sum; NQ set, bit 7 of
-- byte 0; another tag. There is none where the log can't be read
abbrev pub page_with : Option LogFault → QueuedError → Option (List ℕ)
page_with None e = Some (log_page e.tag e.regs)
page_with (Some Fail) e = None
page_with (Some Sum) e = Some (with_wrong_sum (log_page e.tag e.regs))
page_with (Some NotQueued) e = Some (log_page (e.tag + 128) e.regs)
page_with (Some (Idle tag)) e = Some (log_page tag e.regs)

-- the page that the log says, with the least tag that isn't in flight; there is none where the drive isn't stopped
abbrev pub log_said : Option QueuedError → Counts → Option ℕ → Option (List ℕ)
log_said None c idle = None
log_said (Some e) c idle = page_with (log_fault_of c idle) e

-- a stopped drive once its log was read: the fault's count falls, and with a page nothing is held and nothing stops it
abbrev pub read_with : Option LogFault → DriveView → DriveView
read_with (Some Fail) v = record v { counts = log_lowered (Some Fail) v.counts }
read_with fault v = record v { counts = log_lowered fault v.counts; held = []; stopped = None }

-- a drive once its log was asked for, which changes nothing where it isn't stopped
abbrev pub after_log : Option QueuedError → Option ℕ → DriveView → DriveView
after_log None idle v = v
after_log (Some e) idle v = read_with (log_fault_of v.counts idle) v

-- whether a drive answers when it is asked who it is: no fault of that asking is to come
abbrev pub answers_asking : DriveView → Bool
answers_asking v = v.counts.ident_fail == 0

-- the page in which a drive tells who it is; none where a fault of that asking is to come
abbrev pub identity_said : DriveView → Option (List ℕ)
identity_said v = if answers_asking v then Some (identity_page v.identity) else None

-- a drive once it was asked who it is: a count that isn't 0 falls by 1
abbrev pub after_asking : DriveView → DriveView
after_asking v = record v { counts = record v.counts { ident_fail = v.counts.ident_fail - 1 } }
