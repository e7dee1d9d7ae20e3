use Rattle.std.specs.Prelude.{ℕ, ◌==◌, ◌&&◌, Bool, is_some, is_none, List, [], ◌∷◌, Option, Some, None, map, filter, flat_map, find, slice_index_or, if◌then◌else◌}
use Rattle.std.specs.List.{list_any, range_with_len}
use Rattle.ata_base.specs.declared.regs.Regs.{Regs}
use Rattle.ata_script.specs.declared.port_head.PortHead.{PortHead}
use Rattle.ata_trace.specs.Event.{Event}
use Rattle.ata_trace.specs.declared.act.Act.{Act}
use Rattle.ata_trace.specs.declared.act.Act.TheVariants.{Log, LogFailed, LogBadSum, LogNotQueued, Aborted}
use Rattle.drive_model.specs.Log.{log_fault_of}
use Rattle.drive_model.specs.View.{DriveView}
use Rattle.drive_model.specs.declared.held.Held.{Held}
use Rattle.drive_model.specs.declared.log_fault.LogFault.{LogFault}
use Rattle.drive_model.specs.declared.log_fault.LogFault.TheVariants.{Fail, Sum, NotQueued, Idle}
use Rattle.drive_model.specs.declared.queued_error.QueuedError.{QueuedError}
use Rattle.ata_base.specs.Limits.{tag_count}
use Rattle.host_tags.specs.Slots.{lowest_free, is_owned_queued_at}
use Rattle.host_tags.specs.declared.in_flight.InFlight.{InFlight}
use Rattle.eh_autopsy.specs.declared.failed_issue.FailedIssue.{FailedIssue}
use Rattle.drive_model.specs.declared.log_told.LogTold.{LogTold}
use Rattle.port_past.specs.PortState.{is_frozen}
use Rattle.port_past.specs.Logs.{logs}
use Rattle.port_past.specs.Noted.{tferr_noted}
use Rattle.port_past.specs.Slots.{slots}
use Rattle.port_past.specs.Heads.{places_of}
use Rattle.port_past.specs.Drives.{drive_at}

-- whether the log of a place is to be read: TFERR of it is noted, a queued issue of it is owned, and no reading of it
-- was told since recovery began
abbrev pub is_log_owed : List (Option FailedIssue) → List (Option LogTold) → List (Option InFlight) → ℕ → Bool
is_log_owed noted readings flights place =
    is_some (slice_index_or noted place None) && is_none (slice_index_or readings place None)
    && list_any (is_owned_queued_at place) flights

-- the least place whose log is to be read; of a frozen port none
abbrev pub log_owed : PortHead → List Event → Option ℕ
log_owed head past =
    if is_frozen past then None else find (is_log_owed (tferr_noted past) (logs past) (slots past)) (places_of head)

-- the issues that a drive held are aborted, in tag order
abbrev pub aborted_acts : List Held → List Act
aborted_acts holds =
    flat_map (λ tag. map (λ (h : Held). Aborted h.number) (filter (λ h. h.tag == tag) holds)) (range_with_len 0 tag_count)

-- a page that names a tag
abbrev pub page_act : ℕ → ℕ → Regs → Act
page_act place tag regs = Log place tag regs.status regs.error regs.lba regs.count

-- the acts of a reading that has a fault or none
abbrev pub log_read_acts : ℕ → List Held → QueuedError → Option LogFault → List Act
log_read_acts place holds e None = page_act place e.tag e.regs ∷ aborted_acts holds
log_read_acts place holds e (Some Fail) = LogFailed place ∷ []
log_read_acts place holds e (Some Sum) = LogBadSum place ∷ aborted_acts holds
log_read_acts place holds e (Some NotQueued) = LogNotQueued place ∷ aborted_acts holds
log_read_acts place holds e (Some (Idle tag)) = page_act place tag e.regs ∷ aborted_acts holds

-- the acts of the reading of a drive's log, by what stopped it
abbrev pub stopped_acts : ℕ → Option ℕ → DriveView → Option QueuedError → List Act
stopped_acts place idle v None = LogFailed place ∷ []
stopped_acts place idle v (Some e) = log_read_acts place v.held e (log_fault_of v.counts idle)

-- the acts of the reading of a place's log: it fails where no linked drive is there
abbrev pub drive_log_acts : ℕ → Option ℕ → Option DriveView → List Act
drive_log_acts place idle None = LogFailed place ∷ []
drive_log_acts place idle (Some v) = stopped_acts place idle v v.stopped

-- the acts of a log row
abbrev pub log_acts : PortHead → List Event → ℕ → List Act
log_acts head past place = drive_log_acts place (lowest_free (slots past)) (drive_at head past place)
