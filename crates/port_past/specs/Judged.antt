use Rattle.std.specs.Prelude.{ℕ, ◌==◌, ◌&&◌, not, List, [], ◌∷◌, Option, Some, None, slice_index_or, slice_set, if◌then◌else◌}
use Rattle.ata_base.specs.declared.err_mask.ErrMask.{ErrMask}
use Rattle.ata_base.specs.declared.regs.Regs.{Regs}
use Rattle.ata_trace.specs.Event.{Event}
use Rattle.ata_trace.specs.Event.Event.{Told}
use Rattle.ata_trace.specs.declared.act.Act.TheVariants.{Begun, Ended, Judged}
use Rattle.host_tags.specs.Numbers.{flight_of, tag_of}
use Rattle.host_tags.specs.declared.in_flight.InFlight.{InFlight}
use Rattle.eh_autopsy.specs.declared.failed_issue.FailedIssue.{FailedIssue}
use Rattle.port_past.specs.declared.judgement.Judgement.{Judgement}
use Rattle.drive_model.specs.declared.log_told.LogTold.{LogTold}
use Rattle.drive_model.specs.declared.log_told.LogTold.TheVariants.{Page}
use Rattle.port_past.specs.ByTag.{under_no_tag}
use Rattle.port_past.specs.Logs.{logs}
use Rattle.port_past.specs.Noted.{tferr_noted}
use Rattle.port_past.specs.Slots.{slots}

-- the registers of a failure that is this unqueued issue's
abbrev pub noted_registers : InFlight → Option FailedIssue → Option Regs
noted_registers f None = None
noted_registers f (Some failure) = if not f.queued && (failure.number.n == f.number.n) then Some failure.regs else None

-- the registers of a page that names this queued issue by its tag
abbrev pub log_registers : ℕ → InFlight → Option LogTold → Option Regs
log_registers tag f (Some (Page named regs)) = if f.queued && (named == tag) then Some regs else None
log_registers tag f _ = None

-- of two, the first that is there
abbrev pub first_there : {A : Type 0} → Option A → Option A → Option A
first_there None other = other
first_there (Some x) other = Some x

-- the registers that are analysed for an issue under a tag: those noted of an unqueued one, those that a log gives of
-- a queued one
abbrev pub analysed : List (Option FailedIssue) → List (Option LogTold) → ℕ → InFlight → Option Regs
analysed noted readings tag f =
    first_there (noted_registers f (slice_index_or noted f.place None)) (log_registers tag f (slice_index_or readings f.place None))

-- an issue is judged
abbrev pub with_judgement : ErrMask → List (Option FailedIssue) → List (Option LogTold) → Option ℕ → Option InFlight → List (Option Judgement) → List (Option Judgement)
with_judgement kinds noted readings (Some tag) (Some f) was =
    slice_set was tag (Some (record { kinds = kinds; regs = analysed noted readings tag f }))
with_judgement kinds noted readings _ _ was = was

-- each recovery judges anew, and its judgements go with its end
abbrev pub judged_after : Event → List (Option InFlight) → List (Option FailedIssue) → List (Option LogTold) → List (Option Judgement) → List (Option Judgement)
judged_after (Told Begun) flights noted readings was = under_no_tag
judged_after (Told Ended) flights noted readings was = under_no_tag
judged_after (Told (Judged number kinds)) flights noted readings was =
    with_judgement kinds noted readings (tag_of number.n flights) (flight_of number.n flights) was
judged_after _ flights noted readings was = was

-- what the autopsy of this recovery made of the issues in flight, by tag
abbrev pub judged : List Event → List (Option Judgement)
judged [] = under_no_tag
judged (event ∷ past) = judged_after event (slots past) (tferr_noted past) (logs past) (judged past)
