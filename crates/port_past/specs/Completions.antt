use Rattle.std.specs.Prelude.{ℕ, Bool, List, [], ◌∷◌, Option, Some, None, slice_get, slice_set, if◌then◌else◌}
use Rattle.std.specs.Option.{option_map_or}
use Rattle.ata_script.specs.declared.port_head.PortHead.{PortHead}
use Rattle.ata_trace.specs.Event.{Event}
use Rattle.ata_trace.specs.Event.Event.{Told}
use Rattle.ata_trace.specs.declared.step.Step.{Step}
use Rattle.ata_trace.specs.declared.act.Act.TheVariants.{Issued, Done, ResetBegun}
use Rattle.drive_model.specs.Holding.{issue_of}
use Rattle.drive_model.specs.Sectors.{stamps_read}
use Rattle.drive_model.specs.Told.{is_good_end}
use Rattle.drive_model.specs.View.{DriveView}
use Rattle.drive_model.specs.Work.{registers}
use Rattle.host_tags.specs.Numbers.{is_issue}
use Rattle.host_tags.specs.declared.in_flight.InFlight.{InFlight}
use Rattle.link_model.specs.LinkView.{LinkView}
use Rattle.port_past.specs.declared.completion.Completion.{Completion}
use Rattle.port_past.specs.Answers.{left_issue}
use Rattle.port_past.specs.ByTag.{under_no_tag, set_where}
use Rattle.port_past.specs.Drives.{drives}
use Rattle.port_past.specs.Links.{links, worker}
use Rattle.port_past.specs.Slots.{slots}
use Rattle.host_tags.specs.Slots.{is_flight_at}
use Rattle.port_past.specs.Steps.{last_step}

-- the stamps that a drive gives when it completes an issue
abbrev pub stamps_of : ℕ → DriveView → List ℕ
stamps_of number v = option_map_or (λ h. stamps_read h.op v.stamps) (issue_of number v.held) []

-- the stamps that the drive that works gives
abbrev pub worker_stamps : ℕ → Option ℕ → List DriveView → List ℕ
worker_stamps number None views = []
worker_stamps number (Some d) views = option_map_or (stamps_of number) (slice_get views d) []

-- an issue is completed where its end is good
abbrev pub with_completion : ℕ → Bool → Completion → List (Option InFlight) → List (Option Completion) → List (Option Completion)
with_completion number good it flights was = if good then set_where (is_issue number) (Some it) flights was else was

-- the completion of an issue that has left goes, where one has
abbrev pub but_left : Option ℕ → List (Option InFlight) → List (Option Completion) → List (Option Completion)
but_left None flights was = was
but_left (Some number) flights was = set_where (is_issue number) None flights was

-- a good `done N` completes its issue; the completion goes with the issue, and with a reset of its place or of the host
abbrev pub completions_after : Event → Step → List (Option InFlight) → List LinkView → List DriveView → List (Option Completion) → List (Option Completion)
completions_after (Told (Done number status error lba count)) step flights cables views was =
    with_completion number.n (is_good_end status error lba)
    (record { regs = registers status error lba count; stamps = worker_stamps number.n (worker step cables) views })
    flights was
completions_after (Told (Issued id number tag deadline fis)) step flights cables views was = slice_set was tag None
completions_after (Told (ResetBegun (Some place) attempt deadline)) step flights cables views was =
    set_where (is_flight_at place) None flights was
completions_after (Told (ResetBegun None attempt deadline)) step flights cables views was = under_no_tag
completions_after (Told act) step flights cables views was = but_left (left_issue act) flights was
completions_after _ step flights cables views was = was

-- the good ends of the issues in flight, by tag: with one, the issue is completed (`done well`)
abbrev pub completions : PortHead → List Event → List (Option Completion)
completions head [] = under_no_tag
completions head (event ∷ past) =
    completions_after event (last_step past) (slots past) (links head past) (drives head past) (completions head past)
