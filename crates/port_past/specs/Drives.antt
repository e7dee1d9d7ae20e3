use Rattle.std.specs.Prelude.{ℕ, List, [], ◌∷◌, map, Option, Some, None, slice_get, option_and_then}
use Rattle.ata_base.specs.declared.cmd.Cmd.{Cmd}
use Rattle.ata_base.specs.declared.issue_no.IssueNo.{IssueNo}
use Rattle.ata_script.specs.declared.drive_head.DriveHead.{DriveHead}
use Rattle.ata_script.specs.declared.port_head.PortHead.{PortHead}
use Rattle.ata_trace.specs.Event.{Event}
use Rattle.ata_trace.specs.Event.Event.{Told}
use Rattle.ata_trace.specs.declared.step.Step.{Step}
use Rattle.ata_trace.specs.declared.step.Step.TheVariants.{Inject}
use Rattle.ata_trace.specs.declared.act.Act.TheVariants.{Issued, Done, ResetBegun, IdentAsked, Unplugged, Injected}
use Rattle.drive_model.specs.Holding.{taken}
use Rattle.drive_model.specs.Inject.{injected}
use Rattle.drive_model.specs.Log.{after_asking}
use Rattle.drive_model.specs.FreshAndReset.{fresh, emptied, reset_at}
use Rattle.drive_model.specs.View.{DriveView}
use Rattle.drive_model.specs.Told.{with_done, log_read}
use Rattle.drive_model.specs.Work.{registers}
use Rattle.host_tags.specs.declared.in_flight.InFlight.{InFlight}
use Rattle.host_tags.specs.Slots.{lowest_free}
use Rattle.link_model.specs.LinkView.{LinkView}
use Rattle.port_past.specs.declared.log_of.LogOf.{LogOf}
use Rattle.port_past.specs.Clock.{clock}
use Rattle.port_past.specs.Commands.{commands, command_of}
use Rattle.port_past.specs.Links.{links, linked_at, plugged_at, worker}
use Rattle.port_past.specs.Logs.{log_in}
use Rattle.port_past.specs.Places.{changed_at_some}
use Rattle.port_past.specs.Slots.{slots, is_queued_frame}
use Rattle.port_past.specs.Steps.{last_step}

-- the drive at a command's place takes its issue
abbrev pub with_issue : Option Cmd → IssueNo → ℕ → List ℕ → List LinkView → List DriveView → List DriveView
with_issue None number tag fis cables was = was
with_issue (Some c) number tag fis cables was =
    changed_at_some (linked_at cables c.place) (taken number tag c.op (is_queued_frame fis)) was

-- the drive whose log was asked for
abbrev pub with_log_read : Option LogOf → Option ℕ → List LinkView → List DriveView → List DriveView
with_log_read None idle cables was = was
with_log_read (Some log) idle cables was = changed_at_some (linked_at cables log.place) (log_read idle log.told) was

-- the drive into which an inject step puts a fault
abbrev pub with_fault : Step → DriveView → DriveView
with_fault (Inject place fault) v = injected fault v
with_fault _ v = v

-- the linked drive takes issues, works, is asked for its log and its identity; the plugged one is reset, emptied
-- where it is unplugged, and given faults; of each other act only a reading of the log matters
abbrev pub drives_after : Event → Step → ℕ → List Cmd → List (Option InFlight) → List LinkView → List DriveView → List DriveView
drives_after (Told (Issued id number tag deadline fis)) step now accepted flights cables was =
    with_issue (command_of id accepted) number tag fis cables was
drives_after (Told (Done number status error lba count)) step now accepted flights cables was =
    changed_at_some (worker step cables) (with_done number.n (registers status error lba count)) was
drives_after (Told (ResetBegun (Some place) attempt deadline)) step now accepted flights cables was =
    changed_at_some (plugged_at cables place) (reset_at (record { n = now })) was
drives_after (Told (IdentAsked place attempt deadline)) step now accepted flights cables was =
    changed_at_some (linked_at cables place) after_asking was
drives_after (Told (Unplugged place)) step now accepted flights cables was =
    changed_at_some (plugged_at cables place) emptied was
drives_after (Told (Injected place)) step now accepted flights cables was =
    changed_at_some (plugged_at cables place) (with_fault step) was
drives_after (Told act) step now accepted flights cables was =
    with_log_read (log_in act) (lowest_free flights) cables was
drives_after _ step now accepted flights cables was = was

-- the drives of a port, by number, plugged or not
abbrev pub drives : PortHead → List Event → List DriveView
drives head [] = map (λ (d : DriveHead). fresh d.identity d.ready) head.drives
drives head (event ∷ past) =
    drives_after event (last_step past) (clock past) (commands past) (slots past) (links head past) (drives head past)

-- the drive that is linked at a place
abbrev pub drive_at : PortHead → List Event → ℕ → Option DriveView
drive_at head past place = option_and_then (slice_get (drives head past)) (linked_at (links head past) place)

-- the drive that is plugged at a place
abbrev pub plugged_drive : PortHead → List Event → ℕ → Option DriveView
plugged_drive head past place = option_and_then (slice_get (drives head past)) (plugged_at (links head past) place)
