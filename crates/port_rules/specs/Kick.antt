use Rattle.std.specs.Prelude.{ℕ, ◌+◌, Bool, true, false, ◌&&◌, List, [], ◌∷◌, Option, Some, None, map, option_map, is_none, slice_index_or, if◌then◌else◌}
use Rattle.ata_base.specs.Operations.{is_data}
use Rattle.ata_base.specs.declared.cmd.Cmd.{Cmd}
use Rattle.ata_base.specs.declared.deferral.Deferral.{Deferral}
use Rattle.ata_base.specs.declared.deferral.Deferral.TheVariants.{PortBusy}
use Rattle.ata_base.specs.declared.op.Op.{Op}
use Rattle.ata_script.specs.declared.port_head.PortHead.{PortHead}
use Rattle.ata_tf.specs.CommandCodes.{command_frame}
use Rattle.ata_trace.specs.Event.{Event}
use Rattle.ata_trace.specs.declared.act.Act.{Act}
use Rattle.ata_trace.specs.declared.act.Act.TheVariants.{Issued, Deferred, Exclusive, AnsweredNodev, Nothing}
use Rattle.host_defer.specs.Obstacles.{deferral_of}
use Rattle.host_defer.specs.declared.view.View.{View}
use Rattle.host_queue.specs.Waiting.{front_of}
use Rattle.host_tags.specs.declared.in_flight.InFlight.{InFlight}
use Rattle.ata_base.specs.Limits.{tag_count}
use Rattle.host_tags.specs.Slots.{free_below}
use Rattle.port_past.specs.Clock.{clock}
use Rattle.port_past.specs.Commands.{is_gone}
use Rattle.port_past.specs.Attachment.{detachments}
use Rattle.port_past.specs.Exclusive.{exclusive}
use Rattle.port_past.specs.PortState.{is_frozen, is_recovering}
use Rattle.port_past.specs.Issues.{issue_count}
use Rattle.port_past.specs.Identities.{depth_at}
use Rattle.port_past.specs.Modes.{ncq_on}
use Rattle.port_past.specs.Queues.{queues}
use Rattle.port_past.specs.Slots.{slots}
use Rattle.port_rules.specs.Told.{told_if}

-- whether a reason to defer is that another place has the port
abbrev pub is_for_port : Deferral → Bool
is_for_port PortBusy = true
is_for_port _ = false

-- a command is queued where it is a read or a write and NCQ is on at its place
abbrev pub is_queued : List Event → ℕ → Op → Bool
is_queued past place op = is_data op && slice_index_or (ncq_on past) place false

-- the place of an issue, and whether it is queued
abbrev pub place_and_queuing : InFlight → ℕ × Bool
place_and_queuing flight = (flight.place, flight.queued)

-- the place and the queuing of each issue in flight, by tag
abbrev pub outline : List (Option InFlight) → List (Option (ℕ × Bool))
outline flights = map (option_map place_and_queuing) flights

-- what a deferral goes by
abbrev pub view_of : PortHead → List Event → View
view_of head past = record {
  frozen = is_frozen past;
  recovering = is_recovering past;
  pmp = head.pmp;
  fbs = head.fbs;
  exclusive = exclusive past;
  slots = outline (slots past);
}

-- a queued command has a tag below the depth of its device, an unqueued one may have any
abbrev pub tag_limit : List Event → ℕ → Bool → ℕ
tag_limit past place queued = if queued then depth_at past place else tag_count

-- the tag that a frame names: a queued command's
abbrev pub tag_named : Bool → ℕ → Option ℕ
tag_named queued tag = if queued then Some tag else None

-- the port of a multiplier that a frame names: the place, and 0 on a direct port
abbrev pub frame_port : PortHead → ℕ → ℕ
frame_port head place = if head.pmp then place else 0

-- a command is issued under a tag, under the next number, due after its wait; where no tag is free the command was
-- deferred before, so None doesn't come
abbrev pub issued_acts : PortHead → List Event → Cmd → Bool → Option ℕ → List Act
issued_acts head past cmd queued None = Nothing ∷ []
issued_acts head past cmd queued (Some tag) =
    Issued cmd.id (record { n = issue_count past + 1 }) tag (record { n = clock past + cmd.wait.n })
    (command_frame cmd.op (tag_named queued tag) (frame_port head cmd.place))
    ∷ []

-- a command is deferred for a reason, and its place waits for the port where no other does; or else it is issued under
-- the lowest free tag
abbrev pub deferred_or_issued : PortHead → List Event → Cmd → Bool → Option Deferral → List Act
deferred_or_issued head past cmd queued (Some why) =
    Deferred cmd.id why
    ∷ told_if (is_for_port why && is_none (exclusive past)) (Exclusive cmd.place)
deferred_or_issued head past cmd queued None =
    issued_acts head past cmd queued (free_below (tag_limit past cmd.place queued) (slots past))

-- a command is deferred or issued
abbrev pub command_acts : PortHead → List Event → Cmd → Bool → List Act
command_acts head past cmd queued = deferred_or_issued head past cmd queued
    (deferral_of (view_of head past) cmd.place queued (depth_at past cmd.place))

-- the front command is answered where its device is gone, and else deferred or issued
abbrev pub front_acts : PortHead → List Event → Option Cmd → List Act
front_acts head past None = Nothing ∷ []
front_acts head past (Some cmd) =
    if is_gone cmd (detachments past) then AnsweredNodev cmd.id (record { n = 0 }) ∷ []
    else command_acts head past cmd (is_queued past cmd.place cmd.op)

-- the acts of a kick step: with an empty queue, nothing
abbrev pub kick_acts : PortHead → List Event → ℕ → List Act
kick_acts head past place = front_acts head past (front_of (queues past) place)
