use Rattle.std.specs.Prelude.{ℕ, ◌&&◌, Bool, false, is_some, Option, position, option_and_then, slice_index_or, List}
use Rattle.std.specs.Option.{option_map_or}
use Rattle.ata_base.specs.declared.ms.Ms.{Ms}
use Rattle.ata_script.specs.declared.port_head.PortHead.{PortHead}
use Rattle.ata_trace.specs.Event.{Event}
use Rattle.drive_model.specs.View.{DriveView}
use Rattle.eh_flow.specs.Laws.{place_of as place_of_phase}
use Rattle.eh_flow.specs.declared.observation.Observation.{Observation}
use Rattle.eh_flow.specs.declared.phase.Phase.{Phase}
use Rattle.port_past.specs.Clock.{clock}
use Rattle.port_past.specs.Drain.{is_drained}
use Rattle.port_past.specs.Drives.{drive_at}
use Rattle.port_past.specs.IdentAnswers.{is_ident_answered}
use Rattle.port_past.specs.PortState.{is_frozen, is_asked}
use Rattle.port_past.specs.Slots.{slots}
use Rattle.port_rules.specs.Begin.{is_awaited}
use Rattle.port_rules.specs.Logs.{log_owed}

-- the drive that is linked at a place, if it is one
abbrev pub drive_at_some : PortHead → List Event → Option ℕ → Option DriveView
drive_at_some head past place = option_and_then (drive_at head past) place

-- when a drive is ready
abbrev pub ready_of : Option DriveView → Ms
ready_of v = option_map_or (λ d. d.ready_at) v (record { n = 0 })

-- whether the linked drive of a place, if it is one, has answered who it is
abbrev pub has_answered : PortHead → List Event → Option ℕ → Bool
has_answered head past place =
    is_some (drive_at_some head past place)
    && option_map_or (λ x. slice_index_or (is_ident_answered head past) x false) place false

-- what a recovery sees of its port: the time; whether it is asked for; the least tag that is neither owned nor due; the
-- least place whose log is to be read; whether the port is frozen; and of the place of the phase whether a drive is
-- linked, when it is ready, and whether it has answered who it is
abbrev pub observed : PortHead → List Event → Phase → Observation
observed head past phase = record {
  time = record { n = clock past };
  asked = is_asked past;
  waiting = position (is_awaited (clock past) (is_drained past)) (slots past);
  log = log_owed head past;
  frozen = is_frozen past;
  linked = is_some (drive_at_some head past (place_of_phase phase));
  ready = ready_of (drive_at_some head past (place_of_phase phase));
  answered = has_answered head past (place_of_phase phase);
}
