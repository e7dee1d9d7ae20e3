use Rattle.std.specs.Prelude.{ℕ, nat_lt, min, List, [], ◌∷◌, ◌++◌, Option, Some, None, filter, option_map, option_to_list, if◌then◌else◌}
use Rattle.std.specs.List.{reduce}
use Rattle.ata_script.specs.declared.port_head.PortHead.{PortHead}
use Rattle.ata_trace.specs.Event.{Event}
use Rattle.drive_model.specs.View.{DriveView}
use Rattle.eh_flow.specs.declared.phase.Phase.{Phase}
use Rattle.eh_flow.specs.declared.phase.Phase.TheVariants.{ResetOpen, IdentOpen}
use Rattle.host_timer.specs.Coming.{waited_times}
use Rattle.port_past.specs.Clock.{clock}
use Rattle.port_past.specs.Drain.{quiet_since}
use Rattle.port_past.specs.Slots.{slots}
use Rattle.port_rules.specs.Phase.{phase}
use Rattle.port_rules.specs.Time.{waits_for_drain}
use Rattle.port_past.specs.Drives.{drive_at}

-- the time at which a drive is ready
abbrev pub ready_time : Option DriveView → List ℕ
ready_time v = option_to_list (option_map (λ d. d.ready_at.n) v)

-- the times at which an open reset or identity may go on
abbrev pub phase_times : PortHead → List Event → Phase → List ℕ
phase_times head past (ResetOpen place attempt ident deadline) = deadline.n ∷ ready_time (drive_at head past place)
phase_times head past (IdentOpen place attempt deadline) = deadline.n ∷ []
phase_times head past _ = []

-- since when a port is quiet that waits and may give up; none where it doesn't
abbrev pub waits_since : PortHead → List Event → Option ℕ
waits_since head past = if waits_for_drain head past then Some (quiet_since past) else None

-- all the times for which a port may wait: the deadlines of unowned issues, the time at which it gives up, and those of
-- recovery
abbrev pub awaited_times : PortHead → List Event → List ℕ
awaited_times head past = waited_times (waits_since head past) (slots past) ++ phase_times head past (phase head past)

-- the time to which a settling port ticks: the least awaited time above the present
abbrev pub coming : PortHead → List Event → Option ℕ
coming head past = reduce min (filter (nat_lt (clock past)) (awaited_times head past))
