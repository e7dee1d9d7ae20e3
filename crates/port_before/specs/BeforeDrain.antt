-- The rules of time before ports gave up waiting: an issue is due by its deadline alone.
use Rattle.std.specs.Prelude.{ℕ, Bool, false, not, ◌&&◌, nat_le, nat_lt, min, List, ◌++◌, Option, Some, None, filter, filter_map, position, if◌then◌else◌}
use Rattle.std.specs.List.{reduce}
use Rattle.std.specs.Option.{option_map_or}
use Rattle.ata_script.specs.declared.port_head.PortHead.{PortHead}
use Rattle.ata_trace.specs.Entries.{EntryView}
use Rattle.ata_trace.specs.Event.{Event}
use Rattle.ata_trace.specs.declared.act.Act.{Act}
use Rattle.ata_trace.specs.declared.act.Act.TheVariants.{Expired}
use Rattle.ata_trace.specs.declared.step.Step.{Step}
use Rattle.ata_trace.specs.declared.step.Step.TheVariants.{Expire, Recover}
use Rattle.ata_trace.specs.declared.who.Who.{Who}
use Rattle.eh_flow.specs.Table.{recovery_row}
use Rattle.eh_flow.specs.declared.observation.Observation.{Observation}
use Rattle.eh_flow.specs.declared.phase.Phase.{Phase}
use Rattle.host_tags.specs.declared.in_flight.InFlight.{InFlight}
use Rattle.host_timer.specs.Coming.{deadline_in}
use Rattle.port_past.specs.Clock.{clock}
use Rattle.port_past.specs.PortState.{is_asked}
use Rattle.port_past.specs.Slots.{slots}
use Rattle.port_rules.specs.Coming.{phase_times}
use Rattle.port_rules.specs.Legal.{legal_acts}
use Rattle.port_rules.specs.Observing.{observed}
use Rattle.port_rules.specs.Phase.{phase}
use Rattle.port_rules.specs.Recover.{some_row_acts}
use Rattle.port_rules.specs.Time.{with_request}
use Rattle.port_rules.specs.Told.{or_nothing}

-- ---- due

-- an issue is due where recovery doesn't own it and its deadline is at most the time
abbrev pub is_overdue : ℕ → InFlight → Bool
is_overdue now f = not f.owned && nat_le f.deadline.n now

-- whether the issue in a slot is neither owned nor due: its deadline is ahead
abbrev pub is_ahead : ℕ → Option InFlight → Bool
is_ahead now slot = option_map_or (λ f. not f.owned && not (nat_le f.deadline.n now)) slot false

-- ---- the timer

-- it tells once of an issue that is due
abbrev pub overdue_act : ℕ → Option InFlight → Option Act
overdue_act now None = None
overdue_act now (Some f) = if is_overdue now f && not f.expired then Some (Expired f.id f.number) else None

-- in tag order
abbrev pub overdue_acts : ℕ → List (Option InFlight) → List Act
overdue_acts now flights = filter_map (overdue_act now) flights

-- the acts of the timer: those, and recovery is asked for
abbrev pub expire_acts_before_drain : List Event → List Act
expire_acts_before_drain past = or_nothing (with_request (is_asked past) (overdue_acts (clock past) (slots past)))

-- ---- recovery

-- what a recovery sees: it waits for the least tag that is neither owned nor due
abbrev pub observed_before_drain : PortHead → List Event → Phase → Observation
observed_before_drain head past phase =
    record (observed head past phase) { waiting = position (is_ahead (clock past)) (slots past) }

-- the acts of a recover step: those of the row of its state
abbrev pub recover_acts_before_drain : PortHead → List Event → List Act
recover_acts_before_drain head past =
    some_row_acts head past (recovery_row (phase head past) (observed_before_drain head past (phase head past)))

-- ---- coming times

-- the least time above the present among the deadlines of the issues that aren't owned and the times of recovery
abbrev pub coming_before_drain : PortHead → List Event → Option ℕ
coming_before_drain head past = reduce min
    (filter (nat_lt (clock past)) (filter_map deadline_in (slots past) ++ phase_times head past (phase head past)))

-- ---- steps

-- the acts of a step: those of all others are as they are now
abbrev pub acts_before_drain : PortHead → List Event → Step → List Act
acts_before_drain head past Expire = expire_acts_before_drain past
acts_before_drain head past Recover = recover_acts_before_drain head past
acts_before_drain head past step = legal_acts head past step

-- the entry that a step made
abbrev pub entry_before_drain : PortHead → List Event → Who → ℕ → Step → EntryView
entry_before_drain head past who seq step =
    record { at = clock past; who = who; seq = seq; step = step; acts = acts_before_drain head past step }
