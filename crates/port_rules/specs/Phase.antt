use Rattle.std.specs.Prelude.{ℕ, ◌+◌, Bool, true, false, ◌||◌, nat_lt, List, [], ◌∷◌, Option, Some, None, unwrap_or, slice_index, slice_index_or, if◌then◌else◌}
use Rattle.ata_script.specs.declared.port_head.PortHead.{PortHead}
use Rattle.ata_trace.specs.Event.{Event}
use Rattle.eh_flow.specs.declared.phase.Phase.{Phase}
use Rattle.eh_flow.specs.declared.phase.Phase.TheVariants.{Idle, Logs, HostOwed, HostOpen, ResetOwed, ResetOpen, IdentOwed, IdentOpen, Through}
use Rattle.eh_reval.specs.IdentWaits.{ident_tries}
use Rattle.port_past.specs.declared.place_told.HostTold.{HostTold}
use Rattle.port_past.specs.declared.place_told.HostTold.TheVariants.{NotBegun as HostNotBegun, ResetBegun as ToldHostBegun, ResetEnded as ToldHostEnded}
use Rattle.port_past.specs.declared.place_told.PlaceTold.{PlaceTold}
use Rattle.port_past.specs.declared.place_told.PlaceTold.TheVariants.{NotBegun, ResetBegun as ToldResetBegun, ResetLate as ToldResetLate, ResetEnded as ToldResetEnded, ResetFailed as ToldResetFailed, IdentAsked as ToldIdentAsked, IdentLate as ToldIdentLate, Mode as ToldMode}
use Rattle.port_past.specs.declared.task.Task.{Task}
use Rattle.port_past.specs.declared.task.Task.TheVariants.{Host, Reset, Revalidate}
use Rattle.port_past.specs.Attachment.{attached}
use Rattle.port_past.specs.PortState.{is_running, is_autopsied}
use Rattle.port_past.specs.Hot.{was_hot}
use Rattle.port_past.specs.PlaceTold.{place_told, host_told, ident_lates}
use Rattle.port_past.specs.Tasks.{tasks}

-- the host's task by what was told last of it; where it is through, none
abbrev pub host_phase : HostTold → Option Phase
host_phase HostNotBegun = Some HostOwed
host_phase ToldHostBegun = Some HostOpen
host_phase ToldHostEnded = None

-- the task of a place by what was told last of it, none where it is through: what is first to do; whether its device is
-- to be identified; and how often its identity was late
abbrev pub place_phase : ℕ → Phase → Bool → ℕ → PlaceTold → Option Phase
place_phase place first wanted lates NotBegun = Some first
place_phase place first wanted lates (ToldResetBegun attempt deadline) = Some (ResetOpen place attempt (lates + 1) deadline)
place_phase place first wanted lates (ToldResetLate attempt) = Some (ResetOwed place (attempt + 1) (lates + 1))
place_phase place first wanted lates (ToldResetEnded true) = if wanted then Some (IdentOwed place (lates + 1)) else None
place_phase place first wanted lates (ToldResetEnded false) = None
place_phase place first wanted lates ToldResetFailed = None
place_phase place first wanted lates (ToldIdentAsked deadline) = Some (IdentOpen place (lates + 1) deadline)
place_phase place first wanted lates ToldIdentLate =
    if nat_lt lates ident_tries then Some (ResetOwed place 1 (lates + 1)) else None
place_phase place first wanted lates ToldMode = None

-- whether the device of a place is to be identified after a reset: it is attached or hot
abbrev pub is_wanted : List Event → ℕ → Bool
is_wanted past place = slice_index_or (attached past) place false || slice_index_or (was_hot past) place false

-- the phase of a place's task, none where it is through
abbrev pub phase_at : List Event → ℕ → Phase → Option Phase
phase_at past place first =
    place_phase place first (is_wanted past place) (slice_index (ident_lates past) place)
    (slice_index_or (place_told past) place NotBegun)

-- the phase of a task, none where it is through
abbrev pub task_phase : List Event → Task → Option Phase
task_phase past Host = host_phase (host_told past)
task_phase past (Reset place) = phase_at past place (ResetOwed place 1 1)
task_phase past (Revalidate place) = phase_at past place (IdentOwed place 1)

-- the phase of the first task that isn't through
abbrev pub first_phase : List Event → List Task → Phase
first_phase past [] = Through
first_phase past (task ∷ rest) = unwrap_or (task_phase past task) (first_phase past rest)

-- where recovery stands
abbrev pub phase : PortHead → List Event → Phase
phase head past =
    if is_running past then (if is_autopsied past then first_phase past (tasks head past) else Logs) else Idle
