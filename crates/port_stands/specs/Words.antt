-- The words in which it is said what stands of a legal past between its entries.
use Rattle.std.specs.Prelude.{ℕ, ◌==◌, Bool, true, false, List, [], ◌∷◌, Option, None, Some, if◌then◌else◌, option_map, slice_index, slice_index_or, unwrap_or, ◌||◌}
use Rattle.ata_script.specs.declared.port_head.PortHead.{PortHead}
use Rattle.ata_trace.specs.Event.{Event}
use Rattle.ata_trace.specs.declared.act.Act.{Act}
use Rattle.ata_trace.specs.declared.act.Act.TheVariants.{Issued, AnsweredOk, AnsweredFailed, AnsweredNodev, Expired, Condemned, Retried}
use Rattle.eh_flow.specs.declared.phase.Phase.{Phase}
use Rattle.eh_flow.specs.declared.phase.Phase.TheVariants.{Idle, Logs, Through}
use Rattle.host_tags.specs.Marks.{condemned, expired}
use Rattle.host_tags.specs.Numbers.{is_issue}
use Rattle.host_tags.specs.declared.in_flight.InFlight.{InFlight}
use Rattle.port_past.specs.Answers.{left_issue}
use Rattle.port_past.specs.Attachment.{attached}
use Rattle.port_past.specs.PortState.{is_running, is_autopsied}
use Rattle.port_past.specs.Hot.{was_hot}
use Rattle.port_past.specs.PlaceTold.{place_told, host_told, ident_lates}
use Rattle.port_past.specs.Tasks.{tasks, actions}
use Rattle.ata_base.specs.declared.link_action.LinkAction.{LinkAction}
use Rattle.port_past.specs.declared.place_told.HostTold.{HostTold}
use Rattle.port_past.specs.declared.place_told.PlaceTold.{PlaceTold}
use Rattle.port_past.specs.declared.place_told.PlaceTold.TheVariants.{NotBegun}
use Rattle.port_past.specs.declared.task.Task.{Task}
use Rattle.port_past.specs.declared.task.Task.TheVariants.{Host, Reset, Revalidate}
use Rattle.eh_flow.specs.declared.phase.Phase.TheVariants.{ResetOwed, IdentOwed}
use Rattle.port_rules.specs.Phase.{host_phase, place_phase}

-- ---- one slot

-- the slot once an issue of a number has left, where it is that issue's
abbrev pub left_by : Option ℕ → Option InFlight → Option InFlight
left_by None slot = slot
left_by (Some number) slot = if is_issue number slot then None else slot

-- what an act that issues nothing makes of one slot
abbrev pub slot_after : Act → Option InFlight → Option InFlight
slot_after (Condemned number kinds) slot = if is_issue number.n slot then option_map (condemned kinds) slot else slot
slot_after (Expired id number) slot = if is_issue number.n slot then option_map expired slot else slot
slot_after act slot = left_by (left_issue act) slot

-- what acts that issue nothing make of one slot, one after the other
abbrev pub slot_onto : List Act → Option InFlight → Option InFlight
slot_onto [] slot = slot
slot_onto (act ∷ rest) slot = slot_onto rest (slot_after act slot)

-- ---- kinds of acts

-- an act that issues nothing
abbrev pub is_no_issue : Act → Bool
is_no_issue (Issued id number tag deadline fis) = false
is_no_issue act = true

-- an answer of a command
abbrev pub is_answer : Act → Bool
is_answer (AnsweredOk id number status error lba count stamps) = true
is_answer (AnsweredFailed id number kinds status error lba count) = true
is_answer (AnsweredNodev id number) = true
is_answer act = false

-- an act by which an issue leaves its slot, or is marked in it
abbrev pub is_slot_act : Act → Bool
is_slot_act (Condemned number kinds) = true
is_slot_act (Expired id number) = true
is_slot_act (Retried id number raised) = true
is_slot_act act = is_answer act

-- ---- where recovery stands

-- all that the phase of recovery is read from
pub record RecoveryView : Type 0 where
  pub running : Bool
  pub autopsied : Bool
  pub tasks : List Task
  pub attached : List Bool
  pub hot : List Bool
  pub lates : List ℕ
  pub seen : List PlaceTold
  pub host : HostTold
  pub actions : List (Option LinkAction)

-- that of a port's past
abbrev pub recovery : PortHead → List Event → RecoveryView
recovery head past = record {
  running = is_running past;
  autopsied = is_autopsied past;
  tasks = tasks head past;
  attached = attached past;
  hot = was_hot past;
  lates = ident_lates past;
  seen = place_told past;
  host = host_told past;
  actions = actions past;
}

-- the phase of a place's task, none where it is through
abbrev pub stand_at : RecoveryView → ℕ → Phase → Option Phase
stand_at s place first =
    place_phase place first (slice_index_or s.attached place false || slice_index_or s.hot place false)
    (slice_index s.lates place) (slice_index_or s.seen place NotBegun)

-- the phase of a task, none where it is through
abbrev pub task_stand : RecoveryView → Task → Option Phase
task_stand s Host = host_phase s.host
task_stand s (Reset place) = stand_at s place (ResetOwed place 1 1)
task_stand s (Revalidate place) = stand_at s place (IdentOwed place 1)

-- the phase of the first task that isn't through
abbrev pub walk : RecoveryView → List Task → Phase
walk s [] = Through
walk s (task ∷ rest) = unwrap_or (task_stand s task) (walk s rest)

-- the phase
abbrev pub phase_of : RecoveryView → Phase
phase_of s = if s.running then (if s.autopsied then walk s s.tasks else Logs) else Idle

-- whether all tasks are through
abbrev pub is_through : Phase → Bool
is_through Through = true
is_through phase = false

-- whether a task is of the place of a direct port
abbrev pub is_home : Task → Bool
is_home Host = true
is_home (Reset place) = place == 0
is_home (Revalidate place) = place == 0
