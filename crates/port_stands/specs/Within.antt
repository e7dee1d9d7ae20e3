-- What is told of a place is told of one that the port has.
use Rattle.std.specs.Prelude.{◌≡◌, ℕ, ◌<◌, true, false, List, Some, None, slice_index_or}
use Rattle.ata_script.specs.declared.port_head.PortHead.{PortHead}
use Rattle.ata_trace.specs.Event.{Event}
use Rattle.ata_base.specs.declared.link_action.LinkAction.{LinkAction}
use Rattle.port_past.specs.Commands.{commands}
use Rattle.port_past.specs.Attachment.{attached}
use Rattle.port_past.specs.Hot.{was_hot}
use Rattle.port_past.specs.Tasks.{tasks, actions}
use Rattle.port_past.specs.declared.task.Task.{Task}
use Rattle.port_past.specs.declared.task.Task.TheVariants.{Host, Reset, Revalidate}
use Rattle.ata_base.specs.Each.{Each}

-- a task of a port with so many places
abbrev pub IsTaskOf : ℕ → Task → Type 0
IsTaskOf places Host = Unit {0}
IsTaskOf places (Reset place) = place < places
IsTaskOf places (Revalidate place) = place < places

-- a device is attached, a place is hot, something is to be done and a task stands only at places of the port, and the
-- accepted commands are for such
pub record IsWithin (head : PortHead) (past : List Event) : Type 0 where
  pub attached : (place : ℕ) → slice_index_or (attached past) place false ≡ true → place < head.places
  pub hot : (place : ℕ) → slice_index_or (was_hot past) place false ≡ true → place < head.places
  pub actions : (place : ℕ) (chosen : LinkAction) → slice_index_or (actions past) place None ≡ Some chosen → place < head.places
  pub tasks : Each (IsTaskOf head.places) (tasks head past)
  pub commands : Each (λ c. c.place < head.places) (commands past)
