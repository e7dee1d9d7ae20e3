-- A port at which actors alone take steps.
use Rattle.port_core.specs.PortView.{PortView}
use Rattle.port_rules.specs.Legal.{IsLegal}
use Rattle.port_threads.specs.Moves.{AreOfActors}

-- its journal is legal, and each entry behind the boot entry is an actor's
pub record IsOfDesk (port : PortView) : Type 0 where
  pub legal : IsLegal port.head port.entries
  pub actors : AreOfActors port.entries
