-- A port at which issues may begin.
use Rattle.std.specs.Prelude.{◌≡◌, false, List}
use Rattle.ata_trace.specs.Event.{Event}
use Rattle.port_past.specs.PortState.{is_frozen, is_recovering}

-- a port that is neither frozen nor recovering
pub record IsOpen (past : List Event) : Type 0 where
  pub thawed : is_frozen past ≡ false
  pub settled : is_recovering past ≡ false
