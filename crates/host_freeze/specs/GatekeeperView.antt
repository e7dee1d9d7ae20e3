-- What a gatekeeper knows of its port.
use Rattle.std.specs.Prelude.{Bool, true, false, ◌||◌}

-- frozen: no interrupt is served and no command issued; asked: recovery was asked for and hasn't begun since;
-- running: recovery has begun and hasn't ended
pub record GatekeeperView : Type 0 where
  pub frozen : Bool
  pub asked : Bool
  pub running : Bool

-- at first: nothing is frozen, asked for or running
abbrev pub first_gatekeeper : GatekeeperView
first_gatekeeper = record { frozen = false; asked = false; running = false }

-- recovery begins: it runs, and no asking is left over
abbrev pub begun : GatekeeperView → GatekeeperView
begun gatekeeper = record gatekeeper { asked = false; running = true }

-- recovery ends: it doesn't run; an asking that came meanwhile stands
abbrev pub ended : GatekeeperView → GatekeeperView
ended gatekeeper = record gatekeeper { running = false }

-- whether the port recovers: recovery is asked for or runs
abbrev pub is_recovering : GatekeeperView → Bool
is_recovering gatekeeper = gatekeeper.asked || gatekeeper.running
