use Rattle.port_core.proofs.Weaves.{in_turn_by}
use Rattle.port_core.proofs.laws.actors_in_turn.Goals as goal

pub returns : goal.returns
returns c = in_turn_by
