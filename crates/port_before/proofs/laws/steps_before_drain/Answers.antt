use Rattle.port_before.proofs.Undrained.{entry_undrained}
use Rattle.port_before.proofs.laws.steps_before_drain.Goals as goal

pub returns : goal.returns
returns c = entry_undrained
