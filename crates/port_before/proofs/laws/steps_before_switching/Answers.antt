use Rattle.port_before.proofs.Struck.{entry_switched}
use Rattle.port_before.proofs.laws.steps_before_switching.Goals as goal

pub returns : goal.returns
returns c = entry_switched
