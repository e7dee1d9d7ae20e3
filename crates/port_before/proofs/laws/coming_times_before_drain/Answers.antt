use Rattle.port_before.proofs.Due.{coming_same}
use Rattle.port_before.proofs.laws.coming_times_before_drain.Goals as goal

pub returns : goal.returns
returns c = coming_same
