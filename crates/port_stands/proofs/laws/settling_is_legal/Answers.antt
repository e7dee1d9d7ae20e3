use Rattle.port_stands.proofs.Settled.{settling_is_legal}
use Rattle.port_stands.proofs.laws.settling_is_legal.Goals as goal

pub returns : goal.returns
returns c = settling_is_legal
