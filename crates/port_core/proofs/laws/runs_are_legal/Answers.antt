use Rattle.port_core.proofs.Growing.{runs_are_legal}
use Rattle.port_core.proofs.laws.runs_are_legal.Goals as goal

pub returns : goal.returns
returns c = runs_are_legal
