use Rattle.port_core.proofs.Recoverable.{recoverable}
use Rattle.port_core.proofs.laws.legal_pasts_are_recoverable.Goals as goal

pub returns : goal.returns
returns c = recoverable
