use Rattle.port_rules.proofs.Settling.{settling_has_legal_acts}
use Rattle.port_calm.proofs.calm.settling_has_legal_acts.Goals as goal

pub returns : goal.returns
returns c = settling_has_legal_acts
