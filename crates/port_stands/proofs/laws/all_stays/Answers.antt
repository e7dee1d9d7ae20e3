use Rattle.port_stands.proofs.All.{all_after}
use Rattle.port_stands.proofs.Heads.{one_place}
use Rattle.port_stands.proofs.laws.all_stays.Goals as goal

pub returns : goal.returns
returns c = λ head. all_after head (one_place head)
