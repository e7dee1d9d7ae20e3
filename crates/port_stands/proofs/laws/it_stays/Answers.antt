use Rattle.port_stands.proofs.Standing.{stays}
use Rattle.port_stands.proofs.Heads.{one_place}
use Rattle.port_stands.proofs.laws.it_stays.Goals as goal

pub returns : goal.returns
returns c = λ head. stays head (one_place head)
