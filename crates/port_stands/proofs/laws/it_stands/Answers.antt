use Rattle.port_stands.proofs.Standing.{journal_stands}
use Rattle.port_stands.proofs.Heads.{one_place}
use Rattle.port_stands.proofs.laws.it_stands.Goals as goal

pub returns : goal.returns
returns c = λ head. journal_stands head (one_place head)
