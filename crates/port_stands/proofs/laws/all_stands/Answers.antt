use Rattle.port_stands.proofs.All.{journal_all}
use Rattle.port_stands.proofs.Heads.{one_place}
use Rattle.port_stands.proofs.laws.all_stands.Goals as goal

pub returns : goal.returns
returns c = λ head. journal_all head (one_place head)
