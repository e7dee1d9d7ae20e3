use Rattle.port_stands.proofs.Timely.{journal_timely}
use Rattle.port_stands.proofs.Heads.{one_place}
use Rattle.port_stands.proofs.laws.deadlines_are_near.Goals as goal

pub returns : goal.returns
returns c = λ head. journal_timely head (one_place head)
