use Rattle.port_stands.proofs.Timely.{journal_due}
use Rattle.port_stands.proofs.Heads.{one_place}
use Rattle.port_stands.proofs.laws.deadlines_are_within_the_longest_wait.Goals as goal

pub returns : goal.returns
returns c = λ head. journal_due head (one_place head)
