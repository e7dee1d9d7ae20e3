use Rattle.port_stands.proofs.Silence.{journal_silent}
use Rattle.port_stands.proofs.Heads.{one_place}
use Rattle.port_stands.proofs.laws.answered_issues_are_silent.Goals as goal

pub returns : goal.returns
returns c = λ head. journal_silent head (one_place head)
