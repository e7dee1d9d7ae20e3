use Rattle.port_stands.proofs.Failing.{journal_failed}
use Rattle.port_stands.proofs.Heads.{one_place}
use Rattle.port_stands.proofs.laws.failed_issues_fly.Goals as goal

pub returns : goal.returns
returns c = λ head. journal_failed head (one_place head)
