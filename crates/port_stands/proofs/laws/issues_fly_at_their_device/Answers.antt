use Rattle.port_stands.proofs.All.{journal_current}
use Rattle.port_stands.proofs.Heads.{one_place}
use Rattle.port_stands.proofs.laws.issues_fly_at_their_device.Goals as goal

pub returns : goal.returns
returns c = λ head. journal_current head (one_place head)
