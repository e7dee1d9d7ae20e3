use Rattle.port_stands.proofs.OnDrive.{journal_on_drive}
use Rattle.port_stands.proofs.Heads.{one_place}
use Rattle.port_stands.proofs.laws.reads_stay_on_their_drive.Goals as goal

pub returns : goal.returns
returns c = λ head. journal_on_drive head (one_place head)
