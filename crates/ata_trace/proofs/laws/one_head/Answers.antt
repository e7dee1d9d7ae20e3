use Rattle.ata_trace.proofs.StepsBack.{head_once}
use Rattle.ata_trace.proofs.laws.one_head.Goals as goal

pub returns : goal.returns
returns c = head_once
