use Rattle.ata_trace.proofs.LinesBack.{line_once}
use Rattle.ata_trace.proofs.laws.one_act.Goals as goal

pub returns : goal.returns
returns c = line_once
