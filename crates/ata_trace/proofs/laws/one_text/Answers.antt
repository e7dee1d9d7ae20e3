use Rattle.ata_trace.proofs.TextsBack.{text_once}
use Rattle.ata_trace.proofs.laws.one_text.Goals as goal

pub returns : goal.returns
returns c = text_once
