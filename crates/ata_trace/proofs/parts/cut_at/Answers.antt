use Rattle.ata_trace.proofs.PartLemmas.{cut_some, cut_none}
use Rattle.ata_trace.proofs.parts.cut_at.Goals as goal

pub returns-in-Some : goal.returns-in-Some
returns-in-Some c = cut_some _ _ _ c.in-Some.ensures.value

pub returns-in-None : goal.returns-in-None
returns-in-None c = cut_none _ _ c.in-None.ensures.value
