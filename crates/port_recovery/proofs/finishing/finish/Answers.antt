use Rattle.port_telling.proofs.AddLemmas.{adds_act, adds_more}
use Rattle.port_recovery.proofs.finishing.finish.Goals as goal

pub returns : goal.returns
returns c = adds_more c.finish_all.ensures.adds (adds_act c.note.ensures)
