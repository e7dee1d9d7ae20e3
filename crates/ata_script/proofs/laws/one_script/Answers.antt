use Rattle.std.proofs.Common.{sym, ◌∙◌}
use Rattle.ata_script.proofs.laws.one_script.Goals as goal

pub returns : goal.returns
returns c = λ bytes a b p q. p.is ∙ sym q.is
