use Rattle.ata_script.proofs.Rules.{says}
use Rattle.ata_script.proofs.laws.words_are_said.Goals as goal

pub returns : goal.returns
returns c = says
