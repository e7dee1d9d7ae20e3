use Rattle.std.proofs.Math.Logic.{∥∥₁_elim}
use Rattle.ata_script.specs.ScriptText.{script_text}
use Rattle.ata_script.specs.Scripts.{script_said}
use Rattle.ata_script.proofs.TextsRead.{text_says, says_once}
use Rattle.ata_script.proofs.laws.reads_back.Goals as goal

pub returns : goal.returns
returns c = λ script. ∥∥₁_elim script.text (says_once (script_text script) (script_said script)) (λ of_text. text_says of_text.bytes (script_said script) of_text.says)
