use Rattle.ata_gen.proofs.ScriptsRight.{is_of_text}
use Rattle.ata_gen.proofs.script.script_of.Goals as goal

pub invariant_of-result : goal.invariant_of-result
invariant_of-result c = record { text = ∣ is_of_text c.args.n c.in_ok-head.head c.in_ok-steps.steps c.requires.most c.in_ok-head.ensures c.in_ok-steps.ensures ∣₁ }
