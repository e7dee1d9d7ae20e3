use Rattle.ata_gen.proofs.StepsMade.{IsMadeTo}
use Rattle.ata_gen.proofs.script.steps_of.Given as goal

abbrev pub invariant-loop-done : goal.invariant-loop-done
invariant-loop-done l = IsMadeTo l.n l.done l.number l.steps
