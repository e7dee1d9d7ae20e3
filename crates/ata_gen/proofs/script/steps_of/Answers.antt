use Rattle.ata_gen.proofs.StepsMade.{made_more}
use Rattle.ata_gen.proofs.script.steps_of.Goals as goal

pub loop-done-preserved : goal.loop-done-preserved
loop-done-preserved c =
    made_more c.args.n c.loop-done.done c.loop-done.number c.next_number-number.result c.loop-done.steps c.push_lines.new.steps c.loop-done.invariant
    c.next_number-number.ensures.value c.in_ok-push_lines.ensures
