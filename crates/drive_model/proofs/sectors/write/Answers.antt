use Rattle.std.proofs.Common.{◌∙◌, arith}
use Rattle.drive_model.proofs.Written.{next_written, next_past}
use Rattle.drive_model.proofs.sectors.write.Goals as goal
use Rattle.drive_model.proofs.sectors.write.Goals.{then-at-len, else-at-len}

pub loop-step-preserved : goal.loop-step-preserved
loop-step-preserved c =
    elim c.if-at-len.branch [
      | then-at-len w ↦
          next_written c.args.lba c.loop-step.step c.saturating_add-at.result c.args.stamp c.args.stamps.now c.loop-step.stamps c.if-at-len.stamps c.loop-step.invariant
          (omega (arith, c.saturating_add-at.ensures, c.from.ensures, w.if-at-len.true, c.len.type_inv)) (w.stamps-is ∙ w.put.ensures)
      | else-at-len w ↦
          next_past c.args.lba c.loop-step.step c.args.stamp c.args.stamps.now c.loop-step.stamps c.if-at-len.stamps c.loop-step.invariant
          (omega (arith, w.if-at-len.false, c.len.ensures, c.saturating_add-at.ensures, c.from.ensures)) w.stamps-is
    ]
