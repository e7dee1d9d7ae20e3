use Rattle.std.proofs.Common.{arith}
use Rattle.ata_trace.proofs.DigitCounts.{four_more, most_digits}
use Rattle.ata_trace.proofs.line.digit_count.Goals as goal

pub overflow_add-count : goal.overflow_add-count
overflow_add-count c = omega (arith, c.loop-left.invariant.0, c.loop-left.invariant.1)

pub loop-left-init : goal.loop-left-init
loop-left-init c = (omega arith, most_digits c.args.n c.ranges.n.fits)

pub loop-left-preserved : goal.loop-left-preserved
loop-left-preserved c =
    (omega (arith, c.loop-left.invariant.0, four_more c.loop-left.left c.loop-left-test.true c.loop-left.auto.left-fits.fits), c.loop-left.invariant.1)
