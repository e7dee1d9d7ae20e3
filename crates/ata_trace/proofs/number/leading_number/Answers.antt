use Rattle.std.proofs.Common.{arith}
use Rattle.ata_trace.proofs.NumberLemmas.{begun, going}
use Rattle.ata_trace.proofs.number.leading_number.Goals as goal

pub loop-at-init : goal.loop-at-init
loop-at-init c = begun c.args.text.now c.in-Some.first.now _ (c.in-Some.ensures.value) c.if-first-ge48.true c.if-first-le57.true (omega (arith, c.from-n.ensures))

pub loop-at-preserved : goal.loop-at-preserved
loop-at-preserved c =
    going c.args.text.now c.loop-at.at c.loop-at.n _ c.loop-at-test.true c.if-text-at-ge48.true c.if-text-at-le57.true (omega (arith, c.if-n-eq0.false)) (omega (arith, c.from.ensures)) (omega arith) c.loop-at.invariant.0
