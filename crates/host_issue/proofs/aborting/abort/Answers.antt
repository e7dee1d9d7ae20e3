use Rattle.std.proofs.Common.{◌<◌, length, arith, length-set}
use Rattle.host_issue.proofs.AbortLemmas.{one_more}
use Rattle.host_issue.proofs.aborting.abort.Goals as goal

pub loop-number-preserved : goal.loop-number-preserved
loop-number-preserved c =
    let within : c.loop-number.number < length c.args.slots.now = omega (arith, c.loop-number.invariant.0) in
    let still : c.loop-number.number < length c.loop-number.slots = omega (arith, c.loop-number.invariant.1) in (
      c.loop-number.invariant.0,
      rw c.abort_at.ensures.slots (simp length-set c.loop-number.invariant.1),
      rw c.abort_at.ensures.slots (rw c.at.ensures (one_more c.args.place c.args.slots.now c.loop-number.slots c.loop-number.number within still c.loop-number.invariant.2)),
    )
