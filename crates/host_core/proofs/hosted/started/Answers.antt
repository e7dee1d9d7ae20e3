use Rattle.std.proofs.Common.{[]}
use Rattle.host_core.proofs.TakenSteps.{host_more}
use Rattle.host_core.proofs.hosted.started.Goals as goal

pub loop-number-preserved : goal.loop-number-preserved
loop-number-preserved c =
    rw c.in_ok-push.ensures.ok
    (host_more c.args.heads.now c.loop-number.number c.index-heads-number.result [] c.loop-number.host c.in_ok-port.port
    c.loop-number-test.true c.index-heads-number.is c.loop-number.invariant c.in_ok-port.ensures.head c.in_ok-port.ensures.entries)
