use Rattle.std.proofs.Common.{rules}
use Rattle.host_core.proofs.TakenSteps.{replayed_none, replayed_more, replayed_all, turn_small}
use Rattle.host_core.proofs.hosted.hosted.Goals as goal

pub loop-taken-init : goal.loop-taken-init
loop-taken-init c = replayed_none _ _ _ _ c.in_ok-host.ensures c.new-turns.ensures

pub next-seq-requires : goal.next-seq-requires
next-seq-requires c there small = turn_small _ _ _ _ _ c.loop-taken.invariant.counts c.loop-taken-test.true (search rules) there small

pub loop-taken-preserved : goal.loop-taken-preserved
loop-taken-preserved c =
    replayed_more _ _ _ _ _ _ _ c.taken-item.result c.next-seq.result
    c.loop-taken.invariant c.loop-taken-test.true c.taken-item.is c.next-seq.ensures.port c.next-seq.ensures.actor
    c.next-seq.ensures.number c.next-seq.ensures.counted c.in_ok-take.ensures

pub returns : goal.returns
returns c = replayed_all _ _ _ _ _ c.loop-taken.invariant c.loop-taken-test.false
