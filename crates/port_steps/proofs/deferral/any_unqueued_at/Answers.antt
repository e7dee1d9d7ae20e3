use Rattle.std.proofs.Common.{arith}
use Rattle.port_steps.proofs.OutlineLemmas.{none_unqueued_at}
use Rattle.port_steps.proofs.deferral.any_unqueued_at.Goals as goal

pub returns-then-busy-queued : goal.returns-then-busy-queued
returns-then-busy-queued c =
    none_unqueued_at _ _ _ _ c.busy.ensures.bits c.queued.ensures.bits (omega (arith, c.if-busy-queued.true))
