use Rattle.std.proofs.Common.{arith}
use Rattle.port_faults.proofs.TimeLemmas.{none_due}
use Rattle.port_faults.proofs.timer.expire_busy.Goals as goal

pub returns-else-tags-ne0-clause-adds : goal.returns-else-tags-ne0-clause-adds
returns-else-tags-ne0-clause-adds c =
    none_due c.args.clock.n c.due-tags.result c.args.drained c.args.ledger.now (rw c.slots.ensures.value at c.due-tags.ensures.bits)
    (omega (arith, c.if-tags-ne0.false))
