use Rattle.std.proofs.Common.{arith}
use Rattle.port_faults.proofs.TimeLemmas.{none_expires}
use Rattle.port_faults.proofs.timer.expire_all.Goals as goal

pub returns-else-busy-ne0-clause-adds : goal.returns-else-busy-ne0-clause-adds
returns-else-busy-ne0-clause-adds c =
    none_expires c.args.clock.n _ c.args.drained c.args.ledger.now (rw c.slots.ensures.value at c.busy.ensures.bits)
    (omega (arith, c.if-busy-ne0.false))
