use Rattle.std.proofs.Common.{arith}
use Rattle.port_ledger.proofs.command_queues.CommandQueues.reserve.Goals as goal

pub invariant_of-self-in_err-reserve_each : goal.invariant_of-self-in_err-reserve_each
invariant_of-self-in_err-reserve_each c = (
  rw c.in_ok-reserve.ensures.items (c.in_err-reserve_each.ensures.kept _ c.self.invariant.0),
  rw c.in_err-reserve_each.ensures.lists c.self.invariant.1,
  rw c.in_ok-reserve.ensures.items c.self.invariant.2,
  omega (arith, c.in_ok-reserve.ensures.len, c.in_ok-reserve.ensures.capacity, c.self.invariant.3),
)
