use Rattle.std.proofs.Common.{◌≡◌, ◌+◌, length}
use Rattle.std.specs.Vec.{vec_capacity}
use Rattle.port_past.specs.Queues.{with_retried}
use Rattle.port_ledger.specs.QueueParts.{AllServe, EachServes, HasRoom}
use Rattle.port_ledger.proofs.command_queues.give_back.Given as goal

abbrev pub invariant-loop-at : goal.invariant-loop-at
invariant-loop-at l = record {
  lists : with_retried l.retried.items l.queues.lists ≡ with_retried l.initial.retried.items l.initial.queues.lists;
  count : length l.retried.items + l.at ≡ length l.initial.retried.items;
  room : HasRoom (l.room + length l.retried.items) l.queues.spares;
  waiting : EachServes l.queues.lists;
  served : AllServe l.retried.items;
  capacity : vec_capacity l.retried ≡ vec_capacity l.initial.retried;
}
