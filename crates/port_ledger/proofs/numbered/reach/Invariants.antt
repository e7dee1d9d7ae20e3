use Rattle.std.proofs.Common.{◌≡◌, ◌+◌, ◌-◌, ◌≤◌, ◌++◌, length, replicate}
use Rattle.std.specs.Vec.{vec_capacity}
use Rattle.port_ledger.proofs.numbered.reach.Given as goal

abbrev pub invariant-loop-at : goal.invariant-loop-at
invariant-loop-at g l = record {
  items : l.table.items ≡ l.initial.table.items ++ replicate (l.at - length l.initial.table.items) l.value;
  few : l.at - length l.initial.table.items ≤ l.number + 1 - length l.initial.table.items;
  capacity : vec_capacity l.table ≡ vec_capacity l.initial.table;
}
