use Rattle.std.proofs.Common.{◌≡◌, ◌+◌, ◌≤◌, ◌++◌, drop, length}
use Rattle.port_past.specs.Tasks.{action_tasks}
use Rattle.port_ledger.proofs.task_list.TaskList.act_all.Given as goal

abbrev pub invariant-loop-at : goal.invariant-loop-at
invariant-loop-at l = record {
  tasks : l.self ++ action_tasks l.at (drop l.at l.actions) ≡ l.initial.self ++ action_tasks 0 l.actions;
  few : length l.self ≤ l.at + 1;
  actions : length l.actions ≡ 15;
}
