use Rattle.std.proofs.Common.{◌≡◌, ◌+◌, ◌≤◌, ◌++◌, drop, length}
use Rattle.port_past.specs.Tasks.{reset_tasks}
use Rattle.port_ledger.proofs.task_list.TaskList.reset_all.Given as goal

abbrev pub invariant-loop-at : goal.invariant-loop-at
invariant-loop-at l = record {
  tasks : l.self ++ reset_tasks l.at (drop l.at l.attached) (drop l.at l.was_hot) ≡ l.initial.self ++ reset_tasks 0 l.attached l.was_hot;
  few : length l.self ≤ l.at + 1;
  attached : length l.attached ≡ 15;
  was_hot : length l.was_hot ≡ 15;
}
