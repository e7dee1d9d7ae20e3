use Rattle.std.proofs.Common.{◌≡◌, drop}
use Rattle.port_ledger.specs.LedgerView.{past}
use Rattle.port_past.specs.Tasks.{tasks}
use Rattle.port_rules.specs.Phase.{first_phase}
use Rattle.port_recovery.proofs.standing.first_phase.Given as goal

abbrev pub invariant-loop-task : goal.invariant-loop-task
invariant-loop-task l =
    first_phase (past l.ledger) (drop l.task-index l.tasks)
    ≡ first_phase (past l.ledger) (tasks l.ledger.head (past l.ledger))
