use Rattle.port_core.proofs.Quiets.{NoneBefore}
use Rattle.port_ledger.specs.LedgerView.{past}
use Rattle.port_core.proofs.quiet.none_waits.Given as goal

abbrev pub invariant-loop-place : goal.invariant-loop-place
invariant-loop-place l = NoneBefore (past l.ledger) l.place
