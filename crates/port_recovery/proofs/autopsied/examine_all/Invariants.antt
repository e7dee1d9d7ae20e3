use Rattle.port_recovery.specs.Places.{IsExaminedUpTo}
use Rattle.port_recovery.proofs.autopsied.examine_all.Given as goal

abbrev pub invariant-loop-at : goal.invariant-loop-at
invariant-loop-at l = IsExaminedUpTo l.at l.initial.ledger l.ledger
