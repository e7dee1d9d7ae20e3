use Rattle.port_rules.specs.Time.{expiry}
use Rattle.port_telling.specs.Walks.{ToldUpTo, alone, completions_in}
use Rattle.port_faults.proofs.timer.expire_due.Given as goal

abbrev pub invariant-loop-tag : goal.invariant-loop-tag
invariant-loop-tag l =
    ToldUpTo (alone (expiry l.fn.clock.n l.drained)) completions_in l.tag l.initial.ledger l.ledger
