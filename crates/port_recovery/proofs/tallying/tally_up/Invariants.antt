use Rattle.port_recovery.specs.Findings.{judged_below, view_in}
use Rattle.port_recovery.specs.Tallies.{IsTally}
use Rattle.port_recovery.proofs.tallying.tally_up.Given as goal

abbrev pub invariant-loop-tag : goal.invariant-loop-tag
invariant-loop-tag l = IsTally (view_in l.fn.ledger l.fn.place) (judged_below (view_in l.fn.ledger l.fn.place) l.tag) l.all
