use Rattle.std.specs.Prelude.{◌+◌, ◌≤◌}
use Rattle.port_telling.specs.Adds.{Adds}
use Rattle.port_recovery.specs.Findings.{judged_below, judgements, view_in}
use Rattle.port_recovery.proofs.judging.judge_all.Given as goal

abbrev pub invariant-loop-tag : goal.invariant-loop-tag
invariant-loop-tag l = record {
  adds : Adds l.initial.ledger l.ledger (judgements (judged_below (view_in l.initial.ledger l.fn.place) l.tag));
  spare : l.initial.ledger.room ≤ l.ledger.room + l.tag;
}
