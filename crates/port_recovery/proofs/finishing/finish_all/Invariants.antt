use Rattle.port_telling.specs.Walks.{ToldUpTo, slots_in}
use Rattle.port_recovery.specs.FinishByTag.{as_kept, finishes_in}
use Rattle.port_recovery.specs.Recoverable.{AreOneEach}
use Rattle.port_recovery.proofs.finishing.finish_all.Given as goal

abbrev pub invariant-loop-tag : goal.invariant-loop-tag
invariant-loop-tag l = record {
  told : ToldUpTo as_kept finishes_in l.tag l.initial.ledger l.ledger;
  single : AreOneEach (slots_in l.ledger);
}
