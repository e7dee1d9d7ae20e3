use Rattle.std.specs.Prelude.{◌≡◌, ◌+◌, ◌≤◌, flat_map}
use Rattle.std.specs.List.{range_with_len}
use Rattle.port_telling.specs.Adds.{Adds}
use Rattle.port_telling.specs.Walks.{slots_in}
use Rattle.port_recovery.specs.Reading.{aborted_by}
use Rattle.port_recovery.proofs.log.abort_all.Given as goal

abbrev pub invariant-loop-tag : goal.invariant-loop-tag
invariant-loop-tag l = record {
  adds :
      Adds l.initial.ledger l.ledger
      (flat_map (aborted_by l.tags (slots_in l.initial.ledger)) (range_with_len 0 l.tag));
  slots : slots_in l.ledger ≡ slots_in l.initial.ledger;
  spare : l.initial.ledger.room ≤ l.ledger.room + l.tag;
}
