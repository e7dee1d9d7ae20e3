use Rattle.std.specs.Prelude.{◌+◌, ◌*◌, ◌≤◌, flat_map}
use Rattle.std.specs.List.{range_with_len}
use Rattle.port_telling.specs.Adds.{Adds}
use Rattle.port_rules.specs.Boot.{found_at}
use Rattle.port_steps.proofs.start.find_all.Given as goal

abbrev pub invariant-loop-at : goal.invariant-loop-at
invariant-loop-at l = record {
  adds : Adds l.initial.ledger l.ledger (flat_map (found_at l.initial.ledger.head) (range_with_len 0 l.at));
  spare : l.initial.ledger.room ≤ l.ledger.room + 3 * l.at;
}
