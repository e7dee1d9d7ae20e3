use Rattle.std.proofs.Common.{◌≡◌, ◌<◌, drop, length}
use Rattle.host_tags.specs.Numbers.{IsFresh}
use Rattle.port_ledger.proofs.flights.find_issue.Given as goal

abbrev pub invariant-loop-at : goal.invariant-loop-at
invariant-loop-at l = (0 < l.at → length l.slots ≡ 32) × (IsFresh l.number.n (drop l.at l.slots) → IsFresh l.number.n l.slots)
