use Rattle.std.proofs.Common.{◌≡◌, ◌++◌, map, take, drop, length}
use Rattle.port_past.specs.Links.{serror_read}
use Rattle.port_ledger.proofs.links.clear_serror.Given as goal

abbrev pub invariant-loop-at : goal.invariant-loop-at
invariant-loop-at l = (length l.links ≡ 15) × (length l.initial.links ≡ 15) × (l.links ≡ map serror_read (take l.at l.initial.links) ++ drop l.at l.initial.links)
