-- What boot tells of one place more.
use Rattle.std.proofs.Common.{ℕ, ◌+◌, subst}
use Rattle.std.specs.List.{flat_map, range_with_len}
use Rattle.port_ledger.specs.LedgerView.{LedgerView}
use Rattle.port_telling.proofs.AddLemmas.{adds_more, adds_same, one_more}
use Rattle.port_telling.specs.Adds.{Adds}
use Rattle.port_rules.specs.Boot.{found_at}

pub found_next :
    {first mid after : LedgerView} (n : ℕ) → Adds first mid (flat_map (found_at first.head) (range_with_len 0 n))
    → Adds mid after (found_at mid.head n) → Adds first after (flat_map (found_at first.head) (range_with_len 0 (n + 1)))
found_next {first = first} {mid = mid} {after = after} n before more =
    adds_same (one_more (found_at first.head) n)
    (adds_more before (subst (λ head. Adds mid after (found_at head n)) before.head more))
