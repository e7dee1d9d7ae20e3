-- Rings, of which one is changed.
use Rattle.std.proofs.Common.{◌≡◌, ℕ, ◌+◌, ◌-◌, List, [], ◌∷◌, ◌++◌, length, get_or, slice_set, arith, length-append}
use Rattle.std.proofs.lemmas.List.{drop-append-le}
use Rattle.circular_buffer.specs.Buffer.{keep_last}
use Rattle.eh_ring.specs.declared.entry.RingEntry.{RingEntry}
use Rattle.port_past.specs.Places.{changed_at}
use Rattle.eh_ring.specs.Marks.{with_entry}
use Rattle.port_past.specs.Rings.{no_entries}
use Rattle.port_ledger.proofs.ListLemmas.{changed_is}

pub changed_ring : (at : ℕ) (f : List RingEntry → List RingEntry) (xs : List (List RingEntry)) → changed_at at f xs ≡ slice_set xs at (f (get_or xs at no_entries))
changed_ring at f xs = changed_is at f xs no_entries

-- a ring keeps the last 32
pub keeps_last : (e : RingEntry) (ring : List RingEntry) → keep_last 32 (ring ++ e ∷ []) ≡ with_entry e ring
keeps_last e ring =
    let size : length (ring ++ e ∷ []) ≡ length ring + 1 = length-append ring (e ∷ []) in
    rw size (drop-append-le (length ring + 1 - 32) ring (e ∷ []) (omega arith))
