-- Marks as bits: 64 in each word, the lowest bit first.
use Rattle.std.specs.Prelude.{ℕ, ◌/◌, ◌%◌, Bool, List, map, nat_eq, slice_index}
use Rattle.std.specs.Int.{bit_at}
use Rattle.std.specs.List.{range_with_len}

-- the mark with this number
abbrev pub mark_of : List ℕ → ℕ → Bool
mark_of words k = nat_eq (bit_at (slice_index words (k / 64)) (k % 64)) 1

-- so many marks in order
abbrev pub marks_of : List ℕ → ℕ → List Bool
marks_of words count = map (mark_of words) (range_with_len 0 count)
