use Rattle.std.proofs.Common.{◌≡◌, ◌+◌, ◌∷◌, length, take, map, reverse}
use Rattle.eh_ring.specs.Bytes.{category_byte, time_of}
use Rattle.eh_ring.proofs.ring.Ring.spread_with.Given as goal

abbrev pub invariant-loop-i : goal.invariant-loop-i
invariant-loop-i l =
    (length l.cats ≡ 32)
    × (length l.times ≡ 32)
    × (take (l.i + 1) l.cats ≡ category_byte l.e ∷ map category_byte (take l.i (reverse l.self)))
    × (take (l.i + 1) l.times ≡ time_of l.e ∷ map time_of (take l.i (reverse l.self)))
