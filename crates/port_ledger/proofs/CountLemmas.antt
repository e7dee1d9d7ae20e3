-- Counts, none of them above a number.
use Rattle.std.proofs.Common.{ℕ, ◌+◌, ◌<◌, ◌≤◌, ◌^◌, List, [], ◌∷◌, suc, zero, get_or, slice_set, replicate, arith}
use Rattle.port_ledger.specs.Parts.{AreAtMost}

counted_more : (place at : ℕ) (xs : List ℕ) → get_or (slice_set xs at (get_or xs at 0 + 1)) place 0 ≤ get_or xs place 0 + 1
counted_more place at [] = omega arith
counted_more zero zero (x ∷ xs) = omega arith
counted_more (suc place) zero (x ∷ xs) = omega arith
counted_more zero (suc at) (x ∷ xs) = omega arith
counted_more (suc place) (suc at) (x ∷ xs) = counted_more place at xs

-- one grows by one
pub more_at_most : (most at : ℕ) (xs : List ℕ) → AreAtMost most xs → AreAtMost (most + 1) (slice_set xs at (get_or xs at 0 + 1))
more_at_most most at xs up = record { each = λ place. omega (arith, counted_more place at xs, up.each place) }

-- none grows
pub still_at_most : (most : ℕ) (xs : List ℕ) → AreAtMost most xs → AreAtMost (most + 1) xs
still_at_most most xs up = record { each = λ place. omega (arith, up.each place) }

-- each can grow by one
pub can_grow : (most at : ℕ) (xs : List ℕ) → most + 1 < 2 ^ 64 → AreAtMost most xs → get_or xs at 0 + 1 < 2 ^ 64
can_grow most at xs room up = omega (arith, up.each at)

zeros_at : (n place : ℕ) → get_or (replicate n 0) place 0 ≤ 0
zeros_at zero place = omega arith
zeros_at (suc n) zero = omega arith
zeros_at (suc n) (suc place) = zeros_at n place

none_at : (most place : ℕ) → get_or (replicate 15 0) place 0 ≤ most
none_at most place = omega (arith, zeros_at 15 place)

-- none has grown
pub none_at_most : (most : ℕ) → AreAtMost most (replicate 15 0)
none_at_most most = record { each = λ place. none_at most place }

zero_at : (place at : ℕ) (xs : List ℕ) → get_or (slice_set xs at 0) place 0 ≤ get_or xs place 0
zero_at place at [] = omega arith
zero_at zero zero (x ∷ xs) = omega arith
zero_at (suc place) zero (x ∷ xs) = omega arith
zero_at zero (suc at) (x ∷ xs) = omega arith
zero_at (suc place) (suc at) (x ∷ xs) = zero_at place at xs

-- one begins anew
pub zero_at_most : (most at : ℕ) (xs : List ℕ) → AreAtMost most xs → AreAtMost (most + 1) (slice_set xs at 0)
zero_at_most most at xs up = record { each = λ place. omega (arith, zero_at place at xs, up.each place) }
