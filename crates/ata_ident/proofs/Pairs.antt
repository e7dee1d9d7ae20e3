-- The steps of the loop that turns the pairs of a text round.
use Rattle.std.proofs.Common.{◌≡◌, ℕ, zero, suc, ◌+◌, ◌*◌, ◌<◌, ◌≤◌, List, [], ◌∷◌, ◌++◌, length, get_or, set, take, drop, refl, ap, arith}
use Rattle.std.specs.List.{swap}
use Rattle.std.proofs.lemmas.List.Edits.{swap_is}
use Rattle.ata_ident.specs.Text.{pairs_swapped}

-- what is left to turn round, behind what was turned: one pair more
one_pair : (xs : List ℕ) (n d : ℕ) → suc n < length xs
    → take (suc (suc n)) (set (set xs n (get_or xs (suc n) d)) (suc n) (get_or xs n d))
    ++ pairs_swapped (drop (suc (suc n)) (set (set xs n (get_or xs (suc n) d)) (suc n) (get_or xs n d)))
    ≡ take n xs ++ pairs_swapped (drop n xs)
one_pair [] n d h = absurd (omega arith)
one_pair (x ∷ []) zero d h = absurd (omega arith)
one_pair (x ∷ y ∷ xs) zero d h = refl
one_pair (x ∷ xs) (suc n) d h = ap (λ rest. x ∷ rest) (one_pair xs n d (omega arith))

pub pair_turned : (xs : List ℕ) (k : ℕ) → 2 * k + 1 < length xs
    → take (2 * (k + 1)) (swap xs (2 * k) (2 * k + 1)) ++ pairs_swapped (drop (2 * (k + 1)) (swap xs (2 * k) (2 * k + 1)))
    ≡ take (2 * k) xs ++ pairs_swapped (drop (2 * k) xs)
pair_turned xs k h =
    let e : 2 * k + 1 ≡ suc (2 * k) = omega arith in
    let f : 2 * (k + 1) ≡ suc (suc (2 * k)) = omega arith in
    let s : suc (2 * k) < length xs = omega arith in
    rw (e, f, ← swap_is xs (2 * k) (suc (2 * k)) 0 (omega arith) s) (one_pair xs (2 * k) 0 s)

-- at the end nothing is left but one byte at most
pub pairs_turned : (xs : List ℕ) (n : ℕ) → n ≤ length xs → length xs ≤ n + 1
    → take n xs ++ pairs_swapped (drop n xs) ≡ xs
pairs_turned [] zero h g = refl
pairs_turned [] (suc n) h g = refl
pairs_turned (x ∷ []) zero h g = refl
pairs_turned (x ∷ y ∷ xs) zero h g = absurd (omega arith)
pairs_turned (x ∷ xs) (suc n) h g = ap (λ rest. x ∷ rest) (pairs_turned xs n (omega arith) (omega arith))
