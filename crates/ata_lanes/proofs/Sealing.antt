-- The last byte of a page.
use Rattle.std.proofs.Common.{◌≡◌, ℕ, suc, zero, ◌+◌, ◌-◌, ◌%◌, List, [], ◌∷◌, ◌++◌, length, take, set, get_or, refl, sym, ap, ◌∙◌, zero-add, arith, sum}
use Rattle.std.proofs.Math.Seq.{take-length}
use Rattle.std.proofs.lemmas.List.{take_more}
use Rattle.std.proofs.lemmas.List.Sums.{sum_by-append}
use Rattle.ata_lanes.specs.Sum.{byte_sum, sealed}

-- sealed bytes have the sum 0
pub byte_sum-sealed : (xs : List ℕ) → byte_sum (sealed xs) ≡ 0
byte_sum-sealed xs =
    let check : ℕ = (256 - byte_sum xs) % 256 in
    let whole : sum (xs ++ check ∷ []) ≡ sum xs + (0 + check) = sum_by-append (λ x. x) xs (check ∷ []) in
    omega arith

-- the last of so many bytes is replaced
pub set_last : (xs : List ℕ) (n v : ℕ) → length xs ≡ suc n → set xs n v ≡ take n xs ++ v ∷ []
set_last [] n v size = absurd (omega (arith, size))
set_last (x ∷ []) zero v size = refl
set_last (x ∷ y ∷ xs) zero v size = absurd (omega (arith, size))
set_last (x ∷ xs) (suc n) v size = ap (λ ys. x ∷ ys) (set_last xs n v (omega (arith, size)))

-- the whole sum is that of the bytes before the last, and the last
pub sum_last : (xs : List ℕ) → length xs ≡ 512 → sum xs ≡ sum (take 511 xs) + get_or xs 511 0
sum_last xs size =
    let all : take (511 + 1) xs ≡ xs = ap (λ n. take n xs) (sym size) ∙ take-length xs in
    let more = take_more xs 511 0 (omega (arith, size)) in
    let parts = sum_by-append (λ x. x) (take 511 xs) (get_or xs 511 0 ∷ []) in
    ap sum (sym all ∙ more) ∙ parts ∙ ap (λ n. sum (take 511 xs) + n) (zero-add (get_or xs 511 0))
