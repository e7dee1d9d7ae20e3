-- Lanes, as the lists that they are: sums of bytes that wrap, and masks.
use Rattle.std.proofs.Common.{◌≡◌, ℕ, suc, zero, ◌+◌, ◌-◌, ◌*◌, ◌/◌, ◌%◌, ◌^◌, ◌<◌, ◌≤◌, ◌==◌, eqb, leb, Bool, not, cond, List, [], ◌∷◌, ◌++◌, length, take, drop, map, replicate, refl, sym, ap, ◌∙◌, subst, arith, w8, w64, sum, bit_and}
use Rattle.std.specs.Prelude.{count_by, if◌then◌else◌}
use Rattle.std.specs.Int.{trailing_zeros}
use Rattle.std.specs.Int.RustNames.{count_ones}
use Rattle.std.specs.List.{prefix_len}
use Rattle.std.proofs.Math.Nat.{pow-succ'}
use Rattle.std.proofs.Math.Seq.{take-add}
use Rattle.std.proofs.lemmas.List.{take-append-drop, length-take-le, length-map, length-drop}
use Rattle.std.proofs.lemmas.List.Sums.{sum_by-append}
use Rattle.std.proofs.lemmas.Nat.Bits.{and_pow}
use Rattle.std.proofs.lemmas.Nat.{and_mask, div-mul-add, mod-mul-add, pow_below}
use Rattle.std.proofs.lemmas.Simd.{length-chunk, length-zip2, zip2_splat, zip2_splat_left, tops_compared, bitmask_splat, mask_l-lt, mask_l-mod, ones-mask_l, first_set_mask_l, map-map}
use lib.Lanes.{zip2, chunk, fold_l, mask_l, top}

abbrev pub added : ℕ → ℕ → ℕ
added a b = (a + b) % 256

sum_cons : (x : ℕ) (xs : List ℕ) → sum (x ∷ xs) ≡ 0 + x + sum xs
sum_cons x xs = sum_by-append (λ y. y) (x ∷ []) xs

-- adding lane by lane keeps the sum modulo 256
sum_added : (xs ys : List ℕ) → length xs ≡ length ys → sum (zip2 added xs ys) % 256 ≡ (sum xs + sum ys) % 256
sum_added [] [] same = refl
sum_added [] (y ∷ ys) same = absurd (omega (arith, same))
sum_added (x ∷ xs) [] same = absurd (omega (arith, same))
sum_added (x ∷ xs) (y ∷ ys) same =
    let rest = sum_added xs ys (omega (arith, same)) in
    let both = sum_cons (added x y) (zip2 added xs ys) in
    let left = sum_cons x xs in
    let right = sum_cons y ys in
    omega (arith, rest, both, left, right)

pub fold_added : (a : ℕ) (xs : List ℕ) → a < 256 → fold_l added a xs ≡ (a + sum xs) % 256
fold_added a [] small = omega (arith, small)
fold_added a (x ∷ xs) small =
    let rest = fold_added ((a + x) % 256) xs (omega arith) in
    let whole = sum_cons x xs in
    omega (arith, rest, whole)

-- the lanes of one chunk more
pub add_chunk : (lanes page v : List ℕ) (k : ℕ) → length page ≡ 512 → k < 8 → v ≡ chunk (64 * k) 64 page
    → (length lanes ≡ 64) × (sum lanes % 256 ≡ sum (take (64 * k) page) % 256)
    → (length (zip2 added lanes v) ≡ 64) × (sum (zip2 added lanes v) % 256 ≡ sum (take (64 * (k + 1)) page) % 256)
add_chunk lanes page v k whole few is so_far =
    let long : length v ≡ 64 = ap length is ∙ length-chunk (64 * k) 64 page (omega arith) in
    let next : 64 * (k + 1) ≡ 64 * k + 64 = omega arith in
    let grown : sum (take (64 * (k + 1)) page) ≡ sum (take (64 * k) page) + sum v =
    ap (λ n. sum (take n page)) next ∙ ap sum (take-add (64 * k) 64 page)
    ∙ sum_by-append (λ y. y) (take (64 * k) page) (chunk (64 * k) 64 page) ∙ ap (λ ys. sum (take (64 * k) page) + sum ys) (sym is) in
    let both = sum_added lanes v (so_far.0 ∙ sym long) in
    (length-zip2 added lanes v (so_far.0 ∙ sym long) ∙ so_far.0, omega (arith, so_far.1, grown, both))

swap : (a b : ℕ) → a * (2 * b) ≡ 2 * (a * b)
swap a b = grind arith

mask_l-append : (ms ns : List Bool) → mask_l (ms ++ ns) ≡ mask_l ns * 2 ^ length ms + mask_l ms
mask_l-append [] ns = omega arith
mask_l-append (m ∷ ms) ns =
    let rest = mask_l-append ms ns in
    let power : 2 ^ suc (length ms) ≡ 2 * 2 ^ length ms = pow-succ' 2 (length ms) in
    let double : mask_l ns * 2 ^ suc (length ms) ≡ 2 * (mask_l ns * 2 ^ length ms) =
    ap (λ n. mask_l ns * n) power ∙ swap (mask_l ns) (2 ^ length ms) in
    omega (arith, rest, double)

-- a mask without its lowest bits, and its lowest bits alone
mask_l-split : (ms : List Bool) (k : ℕ) → k ≤ length ms
    → (mask_l ms / 2 ^ k ≡ mask_l (drop k ms)) × (mask_l ms % 2 ^ k ≡ mask_l (take k ms))
mask_l-split ms k le =
    let size : length (take k ms) ≡ k = length-take-le k ms le in
    let low : mask_l (take k ms) < 2 ^ k = subst (λ n. mask_l (take k ms) < 2 ^ n) size (mask_l-lt (take k ms)) in
    let parts : mask_l ms ≡ mask_l (drop k ms) * 2 ^ k + mask_l (take k ms) =
    ap mask_l (sym (take-append-drop k ms)) ∙ mask_l-append (take k ms) (drop k ms)
    ∙ ap (λ n. mask_l (drop k ms) * 2 ^ n + mask_l (take k ms)) size in (
      ap (λ n. n / 2 ^ k) parts ∙ div-mul-add (mask_l (drop k ms)) (2 ^ k) (mask_l (take k ms)) low,
      ap (λ n. n % 2 ^ k) parts ∙ mod-mul-add (mask_l (drop k ms)) (2 ^ k) (mask_l (take k ms)) low,
    )

drop_map : {X : Type 0} (p : X → Bool) (k : ℕ) (xs : List X) → drop k (map p xs) ≡ map p (drop k xs)
drop_map p zero xs = refl
drop_map p (suc k) [] = refl
drop_map p (suc k) (x ∷ xs) = drop_map p k xs

take_map : {X : Type 0} (p : X → Bool) (k : ℕ) (xs : List X) → take k (map p xs) ≡ map p (take k xs)
take_map p zero xs = refl
take_map p (suc k) [] = refl
take_map p (suc k) (x ∷ xs) = ap (λ bs. p x ∷ bs) (take_map p k xs)

-- the ones of a mask that is cut at both ends
pub ones_between : (p : ℕ → Bool) (xs : List ℕ) (from n : ℕ) → from + n ≤ length xs
    → count_ones (bit_and (mask_l (map p xs) / 2 ^ from) (2 ^ n - 1)) ≡ count_by p (take n (drop from xs))
ones_between p xs from n room =
    let upper = (mask_l-split (map p xs) from (omega (arith, length-map xs p))).0 ∙ ap mask_l (drop_map p from xs) in
    let rest : n ≤ length (map p (drop from xs)) = omega (arith, length-map (drop from xs) p, length-drop from xs) in
    let lower = (mask_l-split (map p (drop from xs)) n rest).1 ∙ ap mask_l (take_map p n (drop from xs)) in
    ap count_ones (and_mask (mask_l (map p xs) / 2 ^ from) n ∙ ap (λ m. m % 2 ^ n) upper ∙ lower)
    ∙ ones-mask_l p (take n (drop from xs))

-- the mask of the places whose byte has, in some of its bits, this value
pub bits_are : (bits value : ℕ) (cats : List ℕ) → length cats ≡ 32
    → mask_l (map (top 7) (zip2 (λ a b. cond (eqb a b) 255 0) (zip2 bit_and cats (replicate 32 bits)) (replicate 32 value))) % 2 ^ 64
    ≡ mask_l (map (λ cat. eqb (bit_and cat bits) value) cats)
bits_are bits value cats long =
    let masked = zip2_splat bit_and cats 32 bits long in
    let size : length (zip2 bit_and cats (replicate 32 bits)) ≡ 32 = ap length masked ∙ length-map cats (λ cat. bit_and cat bits) ∙ long in
    bitmask_splat w8 eqb (zip2 bit_and cats (replicate 32 bits)) 32 value size (omega arith)
    ∙ ap (λ v. mask_l (map (λ x. eqb x value) v)) masked
    ∙ ap mask_l (map-map (λ x. eqb x value) (λ cat. bit_and cat bits) cats)

-- `1 << n` does not wrap
pub shifted_one : (n : ℕ) → n ≤ 32 → 1 * 2 ^ n % 2 ^ 64 - 1 ≡ 2 ^ n - 1
shifted_one n few = let below = pow_below n 64 (omega arith) in omega (arith, below)

-- the lowest bit of a mask that is set is the first place that passes
pub first_of_mask : (p : ℕ → Bool) (xs : List ℕ) (n m : ℕ) → length xs ≡ n → n ≤ 64 → m ≡ mask_l (map p xs)
    → (if m == 0 then n else trailing_zeros w64 m) ≡ prefix_len (λ x. not (p x)) xs
first_of_mask p xs n m long few is =
    ap (λ k. if k == 0 then n else trailing_zeros w64 k) is ∙ first_set_mask_l p xs n long few

not_four : (b : ℕ) → b < 2 → not (eqb (b * 4) 0) ≡ eqb b 1
not_four zero h = refl
not_four (suc zero) h = refl
not_four (suc (suc b)) h = absurd (omega (arith, h))

-- a byte without 4 in it isn't marked dubious
pub dubious_bit : (cat : ℕ) → not (eqb (bit_and cat 4) 0) ≡ (cat / 4 % 2 == 1)
dubious_bit cat = ap (λ n. not (eqb n 0)) (and_pow cat 2) ∙ not_four (cat / 4 % 2) (omega arith)

-- the mask of the places from `least` on
pub at_least : (least : ℕ) (xs : List ℕ) (n : ℕ) → length xs ≡ n → n ≤ 64
    → mask_l (map (top 7) (zip2 (λ a b. cond (leb a b) 255 0) (replicate n least) xs)) % 2 ^ 64 ≡ mask_l (map (leb least) xs)
at_least least xs n long few =
    ap (λ ms. mask_l ms % 2 ^ 64) (tops_compared w8 leb (replicate n least) xs ∙ zip2_splat_left leb least n xs long)
    ∙ mask_l-mod (map (leb least) xs) 64 (omega (arith, length-map xs (leb least), long))
