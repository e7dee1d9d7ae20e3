-- Sectors written one after the other, and read one after the other.
use Rattle.std.proofs.Common.{◌≡◌, ◌∙◌, ℕ, ◌+◌, ◌<◌, ◌≤◌, List, [], ◌∷◌, ◌++◌, suc, zero, length, get_or, take, drop, replicate, slice_set, refl, sym, ap, arith, add-one}
use Rattle.std.proofs.lemmas.List.{set_past, length-set, get_or-take, get_or-drop, get_or_past, length-take, length-append, length-replicate, take_more, take_all}
use Rattle.drive_model.specs.Sectors.{written, found}

-- nothing is written
pub written_none : {A : Type 0} (lba : ℕ) (v : A) (xs : List A) → written lba 0 v xs ≡ xs
written_none zero v [] = refl
written_none zero v (x ∷ xs) = refl
written_none (suc lba) v [] = refl
written_none (suc lba) v (x ∷ xs) = ap (λ ys. x ∷ ys) (written_none lba v xs)

from_zero : {A : Type 0} (k : ℕ) (v : A) (xs : List A) → written 0 (suc k) v xs ≡ slice_set (written 0 k v xs) k v
from_zero zero v [] = refl
from_zero (suc k) v [] = refl
from_zero zero v (x ∷ xs) = ap (λ ys. v ∷ ys) (written_none 0 v xs)
from_zero (suc k) v (x ∷ xs) = ap (λ ys. v ∷ ys) (from_zero k v xs)

more : {A : Type 0} (lba k i : ℕ) (v : A) (xs : List A) → i ≡ lba + k → written lba (suc k) v xs ≡ slice_set (written lba k v xs) i v
more zero k i v xs is =
    let same : i ≡ k = omega arith in
    rw same (from_zero k v xs)
more (suc lba) k zero v xs is = absurd (omega arith)
more (suc lba) k (suc i) v [] is = refl
more (suc lba) k (suc i) v (x ∷ xs) is = ap (λ ys. x ∷ ys) (more lba k i v xs (omega arith))

-- one sector more is written
pub written_more : {A : Type 0} (lba k : ℕ) (v : A) (xs : List A) → written lba (k + 1) v xs ≡ slice_set (written lba k v xs) (lba + k) v
written_more lba k v xs = rw (add-one k) (more lba k (lba + k) v xs refl)

-- past the end none is
pub written_past : {A : Type 0} (lba k : ℕ) (v : A) (xs : List A) → length (written lba k v xs) ≤ lba + k → written lba (k + 1) v xs ≡ written lba k v xs
written_past lba k v xs past = written_more lba k v xs ∙ set_past (written lba k v xs) (lba + k) v past

-- a loop writes one sector more
pub next_written : {A : Type 0} (lba k at : ℕ) (v : A) (xs was next : List A) → (was ≡ written lba k v xs) × (length was ≡ length xs) → at ≡ lba + k → next ≡ slice_set was at v
    → (next ≡ written lba (k + 1) v xs) × (length next ≡ length xs)
next_written lba k at v xs was next done here made = (
  made ∙ ap (λ ys. slice_set ys at v) done.0 ∙ ap (λ i. slice_set (written lba k v xs) i v) here ∙ sym (written_more lba k v xs),
  ap length made ∙ length-set was at v ∙ done.1,
)

-- or none, past the end
pub next_past : {A : Type 0} (lba k : ℕ) (v : A) (xs was next : List A) → (was ≡ written lba k v xs) × (length was ≡ length xs) → length was ≤ lba + k → next ≡ was
    → (next ≡ written lba (k + 1) v xs) × (length next ≡ length xs)
next_past lba k v xs was next done past same = (
  same ∙ done.0 ∙ sym (written_past lba k v xs (omega (arith, past, ap length done.0))),
  ap length same ∙ done.1,
)

-- so many are read
pub found_length : (lba count : ℕ) (xs : List ℕ) → length (found lba count xs) ≡ count
found_length lba count xs =
    simp (length-take, length-append, length-replicate) (omega arith)

zeros : (n k : ℕ) → get_or (replicate {A = ℕ} n 0) k 0 ≡ 0
zeros zero k = refl
zeros (suc n) zero = refl
zeros (suc n) (suc k) = zeros n k

padded : (zs : List ℕ) (n k : ℕ) → get_or (zs ++ replicate {A = ℕ} n 0) k 0 ≡ get_or zs k 0
padded [] n k = zeros n k
padded (z ∷ zs) n zero = refl
padded (z ∷ zs) n (suc k) = padded zs n k

-- each of them is the sector's
pub found_at : (lba count k : ℕ) (xs : List ℕ) → k < count → get_or (found lba count xs) k 0 ≡ get_or xs (lba + k) 0
found_at lba count k xs below =
    get_or-take count (take count (drop lba xs) ++ replicate count 0) k 0 below
    ∙ padded (take count (drop lba xs)) count k
    ∙ get_or-take count (drop lba xs) k 0 below
    ∙ get_or-drop lba xs k 0

-- one more is read
pub found_more : (lba count k : ℕ) (xs : List ℕ) → k < count → take (k + 1) (found lba count xs) ≡ take k (found lba count xs) ++ get_or xs (lba + k) 0 ∷ []
found_more lba count k xs below =
    take_more (found lba count xs) k 0 (rw (found_length lba count xs) below)
    ∙ ap (λ x. take k (found lba count xs) ++ x ∷ []) (found_at lba count k xs below)

-- all are read
pub found_whole : (lba count : ℕ) (xs : List ℕ) → take count (found lba count xs) ≡ found lba count xs
found_whole lba count xs = take_all count (found lba count xs) (omega (arith, found_length lba count xs))

-- a place that is past any list
pub past_any : (xs : List ℕ) (at : ℕ) → length xs ≤ at → get_or xs at 0 ≡ 0
past_any xs at past = get_or_past xs at 0 past
