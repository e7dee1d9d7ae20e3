-- A list that is written over one of the same length, element by element.
use Rattle.std.proofs.Common.{◌≡◌, ℕ, ◌+◌, ◌<◌, ◌≤◌, List, [], ◌∷◌, ◌++◌, suc, zero, length, get_or, set, take, drop, map, refl, ap, add-one, arith, Option, None, replicate}

-- an element that isn't written yet is the old one
pub still_old : {A B : Type 0} (g : A → B) (xs : List A) (old : List B) (i : ℕ) (d : B) → i ≤ length xs → length xs ≡ length old → get_or (map g (take i xs) ++ drop i old) i d ≡ get_or old i d
still_old g xs old zero d within same = refl
still_old g [] old (suc i) d within same = absurd (omega arith)
still_old g (x ∷ xs) [] (suc i) d within same = absurd (omega arith)
still_old g (x ∷ xs) (o ∷ old) (suc i) d within same = still_old g xs old i d (omega arith) (omega arith)

-- one more is written
pub one_more : {A B : Type 0} (g : A → B) (xs : List A) (old : List B) (i : ℕ) (x d : A) → i < length xs → length xs ≡ length old → x ≡ get_or xs i d → set (map g (take i xs) ++ drop i old) i (g x) ≡ map g (take (i + 1) xs) ++ drop (i + 1) old
one_more g [] old i x d within same is = absurd (omega arith)
one_more g (y ∷ xs) [] i x d within same is = absurd (omega arith)
one_more g (y ∷ xs) (o ∷ old) zero x d within same is = rw is refl
one_more g (y ∷ xs) (o ∷ old) (suc i) x d within same is = rw (add-one (suc i)) (rw (add-one i) at (ap (λ rest. g y ∷ rest) (one_more g xs old i x d (omega arith) (omega arith) is)))

pub none_at : {A : Type 0} (n i : ℕ) (d : Option A) → i < n → get_or (replicate n None) i d ≡ None
none_at zero i d within = absurd (omega arith)
none_at (suc n) zero d within = refl
none_at (suc n) (suc i) d within = none_at n i d (omega arith)
