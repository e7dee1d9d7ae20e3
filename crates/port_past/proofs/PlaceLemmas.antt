use Rattle.std.proofs.Common.{◌≡◌, ℕ, zero, suc, List, [], ◌∷◌, Option, Some, None, refl, ap}
use Rattle.port_past.specs.Places.{changed_at, changed_at_some}

-- a change that changes nothing leaves a list
pub unchanged_at : {A : Type 0} (index : ℕ) (change : A → A) (was : List A) → ((x : A) → change x ≡ x) → changed_at index change was ≡ was
unchanged_at index change [] same = refl
unchanged_at zero change (x ∷ rest) same = ap (λ y. y ∷ rest) (same x)
unchanged_at (suc index) change (x ∷ rest) same = ap (λ others. x ∷ others) (unchanged_at index change rest same)

-- the same at an index, where there is one
pub unchanged_at_some : {A : Type 0} (index : Option ℕ) (change : A → A) (was : List A) → ((x : A) → change x ≡ x)
    → changed_at_some index change was ≡ was
unchanged_at_some None change was same = refl
unchanged_at_some (Some index) change was same = unchanged_at index change was same
