-- Failed issues by place, of which the later ones are noted.
use Rattle.std.proofs.Common.{◌≡◌, ℕ, false, true≢false, ◌+◌, ◌<◌, List, [], ◌∷◌, Option, None, Some, suc, zero, length, get_or, take, slice_set, refl, sym, ap, arith, add-one}
use Rattle.std.specs.List.{list_any}
use Rattle.std.specs.Prelude.{is_some}
use Rattle.std.proofs.lemmas.List.{get_or_default}
use Rattle.port_past.specs.Noted.{with_later}
use Rattle.port_ledger.specs.Parts.{later}

more_from : {A : Type 0} (at : ℕ) (failing was : List (Option A)) → at < length failing → at < length was
    → with_later (take (suc at) failing) was ≡ slice_set (with_later (take at failing) was) at (later (get_or failing at None) (get_or (with_later (take at failing) was) at None))
more_from at [] was within inside = absurd (omega arith)
more_from at (f ∷ failing) [] within inside = absurd (omega arith)
more_from zero (None ∷ failing) (x ∷ was) within inside = refl
more_from zero (Some y ∷ failing) (x ∷ was) within inside = refl
more_from (suc at) (None ∷ failing) (x ∷ was) within inside = ap (λ rest. x ∷ rest) (more_from at failing was (omega arith) (omega arith))
more_from (suc at) (Some y ∷ failing) (x ∷ was) within inside = ap (λ rest. Some y ∷ rest) (more_from at failing was (omega arith) (omega arith))

-- one place more
pub later_next : {A : Type 0} (at : ℕ) (failing was noted : List (Option A)) → noted ≡ with_later (take at failing) was → at < length failing → at < length was
    → slice_set noted at (later (get_or failing at None) (get_or noted at None)) ≡ with_later (take (at + 1) failing) was
later_next at failing was noted is within inside = rw (is, add-one at) (sym (more_from at failing was within inside))

-- what is read within two lists doesn't go by what is read past their ends
pub later_at : {A : Type 0} (at : ℕ) (failing noted : List (Option A)) (d e it : Option A) → at < length failing → at < length noted → it ≡ later (get_or failing at d) (get_or noted at e)
    → it ≡ later (get_or failing at None) (get_or noted at None)
later_at at failing noted d e it within inside is =
    rw (← get_or_default failing at d None within, ← get_or_default noted at e None inside) is

-- where there is none to note, what was noted stays
pub none_later : {A : Type 0} (failing was : List (Option A)) → list_any is_some failing ≡ false → with_later failing was ≡ was
none_later [] was none = refl
none_later (None ∷ failing) [] none = refl
none_later (None ∷ failing) (x ∷ was) none = ap (λ rest. x ∷ rest) (none_later failing was none)
none_later (Some y ∷ failing) was none = absurd (true≢false none)
