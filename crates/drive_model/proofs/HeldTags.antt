-- The tags of held issues, by number.
use Rattle.std.proofs.Common.{◌≡◌, ◌∙◌, ℕ, ◌+◌, ◌<◌, nat_eq, Bool, true, false, ◌||◌, List, [], ◌∷◌, ◌++◌, suc, zero, length, take, get_or, set, replicate, unwrap_or, slice_get, refl, sym, ap, arith}
use Rattle.std.proofs.lemmas.Bool.Decides.{nat_tests}
use Rattle.std.proofs.lemmas.List.{take_more, get_or-set_same, get_or-set_other}
use Rattle.drive_model.specs.declared.held.Held.{Held}
use Rattle.drive_model.specs.Holding.{has_tag}
use Rattle.ata_base.proofs.Truth.{or_none, or_true}

or_false_end : (a b : Bool) → (a || (b || false)) ≡ (a || b)
or_false_end true b = refl
or_false_end false true = refl
or_false_end false false = refl

or_assoc : (a b c : Bool) → (a || (b || c)) ≡ ((a || b) || c)
or_assoc true b c = refl
or_assoc false b c = refl

has_tag-append : (t : ℕ) (xs : List Held) (h : Held) → has_tag t (xs ++ h ∷ []) ≡ (has_tag t xs || nat_eq t h.tag)
has_tag-append t [] h = or_false_end false (nat_eq t h.tag)
has_tag-append t (x ∷ xs) h =
    ap (λ b. nat_eq t x.tag || b) (has_tag-append t xs h) ∙ or_assoc (nat_eq t x.tag) (has_tag t xs) (nat_eq t h.tag)

one_more : (held : List Bool) (t tag : ℕ) (b e : Bool) → nat_eq t tag ≡ e → tag < length held → get_or held t false ≡ b
    → get_or (set held tag true) t false ≡ (b || e)
one_more held t tag b true is within was =
    let same : t ≡ tag = grind (arith, nat_tests) in
    rw (or_true b, same) (get_or-set_same held tag true false within)
one_more held t tag b false is within was =
    let other : t ≡ tag → ⊥ = λ same. grind (arith, nat_tests) in
    get_or-set_other held tag t true false other ∙ was ∙ sym (or_none b)

-- the tags of one issue more
pub tags_more : (held : List Bool) (t : ℕ) (list : List Held) (i : ℕ) (h : Held) → i < length list → h.tag < length held → get_or list i h ≡ h
    → get_or held t false ≡ has_tag t (take i list)
    → get_or (set held h.tag true) t false ≡ has_tag t (take (i + 1) list)
tags_more held t list i h within small is was =
    let more : take (i + 1) list ≡ take i list ++ h ∷ [] = take_more list i h within ∙ ap (λ x. take i list ++ x ∷ []) is in
    one_more held t h.tag (has_tag t (take i list)) (nat_eq t h.tag) refl small was
    ∙ sym (ap (has_tag t) more ∙ has_tag-append t (take i list) h)

-- at first no tag is held
pub none_held : (n t : ℕ) → get_or (replicate {A = Bool} n false) t false ≡ false
none_held zero t = refl
none_held (suc n) zero = refl
none_held (suc n) (suc t) = none_held n t

-- what isn't there is false
pub at_or_false : (held : List Bool) (t : ℕ) → unwrap_or (slice_get held t) false ≡ get_or held t false
at_or_false [] t = refl
at_or_false (x ∷ held) zero = refl
at_or_false (x ∷ held) (suc t) = at_or_false held t
