-- The newest entry of a ring, taken out and put back.
use Rattle.std.proofs.Common.{◌≡◌, ℕ, ◌+◌, ◌-◌, ◌<◌, ◌≤◌, List, [], ◌∷◌, ◌++◌, length, get_or, take, drop, map, ap, arith, sym, ◌∙◌, Some, None, length-append, length-take}
use Rattle.std.specs.Prelude.{slice_get}
use Rattle.std.proofs.lemmas.List.{drop_more, drop_all}
use Rattle.std.proofs.lemmas.Option.{get_or_from_slice_get, slice_get-get_or}
use Rattle.circular_buffer.specs.Buffer.{keep_last}
use Rattle.eh_ring.specs.declared.entry.RingEntry.{RingEntry}
use Rattle.eh_ring.specs.Marks.{clean_entry, with_clean_top}

some_within : (xs : List RingEntry) (e : RingEntry) → Some e ≡ slice_get xs (length xs - 1) → 0 < length xs
some_within [] e h = absurd (cc)
some_within (x ∷ xs) e h = omega arith

pub clean_top : (xs ys : List RingEntry) (e : RingEntry) (capacity : ℕ) → Some e ≡ slice_get xs (length xs - 1)
    → ys ≡ take (length xs - 1) xs → capacity ≡ 32 → length xs ≤ 32
    → keep_last capacity (ys ++ clean_entry e ∷ []) ≡ with_clean_top xs
clean_top xs ys e capacity last front room short =
    let some : 0 < length xs = some_within xs e last in
    let k : ℕ = length xs - 1 in
    let here : get_or xs (length xs - 1) e ≡ e = get_or_from_slice_get xs (length xs - 1) e e (sym last) in
    let rest : drop (length xs - 1) xs ≡ get_or xs (length xs - 1) e ∷ drop (length xs - 1 + 1) xs = drop_more xs (length xs - 1) e (omega arith) in
    let none : drop (length xs - 1 + 1) xs ≡ [] = drop_all (length xs - 1 + 1) xs (omega arith) in
    let top : drop (length xs - 1) xs ≡ e ∷ [] = rest ∙ ap (λ x. x ∷ drop (length xs - 1 + 1) xs) here ∙ ap (λ tail. e ∷ tail) none in
    let size : length (ys ++ clean_entry e ∷ []) - capacity ≡ 0 =
    (let a : length (ys ++ clean_entry e ∷ []) ≡ length ys + 1 = length-append ys (clean_entry e ∷ []) in
    let b : length ys ≤ length xs - 1 = rw front (omega (arith, length-take (length xs - 1) xs)) in
    omega arith) in
    ap (λ n. drop n (ys ++ clean_entry e ∷ [])) size
    ∙ ap (λ before. before ++ clean_entry e ∷ []) front
    ∙ ap (λ newest. take (length xs - 1) xs ++ map clean_entry newest) (sym top)

pub clean_none : (xs ys : List RingEntry) → None ≡ slice_get xs (length xs - 1) → ys ≡ take (length xs - 1) xs → ys ≡ with_clean_top xs
clean_none [] ys none front = front
clean_none (x ∷ xs) ys none front =
    let last : slice_get (x ∷ xs) (length (x ∷ xs) - 1) ≡ Some (get_or (x ∷ xs) (length (x ∷ xs) - 1) x) =
    slice_get-get_or (x ∷ xs) (length (x ∷ xs) - 1) x (omega arith) in
    absurd (cc)
