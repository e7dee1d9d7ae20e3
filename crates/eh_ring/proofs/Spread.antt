-- One entry more is spread.
use Rattle.std.proofs.Common.{◌≡◌, ℕ, ◌+◌, ◌-◌, ◌<◌, ◌≤◌, List, [], ◌∷◌, ◌++◌, length, get_or, set, take, drop, map, min, reverse, ap, arith, sym, ◌∙◌, Some}
use Rattle.std.specs.Prelude.{slice_get}
use Rattle.std.proofs.lemmas.List.{take_more, take_more_set, take-append-drop, take_at, get_or-reverse, map-append, length-drop, length-reverse, reverse-append}
use Rattle.std.proofs.lemmas.Option.{get_or_from_slice_get}
use Rattle.eh_ring.specs.declared.entry.RingEntry.{RingEntry}
use Rattle.eh_ring.specs.Marks.{with_entry}

-- the newest entries with one more
newest_more : (ring : List RingEntry) (i : ℕ) (e : RingEntry) → i < length ring → Some e ≡ slice_get ring (length ring - i - 1)
    → take (i + 1) (reverse ring) ≡ take i (reverse ring) ++ e ∷ []
newest_more ring i e within at =
    let size : i < length (reverse ring) = omega (arith, length-reverse ring) in
    let place : length ring - 1 - i ≡ length ring - i - 1 = omega arith in
    let here : get_or (reverse ring) i e ≡ e =
    get_or-reverse ring i e within ∙ ap (λ k. get_or ring k e) place ∙ get_or_from_slice_get ring (length ring - i - 1) e e (sym at) in
    take_more (reverse ring) i e size ∙ ap (λ x. take i (reverse ring) ++ x ∷ []) here

pub one_more : (f : RingEntry → ℕ) (ring : List RingEntry) (xs : List ℕ) (i v : ℕ) (e : RingEntry)
    → i < length xs → i < length ring → Some e ≡ slice_get ring (length ring - i - 1) → v ≡ f e
    → take i xs ≡ map f (take i (reverse ring))
    → take (i + 1) (set xs i v) ≡ map f (take (i + 1) (reverse ring))
one_more f ring xs i v e inside within at is so_far =
    take_more_set xs i v inside
    ∙ ap (λ front. front ++ v ∷ []) so_far
    ∙ ap (λ n. map f (take i (reverse ring)) ++ n ∷ []) is
    ∙ sym (map-append f (take i (reverse ring)) (e ∷ []))
    ∙ ap (λ es. map f es) (sym (newest_more ring i e within at))

-- one more behind a newer one
pub one_later : (f : RingEntry → ℕ) (ring : List RingEntry) (xs : List ℕ) (i first v : ℕ) (e : RingEntry)
    → i + 1 < length xs → i < length ring → Some e ≡ slice_get ring (length ring - i - 1) → v ≡ f e
    → take (i + 1) xs ≡ first ∷ map f (take i (reverse ring))
    → take (i + 1 + 1) (set xs (i + 1) v) ≡ first ∷ map f (take (i + 1) (reverse ring))
one_later f ring xs i first v e inside within at is so_far =
    take_more_set xs (i + 1) v inside
    ∙ ap (λ front. front ++ v ∷ []) so_far
    ∙ ap (λ n. first ∷ (map f (take i (reverse ring)) ++ n ∷ [])) is
    ∙ ap (λ rest. first ∷ rest) (sym (map-append f (take i (reverse ring)) (e ∷ [])))
    ∙ ap (λ es. first ∷ map f es) (sym (newest_more ring i e within at))

-- the newest entries that stay beside a newer one
pub newest_kept : (e : RingEntry) (ring : List RingEntry) (n : ℕ) → n ≡ min (length ring) 31 → length ring ≤ 32
    → reverse (with_entry e ring) ≡ e ∷ take n (reverse ring)
newest_kept e ring n is few =
    let kept : List RingEntry = drop (length ring + 1 - 32) ring in
    let gone : List RingEntry = take (length ring + 1 - 32) ring in
    let size : length (reverse kept) ≡ n =
    omega (arith, is, length-reverse kept, length-drop (length ring + 1 - 32) ring) in
    let halves : reverse ring ≡ reverse kept ++ reverse gone =
    ap reverse (sym (take-append-drop (length ring + 1 - 32) ring)) ∙ reverse-append gone kept in
    reverse-append kept (e ∷ [])
    ∙ ap (λ es. e ∷ es) (sym (ap (take n) halves ∙ take_at (reverse kept) (reverse gone) n size))
