use Rattle.std.proofs.Common.{arith, tests, refl, sym, ap, subst, ◌∙◌, ◌≡◌, ℕ, Bool, true, false, List, [], ◌∷◌, ◌++◌, ◌+◌, ◌-◌, ◌<◌, ◌≤◌, ◌==◌, length, take, drop, get_or, Some, None, length-take}
use Rattle.std.specs.Prelude.{All, if◌then◌else◌, slice_index}
use Rattle.std.specs.List.{onto_first}
use Rattle.std.specs.Str.{bytes_eq}
use Rattle.std.proofs.lemmas.List.{take_rest, drop_more, get_or_default, get_or-take, take_all, take-append-drop, drop_all}
use Rattle.std.proofs.lemmas.List.Splits.{slice_split_at, slice_split_none}
use Rattle.memchr.specs.Find.{Nowhere, Passes, IsFirstByte, is_byte}
use Rattle.ata_trace.specs.Parts.{parts_of, first, later, none_left}

not_true : (b : Bool) → (b ≡ true → ⊥) → b ≡ false
not_true true differs = absurd (differs refl)
not_true false differs = refl

-- the bytes before a place at which none is such a byte
others : (cut at : ℕ) (xs : List ℕ) → at ≤ length xs → Nowhere (Passes (is_byte cut) xs) 0 at → All (λ b. (b == cut) ≡ false) (take at xs)
others cut at xs within none = λ k d low.
    let short : k < at = omega (arith, length-take at xs) in
    let same : get_or (take at xs) k d ≡ get_or xs k 0 = get_or-take at xs k d short ∙ get_or_default xs k d 0 (omega arith) in
    rw same (not_true (get_or xs k 0 == cut) (none k (omega arith) short))

-- the first part ends before the first such byte
pub cut_some : (cut : ℕ) (xs : List ℕ) (at : ℕ) → IsFirstByte (is_byte cut) xs (Some at) → parts_of cut xs ≡ take at xs ∷ parts_of cut (take (length xs - (at + 1)) (drop (at + 1) xs))
cut_some cut xs at found =
    let within : at < length xs = found.0.high in
    let split : xs ≡ take at xs ++ get_or xs at 0 ∷ drop (at + 1) xs = sym (take-append-drop at xs) ∙ ap (λ rest. take at xs ++ rest) (drop_more xs at 0 within) in
    rw (take_rest xs (at + 1)) (ap (parts_of cut) split ∙ slice_split_at (λ b. b == cut) (take at xs) (get_or xs at 0) (drop (at + 1) xs) (others cut at xs (omega arith) found.0.before) found.1)

-- a text without such a byte is its one part
pub cut_none : (cut : ℕ) (xs : List ℕ) → IsFirstByte (is_byte cut) xs None → parts_of cut xs ≡ xs ∷ []
cut_none cut xs none =
    slice_split_none (λ b. b == cut) xs (subst (λ (ys : List ℕ). All (λ b. (b == cut) ≡ false) ys) (take_all (length xs) xs (omega arith)) (others cut (length xs) xs (omega arith) none))

-- a text has a part
pub some_part : (cut : ℕ) (text : List ℕ) → none_left (parts_of cut text) ≡ false
some_part cut [] = refl
some_part cut (c ∷ text) = chosen (c == cut) (parts_of cut text) where
  onto : (parts : List (List ℕ)) → none_left (onto_first c parts) ≡ false
  onto [] = refl
  onto (part ∷ parts) = refl

  chosen : (b : Bool) (parts : List (List ℕ)) → none_left (if b then [] ∷ parts else onto_first c parts) ≡ false
  chosen true parts = refl
  chosen false parts = onto parts

-- a byte that both begin with, and that is no cut, changes nothing of it
pub both_begin : (cut c d : ℕ) (text name : List ℕ) → (c == cut) ≡ false → (c == d) ≡ true
    → bytes_eq (first (parts_of cut (c ∷ text))) (d ∷ name) ≡ bytes_eq (first (parts_of cut text)) name
both_begin cut c d text name other same = rw other (onto (parts_of cut text)) where
  onto : (parts : List (List ℕ)) → bytes_eq (first (onto_first c parts)) (d ∷ name) ≡ bytes_eq (first parts) name
  onto [] = rw same refl
  onto (part ∷ parts) = rw same refl

-- nor of the parts behind the first
pub later_same : (cut c : ℕ) (text : List ℕ) → (c == cut) ≡ false → later (parts_of cut (c ∷ text)) ≡ later (parts_of cut text)
later_same cut c text other = rw other (onto (parts_of cut text)) where
  onto : (parts : List (List ℕ)) → later (onto_first c parts) ≡ later parts
  onto [] = refl
  onto (part ∷ parts) = refl

-- as far as both are the same, without a cut
pub same_more : (cut at : ℕ) (text name : List ℕ) → at < length text → at < length name
    → (slice_index text at == cut) ≡ false → (slice_index text at == slice_index name at) ≡ true
    → (bytes_eq (first (parts_of cut text)) name ≡ bytes_eq (first (parts_of cut (drop at text))) (drop at name))
    → later (parts_of cut text) ≡ later (parts_of cut (drop at text))
    → (bytes_eq (first (parts_of cut text)) name ≡ bytes_eq (first (parts_of cut (drop (at + 1) text))) (drop (at + 1) name))
    × (later (parts_of cut text) ≡ later (parts_of cut (drop (at + 1) text)))
same_more cut at text name within inside other same part rest =
    let here : drop at text ≡ slice_index text at ∷ drop (at + 1) text = drop_more text at 0 within in
    let there : drop at name ≡ slice_index name at ∷ drop (at + 1) name = drop_more name at 0 inside in (
      part ∙ ap (λ t. bytes_eq (first (parts_of cut t)) (drop at name)) here
          ∙ ap (bytes_eq (first (parts_of cut (slice_index text at ∷ drop (at + 1) text)))) there
          ∙ both_begin cut (slice_index text at) (slice_index name at) (drop (at + 1) text) (drop (at + 1) name) other same,
      rest ∙ ap (λ t. later (parts_of cut t)) here ∙ later_same cut (slice_index text at) (drop (at + 1) text) other,
    )

-- a text that begins with another byte than a word, or with a cut, doesn't have it as its first part
pub other_begins : (cut : ℕ) (text name : List ℕ) → 0 < length name
    → (0 < length text → (get_or text 0 0 == cut) ≡ false → (get_or text 0 0 == get_or name 0 0) ≡ false)
    → bytes_eq (first (parts_of cut text)) name ≡ false
other_begins cut text [] more differs = absurd (omega (arith, more))
other_begins cut [] (d ∷ name) more differs = refl
other_begins cut (c ∷ text) (d ∷ name) more differs = chosen (c == cut) (parts_of cut text) (differs (omega arith)) where
  onto : (parts : List (List ℕ)) → (c == d) ≡ false → bytes_eq (first (onto_first c parts)) (d ∷ name) ≡ false
  onto [] is = rw is refl
  onto (part ∷ parts) is = rw is refl

  chosen : (b : Bool) (parts : List (List ℕ)) → (b ≡ false → (c == d) ≡ false) → bytes_eq (first (if b then [] ∷ parts else onto_first c parts)) (d ∷ name) ≡ false
  chosen true parts is = refl
  chosen false parts is = onto parts (is refl)

-- where both are gone over, the word is the first part of the text, and its only one
pub both_end : (cut at : ℕ) (text name : List ℕ) → at ≡ length text → at ≡ length name
    → (bytes_eq (first (parts_of cut text)) name ≡ bytes_eq (first (parts_of cut (drop at text))) (drop at name))
    → later (parts_of cut text) ≡ later (parts_of cut (drop at text))
    → (bytes_eq (first (parts_of cut text)) name ≡ true) × (later (parts_of cut text) ≡ [])
both_end cut at text name ended over part rest =
    let none : drop at text ≡ [] = drop_all at text (omega (arith, ended)) in
    let gone : drop at name ≡ [] = drop_all at name (omega (arith, over)) in
    (part ∙ rw (none, gone) refl, rest ∙ rw none refl)

-- and where a cut follows
pub cut_follows : (cut at : ℕ) (text name : List ℕ) → at < length text → slice_index text at ≡ cut → at ≡ length name
    → (bytes_eq (first (parts_of cut text)) name ≡ bytes_eq (first (parts_of cut (drop at text))) (drop at name))
    → later (parts_of cut text) ≡ later (parts_of cut (drop at text))
    → (bytes_eq (first (parts_of cut text)) name ≡ true)
    × (later (parts_of cut text) ≡ parts_of cut (take (length text - (at + 1)) (drop (at + 1) text)))
cut_follows cut at text name within is over part rest =
    let here : drop at text ≡ slice_index text at ∷ drop (at + 1) text = drop_more text at 0 within in
    let cuts : (slice_index text at == cut) ≡ true = grind (arith, tests, is) in
    let gone : drop at name ≡ [] = drop_all at name (omega (arith, over)) in (
      part ∙ ap (λ t. bytes_eq (first (parts_of cut t)) (drop at name)) here ∙ rw (cuts, gone) refl,
      rw (take_rest text (at + 1)) (rest ∙ ap (λ t. later (parts_of cut t)) here ∙ rw cuts refl),
    )

-- but not where another byte follows
pub more_follows : (cut at : ℕ) (text name : List ℕ) → at < length text → (slice_index text at ≡ cut → ⊥) → at ≡ length name
    → (bytes_eq (first (parts_of cut text)) name ≡ bytes_eq (first (parts_of cut (drop at text))) (drop at name))
    → bytes_eq (first (parts_of cut text)) name ≡ false
more_follows cut at text name within is over part =
    let here : drop at text ≡ slice_index text at ∷ drop (at + 1) text = drop_more text at 0 within in
    let other : (slice_index text at == cut) ≡ false = grind (arith, tests, is) in
    let gone : drop at name ≡ [] = drop_all at name (omega (arith, over)) in
    part ∙ ap (λ t. bytes_eq (first (parts_of cut t)) (drop at name)) here ∙ rw (other, gone) (onto (slice_index text at) (parts_of cut (drop (at + 1) text))) where
      onto : (c : ℕ) (parts : List (List ℕ)) → bytes_eq (first (onto_first c parts)) [] ≡ false
      onto c [] = refl
      onto c (part ∷ parts) = refl
