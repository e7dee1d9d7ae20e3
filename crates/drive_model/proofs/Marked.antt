-- Marks as bits of 64-bit words.
use Rattle.std.proofs.Common.{◌≡◌, ◌∙◌, ℕ, ◌+◌, ◌*◌, ◌/◌, ◌%◌, ◌<◌, ◌≤◌, ◌^◌, nat_eq, Bool, true, false, cond, List, Some, None, length, take, drop, set, replicate, get_or, refl, sym, ap, arith, bit_and, bit_or, inl, inr, length-drop}
use Rattle.std.specs.Int.{bit_at, bit_not, w64}
use Rattle.std.proofs.lemmas.Bool.{cases_eq}
use Rattle.std.proofs.lemmas.Grind.{common_steps}
use Rattle.std.proofs.lemmas.List.Sums.{position_or_len_is}
use Rattle.drive_model.specs.Sectors.{least_bad}
use Rattle.std.proofs.lemmas.List.{get_or-take, get_or-drop, length-take, get_or-set_same, get_or-set_other, length-set, length-replicate, get_or-replicate}
use Rattle.std.proofs.lemmas.List.FromFn.{length-map-range_with_len, get_or-map-range_with_len, fill_by_all}
use Rattle.std.proofs.lemmas.Nat.Bits.{bit_at-zero, bit_at_set_same, bit_at_set_other, bit_at_clear_same, bit_at_clear_other}
use Rattle.drive_model.specs.Marks.{mark_of, marks_of}

-- so many marks are so many
pub length_marks_of : (words : List ℕ) (count : ℕ) → length (marks_of words count) ≡ count
length_marks_of words count = length-map-range_with_len (mark_of words) 0 count

-- the mark with a number
pub get_or_marks_of : (words : List ℕ) (count at : ℕ) → at < count → get_or (marks_of words count) at false ≡ mark_of words at
get_or_marks_of words count at within = get_or-map-range_with_len (mark_of words) 0 count at at false within (omega arith)

-- words of zeros mark nothing
mark_of-zero : (n k : ℕ) → k / 64 < n → mark_of (replicate n 0) k ≡ false
mark_of-zero n k within = rw (get_or-replicate {A = ℕ} n (k / 64) 0 0 within, bit_at-zero (k % 64)) refl

pub marks_of_zero : (n count : ℕ) → count ≤ 64 * n → marks_of (replicate n 0) count ≡ replicate count false
marks_of_zero n count room =
    sym (fill_by_all (mark_of (replicate n 0)) (replicate count false) count false (length-replicate count false)
    (λ k below. get_or-replicate count k false false below ∙ sym (mark_of-zero n k (omega arith))))

says : (b : Bool) (v : ℕ) → v ≡ cond b 1 0 → nat_eq v 1 ≡ b
says true v is = rw is refl
says false v is = rw is refl

-- a word that differs in one bit
put_at :
    (words : List ℕ) (count at w k : ℕ) (b : Bool) → at < count → count ≤ 64 * length words
    → bit_at w (at % 64) ≡ cond b 1 0
    → ((i : ℕ) → i < 64 → (i ≡ at % 64 → ⊥) → bit_at w i ≡ bit_at (get_or words (at / 64) 0) i)
    → k < count → get_or (set (marks_of words count) at b) k false ≡ mark_of (set words (at / 64) w) k
put_at words count at w k b within room same other below =
    let inside : at / 64 < length words = omega arith in
    elim (cases_eq k at) [
      | inl is ↦ rw is (
          get_or-set_same (marks_of words count) at b false (rw (length_marks_of words count) within)
          ∙ sym (ap (λ v. nat_eq (bit_at v (at % 64)) 1) (get_or-set_same words (at / 64) w 0 inside) ∙ says b (bit_at w (at % 64)) same))
      | inr not ↦
          get_or-set_other (marks_of words count) at k b false not
          ∙ get_or_marks_of words count k below
          ∙ elim (cases_eq (k / 64) (at / 64)) [
            | inl one ↦
                ap (λ j. nat_eq (bit_at (get_or words j 0) (k % 64)) 1) one
                ∙ ap (λ v. nat_eq v 1) (sym (other (k % 64) (omega arith) (λ bits. not (omega arith))))
                ∙ ap (λ v. nat_eq (bit_at v (k % 64)) 1) (sym (get_or-set_same words (at / 64) w 0 inside))
                ∙ ap (λ j. nat_eq (bit_at (get_or (set words (at / 64) w) j 0) (k % 64)) 1) (sym one)
            | inr two ↦ ap (λ v. nat_eq (bit_at v (k % 64)) 1) (sym (get_or-set_other words (at / 64) (k / 64) w 0 two))
          ]
    ]

put_word :
    (words : List ℕ) (count at w : ℕ) (b : Bool) → at < count → count ≤ 64 * length words
    → bit_at w (at % 64) ≡ cond b 1 0
    → ((i : ℕ) → i < 64 → (i ≡ at % 64 → ⊥) → bit_at w i ≡ bit_at (get_or words (at / 64) 0) i)
    → marks_of (set words (at / 64) w) count ≡ set (marks_of words count) at b
put_word words count at w b within room same other =
    sym (fill_by_all (mark_of (set words (at / 64) w)) (set (marks_of words count) at b) count false
    (length-set (marks_of words count) at b ∙ length_marks_of words count)
    (λ k below. put_at words count at w k b within room same other below))

-- a bit set is a mark set
pub marks_of_set :
    (words : List ℕ) (count at : ℕ) → at < count → count ≤ 64 * length words
    → marks_of (set words (at / 64) (bit_or (get_or words (at / 64) 0) (1 * 2 ^ (at % 64) % 2 ^ 64))) count
    ≡ set (marks_of words count) at true
marks_of_set words count at within room =
    let small : at % 64 < 64 = omega arith in
    put_word words count at (bit_or (get_or words (at / 64) 0) (1 * 2 ^ (at % 64) % 2 ^ 64)) true within room
    (bit_at_set_same w64 (get_or words (at / 64) 0) (at % 64) small)
    (λ i low differs. bit_at_set_other w64 (get_or words (at / 64) 0) (at % 64) small i differs)

-- a bit cleared is a mark cleared
pub marks_of_clear :
    (words : List ℕ) (count at : ℕ) → at < count → count ≤ 64 * length words
    → marks_of (set words (at / 64) (bit_and (get_or words (at / 64) 0) (bit_not w64 (1 * 2 ^ (at % 64) % 2 ^ 64)))) count
    ≡ set (marks_of words count) at false
marks_of_clear words count at within room =
    let small : at % 64 < 64 = omega arith in
    put_word words count at (bit_and (get_or words (at / 64) 0) (bit_not w64 (1 * 2 ^ (at % 64) % 2 ^ 64))) false within room
    (bit_at_clear_same w64 (get_or words (at / 64) 0) (at % 64) small)
    (λ i low differs. bit_at_clear_other w64 (get_or words (at / 64) 0) (at % 64) small i low differs)

-- the sectors up to there are good, and there is the end
pub none_bad :
    (lba count : ℕ) (bad : List Bool) → ((k : ℕ) → k < count → get_or bad (lba + k) false ≡ false) → None ≡ least_bad lba count bad
none_bad lba count bad good =
    let size : ℕ = length (take count (drop lba bad)) in
    let most : size ≤ count = omega (arith, length-take count (drop lba bad)) in
    let at = position_or_len_is (λ b. b) (take count (drop lba bad)) size false (omega arith)
    (λ k below. get_or-take count (drop lba bad) k false (omega (arith, below, most)) ∙ get_or-drop lba bad k false ∙ good k (omega (arith, below, most)))
    (λ less. absurd (omega (arith, less))) in
    grind (arith, common_steps, at, most)

-- the sectors up to there are good, and that one is bad
pub first_bad :
    (lba count step : ℕ) (bad : List Bool) → lba + step < length bad → step < count
    → ((k : ℕ) → k < step → get_or bad (lba + k) false ≡ false) → get_or bad (lba + step) false ≡ true
    → Some (lba + step) ≡ least_bad lba count bad
first_bad lba count step bad within below good is =
    let size : step < length (take count (drop lba bad)) = rw (length-take count (drop lba bad), length-drop lba bad) (omega (arith, within, below)) in
    let at = position_or_len_is (λ b. b) (take count (drop lba bad)) step false (omega (arith, size))
    (λ k small. get_or-take count (drop lba bad) k false (omega (arith, small, below)) ∙ get_or-drop lba bad k false ∙ good k small)
    (λ less. get_or-take count (drop lba bad) step false below ∙ get_or-drop lba bad step false ∙ is) in
    grind (arith, common_steps, at, size)
