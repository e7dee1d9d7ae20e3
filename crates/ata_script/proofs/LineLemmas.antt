-- The lines of a text, one by one.
use Rattle.std.proofs.Common.{arith, ◌≡◌, ℕ, ◌+◌, ◌≤◌, Bool, true, ◌==◌, not, List, [], ◌∷◌, length, refl, sym, ◌∙◌}
use Rattle.std.proofs.lemmas.List.Splits.{length-slice_split}
use Rattle.std.proofs.lemmas.List.Sums.{count_by-le-length}
use Rattle.ata_trace.specs.Parts.{parts_of, none_left}
use Rattle.ata_script.specs.Grammar.{lines_in, lines_of}

-- the last piece is no line where it is empty
pub no_line : (parts rest : List (List ℕ)) (text : List ℕ) (over : Bool) → parts ≡ text ∷ rest → over ≡ none_left rest → over ≡ true → text ≡ [] → lines_in parts ≡ []
no_line parts [] text over e o t empty = rw (e, empty) refl
no_line parts (next ∷ rest) text over e o t empty = cc (sym t ∙ o)

-- and else the line is this
pub a_line : (parts rest : List (List ℕ)) (text : List ℕ) (over : Bool) → parts ≡ text ∷ rest → over ≡ none_left rest → ((over ≡ true) → text ≡ [] → ⊥)
    → lines_in parts ≡ record { text = text; ended = not over } ∷ lines_in rest
a_line parts [] [] over e o full = absurd (full o refl)
a_line parts [] (c ∷ text) over e o full = rw (e, o) refl
a_line parts (next ∷ rest) [] over e o full = rw (e, o) refl
a_line parts (next ∷ rest) (c ∷ text) over e o full = rw (e, o) refl

-- a text has no more lines than bytes
few_in : (parts : List (List ℕ)) → length (lines_in parts) ≤ length parts
few_in [] = omega arith
few_in ([] ∷ []) = omega arith
few_in ((c ∷ text) ∷ []) = omega arith
few_in (text ∷ next ∷ rest) = omega (arith, few_in (next ∷ rest))

pub few_lines : (bytes : List ℕ) → length (lines_of bytes) ≤ length bytes + 1
few_lines bytes = omega (arith, few_in (parts_of 10 bytes), length-slice_split (λ b. b == 10) bytes, count_by-le-length (λ b. b == 10) bytes)
