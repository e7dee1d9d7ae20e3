-- What a line says, written, is that line again, and lines that were written are cut again.
use Rattle.std.proofs.Common.{arith, ◌≡◌, ℕ, Bool, true, false, ◌==◌, not, ◌&&◌, List, [], ◌∷◌, ◌++◌, refl, sym, ◌∙◌, ap, append_assoc}
use Rattle.std.specs.Prelude.{All, None, if◌then◌else◌}
use Rattle.std.specs.List.{onto_first}
use Rattle.std.proofs.lemmas.Bool.Decides.{nat_tests}
use Rattle.std.proofs.lemmas.List.Elements.{All-nil, All-cons}
use Rattle.std.proofs.lemmas.List.Splits.{slice_split_at}
use Rattle.ata_trace.specs.Parts.{parts_of, words_of, none_left}
use Rattle.ata_trace.proofs.LinesBack.{joined_on}
use Rattle.ata_trace.proofs.PartLemmas.{some_part}
use Rattle.ata_script.specs.Forms.{rule_of}
use Rattle.ata_script.specs.Grammar.{Line, lines_in, lines_of, is_skipped}
use Rattle.ata_script.specs.Items.{Item}
use Rattle.ata_script.specs.ScriptText.{spaced, item_text, items_text}
use Rattle.ata_script.specs.Taking.{item_for}
use Rattle.ata_script.proofs.Forms.{both}
use Rattle.ata_script.proofs.Rules.{says}

-- the words of a line, put together

spaced_onto : (c : ℕ) (words : List (List ℕ)) → spaced (onto_first c words) ≡ c ∷ spaced words
spaced_onto c [] = refl
spaced_onto c (word ∷ rest) = joined_on (c ∷ []) word rest

spaced_behind : (words : List (List ℕ)) → none_left words ≡ false → spaced ([] ∷ words) ≡ 32 ∷ spaced words
spaced_behind [] some = cc some
spaced_behind (word ∷ rest) some = joined_on (32 ∷ []) word rest

pub spaced_words : (text : List ℕ) → spaced (words_of text) ≡ text
spaced_words [] = refl
spaced_words (c ∷ text) = chosen (c == 32) refl (spaced_words text) where
  chosen : (b : Bool) → (c == 32) ≡ b → spaced (words_of text) ≡ text → spaced (if b then [] ∷ words_of text else onto_first c (words_of text)) ≡ c ∷ text
  chosen true e same = let space : 32 ≡ c = grind (arith, nat_tests, e) in spaced_behind (words_of text) (some_part 32 text) ∙ (λ i. space i ∷ same i)
  chosen false e same = spaced_onto c (words_of text) ∙ ap (λ rest. c ∷ rest) same

-- whether a text has no line feed
abbrev pub is_one_line : List ℕ → Bool
is_one_line [] = true
is_one_line (c ∷ rest) = not (c == 10) && is_one_line rest

no_feed : (text : List ℕ) → is_one_line text ≡ true → All (λ b. (b == 10) ≡ false) text
no_feed [] one = All-nil (λ b. (b == 10) ≡ false)
no_feed (c ∷ text) one =
    let b = both (not (c == 10)) (is_one_line text) one in
    All-cons (λ b. (b == 10) ≡ false) c text (other (c == 10) b.0) (no_feed text b.1) where
      other : (b : Bool) → not b ≡ true → b ≡ false
      other true e = cc e
      other false e = refl

-- the pieces of a text have none

abbrev EachPiece : List (List ℕ) → Type 0
EachPiece [] = Unit {0}
EachPiece (piece ∷ rest) = (is_one_line piece ≡ true) × EachPiece rest

piece_onto : (c : ℕ) (pieces : List (List ℕ)) → (c == 10) ≡ false → EachPiece pieces → EachPiece (onto_first c pieces)
piece_onto c [] e each = (rw e refl, tt)
piece_onto c (piece ∷ rest) e each = (rw (e, each.0) refl, each.1)

each_piece : (text : List ℕ) → EachPiece (parts_of 10 text)
each_piece [] = (refl, tt)
each_piece (c ∷ text) = chosen (c == 10) refl (each_piece text) where
  chosen : (b : Bool) → (c == 10) ≡ b → EachPiece (parts_of 10 text) → EachPiece (if b then [] ∷ parts_of 10 text else onto_first c (parts_of 10 text))
  chosen true e each = (refl, each)
  chosen false e each = piece_onto c (parts_of 10 text) e each

abbrev pub EachOne : List Line → Type 0
EachOne [] = Unit {0}
EachOne (line ∷ rest) = (is_one_line line.text ≡ true) × EachOne rest

each_in : (pieces : List (List ℕ)) → EachPiece pieces → EachOne (lines_in pieces)
each_in [] each = tt
each_in ([] ∷ []) each = tt
each_in ((c ∷ text) ∷ []) each = (each.0, tt)
each_in (text ∷ next ∷ rest) each = (each.0, each_in (next ∷ rest) each.1)

pub each_one : (text : List ℕ) → EachOne (lines_of text)
each_one text = each_in (parts_of 10 text) (each_piece text)

-- a line in front of a text

ended_in : (text : List ℕ) (pieces : List (List ℕ)) → none_left pieces ≡ false → lines_in (text ∷ pieces) ≡ record { text = text; ended = true } ∷ lines_in pieces
ended_in text [] some = cc some
ended_in [] (next ∷ rest) some = refl
ended_in (c ∷ text) (next ∷ rest) some = refl

pub line_before : (text rest : List ℕ) → is_one_line text ≡ true → lines_of (text ++ 10 ∷ rest) ≡ record { text = text; ended = true } ∷ lines_of rest
line_before text rest one =
    ap lines_in (slice_split_at (λ b. b == 10) text 10 rest (no_feed text one) refl) ∙ ended_in text (parts_of 10 rest) (some_part 10 rest)

-- an item whose text is a line that isn't skipped, breaks none of the rules 3 to 5, and says it
pub record Written (version : ℕ) (item : Item) : Type 0 where
  pub kept : is_skipped (item_text item) ≡ false
  pub right : rule_of version (words_of (item_text item)) ≡ None
  pub is : item_for version (words_of (item_text item)) ≡ item
  pub one : is_one_line (item_text item) ≡ true

-- it is what such a line says
pub written : (version : ℕ) (text : List ℕ) → is_skipped text ≡ false → rule_of version (words_of text) ≡ None → is_one_line text ≡ true
    → Written version (item_for version (words_of text))
written version text kept right one =
    let same : item_text (item_for version (words_of text)) ≡ text = ap spaced (says version (words_of text) right) ∙ spaced_words text in
    record {
      kept = ap is_skipped same ∙ kept;
      right = ap (λ t. rule_of version (words_of t)) same ∙ right;
      is = ap (λ t. item_for version (words_of t)) same;
      one = ap is_one_line same ∙ one;
    }

-- the lines of items

pub items_on : (first rest : List Item) → items_text (first ++ rest) ≡ items_text first ++ items_text rest
items_on [] rest = refl
items_on (item ∷ first) rest =
    ap (λ more. item_text item ++ 10 ∷ more) (items_on first rest) ∙ sym (append_assoc (item_text item) (10 ∷ items_text first) (items_text rest))
