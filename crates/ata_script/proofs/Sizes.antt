-- A step takes eight bytes of a text at least.
use Rattle.std.proofs.Common.{arith, length-append, ◌≡◌, ℕ, ◌+◌, ◌*◌, ◌<◌, ◌≤◌, ◌^◌, Bool, true, false, ◌==◌, ◌&&◌, List, [], ◌∷◌, length, refl, ◌∙◌, ap, codes}
use Rattle.std.specs.Prelude.{Option, None, Some, nat_le, if◌then◌else◌}
use Rattle.std.specs.List.{onto_first}
use Rattle.std.specs.Str.{bytes_eq}
use Rattle.std.proofs.lemmas.List.Splits.{length-slice_split, slice_split-cons_yes, slice_split-cons_no}
use Rattle.std.proofs.lemmas.Fmt.{decimal_nonempty}
use Rattle.ata_trace.specs.Parts.{parts_of, words_of, first}
use Rattle.ata_trace.specs.Reading.{value_from, number_in}
use Rattle.ata_trace.specs.Text.{step_words}
use Rattle.ata_trace.specs.Told.{second, third}
use Rattle.ata_trace.specs.declared.step.Step.{Step}
use Rattle.ata_trace.specs.declared.step.Step.TheVariants.{Submit, Kick, Work, Irq, Drop, Stray, Tick, Expire, Recover, Plug, Unplug, Inject, Boot}
use Rattle.ata_script.specs.Draft.{DraftView, is_in_order, with_item}
use Rattle.ata_script.specs.Forms.{rule_of, is_head}
use Rattle.ata_script.specs.Grammar.{Line, lines_size, lines_in, lines_of, later_rule, is_skipped, with_line, words_rule, or_order}
use Rattle.ata_script.specs.Items.{Item, item_words}
use Rattle.ata_script.specs.Items.Item.{Port, Drive, Taken}
use Rattle.ata_script.specs.Taking.{item_for}
use Rattle.ata_script.proofs.Forms.{both, either}
use Rattle.ata_script.proofs.Rules.{says}
use Rattle.std.proofs.lemmas.Bool.{leb-true}

-- the bytes of pieces, with the byte behind each
abbrev pub size_of : List (List ℕ) → ℕ
size_of [] = 0
size_of (piece ∷ rest) = length piece + 1 + size_of rest

onto_size : (b : ℕ) (pieces : List (List ℕ)) → 0 < length pieces → size_of (onto_first b pieces) ≡ size_of pieces + 1
onto_size b [] some = absurd (omega (arith, some))
onto_size b (piece ∷ rest) some = omega arith

pub size_split : (cut : ℕ) (bytes : List ℕ) → size_of (parts_of cut bytes) ≡ length bytes + 1
size_split cut [] = refl
size_split cut (b ∷ bytes) = chosen (b == cut) refl (size_split cut bytes) (onto_size b (parts_of cut bytes) (omega (arith, length-slice_split (λ x. x == cut) bytes))) where
  chosen : (is : Bool) → (b == cut) ≡ is → size_of (parts_of cut bytes) ≡ length bytes + 1 → size_of (onto_first b (parts_of cut bytes)) ≡ size_of (parts_of cut bytes) + 1
      → size_of (parts_of cut (b ∷ bytes)) ≡ length (b ∷ bytes) + 1
  chosen true e rest onto =
      let made : size_of ([] ∷ parts_of cut bytes) ≡ length (b ∷ bytes) + 1 = omega (arith, rest) in
      ap size_of (slice_split-cons_yes (λ x. x == cut) b bytes e) ∙ made
  chosen false e rest onto =
      let made : size_of (onto_first b (parts_of cut bytes)) ≡ length (b ∷ bytes) + 1 = omega (arith, rest, onto) in
      ap size_of (slice_split-cons_no (λ x. x == cut) b bytes e) ∙ made

size_lines : (pieces : List (List ℕ)) → lines_size (lines_in pieces) ≤ size_of pieces
size_lines [] = omega arith
size_lines ([] ∷ []) = omega arith
size_lines ((c ∷ text) ∷ []) = omega arith
size_lines (text ∷ next ∷ rest) = omega (arith, size_lines (next ∷ rest))

pub text_size : (bytes : List ℕ) → lines_size (lines_of bytes) ≤ length bytes + 1
text_size bytes = omega (arith, size_lines (parts_of 10 bytes), size_split 10 bytes)

-- the name of a step has three letters at least
three_letters : (step : Step) → 4 ≤ size_of (step_words step)
three_letters (Submit id place op allow wait) = omega arith
three_letters (Kick place) = omega arith
three_letters (Work place pick) = omega arith
three_letters Irq = omega arith
three_letters Drop = omega arith
three_letters (Stray tag) = omega arith
three_letters (Tick ms) = omega arith
three_letters Expire = omega arith
three_letters Recover = omega arith
three_letters (Plug place drive) = omega arith
three_letters (Unplug place) = omega arith
three_letters (Inject place fault) = omega arith
three_letters Boot = omega arith

-- the numbers of a step's line are of 64 bits
abbrev pub IsSmall : Item → Type 0
IsSmall (Port number places pmp fbs drain) = Unit {0}
IsSmall (Drive port number place model serial sectors depth generation ready) = Unit {0}
IsSmall (Taken actor port step) = (actor < 2 ^ 64) × (port < 2 ^ 64)

small_in : (most : ℕ) (word : List ℕ) → most < 2 ^ 64 → number_in 0 most word < 2 ^ 64
small_in most word small = chosen (nat_le 0 (value_from 0 word) && nat_le (value_from 0 word) most) refl where
  chosen : (b : Bool) → (nat_le 0 (value_from 0 word) && nat_le (value_from 0 word) most) ≡ b → (if b then value_from 0 word else 0) < 2 ^ 64
  chosen true e = omega (arith, small, leb-true (value_from 0 word) most (both (nat_le 0 (value_from 0 word)) (nat_le (value_from 0 word) most) e).1)
  chosen false e = omega arith

item_small : (version : ℕ) (words : List (List ℕ)) → IsSmall (item_for version words)
item_small version words =
    either IsSmall (is_head (first words)) _ _
    (either IsSmall (bytes_eq (first words) (codes "port")) _ _ (either IsSmall (bytes_eq (third words) (codes "direct")) _ _ tt tt) tt)
    (small_in 31 (first words) (omega arith), small_in 7 (second words) (omega arith))

-- an item adds a step only where its words are as long
room_of : (said : DraftView) (item : Item) → IsSmall item → 8 * length (with_item said item).steps ≤ 8 * length said.steps + size_of (item_words item)
room_of said (Port number places pmp fbs drain) small = omega arith
room_of said (Drive port number place model serial sectors depth generation ready) small = omega arith
room_of said (Taken actor port step) small =
    omega (arith, length-append said.steps ((actor, port, step) ∷ []), decimal_nonempty actor small.0, decimal_nonempty port small.1, three_letters step)

unordered : (o : Option ℕ) (b : Bool) → or_order o b ≡ None → o ≡ None
unordered (Some rule) b e = cc e
unordered None b e = refl

-- a line without a fault adds a step only where it is as long
pub line_room : (said next : DraftView) (line : Line) → later_rule said line ≡ None → next ≡ with_line said line
    → 8 * length next.steps ≤ 8 * length said.steps + (length line.text + 1)
line_room said next line right is = chosen line.ended (is_skipped line.text) right is where
  chosen : (ended skipped : Bool) → (if ended then (if skipped then None else words_rule said (words_of line.text)) else Some 2) ≡ None
      → next ≡ (if skipped then said else with_item said (item_for said.version (words_of line.text)))
      → 8 * length next.steps ≤ 8 * length said.steps + (length line.text + 1)
  chosen false skipped r n = cc r
  chosen true true r n = omega (arith, ap (λ d. length d.steps) n)
  chosen true false r n =
      let none = unordered (rule_of said.version (words_of line.text)) (is_in_order said (item_for said.version (words_of line.text))) r in
      omega (
        arith,
        ap (λ d. length d.steps) n,
        room_of said (item_for said.version (words_of line.text)) (item_small said.version (words_of line.text)),
        ap size_of (says said.version (words_of line.text) none),
        size_split 32 line.text,
      )
