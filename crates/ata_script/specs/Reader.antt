-- What a reader of lines answers.
use Rattle.std.specs.Prelude.{ℕ, ◌≡◌, ⊤, true, false, List, Option, Some, None, Result, Ok, Err}
use Rattle.ata_script.specs.Draft.{DraftView, is_in_order, with_item}
use Rattle.ata_script.specs.Grammar.{Line, first_rule, version_in, words_rule, later_rule, with_line}
use Rattle.ata_script.specs.Items.{Item}
use Rattle.ata_script.specs.Taking.{item_for}
use Rattle.ata_script.specs.declared.refusal.Refusal.{Refusal}
use Rattle.ata_script.specs.declared.refusal.Refusal.TheVariants.{Rule, Memory as NoRoom}
use Rattle.ata_script.specs.declared.script_error.ScriptError.{ScriptError}
use Rattle.ata_script.specs.declared.script_error.ScriptError.TheVariants.{Fault, Memory}

-- an error tells this fault, unless memory ran out
abbrev pub Tells : ScriptError → Option (ℕ × ℕ) → Type 0
Tells (Fault line rule) fault = fault ≡ Some (line, rule)
Tells Memory fault = ⊤

-- an item was added where it stands in order
abbrev pub Adds : {A : Type 0} → DraftView → DraftView → Item → Result A Refusal → Type 0
Adds before after item (Ok done) = (is_in_order before item ≡ true) × (after ≡ with_item before item)
Adds before after item (Err (Rule rule)) = (is_in_order before item ≡ false) × (rule ≡ 6)
Adds before after item (Err NoRoom) = ⊤

-- the item of these words was added where they break no rule; else the least rule that they break is told
abbrev pub Takes : {A : Type 0} → DraftView → DraftView → List (List ℕ) → Result A Refusal → Type 0
Takes before after words (Ok done) = (words_rule before words ≡ None) × (after ≡ with_item before (item_for before.version words))
Takes before after words (Err (Rule rule)) = words_rule before words ≡ Some rule
Takes before after words (Err NoRoom) = ⊤

-- the same of a whole line
abbrev pub Gives : {A : Type 0} → DraftView → DraftView → Line → Result A Refusal → Type 0
Gives before after line (Ok done) = (later_rule before line ≡ None) × (after ≡ with_line before line)
Gives before after line (Err (Rule rule)) = later_rule before line ≡ Some rule
Gives before after line (Err NoRoom) = ⊤

-- what the first line gives: the version, or the least rule that it breaks
abbrev pub Begins : Line → Result ℕ ℕ → Type 0
Begins line (Ok version) = (first_rule line ≡ None) × (version ≡ version_in line.text)
Begins line (Err rule) = first_rule line ≡ Some rule
