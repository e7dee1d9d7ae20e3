-- A step in its ranges, written as a line, breaks no rule, and says that step.
use Rattle.std.proofs.Common.{arith, ◌≡◌, ℕ, ◌<◌, ◌+◌, ◌%◌, true, false, List, [], ◌∷◌, ◌++◌, refl, sym, ◌∙◌, ap, subst, decimal, codes}
use Rattle.std.specs.Prelude.{⊤, Option, None, ◌==◌, ◌^◌}
use Rattle.std.specs.Str.{bytes_eq}
use Rattle.std.proofs.lemmas.Bool.{le-leb}
use Rattle.std.proofs.lemmas.Bool.Decides.{nat_tests}
use Rattle.std.proofs.lemmas.Fmt.{decimal_by_steps}
use Rattle.std.proofs.lemmas.Slice.Eq.{bytes_eq-Decides}
use Rattle.ata_base.specs.declared.fault.Fault.{Fault}
use Rattle.ata_base.specs.declared.fault.Fault.TheVariants.{Icrc, Media}
use Rattle.ata_base.specs.declared.op.Op.{Op}
use Rattle.ata_base.specs.declared.op.Op.TheVariants.{Read, Write, Flush}
use Rattle.ata_trace.proofs.Digits.{n_in, n_plain, no_letters, plain, value_decimal}
use Rattle.ata_trace.proofs.LinesBack.{joined_more, words_joined}
use Rattle.ata_trace.proofs.StepsBack.{step_plain}
use Rattle.ata_trace.proofs.WordsBack.{all_plain}
use Rattle.ata_trace.specs.Parts.{words_of}
use Rattle.ata_trace.specs.Ranges.{IsIn, IsStep, IsTag}
use Rattle.ata_trace.specs.Text.{joined, step_words}
use Rattle.ata_trace.specs.declared.step.Step.{Step}
use Rattle.ata_trace.specs.declared.step.Step.TheVariants.{Submit, Kick, Work, Irq, Drop, Recover, Inject}
use Rattle.ata_script.proofs.Forms.{both}
use Rattle.ata_script.proofs.LinesWritten.{Written, is_one_line}
use Rattle.ata_script.proofs.NumberTests.{word_decimal}
use Rattle.ata_script.proofs.Rules.{rule_is}
use Rattle.ata_script.specs.Fields.{is_number, is_word, rule_by}
use Rattle.ata_script.specs.Forms.{is_head, rule_of, step_form}
use Rattle.ata_script.specs.Grammar.{is_skipped}
use Rattle.ata_script.specs.Items.Item.{Taken}
use Rattle.ata_script.specs.ScriptText.{item_text}
use Rattle.ata_script.specs.Taking.{item_for, step_for, step_form_of, step_form_for, other_form_for, other_step}

-- ---- numbers

same_bytes : (word : List ℕ) → bytes_eq word word ≡ true
same_bytes word = (bytes_eq-Decides word word).1 refl

-- the word of a number is a word, and right where the number is in the range
pub is_a_word : {least most n : ℕ} → IsIn least most n → is_word (decimal n) ≡ true
is_a_word {least} {most} {n} f = word_decimal n f.small

pub is_right : {least most n : ℕ} → IsIn least most n → is_number least most (decimal n) ≡ true
is_right {least} {most} {n} f =
    rw (value_decimal n f.small, le-leb least n f.low, le-leb n most f.high, same_bytes (decimal n)) refl

-- ---- steps that are generated

-- the operations
abbrev IsDrawnOp : Op → Type 0
IsDrawnOp (Read lba count) = IsIn 0 281474976710655 lba × IsIn 0 65535 count
IsDrawnOp (Write lba count stamp) = IsIn 0 281474976710655 lba × IsIn 0 65535 count × IsIn 0 18446744073709551615 stamp
IsDrawnOp Flush = ⊤
IsDrawnOp _ = ⊥

-- the faults
abbrev IsDrawnFault : Fault → Type 0
IsDrawnFault (Media lba) = IsIn 0 281474976710655 lba
IsDrawnFault (Icrc k) = IsIn 1 100 k
IsDrawnFault _ = ⊥

-- a step of the kinds that are generated, in its ranges
abbrev pub IsDrawn : Step → Type 0
IsDrawn (Submit id place op allow wait) = IsIn 1 65535 id × IsIn 0 14 place × IsDrawnOp op × IsIn 0 100 allow × IsIn 1 1000000 wait
IsDrawn (Kick place) = IsIn 0 14 place
IsDrawn (Work place pick) = IsIn 0 14 place × IsIn 0 31 pick
IsDrawn Irq = ⊤
IsDrawn Drop = ⊤
IsDrawn Recover = ⊤
IsDrawn (Inject place fault) = IsIn 0 14 place × IsDrawnFault fault
IsDrawn _ = ⊥

-- it is one that there is
in_ranges : (step : Step) → IsDrawn step → IsStep step
in_ranges (Submit id place (Read lba count) allow wait) f = (f.0, f.1, (f.2.0, f.2.1), f.3, f.4)
in_ranges (Submit id place (Write lba count stamp) allow wait) f = (f.0, f.1, (f.2.0, f.2.1, f.2.2), f.3, f.4)
in_ranges (Submit id place Flush allow wait) f = (f.0, f.1, tt, f.3, f.4)
in_ranges (Submit id place op allow wait) f = absurd f.2
in_ranges (Kick place) f = f
in_ranges (Work place pick) f = f
in_ranges Irq f = tt
in_ranges Drop f = tt
in_ranges Recover f = tt
in_ranges (Inject place (Media lba)) f = f
in_ranges (Inject place (Icrc k)) f = f
in_ranges (Inject place fault) f = absurd f.1
in_ranges step f = absurd f

-- ---- its line

-- a line of a step is no head line
no_head : {most actor : ℕ} → IsIn 0 most actor → is_head (decimal actor) ≡ false
no_head {most} {actor} f = rw (no_letters actor 112 (codes "ort") f.small (omega arith), no_letters actor 100 (codes "rive") f.small (omega arith)) refl

-- the rule that its words break behind the actor and the port
abbrev step_rule : ℕ → ℕ → Step → Option ℕ
step_rule actor port step =
    rule_by (step_form (step_form_of (step_words step))) (decimal actor ∷ decimal port ∷ step_words step)

step_right : {actor port : ℕ} → IsTag actor → IsIn 0 7 port → (step : Step) → IsDrawn step → step_rule actor port step ≡ None
unfolding step_form_for other_form_for
step_right a p (Submit id place (Read lba count) allow wait) f =
    rw (
      is_a_word a,
      is_a_word p,
      is_right a,
      is_right p,
      is_a_word f.0,
      is_a_word f.1,
      is_a_word f.2.0,
      is_a_word f.2.1,
      is_a_word f.3,
      is_a_word f.4,
      is_right f.0,
      is_right f.1,
      is_right f.2.0,
      is_right f.2.1,
      is_right f.3,
      is_right f.4,
    ) refl
step_right a p (Submit id place (Write lba count stamp) allow wait) f =
    rw (
      is_a_word a,
      is_a_word p,
      is_right a,
      is_right p,
      is_a_word f.0,
      is_a_word f.1,
      is_a_word f.2.0,
      is_a_word f.2.1,
      is_a_word f.2.2,
      is_a_word f.3,
      is_a_word f.4,
      is_right f.0,
      is_right f.1,
      is_right f.2.0,
      is_right f.2.1,
      is_right f.2.2,
      is_right f.3,
      is_right f.4,
    ) refl
step_right a p (Submit id place Flush allow wait) f =
    rw (
      is_a_word a,
      is_a_word p,
      is_right a,
      is_right p,
      is_a_word f.0,
      is_a_word f.1,
      is_a_word f.3,
      is_a_word f.4,
      is_right f.0,
      is_right f.1,
      is_right f.3,
      is_right f.4,
    ) refl
step_right a p (Submit id place op allow wait) f = absurd f.2
step_right a p (Kick place) f = rw (is_a_word a, is_a_word p, is_right a, is_right p, is_a_word f, is_right f) refl
step_right a p (Work place pick) f =
    rw (is_a_word a, is_a_word p, is_right a, is_right p, is_a_word f.0, is_right f.0, is_a_word f.1, is_right f.1) refl
step_right a p Irq f = rw (is_a_word a, is_a_word p, is_right a, is_right p) refl
step_right a p Drop f = rw (is_a_word a, is_a_word p, is_right a, is_right p) refl
step_right a p Recover f = rw (is_a_word a, is_a_word p, is_right a, is_right p) refl
step_right a p (Inject place (Media lba)) f =
    rw (is_a_word a, is_a_word p, is_right a, is_right p, is_a_word f.0, is_right f.0, is_a_word f.1, is_right f.1) refl
step_right a p (Inject place (Icrc k)) f =
    rw (is_a_word a, is_a_word p, is_right a, is_right p, is_a_word f.0, is_right f.0, is_a_word f.1, is_right f.1) refl
step_right a p (Inject place fault) f = absurd f.1
step_right a p step f = absurd f

-- the step that they say
step_said : (step : Step) → IsDrawn step → step_for (step_words step) ≡ step
unfolding step_for other_step
step_said (Submit id place (Read lba count) allow wait) f = rw (n_in f.0, n_in f.1, n_in f.2.0, n_in f.2.1, n_in f.3, n_in f.4) refl
step_said (Submit id place (Write lba count stamp) allow wait) f = rw (n_in f.0, n_in f.1, n_in f.2.0, n_in f.2.1, n_in f.2.2, n_in f.3, n_in f.4) refl
step_said (Submit id place Flush allow wait) f = rw (n_in f.0, n_in f.1, n_in f.3, n_in f.4) refl
step_said (Submit id place op allow wait) f = absurd f.2
step_said (Kick place) f = rw (n_in f) refl
step_said (Work place pick) f = rw (n_in f.0, n_in f.1) refl
step_said Irq f = refl
step_said Drop f = refl
step_said Recover f = refl
step_said (Inject place (Media lba)) f = rw (n_in f.0, n_in f.1) refl
step_said (Inject place (Icrc k)) f = rw (n_in f.0, n_in f.1) refl
step_said (Inject place fault) f = absurd f.1
step_said step f = absurd f

-- ---- its text

-- a number's word begins a line that isn't skipped
abbrev BeginsLine : List ℕ → Type 0
BeginsLine [] = ⊥
BeginsLine (d ∷ rest) = (d == 35) ≡ false

begins_more : (digits : List ℕ) (c : ℕ) → BeginsLine digits → BeginsLine (digits ++ c ∷ [])
begins_more [] c f = absurd f
begins_more (d ∷ rest) c f = f

number_begins : (n : ℕ) → n < 2 ^ 64 → BeginsLine (decimal n)
number_begins n small =
    decimal_by_steps (λ n digits. BeginsLine digits) (λ n few. grind (arith, nat_tests)) (λ n digits many before. begins_more digits (48 + n % 10) before) n small

kept_on : (digits more : List ℕ) → BeginsLine digits → is_skipped (digits ++ more) ≡ false
kept_on [] more f = absurd f
kept_on (d ∷ rest) more f = f

-- plain words, put together, are one line

plain_line : (word : List ℕ) → plain word ≡ true → is_one_line word ≡ true
plain_line [] f = refl
plain_line (c ∷ word) f = grind (arith, nat_tests, plain_line word)

line_on : (word more : List ℕ) → is_one_line word ≡ true → is_one_line more ≡ true → is_one_line (word ++ more) ≡ true
line_on [] more f g = g
line_on (c ∷ word) more f g = grind (arith, line_on word more)

pub joined_line : (text : List ℕ) (words : List (List ℕ)) → plain text ≡ true → all_plain words ≡ true → is_one_line (joined text words) ≡ true
joined_line text [] f g = plain_line text f
joined_line text (word ∷ words) f g =
    subst (λ line. is_one_line line ≡ true) (sym (joined_more text word words))
    (line_on text (32 ∷ joined word words) (plain_line text f)
    (joined_line word words (both (plain word) (all_plain words) g).0 (both (plain word) (all_plain words) g).1))

-- a step at a port, written
pub step_written :
    {actor port : ℕ} (version : ℕ) (step : Step) → IsTag actor → IsIn 0 7 port → IsDrawn step → Written version (Taken actor port step)
step_written {actor} {port} version step a p f =
    let rest : List (List ℕ) = decimal port ∷ step_words step in
    let plain_rest : all_plain rest ≡ true = rw (n_plain p) (step_plain step (in_ranges step f)) in
    let words : words_of (item_text (Taken actor port step)) ≡ decimal actor ∷ rest = words_joined (decimal actor) rest (n_plain a) plain_rest in
    record {
      kept =
          subst (λ line. is_skipped line ≡ false) (sym (joined_more (decimal actor) (decimal port) (step_words step)))
          (kept_on (decimal actor) (32 ∷ joined (decimal port) (step_words step)) (number_begins actor a.small));
      right =
          ap (rule_of version) words ∙ rule_is version (decimal actor ∷ rest)
          ∙ rw (no_head a) (step_right a p step f);
      is = ap (item_for version) words ∙ rw (no_head a, n_in a, n_in p, step_said step f) refl;
      one = joined_line (decimal actor) rest (n_plain a) plain_rest;
    }
