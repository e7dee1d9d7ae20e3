-- What is right in version 1 is right in version 2, and says the same.
use Rattle.std.proofs.Common.{◌≡◌, ◌∙◌, ℕ, ◌+◌, ◌≤◌, Bool, true, false, not, List, [], ◌∷◌, ◌++◌, length, codes, refl, sym, ap}
use Rattle.std.specs.Prelude.{Option, None, Some, if◌then◌else◌}
use Rattle.std.specs.Str.{bytes_eq}
use Rattle.std.proofs.Math.Bridge.{le_prop}
use Rattle.std.proofs.Math.Logic.{∥∥₁_elim}
use Rattle.ata_script.proofs.LinesWritten.{line_before}
use Rattle.ata_script.proofs.Rules.{says}
use Rattle.ata_script.specs.Draft.{DraftView, begun, is_in_order, with_item}
use Rattle.ata_script.specs.Fields.{Field, fits, rule_by}
use Rattle.ata_script.specs.Forms.{direct_drain_form, drain_form, fbs_drain_form, fbs_form, first_head_forms, is_head, rule_among, rule_of, second_head_forms, step_forms}
use Rattle.ata_script.specs.Grammar.{Line, fault_in, is_skipped, later_fault, later_rule, lines_of, or_later, or_order, said_in, with_line, with_lines, words_rule}
use Rattle.ata_script.specs.Items.{Item, item_words}
use Rattle.ata_script.specs.Items.Item.{Port, Drive, Taken}
use Rattle.ata_script.specs.OfText.{IsOfText, Says, all_said}
use Rattle.ata_script.specs.Scripts.{IsScript, script_said}
use Rattle.ata_script.specs.Taking.{drive_item, item_for, options_in, port_item, step_item}
use Rattle.ata_script.specs.declared.script.Script.{Script}
use Rattle.ata_trace.specs.Parts.{first as first_word, none_left, words_of}
use Rattle.ata_trace.specs.Reading.{number_in}
use Rattle.ata_trace.specs.Told.{after_three, after_two, second as second_word, third}
use Rattle.host_core.specs.Versions.{HasSecondVersion, in_version}

-- ---- the words of a line

kept_by : (b : Bool) (rule one other : Option ℕ) → (one ≡ None → other ≡ None) → (if b then rule else one) ≡ None → (if b then rule else other) ≡ None
kept_by true rule one other later is = is
kept_by false rule one other later is = later is

-- words that are right by some forms are so where there are more
still_right : (forms more : List (List Field)) (words : List (List ℕ)) → rule_among forms words ≡ None → rule_among (forms ++ more) words ≡ None
still_right [] more words is = absurd (cc)
still_right (form ∷ forms) more words is =
    kept_by (fits form words) (rule_by form words) (rule_among forms words) (rule_among (forms ++ more) words) (still_right forms more words) is

right_by :
    (head : Bool) (words : List (List ℕ)) → rule_among (if head then first_head_forms else step_forms) words ≡ None
    → rule_among (if head then second_head_forms else step_forms) words ≡ None
right_by true words is = still_right first_head_forms (direct_drain_form ∷ fbs_form ∷ drain_form ∷ fbs_drain_form ∷ []) words is
right_by false words is = is

right_too : (words : List (List ℕ)) → rule_of 1 words ≡ None → rule_of 2 words ≡ None
right_too words is = right_by (is_head (first_word words)) words is

-- a port's line with these words says neither `fbs` nor `drain`
plain_port :
    (number places : ℕ) (pmp fbs drain : Bool) → item_words (Port number places pmp fbs drain) ≡ item_words (Port number places pmp false false)
    → Port number places pmp fbs drain ≡ Port number places pmp false false
plain_port number places pmp false false is = refl
plain_port number places false true drain is = absurd (cc)
plain_port number places true true drain is = absurd (cc)
plain_port number places false false true is = absurd (cc)
plain_port number places true false true is = absurd (cc)

port_by :
    (direct : Bool) (number places : ℕ) (fbs drain late : Bool)
    → item_words (if direct then Port number 1 false false late else Port number places true fbs drain)
    ≡ item_words (if direct then Port number 1 false false false else Port number places true false false)
    → (if direct then Port number 1 false false late else Port number places true fbs drain)
    ≡ (if direct then Port number 1 false false false else Port number places true false false)
port_by true number places fbs drain late is = plain_port number 1 false false late is
port_by false number places fbs drain late is = plain_port number places true fbs drain is

port_same : (words : List (List ℕ)) → item_words (port_item true words) ≡ item_words (port_item false words) → port_item true words ≡ port_item false words
port_same words is =
    port_by (bytes_eq (third words) (codes "direct")) (number_in 0 7 (second_word words)) (number_in 1 15 (second_word (after_two words)))
    (options_in true (after_two (after_two words))).0 (options_in true (after_two (after_two words))).1 (not (none_left (after_three words))) is

item_by :
    (head port : Bool) (one other drive step : Item) → (item_words one ≡ item_words other → one ≡ other)
    → item_words (if head then (if port then one else drive) else step) ≡ item_words (if head then (if port then other else drive) else step)
    → (if head then (if port then one else drive) else step) ≡ (if head then (if port then other else drive) else step)
item_by true true one other drive step same is = same is
item_by true false one other drive step same is = refl
item_by false port one other drive step same is = refl

-- a right line says the same
says_same : (words : List (List ℕ)) → rule_of 1 words ≡ None → item_for 2 words ≡ item_for 1 words
says_same words right =
    item_by (is_head (first_word words)) (bytes_eq (first_word words) (codes "port")) (port_item true words) (port_item false words)
    (drive_item words) (step_item words) (port_same words) (says 2 words (right_too words right) ∙ sym (says 1 words right))

-- ---- a line behind others

-- what was said, in version 2
abbrev second_of : DraftView → DraftView
second_of said = record said { version = 2 }

order_same : (said : DraftView) (item : Item) → is_in_order (second_of said) item ≡ is_in_order said item
order_same said (Port number places pmp fbs drain) = refl
order_same said (Drive port number place model serial sectors depth generation ready) = refl
order_same said (Taken actor port step) = refl

item_added : (said : DraftView) (item : Item) → with_item (second_of said) item ≡ second_of (with_item said item)
item_added said (Port number places pmp fbs drain) = refl
item_added said (Drive port number place model serial sectors depth generation ready) = refl
item_added said (Taken actor port step) = refl

version_kept : (said : DraftView) (item : Item) → (with_item said item).version ≡ said.version
version_kept said (Port number places pmp fbs drain) = refl
version_kept said (Drive port number place model serial sectors depth generation ready) = refl
version_kept said (Taken actor port step) = refl

version_by : (skipped : Bool) (said : DraftView) (item : Item) → (if skipped then said else with_item said item).version ≡ said.version
version_by true said item = refl
version_by false said item = version_kept said item

none_broken : (rule : Option ℕ) (right : Bool) → or_order rule right ≡ None → (rule ≡ None) × (right ≡ true)
none_broken (Some rule) right is = absurd (cc)
none_broken None true is = (refl, refl)
none_broken None false is = absurd (cc)

none_later : (number : ℕ) (rule : Option ℕ) (later : Option (ℕ × ℕ)) → or_later number rule later ≡ None → (rule ≡ None) × (later ≡ None)
none_later number (Some rule) later is = absurd (cc)
none_later number None later is = (refl, is)

words_second :
    (said : DraftView) (words : List (List ℕ)) → said.version ≡ 1 → words_rule said words ≡ None
    → (words_rule (second_of said) words ≡ None)
    × (with_item (second_of said) (item_for 2 words) ≡ second_of (with_item said (item_for said.version words)))
words_second said words version is =
    let parts = none_broken (rule_of said.version words) (is_in_order said (item_for said.version words)) is in
    let right : rule_of 1 words ≡ None = ap (λ n. rule_of n words) (sym version) ∙ parts.0 in
    let same : item_for 2 words ≡ item_for said.version words = says_same words right ∙ ap (λ n. item_for n words) (sym version) in (
      ap (λ rule. or_order rule (is_in_order (second_of said) (item_for 2 words))) (right_too words right)
          ∙ ap (or_order None) (ap (is_in_order (second_of said)) same ∙ order_same said (item_for said.version words) ∙ parts.1),
      ap (with_item (second_of said)) same ∙ item_added said (item_for said.version words),
    )

line_by :
    (ended skipped : Bool) (said : DraftView) (words : List (List ℕ)) → said.version ≡ 1
    → (if ended then (if skipped then None else words_rule said words) else Some 2) ≡ None
    → ((if ended then (if skipped then None else words_rule (second_of said) words) else Some 2) ≡ None)
    × ((if skipped then second_of said else with_item (second_of said) (item_for 2 words))
    ≡ second_of (if skipped then said else with_item said (item_for said.version words)))
line_by false skipped said words version is = absurd (cc)
line_by true true said words version is = (refl, refl)
line_by true false said words version is = words_second said words version is

-- ---- all lines

lines_second :
    (number : ℕ) (said : DraftView) (lines : List Line) → said.version ≡ 1 → later_fault number said lines ≡ None
    → (later_fault number (second_of said) lines ≡ None) × (with_lines (second_of said) lines ≡ second_of (with_lines said lines))
lines_second number said [] version right = (refl, refl)
lines_second number said (line ∷ rest) version right =
    let each = none_later number (later_rule said line) (later_fault (number + 1) (with_line said line) rest) right in
    let here = line_by line.ended (is_skipped line.text) said (words_of line.text) version each.0 in
    let kept : (with_line said line).version ≡ 1 = version_by (is_skipped line.text) said (item_for said.version (words_of line.text)) ∙ version in
    let later = lines_second (number + 1) (with_line said line) rest kept each.1 in (
      ap (λ rule. or_later number rule (later_fault (number + 1) (with_line (second_of said) line) rest)) here.0
          ∙ ap (λ next. later_fault (number + 1) next rest) here.1
          ∙ later.0,
      ap (λ next. with_lines next rest) here.1 ∙ later.1,
    )

-- line 1 and the lines behind it

first_lines : (rest : List ℕ) → lines_of (in_version 1 rest) ≡ record { text = codes "atahost 1"; ended = true } ∷ lines_of rest
first_lines rest = line_before (codes "atahost 1") rest refl

second_lines : (rest : List ℕ) → lines_of (in_version 2 rest) ≡ record { text = codes "atahost 2"; ended = true } ∷ lines_of rest
second_lines rest = line_before (codes "atahost 2") rest refl

-- a script in version 1 is one in version 2
pub second_version : (rest : List ℕ) (first : Script) → IsScript (in_version 1 rest) first → HasSecondVersion rest first
second_version rest first read =
    let right : later_fault 2 (begun 1) (lines_of rest) ≡ None = sym (ap fault_in (first_lines rest)) ∙ read.right in
    let both = lines_second 2 (begun 1) (lines_of rest) refl right in
    let said : script_said first ≡ with_lines (begun 1) (lines_of rest) = read.is ∙ ap said_in (first_lines rest) in
    let again : Says (in_version 2 rest) (all_said 2 first.head first.steps) = record {
      right = ap fault_in (second_lines rest) ∙ both.0;
      is = ap second_of said ∙ sym both.1 ∙ sym (ap said_in (second_lines rest));
    } in
    let few : length first.steps ≤ 524288 = ∥∥₁_elim first.text le_prop (λ (t : IsOfText first.version first.head first.steps). t.few) in
    record {
      second = record {
        version = 2;
        head = first.head;
        steps = first.steps;
        text = ∣ record { bytes = in_version 2 rest; says = again; few = few } ∣₁;
      };
      read = again;
      version = refl;
      head = refl;
      steps = refl;
    }
