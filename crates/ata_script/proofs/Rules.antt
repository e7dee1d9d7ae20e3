-- The rule of a line is that by the form of its words, and a line that breaks none is that of its item.
use Rattle.std.proofs.Common.{◌≡◌, ℕ, Bool, true, false, List, ◌∷◌, refl, sym, ◌∙◌, ap, codes, decimal}
use Rattle.std.specs.Prelude.{None, if◌then◌else◌}
use Rattle.std.specs.Str.{bytes_eq}
use Rattle.ata_trace.specs.Parts.{first}
use Rattle.ata_trace.specs.Reading.{number_in}
use Rattle.ata_trace.specs.Told.{second, third, after_two}
use Rattle.ata_script.specs.Fields.{fits, numbers_right, names_right, least_broken, rule_by, spell}
use Rattle.ata_script.specs.Forms.{step_form, head_forms, first_head_forms, second_head_forms, step_forms, is_head, rule_among, rule_of, drive_form}
use Rattle.ata_script.specs.Items.{item_words}
use Rattle.ata_script.specs.Taking.{start, after, verdict, step_form_of, is_second, head_form_for, head_item, form_for, item_for, step_item, port_form_for, port_item, drive_item}
use Rattle.ata_script.proofs.Forms.{verdict_is, spelled, rule_by_form, pick}
use Rattle.ata_script.proofs.HeadForms.{head_form, one_each, two_each, one_among, two_among, port_spelt, drive_spelt}
use Rattle.ata_script.proofs.StepForms.{step_each, step_among, step_spelt}

head_rule : (two : Bool) (words : List (List ℕ)) → rule_among (if two then second_head_forms else first_head_forms) words ≡ rule_by (head_form two words) words
head_rule true words = rule_by_form second_head_forms words _ (two_each words) (two_among words)
head_rule false words = rule_by_form first_head_forms words _ (one_each words) (one_among words)

-- the rule of a line is the one by its form
pub rule_is : (version : ℕ) (words : List (List ℕ)) → rule_of version words ≡ rule_by (form_for version words) words
rule_is version words =
    pick (λ forms form. rule_among forms words ≡ rule_by form words) (is_head (first words)) (head_forms version) step_forms
    (head_form_for version words) (step_form (step_form_of (after_two words)))
    (head_rule (is_second version) words)
    (rule_by_form step_forms words _ (step_each words) (step_among (third words) _ _))

-- what is read of a line is spelled as its form is
item_spelt : (version : ℕ) (words : List (List ℕ)) → item_words (item_for version words) ≡ spell (form_for version words) words
item_spelt version words =
    pick (λ item form. item_words item ≡ spell form words) (is_head (first words)) (head_item version words) (step_item words)
    (head_form_for version words) (step_form (step_form_of (after_two words)))
    (pick (λ item form. item_words item ≡ spell form words) (bytes_eq (first words) (codes "port")) (port_item (is_second version) words) (drive_item words)
    (port_form_for (is_second version) words) drive_form (port_spelt (is_second version) words) (drive_spelt words))
    (ap (λ ws. decimal (number_in 0 31 (first words)) ∷ decimal (number_in 0 7 (second words)) ∷ ws) (step_spelt (after_two words)))

unbroken : (a b c : Bool) → least_broken a b c ≡ None → (a ≡ true) × (b ≡ true) × (c ≡ true)
unbroken true true true e = (refl, refl, refl)
unbroken true true false e = cc e
unbroken true false c e = cc e
unbroken false b c e = cc e

-- a line that breaks no rule is that of its item
pub says : (version : ℕ) (words : List (List ℕ)) → rule_of version words ≡ None → item_words (item_for version words) ≡ words
says version words none =
    let form = form_for version words in
    let kept = unbroken (fits form words) (numbers_right form words) (names_right form words) (sym (rule_is version words) ∙ none) in
    item_spelt version words ∙ spelled form words kept.0 kept.1 kept.2

-- the verdict on a line is its rule
pub verdict_of : (version : ℕ) (words : List (List ℕ)) → verdict (after (form_for version words) (start words)) ≡ rule_of version words
verdict_of version words = verdict_is (form_for version words) words ∙ sym (rule_is version words)
