-- A script has at most 8 ports.
use Rattle.std.proofs.Common.{◌≡◌, ℕ, ◌+◌, ◌≤◌, Bool, true, false, ◌&&◌, zero, suc, List, [], ◌∷◌, length, length-append, codes, refl, ap, arith}
use Rattle.std.specs.Prelude.{Option, None, Some, nat_eq, nat_le, if◌then◌else◌}
use Rattle.std.specs.Str.{bytes_eq}
use Rattle.std.proofs.Math.Bridge.{le_prop}
use Rattle.std.proofs.Math.Logic.{∥∥₁_elim}
use Rattle.std.proofs.lemmas.Bool.{leb-true}
use Rattle.std.proofs.lemmas.Bool.Decides.{nat_tests}
use Rattle.std.proofs.lemmas.List.{length-map}
use Rattle.ata_trace.specs.Parts.{words_of, first}
use Rattle.ata_trace.specs.Reading.{value_from, number_in}
use Rattle.ata_trace.specs.Told.{second, third}
use Rattle.ata_script.specs.Draft.{DraftView, begun, is_in_order, no_steps, with_drive, with_item}
use Rattle.ata_script.specs.Forms.{rule_of, is_head}
use Rattle.ata_script.specs.Grammar.{Line, fault_in, first_rule, is_skipped, later_fault, later_rule, lines_of, or_later, or_order, said_in, version_in, with_line, with_lines, words_rule}
use Rattle.ata_script.specs.Heads.{DriveSaid, PortSaid, port_said}
use Rattle.ata_script.specs.Items.{Item}
use Rattle.ata_script.specs.Items.Item.{Port, Drive, Taken}
use Rattle.ata_script.specs.OfText.{IsOfText}
use Rattle.ata_script.specs.Taking.{item_for}
use Rattle.ata_script.specs.declared.script.Script.{Script}
use Rattle.ata_script.proofs.Forms.{both, either}

-- the number of a port's line is at most 7
abbrev IsLow : Item → Type 0
IsLow (Port number places pmp fbs drain) = number ≤ 7
IsLow (Drive port number place model serial sectors depth generation ready) = Unit {0}
IsLow (Taken actor port step) = Unit {0}

low_in : (word : List ℕ) → number_in 0 7 word ≤ 7
low_in word = chosen (nat_le 0 (value_from 0 word) && nat_le (value_from 0 word) 7) refl where
  chosen : (b : Bool) → (nat_le 0 (value_from 0 word) && nat_le (value_from 0 word) 7) ≡ b → (if b then value_from 0 word else 0) ≤ 7
  chosen true e = leb-true (value_from 0 word) 7 (both (nat_le 0 (value_from 0 word)) (nat_le (value_from 0 word) 7) e).1
  chosen false e = omega arith

item_low : (version : ℕ) (words : List (List ℕ)) → IsLow (item_for version words)
item_low version words =
    either IsLow (is_head (first words)) _ _
    (either IsLow (bytes_eq (first words) (codes "port")) _ _
    (either IsLow (bytes_eq (third words) (codes "direct")) _ _ (low_in (second words)) (low_in (second words))) tt)
    tt

same_drives : (number : ℕ) (drive : DriveSaid) (ports : List PortSaid) → length (with_drive number drive ports) ≡ length ports
same_drives number drive [] = refl
same_drives zero drive (port ∷ rest) = refl
same_drives (suc number) drive (port ∷ rest) = omega (arith, same_drives number drive rest)

-- what stands in order leaves few ports
few_with_item : (said : DraftView) (item : Item) → IsLow item → is_in_order said item ≡ true → length said.ports ≤ 8 → length (with_item said item).ports ≤ 8
few_with_item said (Port number places pmp fbs drain) low right few =
    let next : nat_eq number (length said.ports) ≡ true = (both (no_steps said.steps) (nat_eq number (length said.ports)) right).1 in
    let same : number ≡ length said.ports = grind (arith, nat_tests) in
    omega (arith, length-append said.ports ((record { places = places; pmp = pmp; fbs = fbs; drain = drain; drives = [] }) ∷ []), same, low)
few_with_item said (Drive port number place model serial sectors depth generation ready) low right few = rw same_drives few
few_with_item said (Taken actor port step) low right few = few

in_order : (o : Option ℕ) (b : Bool) → or_order o b ≡ None → b ≡ true
in_order (Some rule) b e = cc e
in_order None true e = refl
in_order None false e = cc e

few_with_line : (said : DraftView) (line : Line) → later_rule said line ≡ None → length said.ports ≤ 8 → length (with_line said line).ports ≤ 8
few_with_line said line right few = chosen line.ended (is_skipped line.text) right where
  chosen : (ended skipped : Bool) → (if ended then (if skipped then None else words_rule said (words_of line.text)) else Some 2) ≡ None
      → length (if skipped then said else with_item said (item_for said.version (words_of line.text))).ports ≤ 8
  chosen false skipped r = cc r
  chosen true true r = few
  chosen true false r =
      few_with_item said (item_for said.version (words_of line.text)) (item_low said.version (words_of line.text))
      (in_order (rule_of said.version (words_of line.text)) (is_in_order said (item_for said.version (words_of line.text))) r) few

no_rule : (number : ℕ) (rule : Option ℕ) (later : Option (ℕ × ℕ)) → or_later number rule later ≡ None → (rule ≡ None) × (later ≡ None)
no_rule number (Some rule) later e = cc e
no_rule number None later e = (refl, e)

few_with_lines : (number : ℕ) (said : DraftView) (lines : List Line) → later_fault number said lines ≡ None → length said.ports ≤ 8 → length (with_lines said lines).ports ≤ 8
few_with_lines number said [] right few = few
few_with_lines number said (line ∷ rest) right few =
    let each = no_rule number (later_rule said line) (later_fault (number + 1) (with_line said line) rest) right in
    few_with_lines (number + 1) (with_line said line) rest each.1 (few_with_line said line each.0 few)

few_in : (lines : List Line) → fault_in lines ≡ None → length (said_in lines).ports ≤ 8
few_in [] right = omega arith
few_in (line ∷ rest) right =
    few_with_lines 2 (begun (version_in line.text)) rest
    (no_rule 1 (first_rule line) (later_fault 2 (begun (version_in line.text)) rest) right).1 (omega arith)

few_of_text : (script : Script) → IsOfText script.version script.head script.steps → length script.head ≤ 8
few_of_text script text =
    omega (arith, length-map script.head port_said, ap (λ (said : DraftView). length said.ports) text.says.is, few_in (lines_of text.bytes) text.says.right)

-- a script has at most 8 ports
pub few_ports : (script : Script) → length script.head ≤ 8
few_ports script = ∥∥₁_elim script.text le_prop (few_of_text script)
