-- What a text without a fault says: each item of it is that of a line, and stands in order.
use Rattle.std.proofs.Common.{arith, ◌≡◌, ℕ, zero, suc, ◌+◌, Bool, true, false, ◌&&◌, List, [], ◌∷◌, ◌++◌, length, refl, sym, subst, append_assoc, append-nil}
use Rattle.std.specs.Prelude.{Option, Some, None, nat_eq, nat_lt, slice_get, if◌then◌else◌, codes}
use Rattle.std.specs.Str.{bytes_eq}
use Rattle.std.proofs.lemmas.Bool.Decides.{nat_tests}
use Rattle.ata_trace.specs.Parts.{words_of}
use Rattle.ata_trace.specs.declared.step.Step.{Step}
use Rattle.ata_script.specs.Draft.{DraftView, begun, no_steps, places_of, is_next_drive, is_in_order, identity_said, with_drive, with_item}
use Rattle.ata_script.specs.Forms.{rule_of}
use Rattle.ata_script.specs.Grammar.{Line, lines_of, is_skipped, version_in, first_rule, or_order, words_rule, later_rule, with_line, or_later, later_fault, with_lines, fault_in, said_in, fault_of, said_of}
use Rattle.ata_script.specs.Heads.{DriveSaid, PortSaid}
use Rattle.ata_script.specs.Items.{Item}
use Rattle.ata_script.specs.Items.Item.{Port, Drive, Taken}
use Rattle.ata_script.specs.Places.{is_within, is_free}
use Rattle.ata_script.specs.ScriptText.{drive_item_of, port_item_of, version_line}
use Rattle.ata_script.specs.Taking.{item_for}
use Rattle.ata_script.proofs.Forms.{both}
use Rattle.ata_script.proofs.LinesWritten.{Written, written, is_one_line, EachOne, each_one}

-- a drive of a port with so many places, behind others
pub record GoodDrive (version port places : ℕ) (before : List DriveSaid) (drive : DriveSaid) : Type 0 where
  pub line : Written version (drive_item_of port (length before) drive)
  pub stands : (is_within places drive.place && is_free (places_of before) drive.place) ≡ true
  pub identity : drive.identity ≡ identity_said drive.identity.model drive.identity.serial drive.identity.sectors drive.identity.depth drive.identity.gen_no

abbrev pub GoodDrives : ℕ → ℕ → ℕ → List DriveSaid → List DriveSaid → Type 0
GoodDrives version port places before [] = Unit {0}
GoodDrives version port places before (drive ∷ rest) = GoodDrive version port places before drive × GoodDrives version port places (before ++ drive ∷ []) rest

-- ports, of which the first has this number
abbrev pub GoodPorts : ℕ → ℕ → List PortSaid → Type 0
GoodPorts version number [] = Unit {0}
GoodPorts version number (port ∷ rest) =
    Written version (port_item_of number port) × GoodDrives version number port.places [] port.drives × GoodPorts version (number + 1) rest

-- steps, at so many ports
abbrev pub GoodSteps : ℕ → ℕ → List (ℕ × ℕ × Step) → Type 0
GoodSteps version count [] = Unit {0}
GoodSteps version count (step ∷ rest) = Written version (Taken step.0 step.1 step.2) × (nat_lt step.1 count ≡ true) × GoodSteps version count rest

pub record Good (said : DraftView) : Type 0 where
  pub version : version_in (version_line said.version) ≡ said.version
  pub ports : GoodPorts said.version 0 said.ports
  pub steps : GoodSteps said.version (length said.ports) said.steps

-- one more of each

drives_more : (version port places : ℕ) (before drives : List DriveSaid) (drive : DriveSaid) → GoodDrives version port places before drives
    → GoodDrive version port places (before ++ drives) drive → GoodDrives version port places before (drives ++ drive ∷ [])
drives_more version port places before [] drive good one = (subst (λ (behind : List DriveSaid). GoodDrive version port places behind drive) (append-nil before) one, tt)
drives_more version port places before (first ∷ drives) drive good one = (
  good.0,
  drives_more version port places (before ++ first ∷ []) drives drive good.1
      (subst (λ (behind : List DriveSaid). GoodDrive version port places behind drive) (sym (append_assoc before (first ∷ []) drives)) one),
)

ports_more : (version number places : ℕ) (ports : List PortSaid) (pmp fbs drain : Bool) → GoodPorts version number ports → Written version (Port (number + length ports) places pmp fbs drain)
    → GoodPorts version number (ports ++ (record { places = places; pmp = pmp; fbs = fbs; drain = drain; drives = [] }) ∷ [])
ports_more version number places [] pmp fbs drain good line =
    let same : number + 0 ≡ number = omega arith in
    (subst (λ (n : ℕ). Written version (Port n places pmp fbs drain)) same line, tt, tt)
ports_more version number places (port ∷ ports) pmp fbs drain good line =
    let same : number + length (port ∷ ports) ≡ number + 1 + length ports = omega arith in
    (good.0, good.1, ports_more version (number + 1) places ports pmp fbs drain good.2 (subst (λ (n : ℕ). Written version (Port n places pmp fbs drain)) same line))

drive_more : (version number at place_no : ℕ) (ports : List PortSaid) (drive : DriveSaid) → GoodPorts version number ports
    → is_next_drive (slice_get ports at) place_no drive.place ≡ true → Written version (drive_item_of (number + at) place_no drive)
    → drive.identity ≡ identity_said drive.identity.model drive.identity.serial drive.identity.sectors drive.identity.depth drive.identity.gen_no
    → GoodPorts version number (with_drive at drive ports)
drive_more version number at place_no [] drive good next line is = tt
drive_more version number zero place_no (port ∷ ports) drive good next line is =
    let b = both (nat_eq place_no (length port.drives)) (is_within port.places drive.place && is_free (places_of port.drives) drive.place) next in
    let last : place_no ≡ length port.drives = grind (arith, nat_tests, b.0) in
    let here : number + 0 ≡ number = omega arith in
    let said : Written version (drive_item_of number (length port.drives) drive) =
    subst (λ (n : ℕ). Written version (drive_item_of number n drive)) last (subst (λ (n : ℕ). Written version (drive_item_of n place_no drive)) here line) in
    (good.0, drives_more version number port.places [] port.drives drive good.1 (record { line = said; stands = b.1; identity = is }), good.2)
drive_more version number (suc at) place_no (port ∷ ports) drive good next line is =
    let same : number + suc at ≡ number + 1 + at = omega arith in
    (good.0, good.1, drive_more version (number + 1) at place_no ports drive good.2 next (subst (λ (n : ℕ). Written version (drive_item_of n place_no drive)) same line) is)

steps_more : (version count : ℕ) (steps : List (ℕ × ℕ × Step)) (actor port : ℕ) (step : Step) → GoodSteps version count steps → Written version (Taken actor port step)
    → nat_lt port count ≡ true → GoodSteps version count (steps ++ (actor, port, step) ∷ [])
steps_more version count [] actor port step good line known = (line, known, tt)
steps_more version count (first ∷ steps) actor port step good line known = (good.0, good.1, steps_more version count steps actor port step good.2 line known)

no_good : (version count : ℕ) (steps : List (ℕ × ℕ × Step)) → no_steps steps ≡ true → GoodSteps version count steps
no_good version count [] none = tt
no_good version count (step ∷ steps) none = cc none

item_good : (said : DraftView) (item : Item) → Good said → Written said.version item → is_in_order said item ≡ true → Good (with_item said item)
item_good said (Port number places pmp fbs drain) good line order =
    let b = both (no_steps said.steps) (nat_eq number (length said.ports)) order in
    let same : number ≡ 0 + length said.ports = grind (arith, nat_tests, b.1) in
    record {
      version = good.version;
      ports = ports_more said.version 0 places said.ports pmp fbs drain good.ports (subst (λ (n : ℕ). Written said.version (Port n places pmp fbs drain)) same line);
      steps = no_good said.version _ said.steps b.0;
    }
item_good said (Drive port number place model serial sectors depth generation ready) good line order =
    let b = both (no_steps said.steps) (is_next_drive (slice_get said.ports port) number place) order in
    let drive : DriveSaid = record { place = place; identity = identity_said model serial sectors depth generation; ready = ready } in
    let same : port ≡ 0 + port = omega arith in
    record {
      version = good.version;
      ports = drive_more said.version 0 port number said.ports drive good.ports b.1 (subst (λ (n : ℕ). Written said.version (drive_item_of n number drive)) same line) refl;
      steps = no_good said.version _ said.steps b.0;
    }
item_good said (Taken actor port step) good line order = record {
  version = good.version;
  ports = good.ports;
  steps = steps_more said.version (length said.ports) said.steps actor port step good.steps line order;
}

-- one line more

in_order : (rule : Option ℕ) (right : Bool) → or_order rule right ≡ None → (rule ≡ None) × (right ≡ true)
in_order (Some rule) right e = cc e
in_order None true e = (refl, refl)
in_order None false e = cc e

none_later : (number : ℕ) (rule : Option ℕ) (later : Option (ℕ × ℕ)) → or_later number rule later ≡ None → (rule ≡ None) × (later ≡ None)
none_later number None later e = (refl, e)
none_later number (Some rule) later e = cc e

line_good : (said : DraftView) (line : Line) → Good said → is_one_line line.text ≡ true → later_rule said line ≡ None → Good (with_line said line)
line_good said line good one right = chosen line.ended (is_skipped line.text) refl right where
  chosen : (ended skipped : Bool) → is_skipped line.text ≡ skipped → (if ended then (if skipped then None else words_rule said (words_of line.text)) else Some 2) ≡ None
      → Good (if skipped then said else with_item said (item_for said.version (words_of line.text)))
  chosen false skipped e none = cc none
  chosen true true e none = good
  chosen true false e none =
      let b = in_order (rule_of said.version (words_of line.text)) (is_in_order said (item_for said.version (words_of line.text))) none in
      item_good said (item_for said.version (words_of line.text)) good (written said.version line.text e b.0 one) b.1

lines_good : (number : ℕ) (said : DraftView) (lines : List Line) → Good said → EachOne lines → later_fault number said lines ≡ None → Good (with_lines said lines)
lines_good number said [] good each right = good
lines_good number said (line ∷ rest) good each right =
    let b = none_later number (later_rule said line) (later_fault (number + 1) (with_line said line) rest) right in
    lines_good (number + 1) (with_line said line) rest (line_good said line good each.0 b.0) each.1 b.1

version_twice : (second : Bool) → version_in (version_line (if second then 2 else 1)) ≡ (if second then 2 else 1)
version_twice true = refl
version_twice false = refl

all_good : (lines : List Line) → EachOne lines → fault_in lines ≡ None → Good (said_in lines)
all_good [] each right = cc right
all_good (line ∷ rest) each right =
    let b = none_later 1 (first_rule line) (later_fault 2 (begun (version_in line.text)) rest) right in
    let none : Good (begun (version_in line.text)) = record { version = version_twice (bytes_eq line.text (codes "atahost 2")); ports = tt; steps = tt } in
    lines_good 2 (begun (version_in line.text)) rest none each.1 b.1

pub text_good : (bytes : List ℕ) → fault_of bytes ≡ None → Good (said_of bytes)
text_good bytes right = all_good (lines_of bytes) (each_one bytes) right
