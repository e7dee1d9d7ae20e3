-- The ports and drives of a script, written as lines, break no rule, and say what they are.
use Rattle.std.proofs.Common.{arith, ◌≡◌, ℕ, ◌<◌, ◌≤◌, ◌+◌, ◌%◌, true, false, ◌&&◌, List, [], ◌∷◌, ◌++◌, length, refl, ◌∙◌, ap, decimal, codes}
use Rattle.std.specs.Prelude.{Some, None, ◌==◌, ◌^◌, nat_le}
use Rattle.std.specs.Str.{bytes_eq}
use Rattle.std.proofs.lemmas.Bool.Decides.{nat_tests}
use Rattle.std.proofs.lemmas.Fmt.{decimal_by_steps}
use Rattle.ata_trace.proofs.Digits.{n_in, n_plain, plain}
use Rattle.ata_trace.proofs.LinesBack.{joined_more, words_joined}
use Rattle.ata_trace.proofs.WordsBack.{all_plain}
use Rattle.ata_trace.specs.Parts.{words_of}
use Rattle.ata_trace.specs.Ranges.{IsIn}
use Rattle.ata_trace.specs.Reading.{is_name, name_in}
use Rattle.ata_trace.specs.Text.{joined}
use Rattle.ata_script.proofs.DraftsGood.{GoodDrive, GoodPorts}
use Rattle.ata_script.proofs.LinesWritten.{Written, is_one_line}
use Rattle.ata_script.proofs.Rules.{rule_is}
use Rattle.ata_script.specs.Draft.{places_of}
use Rattle.ata_script.specs.Fields.{is_word}
use Rattle.ata_script.specs.Forms.{rule_of}
use Rattle.ata_script.specs.Grammar.{is_skipped}
use Rattle.ata_script.specs.Heads.{DriveSaid}
use Rattle.ata_script.specs.Items.{Item, item_words}
use Rattle.ata_script.specs.Items.Item.{Drive, Port}
use Rattle.ata_script.specs.Places.{is_free, is_within}
use Rattle.ata_script.specs.ScriptText.{item_text}
use Rattle.ata_script.specs.Taking.{item_for}
use Rattle.ata_gen.proofs.StepsRight.{is_a_word, is_right, joined_line}
use Rattle.ata_gen.specs.Generated.{drive_made, ports_made, serial_made}

-- ---- numbers

pub is_in : {least most n : ℕ} → least ≤ n → n ≤ most → n < 2 ^ 64 → IsIn least most n
is_in low high small = record { low = low; high = high; small = small }

-- a number's word is no dash
abbrev NoDash : List ℕ → Type 0
NoDash word = bytes_eq word (codes "-") ≡ false

abbrev BeginsLate : List ℕ → Type 0
BeginsLate [] = ⊥
BeginsLate (d ∷ rest) = 46 ≤ d

late_more : (digits : List ℕ) (c : ℕ) → BeginsLate digits → BeginsLate (digits ++ c ∷ [])
late_more [] c f = absurd f
late_more (d ∷ rest) c f = f

late_other : (word : List ℕ) → BeginsLate word → NoDash word
late_other [] f = absurd f
late_other (d ∷ rest) f = let differs : (d == 45) ≡ false = grind (arith, nat_tests, f) in rw differs refl

no_dash : {least most n : ℕ} → IsIn least most n → NoDash (decimal n)
no_dash {least} {most} {n} f =
    late_other (decimal n) (decimal_by_steps (λ n digits. BeginsLate digits) (λ n few. omega arith) (λ n digits many before. late_more digits (48 + n % 10) before) n f.small)

-- ---- lines

-- an item whose words are plain, and read as it
written_of :
    (item : Item) (c : ℕ) (first : List ℕ) (second : List ℕ) (rest : List (List ℕ)) → item_words item ≡ (c ∷ first) ∷ second ∷ rest → (c == 35) ≡ false
    → item_text item ≡ joined (c ∷ first) (second ∷ rest) → plain (c ∷ first) ≡ true → all_plain (second ∷ rest) ≡ true
    → rule_of 1 ((c ∷ first) ∷ second ∷ rest) ≡ None → item_for 1 ((c ∷ first) ∷ second ∷ rest) ≡ item → Written 1 item
written_of item c first second rest words begins text plain_first plain_rest right is =
    let read : words_of (item_text item) ≡ (c ∷ first) ∷ second ∷ rest = ap words_of text ∙ words_joined (c ∷ first) (second ∷ rest) plain_first plain_rest in
    record {
      kept = ap is_skipped text ∙ ap is_skipped (joined_more (c ∷ first) second rest) ∙ begins;
      right = ap (rule_of 1) read ∙ right;
      is = ap (item_for 1) read ∙ is;
      one = ap is_one_line text ∙ joined_line (c ∷ first) (second ∷ rest) plain_first plain_rest;
    }

-- the direct port
pub direct_written : Written 1 (Port 0 1 false false false)
direct_written =
    let f : IsIn 0 7 0 = is_in (omega arith) (omega arith) (omega arith) in
    written_of (Port 0 1 false false false) 112 (codes "ort") (decimal 0) (codes "direct" ∷ []) refl refl refl refl
    (rw (n_plain f) refl)
    (rule_is 1 (codes "port" ∷ decimal 0 ∷ codes "direct" ∷ []) ∙ rw (is_a_word f, is_right f) refl)
    (rw (n_in f) refl)

-- the multiplier
pub multiplier_written : Written 1 (Port 1 3 true false false)
multiplier_written =
    let f : IsIn 0 7 1 = is_in (omega arith) (omega arith) (omega arith) in
    let g : IsIn 1 15 3 = is_in (omega arith) (omega arith) (omega arith) in
    written_of (Port 1 3 true false false) 112 (codes "ort") (decimal 1) (codes "pmp" ∷ decimal 3 ∷ []) refl refl refl refl
    (rw (n_plain f, n_plain g) refl)
    (rule_is 1 (codes "port" ∷ decimal 1 ∷ codes "pmp" ∷ decimal 3 ∷ []) ∙ rw (is_a_word f, is_right f, is_a_word g, is_right g) refl)
    (rw (n_in f, n_in g) refl)

-- a word is the name of a drive, of at most 20 characters
pub record IsSerial (word : List ℕ) : Type 0 where
  pub named : name_in 20 word ≡ word
  pub right : (is_name word && nat_le (length word) 20) ≡ true
  pub one : is_word word ≡ true
  pub plain_one : plain word ≡ true

-- a drive of the make `GEN`
drive_written :
    (port at place depth generation : ℕ) (serial : List ℕ) → port ≤ 7 → at ≤ 31 → place ≤ 14 → depth ≤ 32 → 1 ≤ generation → generation ≤ 3 → IsSerial serial
    → Written 1 (Drive port at (Some place) (codes "GEN") serial 65536 depth generation 0)
drive_written port at place depth generation serial a b c d e f name =
    let g : IsIn 0 7 port = is_in (omega arith) a (omega (arith, a)) in
    let h : IsIn 0 31 at = is_in (omega arith) b (omega (arith, b)) in
    let i : IsIn 0 14 place = is_in (omega arith) c (omega (arith, c)) in
    let j : IsIn 0 32 depth = is_in (omega arith) d (omega (arith, d)) in
    let k : IsIn 1 3 generation = is_in e f (omega (arith, f)) in
    let l : IsIn 1 65536 65536 = is_in (omega arith) (omega arith) (omega arith) in
    let m : IsIn 0 60000 0 = is_in (omega arith) (omega arith) (omega arith) in
    let rest : List (List ℕ) =
    decimal at ∷ decimal place ∷ codes "GEN" ∷ serial ∷ decimal 65536 ∷ decimal depth ∷ decimal generation ∷ decimal 0 ∷ [] in
    written_of (Drive port at (Some place) (codes "GEN") serial 65536 depth generation 0) 100 (codes "rive") (decimal port) rest refl refl refl refl
    (rw (n_plain g, n_plain h, n_plain i, name.plain_one, n_plain l, n_plain j, n_plain k, n_plain m) refl)
    (rule_is 1 (codes "drive" ∷ decimal port ∷ rest)
    ∙ rw (
      is_a_word g,
      is_a_word h,
      is_a_word i,
      name.one,
      is_a_word l,
      is_a_word j,
      is_a_word k,
      is_a_word m,
      no_dash i,
      is_right g,
      is_right h,
      is_right i,
      is_right l,
      is_right j,
      is_right k,
      is_right m,
      name.right,
    ) refl)
    (rw (n_in g, n_in h, no_dash i, n_in i, name.named, n_in l, n_in j, n_in k, n_in m) refl)

-- it stands in order
pub good_drive :
    (port place number depth generation places : ℕ) (before : List DriveSaid) → port ≤ 7 → length before ≤ 31 → place ≤ 14 → depth ≤ 32
    → 1 ≤ generation → generation ≤ 3 → IsSerial (serial_made number)
    → (is_within places (Some place) && is_free (places_of before) (Some place)) ≡ true
    → GoodDrive 1 port places before (drive_made place number depth generation)
good_drive port place number depth generation places before a b c d e f name stands = record {
  line = drive_written port (length before) place depth generation (serial_made number) a b c d e f name;
  stands = stands;
  identity = refl;
}

-- ---- all of them

serial_0 : IsSerial (serial_made 0)
serial_0 = record { named = refl; right = refl; one = refl; plain_one = refl }

serial_1 : IsSerial (serial_made 1)
serial_1 = record { named = refl; right = refl; one = refl; plain_one = refl }

serial_2 : IsSerial (serial_made 2)
serial_2 = record { named = refl; right = refl; one = refl; plain_one = refl }

serial_3 : IsSerial (serial_made 3)
serial_3 = record { named = refl; right = refl; one = refl; plain_one = refl }

pub good_ports : GoodPorts 1 0 ports_made
good_ports = (
  direct_written,
  (good_drive 0 0 0 32 3 1 [] (omega arith) (omega arith) (omega arith) (omega arith) (omega arith) (omega arith) serial_0 refl, tt),
  (
    multiplier_written,
    (
      good_drive 1 0 1 32 2 3 [] (omega arith) (omega arith) (omega arith) (omega arith) (omega arith) (omega arith) serial_1 refl,
      (
        good_drive 1 1 2 32 2 3 (drive_made 0 1 32 2 ∷ []) (omega arith) (omega arith) (omega arith) (omega arith) (omega arith) (omega arith) serial_2 refl,
        (
          good_drive 1 2 3 0 1 3 (drive_made 0 1 32 2 ∷ drive_made 1 2 32 2 ∷ []) (omega arith) (omega arith) (omega arith) (omega arith) (omega arith) (omega arith)
              serial_3 refl,
          tt,
        ),
      ),
    ),
    tt,
  ),
)
