-- Words that were taken.
use Rattle.std.proofs.Common.{◌≡◌, ℕ, Bool, true, false, ◌&&◌, List, refl, ◌∙◌, ap}
use Rattle.std.specs.Prelude.{if◌then◌else◌}
use Rattle.std.specs.Str.{bytes_eq}
use Rattle.std.proofs.lemmas.Slice.Eq.{bytes_eq-Decides}
use Rattle.ata_trace.specs.Parts.{first, later}
use Rattle.ata_trace.specs.Reading.{after_name}
use Rattle.ata_script.specs.Fields.{is_word}
use Rattle.ata_script.specs.Fields.Field.{Small}
use Rattle.ata_script.specs.Taking.{State, taken}

and_true : (a : Bool) → (a && true) ≡ a
and_true true = refl
and_true false = refl

-- a small word that was looked for was taken where it stood there
pub took : (s : State) (small : List ℕ) → is_word small ≡ true
    → record { rest = after_name s.rest small; form = s.form; numbers = s.numbers; names = s.names }
    ≡ (if bytes_eq (first s.rest) small then taken (Small small) s else s)
took s small word = chosen (bytes_eq (first s.rest) small) refl where
  chosen : (b : Bool) → bytes_eq (first s.rest) small ≡ b
      → record { rest = if b then later s.rest else s.rest; form = s.form; numbers = s.numbers; names = s.names }
      ≡ (if b then taken (Small small) s else s)
  chosen true e =
      let same : first s.rest ≡ small = (bytes_eq-Decides (first s.rest) small).0 e in
      let fits : is_word (first s.rest) ≡ true = ap is_word same ∙ word in
      rw (e, fits, and_true s.form, and_true s.numbers, and_true s.names) refl
  chosen false e = refl

-- the words behind one that was looked for

pub rest_taken : (s t : State) (small : List ℕ) → t ≡ (if bytes_eq (first s.rest) small then taken (Small small) s else s) → bytes_eq (first s.rest) small ≡ true
    → t.rest ≡ later s.rest
rest_taken s t small is e = rw (is, e) refl

pub rest_left : (s t : State) (small : List ℕ) → t ≡ (if bytes_eq (first s.rest) small then taken (Small small) s else s) → bytes_eq (first s.rest) small ≡ false
    → t.rest ≡ s.rest
rest_left s t small is e = rw (is, e) refl
