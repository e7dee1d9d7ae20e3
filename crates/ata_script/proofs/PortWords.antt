-- What the words of a port's line say.
use Rattle.std.proofs.Common.{◌≡◌, ℕ, Bool, true, false, not, ◌&&◌, List, ◌∷◌, refl, codes}
use Rattle.std.specs.Str.{bytes_eq}
use Rattle.ata_trace.specs.Parts.{first, later, none_left}
use Rattle.ata_trace.specs.Reading.{number_in}
use Rattle.ata_script.specs.Items.Item.{Port}
use Rattle.ata_script.specs.Taking.{port_item, pmp_line}

pub direct_port : (two : Bool) (rest left : List (List ℕ)) (number : ℕ) → bytes_eq (first (later rest)) (codes "direct") ≡ true
    → number ≡ number_in 0 7 (first rest) → left ≡ later (later rest)
    → Port number 1 false false (two && not (none_left left)) ≡ port_item two (codes "port" ∷ rest)
direct_port two rest left number here is behind = rw (here, is, behind) refl

pub multiplier_port : (two : Bool) (rest left : List (List ℕ)) (number : ℕ) → bytes_eq (first (later rest)) (codes "direct") ≡ false
    → number ≡ number_in 0 7 (first rest) → left ≡ later rest → pmp_line number two left ≡ port_item two (codes "port" ∷ rest)
multiplier_port two rest left number here is behind = rw (here, is, behind) refl
