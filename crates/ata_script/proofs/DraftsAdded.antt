-- A drive more in a draft.
use Rattle.std.proofs.Common.{arith, tests, ◌≡◌, ℕ, Bool, true, List, [], ◌∷◌, refl, sym}
use Rattle.std.specs.Prelude.{Result, Ok, Err, length, ◌==◌}
use Rattle.ata_script.specs.Draft.{no_steps}
use Rattle.ata_script.specs.Drafts.{AddsAt, drive_line}
use Rattle.ata_script.specs.OfText.{all_said}
use Rattle.ata_script.specs.Reader.{Adds}
use Rattle.ata_script.specs.declared.drive_head.DriveHead.{DriveHead}
use Rattle.ata_script.specs.declared.port_head.PortHead.{PortHead}
use Rattle.ata_script.specs.declared.refusal.Refusal.{Refusal}
use Rattle.ata_script.specs.declared.refusal.Refusal.TheVariants.{Rule, Memory}
use Rattle.ata_trace.specs.declared.step.Step.{Step}

pub none_said : (steps lent : List (ℕ × ℕ × Step)) (b : Bool) → lent ≡ steps → b ≡ (length lent == 0) → b ≡ true → no_steps steps ≡ true
none_said steps [] b same is empty = rw (sym same) refl
none_said steps (step ∷ rest) b same is empty = absurd (grind (arith, tests, is, empty))

pub drive_adds : {A : Type 0} (version : ℕ) (before next : List PortHead) (steps : List (ℕ × ℕ × Step)) (port number : ℕ) (drive : DriveHead) (result : Result A Refusal)
    → no_steps steps ≡ true → AddsAt before next port number drive result
    → Adds (all_said version before steps) (all_said version next steps) (drive_line port number drive) result
drive_adds version before next steps port number drive (Ok done) none adds = (rw (none, adds.0) refl, rw (adds.1, sym drive.firmware, sym drive.udma) refl)
drive_adds version before next steps port number drive (Err (Rule rule)) none adds = (rw (none, adds.0) refl, adds.1)
drive_adds version before next steps port number drive (Err Memory) none adds = tt
