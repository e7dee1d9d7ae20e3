-- What was read so far.
use Rattle.std.specs.Prelude.{ℕ, ◌≡◌, true, false, ⊤, List, map, [], ◌∷◌, ◌++◌, Some, Result, Ok, Err, slice_get}
use Rattle.ata_script.specs.Draft.{DraftView, is_next_drive, with_drive}
use Rattle.ata_script.specs.Heads.{drive_said, port_said}
use Rattle.ata_script.specs.Items.{Item}
use Rattle.ata_script.specs.Items.Item.{Port, Drive}
use Rattle.ata_script.specs.OfText.{all_said}
use Rattle.ata_script.specs.declared.draft.Draft.{Draft}
use Rattle.ata_script.specs.declared.drive_head.DriveHead.{DriveHead}
use Rattle.ata_script.specs.declared.port_head.PortHead.{PortHead}
use Rattle.ata_script.specs.declared.refusal.Refusal.{Refusal}
use Rattle.ata_script.specs.declared.refusal.Refusal.TheVariants.{Rule, Memory}

-- what a draft says
abbrev pub draft_said : Draft → DraftView
draft_said draft = all_said draft.version draft.head draft.steps

-- the line of a port, before its drives
abbrev pub port_line : ℕ → PortHead → Item
port_line number port = Port number port.places port.pmp port.fbs port.drain

-- the line of a drive
abbrev pub drive_line : ℕ → ℕ → DriveHead → Item
drive_line port number drive =
    Drive port number drive.place drive.identity.model drive.identity.serial drive.identity.sectors drive.identity.depth drive.identity.gen_no drive.ready.n

-- a drive was added at a port where it is the next one, at a place that is free
abbrev pub AddsDrive : {A : Type 0} → PortHead → PortHead → ℕ → DriveHead → Result A Refusal → Type 0
AddsDrive before after number drive (Ok done) =
    (is_next_drive (Some (port_said before)) number drive.place ≡ true)
    × (port_said after ≡ record (port_said before) { drives = (port_said before).drives ++ drive_said drive ∷ [] })
AddsDrive before after number drive (Err (Rule rule)) = (is_next_drive (Some (port_said before)) number drive.place ≡ false) × (rule ≡ 6)
AddsDrive before after number drive (Err Memory) = ⊤

-- the same at one of several ports
abbrev pub AddsAt : {A : Type 0} → List PortHead → List PortHead → ℕ → ℕ → DriveHead → Result A Refusal → Type 0
AddsAt before after port number drive (Ok done) =
    (is_next_drive (slice_get (map port_said before) port) number drive.place ≡ true)
    × (map port_said after ≡ with_drive port (drive_said drive) (map port_said before))
AddsAt before after port number drive (Err (Rule rule)) = (is_next_drive (slice_get (map port_said before) port) number drive.place ≡ false) × (rule ≡ 6)
AddsAt before after port number drive (Err Memory) = ⊤
