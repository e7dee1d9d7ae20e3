use Rattle.std.specs.Prelude.{ℕ, List, map, Option}
use Rattle.ata_script.specs.declared.drive_head.DriveHead.{DriveHead}

-- the places of drives, in order
abbrev pub drive_places : List DriveHead → List (Option ℕ)
drive_places drives = map (λ drive. drive.place) drives
