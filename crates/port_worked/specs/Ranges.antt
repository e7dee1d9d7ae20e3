use Rattle.std.specs.Prelude.{ℕ, Bool, not, ◌&&◌, ◌||◌, ◌==◌, List, length}
use Rattle.std.proofs.Math.Dec.{leb}
use Rattle.ata_script.specs.DrivePlaces.{drive_places}
use Rattle.ata_script.specs.Places.{are_within, are_apart}
use Rattle.ata_script.specs.declared.drive_head.DriveHead.{DriveHead}
use Rattle.ata_trace.specs.Reading.{is_name}

-- Whether a head can be, as a test that computes.

-- whether the names and numbers of a drive are in the ranges of a head
abbrev pub is_drive : (model serial : List ℕ) → (sectors depth generation ready : ℕ) → Bool
is_drive model serial sectors depth generation ready =
    is_name model
    && (is_name serial
    && (leb 1 sectors
    && (leb sectors 65536
    && (leb depth 32 && (leb 1 generation && (leb generation 3 && leb ready 60000))))))

-- whether a port can be: a direct one has one place, a multiplier 1 to 15, and each drive but a spare a place of its own
abbrev pub is_port : (places : ℕ) → (pmp fbs : Bool) → (drives : List DriveHead) → Bool
is_port places pmp fbs drives =
    leb 1 places
    && (leb places 15
    && ((pmp || places == 1)
    && ((pmp || not fbs)
    && (leb (length drives) 32
    && (are_within places (drive_places drives) && are_apart (drive_places drives))))))
