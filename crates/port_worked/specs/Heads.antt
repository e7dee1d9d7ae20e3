use Rattle.std.specs.Prelude.{ℕ, ◌≡◌, Bool, true, false, List, [], ◌∷◌, Option, Some, None, codes}
use Rattle.std.proofs.Common.{refl}
use Rattle.ata_base.specs.declared.identity.Identity.{Identity}
use Rattle.ata_script.specs.declared.drive_head.DriveHead.{DriveHead}
use Rattle.ata_script.specs.declared.port_head.PortHead.{PortHead}
use Rattle.port_worked.specs.HeadFacts.{DriveFits, drive_fits, PortFits, port_fits}
use Rattle.port_worked.specs.Ranges.{is_drive, is_port}

-- what a drive tells of itself: its names, its sectors, the depth of its queue and the generation of its link
abbrev pub identity : (model serial : List ℕ) → (sectors depth generation : ℕ) → Identity
identity model serial sectors depth generation = record {
  model = model;
  serial = serial;
  firmware = codes "ATAHOST1";
  sectors = sectors;
  depth = depth;
  gen_no = generation;
  udma = 127;
}

-- a drive of a port, at a place or spare, ready so many ms after a reset
abbrev pub drive : (place : Option ℕ) → (model serial : List ℕ) → (sectors depth generation ready : ℕ)
    → is_drive model serial sectors depth generation ready ≡ true → DriveHead
drive place model serial sectors depth generation ready is =
    let fits : DriveFits model serial sectors depth generation ready = drive_fits model serial sectors depth generation ready is in
    record {
      place = place;
      identity = identity model serial sectors depth generation;
      ready = record { n = ready };
      model = ∣ fits.a_model ∣₁;
      serial = ∣ fits.a_serial ∣₁;
      firmware = refl;
      some_sectors = fits.some_sectors;
      most_sectors = fits.most_sectors;
      depth = fits.most_depth;
      first_generation = fits.first_generation;
      last_generation = fits.last_generation;
      udma = refl;
      wait = fits.most_wait;
    }

-- a port: how many places it has, whether they are a multiplier's, whether that switches by frames, whether the port gives
-- up early, and its drives
abbrev pub port : (places : ℕ) → (pmp fbs drain : Bool) → (drives : List DriveHead) → is_port places pmp fbs drives ≡ true → PortHead
port places pmp fbs drain drives is =
    let fits : PortFits places pmp fbs drives = port_fits places pmp fbs drives is in
    record {
      places = places;
      pmp = pmp;
      fbs = fbs;
      drain = drain;
      drives = drives;
      some_places = fits.some_places;
      most_places = fits.most_places;
      direct = fits.direct;
      switched = fits.switched;
      few_drives = fits.few_drives;
      standing = fits.standing;
      apart = fits.apart;
    }

-- the drive ALPHA S1 with 4096 sectors at place 0, its queue so deep, ready so many ms after a reset
abbrev pub alpha : (depth ready : ℕ) → is_drive (codes "ALPHA") (codes "S1") 4096 depth 3 ready ≡ true → DriveHead
alpha depth ready is = drive (Some 0) (codes "ALPHA") (codes "S1") 4096 depth 3 ready is

-- a like drive with the serial number S2 and a queue of 32, at a place or spare
abbrev pub second : Option ℕ → DriveHead
second place = drive place (codes "ALPHA") (codes "S2") 4096 32 3 0 refl

-- a direct port without a drive
abbrev pub no_drive : PortHead
no_drive = port 1 false false false [] refl

-- a direct port whose drive has no queue
abbrev pub unqueued : PortHead
unqueued = port 1 false false false (alpha 0 0 refl ∷ []) refl

-- a direct port whose drive queues two commands
abbrev pub shallow : PortHead
shallow = port 1 false false false (alpha 2 0 refl ∷ []) refl

-- a direct port whose drive queues 32 commands
abbrev pub queued : PortHead
queued = port 1 false false false (alpha 32 0 refl ∷ []) refl

-- a direct port whose drive is ready 60,000 ms after a reset
abbrev pub slow : PortHead
slow = port 1 false false false (alpha 0 60000 refl ∷ []) refl

-- a direct port with a spare drive
abbrev pub with_spare : PortHead
with_spare = port 1 false false false (alpha 32 0 refl ∷ second None ∷ []) refl

-- a direct port with fast drain
abbrev pub drained : PortHead
drained = port 1 false false true (alpha 32 0 refl ∷ []) refl

-- a multiplier with drives at both of its places
abbrev pub two_places : PortHead
two_places = port 2 true false false (alpha 32 0 refl ∷ second (Some 1) ∷ []) refl

-- a multiplier with FIS-based switching and drives at both of its places
abbrev pub two_switched : PortHead
two_switched = port 2 true true false (alpha 32 0 refl ∷ second (Some 1) ∷ []) refl

-- a multiplier with a drive at one of its two places, and a spare
abbrev pub one_empty_place : PortHead
one_empty_place = port 2 true false false (alpha 32 0 refl ∷ second None ∷ []) refl

-- a multiplier with two unlike drives: one with a queue that is ready 12,000 ms after a reset, at generation 2, and one
-- without a queue at generation 1
abbrev pub unlike_places : PortHead
unlike_places = port 2 true false false (
    drive (Some 0) (codes "DISK-B") (codes "B1") 65536 32 2 12000 refl
    ∷ drive (Some 1) (codes "DISK-C") (codes "C1") 65536 0 1 0 refl
    ∷ []) refl
