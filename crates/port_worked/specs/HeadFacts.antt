use Rattle.std.proofs.Common.{◌≡◌, ◌≤◌, ℕ, Bool, true, not, ◌||◌, ◌==◌, List, length}
use Rattle.std.proofs.Math.Dec.{leb}
use Rattle.std.proofs.lemmas.Bool.{leb-true}
use Rattle.ata_script.specs.DrivePlaces.{drive_places}
use Rattle.ata_script.specs.Places.{are_within, are_apart}
use Rattle.ata_script.specs.declared.drive_head.DriveHead.{DriveHead}
use Rattle.ata_trace.proofs.NameLemmas.{both, is_a_name}
use Rattle.ata_trace.specs.Names.{IsDriveName}
use Rattle.ata_trace.specs.Reading.{is_name}
use Rattle.port_worked.specs.Ranges.{is_drive, is_port}

-- the facts of a drive's head
pub record DriveFits (model serial : List ℕ) (sectors depth generation ready : ℕ) : Type 0 where
  pub a_model : IsDriveName model
  pub a_serial : IsDriveName serial
  pub some_sectors : 1 ≤ sectors
  pub most_sectors : sectors ≤ 65536
  pub most_depth : depth ≤ 32
  pub first_generation : 1 ≤ generation
  pub last_generation : generation ≤ 3
  pub most_wait : ready ≤ 60000

-- the facts of a port's head
pub record PortFits (places : ℕ) (pmp fbs : Bool) (drives : List DriveHead) : Type 0 where
  pub some_places : 1 ≤ places
  pub most_places : places ≤ 15
  pub direct : (pmp || places == 1) ≡ true
  pub switched : (pmp || not fbs) ≡ true
  pub few_drives : length drives ≤ 32
  pub standing : are_within places (drive_places drives) ≡ true
  pub apart : are_apart (drive_places drives) ≡ true

-- a drive that passes the test has the facts
pub drive_fits : (model serial : List ℕ) (sectors depth generation ready : ℕ)
    → is_drive model serial sectors depth generation ready ≡ true → DriveFits model serial sectors depth generation ready
drive_fits model serial sectors depth generation ready is =
    let a = both (is_name model) _ is in
    let b = both (is_name serial) _ a.1 in
    let c = both (leb 1 sectors) _ b.1 in
    let d = both (leb sectors 65536) _ c.1 in
    let e = both (leb depth 32) _ d.1 in
    let f = both (leb 1 generation) _ e.1 in
    let g = both (leb generation 3) (leb ready 60000) f.1 in
    record {
      a_model = is_a_name model a.0;
      a_serial = is_a_name serial b.0;
      some_sectors = leb-true 1 sectors c.0;
      most_sectors = leb-true sectors 65536 d.0;
      most_depth = leb-true depth 32 e.0;
      first_generation = leb-true 1 generation f.0;
      last_generation = leb-true generation 3 g.0;
      most_wait = leb-true ready 60000 g.1;
    }

-- a port that passes the test has the facts
pub port_fits : (places : ℕ) (pmp fbs : Bool) (drives : List DriveHead)
    → is_port places pmp fbs drives ≡ true → PortFits places pmp fbs drives
port_fits places pmp fbs drives is =
    let a = both (leb 1 places) _ is in
    let b = both (leb places 15) _ a.1 in
    let c = both (pmp || places == 1) _ b.1 in
    let d = both (pmp || not fbs) _ c.1 in
    let e = both (leb (length drives) 32) _ d.1 in
    let f = both (are_within places (drive_places drives)) (are_apart (drive_places drives)) e.1 in
    record {
      some_places = leb-true 1 places a.0;
      most_places = leb-true places 15 b.0;
      direct = c.0;
      switched = d.0;
      few_drives = leb-true (length drives) 32 e.0;
      standing = f.0;
      apart = f.1;
    }
