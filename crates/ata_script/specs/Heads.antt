-- Heads without their promises: what the drive and port lines of a script say.
use Rattle.std.specs.Prelude.{ℕ, Bool, List, map, Option}
use Rattle.ata_base.specs.declared.identity.Identity.{Identity}
use Rattle.ata_script.specs.declared.drive_head.DriveHead.{DriveHead}
use Rattle.ata_script.specs.declared.port_head.PortHead.{PortHead}

-- where a drive stands, if it isn't a spare, what it tells of itself, and when it is ready
pub record DriveSaid : Type 0 where
  pub place : Option ℕ
  pub identity : Identity
  pub ready : ℕ

-- how many places a port has, whether a multiplier is there, what version 2 may add, and its drives
pub record PortSaid : Type 0 where
  pub places : ℕ
  pub pmp : Bool
  pub fbs : Bool
  pub drain : Bool
  pub drives : List DriveSaid

-- what the head of a drive says
abbrev pub drive_said : DriveHead → DriveSaid
drive_said head = record { place = head.place; identity = head.identity; ready = head.ready.n }

-- what the head of a port says
abbrev pub port_said : PortHead → PortSaid
port_said head = record { places = head.places; pmp = head.pmp; fbs = head.fbs; drain = head.drain; drives = map drive_said head.drives }
