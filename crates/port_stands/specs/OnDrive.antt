-- What a drive does is on it: no operation that it ends goes past its last sector, so what is read was stored there.
use Rattle.std.specs.Prelude.{◌≡◌, ℕ, ◌+◌, ◌<◌, true, List, [], ◌∷◌, ◌++◌, Some, length, slice_index}
use Rattle.ata_base.specs.declared.issue_no.IssueNo.{IssueNo}
use Rattle.ata_base.specs.declared.op.Op.{Op}
use Rattle.ata_base.specs.declared.op.Op.TheVariants.{Read}
use Rattle.ata_script.specs.declared.port_head.PortHead.{PortHead}
use Rattle.ata_trace.specs.Event.{Event}
use Rattle.ata_trace.specs.Event.Event.{Told}
use Rattle.ata_trace.specs.declared.act.Act.TheVariants.{Done, AnsweredOk}
use Rattle.drive_model.specs.Told.{is_good_end}
use Rattle.port_facts.specs.Stamps.{issue_operation, drive_now, stamp_of, sectors_of}
use Rattle.port_rules.specs.Submit.{is_on_device}

-- the sectors for which an issue asks are on the drive that ends it
pub record EndsOnDrive (head : PortHead) (number : ℕ) (past : List Event) : Type 0 where
  pub drive : ℕ
  pub op : Op
  pub works : drive_now head past ≡ Some drive
  pub asked : issue_operation number past ≡ Some op
  pub on_drive : is_on_device op (sectors_of head drive) ≡ true

-- stamps that are stored on a drive: one of each sector of a read, which the drive has; any other operation has none
abbrev pub AreStored : PortHead → ℕ → Op → List Event → List ℕ → Type 0
AreStored head drive (Read lba count) past stamps =
    (length stamps ≡ count)
    × ((i : ℕ) → i < count → (lba + i < sectors_of head drive) × (slice_index stamps i ≡ stamp_of head drive (lba + i) past))
AreStored head drive _ past stamps = stamps ≡ []

-- the stamps of an answer were stored on the drive that ended its issue well, with these registers
pub record WereStored (head : PortHead) (number : IssueNo) (status error lba count : ℕ) (stamps : List ℕ) (past : List Event) : Type 0 where
  pub since : List Event
  pub done : List Event
  pub drive : ℕ
  pub op : Op
  pub ended : past ≡ since ++ Told (Done number status error lba count) ∷ done
  pub well : is_good_end status error lba ≡ true
  pub works : drive_now head done ≡ Some drive
  pub asked : issue_operation number.n done ≡ Some op
  pub stored : AreStored head drive op done stamps

-- at `done N` the sectors of N are on the drive that works; at `answered C N ok` the stamps were stored on the drive that did N
abbrev pub AreOnTheirDrive : PortHead → Event → List Event → Type 0
AreOnTheirDrive head (Told (Done number status error lba count)) past = EndsOnDrive head number.n past
AreOnTheirDrive head (Told (AnsweredOk id number status error lba count stamps)) past =
    WereStored head number status error lba count stamps past
AreOnTheirDrive head _ past = Unit {0}
