use Rattle.std.specs.Prelude.{◌≡◌, ℕ, ◌==◌, Bool, true, false, List, ◌∷◌, ◌++◌, Some, None, option_map}
use Rattle.std.specs.List.{list_any}
use Rattle.ata_base.specs.declared.issue_no.IssueNo.{IssueNo}
use Rattle.ata_base.specs.declared.op.Op.{Op}
use Rattle.ata_base.specs.declared.ms.Ms.{Ms}
use Rattle.ata_script.specs.declared.port_head.PortHead.{PortHead}
use Rattle.ata_trace.specs.Event.{Event}
use Rattle.ata_trace.specs.Event.Event.{Told}
use Rattle.ata_trace.specs.declared.act.Act.TheVariants.{Issued, Done, AnsweredOk, Condemned, ResetBegun}
use Rattle.port_past.specs.Commands.{commands, command_of, place_of}
use Rattle.drive_model.specs.Told.{is_good_end}
use Rattle.port_facts.specs.Stamps.{drive_now, AreFound}

-- whether an event spoils the issue of this number at this place: it is condemned, or its place or the host is reset
abbrev pub spoils : ℕ → ℕ → Event → Bool
spoils n place (Told (Condemned number kinds)) = number.n == n
spoils n place (Told (ResetBegun None attempt deadline)) = true
spoils n place (Told (ResetBegun (Some x) attempt deadline)) = x == place
spoils n place _ = false

-- whether one of these events does
abbrev pub are_spoilt : ℕ → ℕ → List Event → Bool
are_spoilt n place events = list_any (spoils n place) events

-- issue N of command C was done well: a good `done N` with these registers stands in the past, after `issued C N`;
-- nothing after `issued C N` spoils the issue; and these are the stamps that its operation found on the drive that worked
pub record WasDoneWell (head : PortHead) (id : ℕ) (number : IssueNo) (status error lba count : ℕ) (stamps : List ℕ) (past : List Event) : Type 0 where
  pub since : List Event
  pub between : List Event
  pub before : List Event
  pub done : List Event
  pub tag : ℕ
  pub deadline : Ms
  pub fis : List ℕ
  pub ended : past ≡ since ++ Told (Done number status error lba count) ∷ done
  pub issued : done ≡ between ++ Told (Issued id number tag deadline fis) ∷ before
  pub well : is_good_end status error lba ≡ true
  pub sound_since : are_spoilt number.n (place_of id (commands before)) since ≡ false
  pub sound_between : are_spoilt number.n (place_of id (commands before)) between ≡ false
  pub drive : ℕ
  pub op : Op
  pub works : drive_now head done ≡ Some drive
  pub asked : option_map (λ c. c.op) (command_of id (commands done)) ≡ Some op
  pub found : AreFound head drive op done stamps

-- at `answered C N ok`, N of C was done well, with the registers and the stamps of the answer
abbrev pub IsDoneWell : PortHead → Event → List Event → Type 0
IsDoneWell head (Told (AnsweredOk id number status error lba count stamps)) past =
    WasDoneWell head id number status error lba count stamps past
IsDoneWell head _ past = Unit {0}
