-- What was identified at a place is what is linked there, and what is asked for and held is on it.
use Rattle.std.specs.Prelude.{◌≡◌, ◌⊎◌, ℕ, ◌≤◌, ◌==◌, ◌&&◌, nat_lt, Bool, true, false, List, Option, None, Some, slice_index, slice_index_or}
use Rattle.std.specs.List.{list_any}
use Rattle.std.specs.Option.{option_map_or}
use Rattle.ata_base.specs.Each.{Each}
use Rattle.ata_base.specs.declared.cmd.Cmd.{Cmd}
use Rattle.ata_script.specs.declared.port_head.PortHead.{PortHead}
use Rattle.ata_trace.specs.Event.{Event}
use Rattle.drive_model.specs.View.{DriveView}
use Rattle.eh_reval.specs.IdentWaits.{ident_tries}
use Rattle.link_model.specs.LinkView.{LinkView}
use Rattle.port_facts.specs.Stamps.{sectors_of}
use Rattle.port_past.proofs.EachAt.{EachAt}
use Rattle.port_past.specs.Attachment.{attached, detachments}
use Rattle.port_past.specs.Commands.{commands}
use Rattle.port_past.specs.Drives.{drives}
use Rattle.port_past.specs.Identities.{identities}
use Rattle.port_past.specs.Links.{links, linked_at}
use Rattle.port_past.specs.declared.identity_told.IdentityTold.{IdentityTold}
use Rattle.port_past.specs.declared.place_told.PlaceTold.{PlaceTold}
use Rattle.port_past.specs.declared.place_told.PlaceTold.TheVariants.{NotBegun, ResetBegun, ResetLate, ResetEnded, IdentAsked, IdentLate}
use Rattle.port_past.specs.declared.task.Task.{Task}
use Rattle.port_past.specs.declared.task.Task.TheVariants.{Host, Reset, Revalidate}
use Rattle.port_rules.specs.Submit.{is_on_device}
use Rattle.port_stands.specs.Words.{RecoveryView, recovery}

-- how many sectors were identified at a place, by what was told of each
abbrev pub sectors_told : List (Option IdentityTold) → ℕ → ℕ
sectors_told told place = option_map_or (λ i. i.sectors) (slice_index_or told place None) 0

-- a command's attachment is at most the last of its place, and its sectors are on the identified device where it is that one
pub record IsSized (told : List (Option IdentityTold)) (detachments : List ℕ) (c : Cmd) : Type 0 where
  pub early : c.attachment ≤ slice_index detachments c.place
  pub fits : slice_index detachments c.place ≡ c.attachment → is_on_device c.op (sectors_told told c.place) ≡ true

-- so it is of each accepted command
abbrev pub AreSized : List Event → Type 0
AreSized past = Each (IsSized (identities past) (detachments past)) (commands past)

-- whether what was told last of a place leaves its identity to be read, after so many identities that were late
abbrev pub is_unread : PlaceTold → ℕ → Bool
is_unread (ResetBegun attempt deadline) lates = true
is_unread (ResetLate attempt) lates = true
is_unread (ResetEnded linked) lates = linked
is_unread (IdentAsked deadline) lates = true
is_unread IdentLate lates = nat_lt lates ident_tries
is_unread told lates = false

-- whether a task is of a place
abbrev pub is_task_at : ℕ → Task → Bool
is_task_at place Host = false
is_task_at place (Reset at) = at == place
is_task_at place (Revalidate at) = at == place

-- the recovery that runs has a task at a place, whose identity is yet to be read
pub record IsUnread (s : RecoveryView) (place : ℕ) : Type 0 where
  pub runs : (s.running && s.autopsied) ≡ true
  pub unread : is_unread (slice_index_or s.seen place NotBegun) (slice_index s.lates place) ≡ true
  pub task : list_any (is_task_at place) s.tasks ≡ true

-- the drive that is linked at a place with a device has as many sectors as were identified there, or its identity is yet
-- to be read
abbrev pub AreMet : PortHead → RecoveryView → List LinkView → List (Option IdentityTold) → Type 0
AreMet head s wires told = (place drive : ℕ) → slice_index_or s.attached place false ≡ true → linked_at wires place ≡ Some drive
    → (sectors_of head drive ≡ sectors_told told place) ⊎ IsUnread s place

-- so it is of a port
abbrev pub AreRecognized : PortHead → List Event → Type 0
AreRecognized head past = AreMet head (recovery head past) (links head past) (identities past)

-- a drive has so many sectors, and what it holds asks for those alone
pub record HoldsOwn (sectors : ℕ) (v : DriveView) : Type 0 where
  pub size : v.identity.sectors ≡ sectors
  pub held : Each (λ h. is_on_device h.op sectors ≡ true) v.held

-- so it is of each drive of a port
abbrev pub HoldOwn : PortHead → List Event → Type 0
HoldOwn head past = EachAt (λ d v. HoldsOwn (sectors_of head d) v) (drives head past)

-- so it was of them before an event
abbrev pub WasOwn : PortHead → Event → List Event → Type 0
WasOwn head event past = HoldOwn head past
