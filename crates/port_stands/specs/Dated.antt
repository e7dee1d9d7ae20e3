-- The device of a command that isn't gone is attached.
use Rattle.std.specs.Prelude.{◌≡◌, ℕ, ◌≤◌, ◌&&◌, Bool, true, false, List, Some, slice_index, slice_index_or}
use Rattle.ata_base.specs.declared.cmd.Cmd.{Cmd}
use Rattle.ata_trace.specs.Event.{Event}
use Rattle.port_facts.specs.Device.{device_of}
use Rattle.port_past.specs.Commands.{commands, command_of, is_gone}
use Rattle.port_past.specs.Attachment.{attached, detachments}
use Rattle.host_tags.specs.Slots.{flight_at}
use Rattle.host_tags.specs.declared.in_flight.InFlight.{InFlight}
use Rattle.port_past.specs.PortState.{is_running, is_autopsied}
use Rattle.port_past.specs.Slots.{slots}
use Rattle.ata_base.specs.Each.{Each}

-- a command's attachment is at most the last of its place, and there where it is that one
pub record IsDated (attached : List Bool) (detachments : List ℕ) (c : Cmd) : Type 0 where
  pub early : c.attachment ≤ slice_index detachments c.place
  pub present : slice_index detachments c.place ≡ c.attachment → slice_index_or attached c.place false ≡ true

-- so it is of each accepted command
pub record AreDated (past : List Event) : Type 0 where
  pub dated : Each (IsDated (attached past) (detachments past)) (commands past)

-- until the autopsy the place of each issue in flight has a device, and it is that of the acceptance of its command
pub record AreThere (past : List Event) : Type 0 where
  pub there : (is_running past && is_autopsied past) ≡ false → (tag : ℕ) (f : InFlight) → flight_at (slots past) tag ≡ Some f
      → slice_index_or (attached past) f.place false ≡ true
  pub current : (is_running past && is_autopsied past) ≡ false → (tag : ℕ) (f : InFlight) → flight_at (slots past) tag ≡ Some f
      → device_of f.id (commands past) ≡ Some (f.place, slice_index (detachments past) f.place)

-- so until then no command with an issue in flight is gone
abbrev pub AreCurrent : List Event → Type 0
AreCurrent past = (is_running past && is_autopsied past) ≡ false → (tag : ℕ) (f : InFlight) → flight_at (slots past) tag ≡ Some f
    → (c : Cmd) → command_of f.id (commands past) ≡ Some c → is_gone c (detachments past) ≡ false
