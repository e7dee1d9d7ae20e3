-- A place that has the port to itself has something to do there.
use Rattle.std.specs.Prelude.{◌≡◌, ◌⊎◌, ℕ, false, List, Some}
use Rattle.ata_base.specs.declared.cmd.Cmd.{Cmd}
use Rattle.ata_trace.specs.Event.{Event}
use Rattle.host_queue.specs.Waiting.{front_of}
use Rattle.host_tags.specs.Slots.{flight_at}
use Rattle.host_tags.specs.declared.in_flight.InFlight.{InFlight}
use Rattle.port_past.specs.Commands.{is_gone}
use Rattle.port_past.specs.Attachment.{detachments}
use Rattle.port_past.specs.Exclusive.{exclusive}
use Rattle.port_past.specs.PortState.{is_running}
use Rattle.port_past.specs.Queues.{queues}
use Rattle.port_past.specs.Slots.{slots}

-- an issue is in flight at a place
pub record IsBusy (past : List Event) (place : ℕ) : Type 0 where
  pub tag : ℕ
  pub flight : InFlight
  pub here : flight_at (slots past) tag ≡ Some flight
  pub there : flight.place ≡ place

-- a command that isn't gone waits in front there
pub record HasFront (past : List Event) (place : ℕ) : Type 0 where
  pub cmd : Cmd
  pub waiting : front_of (queues past) place ≡ Some cmd
  pub current : is_gone cmd (detachments past) ≡ false

-- recovery doesn't run, and an issue is in flight at the place, or a command that isn't gone waits in front
pub record IsClaimed (past : List Event) (place : ℕ) : Type 0 where
  pub idle : is_running past ≡ false
  pub used : IsBusy past place ⊎ HasFront past place

-- so it is where a place is exclusive
abbrev pub AreClaimed : List Event → Type 0
AreClaimed past = (place : ℕ) → exclusive past ≡ Some place → IsClaimed past place
