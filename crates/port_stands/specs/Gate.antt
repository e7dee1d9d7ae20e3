-- The gate of a port: who may come in, and who is in.
use Rattle.std.specs.Prelude.{◌≡◌, ℕ, ◌<◌, ◌≤◌, Bool, true, false, not, ◌||◌, ◌⊎◌, List, Option, Some, slice_index_or}
use Rattle.ata_script.specs.declared.port_head.PortHead.{PortHead}
use Rattle.ata_trace.specs.Event.{Event}
use Rattle.eh_flow.specs.declared.phase.Phase.{Phase}
use Rattle.eh_flow.specs.declared.phase.Phase.TheVariants.{Idle, Logs, HostOwed, HostOpen, Through}
use Rattle.host_tags.specs.Slots.{flight_at}
use Rattle.host_tags.specs.declared.in_flight.InFlight.{InFlight}
use Rattle.port_past.specs.PortState.{is_frozen, is_asked}
use Rattle.port_past.specs.Places.{nowhere, everywhere}
use Rattle.std.specs.List.{list_all}
use Rattle.port_past.specs.Slots.{slots}
use Rattle.port_past.specs.declared.place_told.HostTold.TheVariants.{NotBegun as NoHost}
use Rattle.port_past.specs.declared.place_told.PlaceTold.TheVariants.{NotBegun}
use Rattle.port_stands.specs.Words.{RecoveryView, recovery, phase_of, is_home}

-- what holds of each issue in flight
abbrev pub AreAll : (InFlight → Type 0) → List (Option InFlight) → Type 0
AreAll P slots = (tag : ℕ) (f : InFlight) → flight_at slots tag ≡ Some f → P f

-- an issue is in flight
pub record IsSomeone (slots : List (Option InFlight)) : Type 0 where
  pub tag : ℕ
  pub flight : InFlight
  pub here : flight_at slots tag ≡ Some flight

-- the issues in flight have numbers of their own, from 1 up to the last
pub record AreNumbered (last : ℕ) (slots : List (Option InFlight)) : Type 0 where
  pub apart : (t u : ℕ) (f g : InFlight) → flight_at slots t ≡ Some f → flight_at slots u ≡ Some g → f.number.n ≡ g.number.n → t ≡ u
  pub from_one : AreAll (λ f. 0 < f.number.n) slots
  pub up_to : AreAll (λ f. f.number.n ≤ last) slots

-- what the gate of a port is seen by
pub record Gate : Type 0 where
  pub recovery : RecoveryView
  pub frozen : Bool
  pub asked : Bool
  pub slots : List (Option InFlight)

-- the gate of a port
abbrev pub gate : PortHead → List Event → Gate
gate head past = record { recovery = recovery head past; frozen = is_frozen past; asked = is_asked past; slots = slots past }

-- whether it is the host's turn
abbrev pub is_host_phase : Phase → Bool
is_host_phase HostOwed = true
is_host_phase HostOpen = true
is_host_phase phase = false

-- whether recovery has something to do before it ends
abbrev pub is_under_way : Phase → Bool
is_under_way Idle = false
is_under_way Through = false
is_under_way phase = true

-- a frozen port on its way: a frozen direct port is asked, or has something to do before recovery ends, or no device
-- is attached at its place
abbrev pub is_on_its_way : Gate → Bool
is_on_its_way g =
    g.asked || (is_under_way (phase_of g.recovery) || not (slice_index_or g.recovery.attached 0 false))

-- what stands of a gate between entries, at a multiplier or not: while recovery runs it owns each issue in flight; an
-- owned issue has recovery asked for or running; one that isn't owned and of which the timer told has it asked for; a
-- frozen direct port is on its way; a frozen multiplier waits for its host, or for its logs with an issue in flight;
-- nothing is told of the places before the autopsy; and on a direct port all tasks are of its one place
pub record IsGuarded (pmp : Bool) (g : Gate) : Type 0 where
  pub owned : g.recovery.running ≡ true → AreAll (λ f. f.owned ≡ true) g.slots
  pub recovering : AreAll (λ f. f.owned ≡ true → (g.asked || g.recovery.running) ≡ true) g.slots
  pub expired : AreAll (λ f. f.owned ≡ false → f.expired ≡ true → g.asked ≡ true) g.slots
  pub direct : pmp ≡ false → g.frozen ≡ true → is_on_its_way g ≡ true
  pub multiplier : pmp ≡ true → g.frozen ≡ true
      → (is_host_phase (phase_of g.recovery) ≡ true) ⊎ ((phase_of g.recovery ≡ Logs) × IsSomeone g.slots)
  pub new : g.recovery.running ≡ true → g.recovery.autopsied ≡ false
      → (g.recovery.host ≡ NoHost) × ((g.recovery.seen ≡ everywhere NotBegun) × (g.recovery.actions ≡ nowhere))
  pub home : pmp ≡ false → list_all is_home g.recovery.tasks ≡ true
