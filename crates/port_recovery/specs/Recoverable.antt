-- What recovery needs of a past, beyond the rules: facts of every past that a port reaches.
use Rattle.std.specs.Prelude.{◌≡◌, ℕ, ◌<◌, List, Option, Some, slice_index, slice_index_or}
use Rattle.ata_script.specs.declared.port_head.PortHead.{PortHead}
use Rattle.ata_trace.specs.Event.{Event}
use Rattle.host_tags.specs.Slots.{flight_at}
use Rattle.host_tags.specs.declared.in_flight.InFlight.{InFlight}
use Rattle.port_past.specs.declared.place_told.PlaceTold.{PlaceTold}
use Rattle.port_past.specs.declared.place_told.PlaceTold.TheVariants.{NotBegun, ResetLate}
use Rattle.port_past.specs.Drives.{drives}
use Rattle.port_past.specs.PlaceTold.{ident_lates, place_told}
use Rattle.port_past.specs.Slots.{slots}
use Rattle.port_recovery.specs.Reading.{HoldFlights}

-- no two issues in flight are of one command
abbrev pub AreOneEach : List (Option InFlight) → Type 0
AreOneEach slots = (tag other : ℕ) (f g : InFlight) → flight_at slots tag ≡ Some f → flight_at slots other ≡ Some g
    → f.id ≡ g.id → tag ≡ other

-- the try of a reset that was late last
abbrev pub late_try : PlaceTold → ℕ
late_try (ResetLate attempt) = attempt
late_try _ = 0

-- at each place the try of a reset that was late last and the number of late identities are below 255, so that the next
-- try fits into a byte
abbrev pub AreFewTries : List PlaceTold → List ℕ → Type 0
AreFewTries told lates = (place : ℕ)
    → (late_try (slice_index_or told place NotBegun) < 255) × (slice_index lates place < 255)

-- no command is twice in flight, no drive holds an issue twice or one that isn't in flight, and resets and identities
-- were tried a few times
pub record IsRecoverable (head : PortHead) (past : List Event) : Type 0 where
  pub single : AreOneEach (slots past)
  pub held : HoldFlights (slots past) (drives head past)
  pub tries : AreFewTries (place_told past) (ident_lates past)
