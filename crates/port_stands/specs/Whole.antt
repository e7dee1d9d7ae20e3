-- All that stands of a port between its entries, with what its drives do.
use Rattle.std.specs.Prelude.{◌≡◌, ◌≢◌, ℕ, true, List, ◌∷◌, Option, None, Some}
use Rattle.ata_script.specs.declared.port_head.PortHead.{PortHead}
use Rattle.ata_trace.specs.Event.{Event, onto}
use Rattle.ata_trace.specs.Event.Event.{Entered}
use Rattle.ata_trace.specs.declared.step.Step.TheVariants.{Recover}
use Rattle.ata_trace.specs.declared.who.Who.{Who}
use Rattle.eh_flow.specs.declared.phase.Phase.TheVariants.{Logs}
use Rattle.host_tags.specs.Slots.{flight_at}
use Rattle.host_tags.specs.declared.in_flight.InFlight.{InFlight}
use Rattle.port_past.specs.Clock.{clock}
use Rattle.port_past.specs.Slots.{slots}
use Rattle.port_rules.specs.Autopsy.{autopsy_acts}
use Rattle.port_rules.specs.Logs.{log_owed}
use Rattle.port_stands.specs.Driven.{AreDriven}
use Rattle.port_stands.specs.Handled.{handling, AreHandled}
use Rattle.port_stands.specs.Stands.{Stands}
use Rattle.port_stands.specs.Words.{recovery, phase_of}

-- of two issues in flight at a place each is queued
abbrev pub AreUnmixed : List (Option InFlight) → Type 0
AreUnmixed slots = (t u : ℕ) (f g : InFlight) → flight_at slots t ≡ Some f → flight_at slots u ≡ Some g → f.place ≡ g.place → t ≢ u
    → f.queued ≡ true

-- what stands, with what the drives hold and what recovery has noted
pub record IsWhole (head : PortHead) (past : List Event) : Type 0 where
  pub stands : Stands head past
  pub unmixed : AreUnmixed (slots past)
  pub driven : AreDriven head past
  pub handled : AreHandled (handling head past)

-- what the autopsy hands to the tasks: where recovery waits for no log, all is handled after the autopsy's entry
abbrev pub HandsOver : PortHead → List Event → Who → ℕ → Type 0
HandsOver head past who seq =
    phase_of (recovery head past) ≡ Logs → log_owed head past ≡ None
    → AreHandled (handling head (onto (Entered (clock past) who seq Recover ∷ past) (autopsy_acts head past)))
