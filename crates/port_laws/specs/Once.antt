use Rattle.std.specs.Prelude.{ℕ, List, ◌∷◌}
use Rattle.ata_trace.specs.Event.{Event}
use Rattle.port_facts.specs.Once.{IsOnceOrLive}

-- after an event each command is so
abbrev pub AreOnceOrLive : Event → List Event → Type 0
AreOnceOrLive event past = (id : ℕ) → IsOnceOrLive id (event ∷ past)
