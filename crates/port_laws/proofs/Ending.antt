use Rattle.std.proofs.Common.{◌≡◌, ℕ, List, [], ◌∷◌, Option, None, Some, suc, zero, refl}
use Rattle.ata_script.specs.declared.port_head.PortHead.{PortHead}
use Rattle.ata_trace.specs.Entries.{EntryView, past_of}
use Rattle.ata_trace.specs.Event.{Event}
use Rattle.ata_trace.specs.Event.Event.{Told}
use Rattle.ata_trace.specs.declared.act.Act.TheVariants.{Ended}
use Rattle.host_tags.specs.Slots.{flight_at}
use Rattle.host_tags.specs.declared.in_flight.InFlight.{InFlight}
use Rattle.port_past.specs.Slots.{slots}
use Rattle.port_rules.specs.Legal.{IsLegal}
use Rattle.port_laws.specs.Ending.{IsEmptyAtEnd}
use Rattle.port_facts.specs.Moments.{AtEach}
use Rattle.port_facts.specs.Allowed.{IsAllowed}
use Rattle.port_facts.proofs.Legal.{journal_allowed}
use Rattle.host_tags.specs.EachFlight.{AreNone}

none_at : (slots : List (Option InFlight)) (tag : ℕ) → AreNone slots → flight_at slots tag ≡ None
none_at [] tag none = refl
none_at (None ∷ slots) zero none = refl
none_at (None ∷ slots) (suc tag) none = none_at slots tag none
none_at (Some f ∷ slots) tag none = absurd none.0

empty_of_allowed : (head : PortHead) (past : List Event) → IsAllowed head past → AtEach IsEmptyAtEnd past
empty_of_allowed head [] h = tt
empty_of_allowed head (Told Ended ∷ past) h = (λ tag. none_at (slots past) tag h.0, empty_of_allowed head past h.1)
empty_of_allowed head (event ∷ past) h = (tt, empty_of_allowed head past h.1)

-- at each `ended` of a legal journal nothing is in flight
pub recoveries_end_empty :
    (head : PortHead) (journal : List EntryView) → IsLegal head journal → AtEach IsEmptyAtEnd (past_of journal)
recoveries_end_empty head journal legal = empty_of_allowed head (past_of journal) (journal_allowed head journal legal)
