use Rattle.std.proofs.Common.{List, [], ◌∷◌}
use Rattle.ata_script.specs.declared.port_head.PortHead.{PortHead}
use Rattle.ata_trace.specs.Entries.{EntryView, past_of}
use Rattle.ata_trace.specs.Event.{Event}
use Rattle.port_rules.specs.Legal.{IsLegal}
use Rattle.port_facts.specs.Moments.{AtEach}
use Rattle.port_laws.specs.Once.{AreOnceOrLive}
use Rattle.port_facts.specs.Allowed.{IsAllowed}
use Rattle.port_facts.proofs.Legal.{journal_allowed}
use Rattle.port_facts.proofs.Once.{once_or_live}

each_once : (head : PortHead) (past : List Event) → IsAllowed head past → AtEach AreOnceOrLive past
each_once head [] h = tt
each_once head (event ∷ past) h = (λ id. once_or_live head (event ∷ past) h id, each_once head past h.1)

-- at each moment of a legal journal each command is answered once or live
pub answered_once :
    (head : PortHead) (journal : List EntryView) → IsLegal head journal → AtEach AreOnceOrLive (past_of journal)
answered_once head journal legal = each_once head (past_of journal) (journal_allowed head journal legal)
