use Rattle.std.proofs.Common.{List, [], ◌∷◌}
use Rattle.ata_script.specs.declared.port_head.PortHead.{PortHead}
use Rattle.ata_trace.specs.Entries.{EntryView, past_of}
use Rattle.ata_trace.specs.Event.{Event}
use Rattle.ata_trace.specs.Event.Event.{Told}
use Rattle.ata_trace.specs.declared.act.Act.TheVariants.{Issued}
use Rattle.port_rules.specs.Legal.{IsLegal}
use Rattle.port_facts.specs.Moments.{AtEach}
use Rattle.port_laws.specs.Silent.{IsSilentWhileFrozen}
use Rattle.port_facts.specs.Allowed.{IsAllowed}
use Rattle.port_facts.proofs.Legal.{journal_allowed}

silent_of_allowed : (head : PortHead) (past : List Event) → IsAllowed head past → AtEach IsSilentWhileFrozen past
silent_of_allowed head [] h = tt
silent_of_allowed head (Told (Issued id number tag deadline fis) ∷ past) h =
    (h.0.open_gate, silent_of_allowed head past h.1)
silent_of_allowed head (event ∷ past) h = (tt, silent_of_allowed head past h.1)

-- each issue of a legal journal finds the port neither frozen nor recovering
pub silent_while_frozen :
    (head : PortHead) (journal : List EntryView) → IsLegal head journal → AtEach IsSilentWhileFrozen (past_of journal)
silent_while_frozen head journal legal =
    silent_of_allowed head (past_of journal) (journal_allowed head journal legal)
