use Rattle.std.proofs.Common.{List, [], ◌∷◌, is_some, ap}
use Rattle.ata_script.specs.declared.port_head.PortHead.{PortHead}
use Rattle.ata_trace.specs.Entries.{EntryView, past_of}
use Rattle.ata_trace.specs.Event.{Event}
use Rattle.ata_trace.specs.Event.Event.{Told}
use Rattle.ata_trace.specs.declared.act.Act.TheVariants.{Issued}
use Rattle.port_rules.specs.Legal.{IsLegal}
use Rattle.port_facts.specs.Moments.{AtEach}
use Rattle.port_laws.specs.Tags.{IsTagFree}
use Rattle.port_facts.specs.Allowed.{IsAllowed}
use Rattle.port_facts.proofs.Legal.{journal_allowed}

free_of_allowed : (head : PortHead) (past : List Event) → IsAllowed head past → AtEach IsTagFree past
free_of_allowed head [] h = tt
free_of_allowed head (Told (Issued id number tag deadline fis) ∷ past) h =
    (record { is_tag = h.0.within; unused = ap is_some h.0.free }, free_of_allowed head past h.1)
free_of_allowed head (event ∷ past) h = (tt, free_of_allowed head past h.1)

-- each issue of a legal journal takes a free tag
pub tags_are_free :
    (head : PortHead) (journal : List EntryView) → IsLegal head journal → AtEach IsTagFree (past_of journal)
tags_are_free head journal legal =
    free_of_allowed head (past_of journal) (journal_allowed head journal legal)
