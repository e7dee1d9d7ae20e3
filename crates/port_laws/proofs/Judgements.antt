use Rattle.std.proofs.Common.{List, [], ◌∷◌}
use Rattle.ata_script.specs.declared.port_head.PortHead.{PortHead}
use Rattle.ata_trace.specs.Entries.{EntryView, past_of}
use Rattle.ata_trace.specs.Event.{Event}
use Rattle.ata_trace.specs.Event.Event.{Told}
use Rattle.ata_trace.specs.declared.act.Act.TheVariants.{Judged, Recorded, Cleared, Hot, Action}
use Rattle.port_rules.specs.Legal.{IsLegal}
use Rattle.port_laws.specs.Judgements.{IsRightJudgement}
use Rattle.port_facts.specs.Moments.{AtEach}
use Rattle.port_facts.specs.Allowed.{IsAllowed}
use Rattle.port_facts.proofs.Legal.{journal_allowed}

right_of_allowed : (head : PortHead) (past : List Event) → IsAllowed head past → AtEach (IsRightJudgement head) past
right_of_allowed head [] h = tt
right_of_allowed head (Told (Judged number kinds) ∷ past) h = (h.0, right_of_allowed head past h.1)
right_of_allowed head (Told (Recorded place io dubious kinds ncq_off speed_down pio keep action) ∷ past) h =
    (h.0, right_of_allowed head past h.1)
right_of_allowed head (Told (Cleared place) ∷ past) h = (h.0, right_of_allowed head past h.1)
right_of_allowed head (Told (Hot place generation) ∷ past) h = (h.0.1, right_of_allowed head past h.1)
right_of_allowed head (Told (Action place kinds chosen) ∷ past) h = (h.0.1, right_of_allowed head past h.1)
right_of_allowed head (event ∷ past) h = (tt, right_of_allowed head past h.1)

-- what each autopsy of a legal journal tells is right
pub judgements_are_right :
    (head : PortHead) (journal : List EntryView) → IsLegal head journal → AtEach (IsRightJudgement head) (past_of journal)
judgements_are_right head journal legal =
    right_of_allowed head (past_of journal) (journal_allowed head journal legal)
