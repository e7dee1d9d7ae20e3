use Rattle.port_laws.proofs.Answered.{answered_once}
use Rattle.port_laws.proofs.Ending.{recoveries_end_empty}
use Rattle.port_laws.proofs.Judgements.{judgements_are_right}
use Rattle.port_laws.proofs.Links.{links_are_one, links_are_unmixed}
use Rattle.port_laws.proofs.Silent.{silent_while_frozen}
use Rattle.port_laws.proofs.Statuses.{statuses_are_right}
use Rattle.port_laws.proofs.Success.{successes_are_done_well}
use Rattle.port_laws.proofs.Tags.{tags_are_free}
use Rattle.port_stands.proofs.Heads.{one_place}
use Rattle.port_stands.proofs.Silence.{journal_silent}
use Rattle.port_core.proofs.machine.Machine.step.Goals as goal

pub returns-clause-once : goal.returns-clause-once
returns-clause-once c = answered_once _ _ c.take.ensures.legal

pub returns-clause-success : goal.returns-clause-success
returns-clause-success c = successes_are_done_well _ _ c.take.ensures.legal

pub returns-clause-statuses : goal.returns-clause-statuses
returns-clause-statuses c = statuses_are_right _ _ c.take.ensures.legal

pub returns-clause-judgements : goal.returns-clause-judgements
returns-clause-judgements c = judgements_are_right _ _ c.take.ensures.legal

pub returns-clause-ending : goal.returns-clause-ending
returns-clause-ending c = recoveries_end_empty _ _ c.take.ensures.legal

pub returns-clause-tags : goal.returns-clause-tags
returns-clause-tags c = tags_are_free _ _ c.take.ensures.legal

pub returns-clause-links : goal.returns-clause-links
returns-clause-links c = links_are_unmixed _ _ c.take.ensures.legal

pub returns-clause-one_link : goal.returns-clause-one_link
returns-clause-one_link c pmp fbs = links_are_one _ pmp fbs _ c.take.ensures.legal

pub returns-clause-silence : goal.returns-clause-silence
returns-clause-silence c = silent_while_frozen _ _ c.take.ensures.legal

pub returns-clause-after_answer : goal.returns-clause-after_answer
returns-clause-after_answer c =
    journal_silent c.take.new.ledger.head (one_place c.take.new.ledger.head) c.take.new.ledger.entries c.take.ensures.legal
