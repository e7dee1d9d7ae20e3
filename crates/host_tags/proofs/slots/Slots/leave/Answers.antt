use Rattle.host_tags.proofs.NumberLemmas.{left_stays}
use Rattle.host_tags.proofs.slots.Slots.leave.Goals as goal

pub returns-else-is_issue-clause-slots : goal.returns-else-is_issue-clause-slots
returns-else-is_issue-clause-slots c =
    left_stays c.args.number.n c.args.tag c.args.self.now c.at.result.now c.at.ensures.flight c.if-is_issue.ensures
