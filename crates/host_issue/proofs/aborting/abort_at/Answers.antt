use Rattle.host_issue.proofs.AbortLemmas.{slots_stay}
use Rattle.host_issue.proofs.aborting.abort_at.Goals as goal

pub returns-else-is_abortable-clause-slots : goal.returns-else-is_abortable-clause-slots
returns-else-is_abortable-clause-slots c =
    slots_stay c.args.place.now c.args.slots.now c.args.tag c.at.result.now c.at.ensures.flight c.if-is_abortable.ensures
