use Rattle.std.proofs.Common.{true}
use Rattle.port_rules.specs.Begin.{timed_out}
use Rattle.port_recovery.proofs.BeginLemmas.{begin_told}
use Rattle.port_recovery.proofs.begun.begin.Goals as goal

pub returns : goal.returns
returns c = begin_told {frozen = c.is_frozen-frozen.result} c.note.ensures c.answer_all.ensures.adds
    (c.answer_all.ensures.left (λ f. true) timed_out) (rw c.at.ensures at c.condemn_all.ensures.adds)
    (rw (c.is_more.ensures, c.room.ensures, c.room-room.ensures) at c.freeze_if.ensures) c.is_frozen-frozen.ensures
