use Rattle.std.proofs.Common.{◌∙◌, arith}
use Rattle.port_recovery.proofs.LogLemmas.{abort_next, aborted_all}
use Rattle.port_recovery.proofs.log.abort_all.Goals as goal

pub loop-tag-preserved : goal.loop-tag-preserved
loop-tag-preserved c = record {
  adds =
      abort_next c.args.tags c.loop-tag.tag c.is_in.result c.loop-tag.invariant.adds c.loop-tag.invariant.slots
      c.is_in.ensures
      (rw c.at.ensures at c.abort_at.ensures.adds);
  slots = c.abort_at.ensures.slots ∙ c.loop-tag.invariant.slots;
  spare = omega (arith, c.abort_at.ensures.few, c.loop-tag.invariant.spare);
}

pub returns : goal.returns
returns c = aborted_all c.args.tags c.loop-tag.tag (omega arith) (omega arith) c.loop-tag.invariant.adds
