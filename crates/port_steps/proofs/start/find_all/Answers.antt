use Rattle.std.proofs.Common.{arith}
use Rattle.port_steps.proofs.FoundLemmas.{found_next}
use Rattle.port_steps.proofs.start.find_all.Goals as goal

pub loop-at-preserved : goal.loop-at-preserved
loop-at-preserved c = record {
  adds = found_next c.loop-at.at c.loop-at.invariant.adds (rw c.at.ensures at c.find_at.ensures.adds);
  spare = omega (arith, c.find_at.ensures.few, c.loop-at.invariant.spare);
}
