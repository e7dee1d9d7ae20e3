use Rattle.std.proofs.Common.{arith}
use Rattle.ata_io.proofs.Loops.{wrote_more}
use Rattle.ata_io.proofs.writing.put_all.Goals as goal

pub loop-at-preserved : goal.loop-at-preserved
loop-at-preserved g c = record {
  within = grind (arith, c.in-Ok.ensures.bound);
  appends = wrote_more _ _ _ _ _ _ c.loop-at.invariant.appends c.in-Ok.ensures.bytes;
  kept = omega (arith, c.in-Ok.ensures.cause.ok);
}
