use Rattle.std.proofs.Common.{◌≡◌, ◌-◌, ◌+◌, length, arith, refl}
use Rattle.std.proofs.lemmas.Fn.{says_at}
use Rattle.ata_base.proofs.MaskLemmas.{mask_more, mask_room}
use Rattle.ata_base.proofs.mask.mask_of.Goals as goal

pub loop-below-preserved : goal.loop-below-preserved
loop-below-preserved g c = record {
  room = rw c.from.ensures (mask_room c.loop-below.mask c.loop-below.below c.test-passes.result c.loop-below.invariant.room);
  value = λ passes decides.
      let start = length c.args.list.now - 1 - c.loop-below.below in
      let same : start ≡ length c.args.list.now - (c.loop-below.below + 1) = omega arith in
      rw (c.from.ensures, ← same)
      (mask_more passes c.args.list.now start (length c.args.list.now - c.loop-below.below) c.loop-below.mask c.index-list-list.result c.test-passes.result
      (omega arith) (omega arith) c.index-list-list.is (decides _ _ (says_at _ c.test-passes.ensures refl)) (c.loop-below.invariant.value passes decides));
}
