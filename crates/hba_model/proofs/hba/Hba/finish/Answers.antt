use Rattle.std.proofs.Common.{true, false, refl, arith}
use Rattle.hba_model.proofs.TagLemmas.{tags_finished, apart_set}
use Rattle.hba_model.proofs.hba.Hba.finish.Goals as goal

pub invariant_of-self : goal.invariant_of-self
invariant_of-self c = record {
  each_tag = c.self.invariant.each_tag;
  each_place = c.self.invariant.each_place;
  few_active = omega arith;
  few_finished = omega arith;
  few_failed = c.self.invariant.few_failed;
  apart = rw (c.without_bit-self-inside.ensures.bits 32 (omega arith) (omega arith), c.with_bit-self-inside.ensures.bits 32 (omega arith) (omega arith), c.get.ensures.value, c.get-2.ensures.value) (apart_set _ _ c.args.tag false true c.self.invariant.apart refl);
}

pub returns : goal.returns
returns c =
    rw (
      ← c.self.view_is,
      c.without_bit-self-inside.ensures.bits 32 (omega arith) (omega arith),
      c.with_bit-self-inside.ensures.bits 32 (omega arith) (omega arith),
      c.get.ensures.value,
      c.get-2.ensures.value,
      tags_finished,
    ) refl
