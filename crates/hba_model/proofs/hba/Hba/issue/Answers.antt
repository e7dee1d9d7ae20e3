use Rattle.std.proofs.Common.{true, false, refl, arith, length-set}
use Rattle.hba_model.proofs.TagLemmas.{tags_set, apart_set}
use Rattle.hba_model.proofs.hba.Hba.issue.Goals as goal

pub invariant_of-self : goal.invariant_of-self
invariant_of-self c = record {
  each_tag = simp length-set c.self.invariant.each_tag;
  each_place = c.self.invariant.each_place;
  few_active = omega arith;
  few_finished = omega arith;
  few_failed = c.self.invariant.few_failed;
  apart = rw (c.with_bit-self-inside.ensures.bits 32 (omega arith) (omega arith), c.without_bit-self-inside.ensures.bits 32 (omega arith) (omega arith), c.get.ensures.value, c.get-2.ensures.value) (apart_set _ _ c.args.tag true false c.self.invariant.apart refl);
}

pub returns : goal.returns
returns c =
    rw (
      ← c.self.view_is,
      c.with_bit-self-inside.ensures.bits 32 (omega arith) (omega arith),
      c.without_bit-self-inside.ensures.bits 32 (omega arith) (omega arith),
      c.get.ensures.value,
      c.get-2.ensures.value,
      c.get-3.ensures.value,
      tags_set,
    ) refl
