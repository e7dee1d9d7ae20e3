use Rattle.std.proofs.Common.{refl, arith}
use Rattle.hba_model.specs.Bits.{bits_of}
use Rattle.hba_model.proofs.BitLemmas.{bits_none, length_bits_of}
use Rattle.hba_model.proofs.TagLemmas.{tags_none, apart_none}
use Rattle.hba_model.proofs.hba.Hba.clear_all.Goals as goal

pub invariant_of-self : goal.invariant_of-self
invariant_of-self c = record {
  each_tag = c.self.invariant.each_tag;
  each_place = rw c.nothing_failed-self-inside.ensures refl;
  few_active = omega arith;
  few_finished = omega arith;
  few_failed = omega arith;
  apart = rw (bits_none 32) (apart_none 32);
}

pub returns : goal.returns
returns c =
    rw (
      ← c.self.view_is,
      bits_none 32,
      bits_none 15,
      c.nothing_failed-self-inside.ensures,
      tags_none 32 c.self.inside.places (bits_of 32 c.self.inside.active) (bits_of 32 c.self.inside.finished) c.self.invariant.each_tag
          (length_bits_of 32 c.self.inside.active) (length_bits_of 32 c.self.inside.finished),
    ) refl
