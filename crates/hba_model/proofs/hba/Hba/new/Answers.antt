use Rattle.std.proofs.Common.{refl, arith}
use Rattle.hba_model.proofs.BitLemmas.{bits_none}
use Rattle.hba_model.proofs.TagLemmas.{apart_none, tags_quiet}
use Rattle.hba_model.proofs.hba.Hba.new.Goals as goal

pub invariant_of-result : goal.invariant_of-result
invariant_of-result c = record {
  each_tag = refl;
  each_place = refl;
  few_active = omega arith;
  few_finished = omega arith;
  few_failed = omega arith;
  apart = rw (bits_none 32) (apart_none 32);
}

pub returns : goal.returns
returns c = rw (bits_none 32, bits_none 15, tags_quiet 32) refl
