use Rattle.std.proofs.Common.{arith, length-set}
use Rattle.hba_model.proofs.hba.Hba.fail.Goals as goal

pub invariant_of-self : goal.invariant_of-self
invariant_of-self c = record {
  each_tag = c.self.invariant.each_tag;
  each_place = simp length-set c.self.invariant.each_place;
  few_active = c.self.invariant.few_active;
  few_finished = c.self.invariant.few_finished;
  few_failed = c.with_bit-self-inside.ensures.room 15 (omega arith) c.self.invariant.few_failed;
  apart = c.self.invariant.apart;
}
