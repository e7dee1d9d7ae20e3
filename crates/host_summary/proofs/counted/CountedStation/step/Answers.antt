use Rattle.host_summary.proofs.Sums.{counted_more}
use Rattle.host_summary.specs.Tally.{none_of}
use Rattle.host_summary.proofs.counted.CountedStation.step.Goals as goal

pub invariant_of-self : goal.invariant_of-self
invariant_of-self c =
    counted_more (none_of 0 0) c.self.inside.machine.entries _ c.step.new.self.entries c.self.inside.counts c.count_last.new.summary
    c.self.invariant c.step.ensures.entries c.count_last.ensures
