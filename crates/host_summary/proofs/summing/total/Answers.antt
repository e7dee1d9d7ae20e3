use Rattle.std.proofs.Common.{subst}
use Rattle.std.specs.Prelude.{IfOk, Result}
use Rattle.ata_base.specs.declared.out_of_memory.OutOfMemory.{OutOfMemory}
use Rattle.host_summary.proofs.Sums.{sum_goes}
use Rattle.host_summary.specs.Sums.{IsSummaryOf}
use Rattle.host_summary.specs.declared.summary.Summary.{Summary}
use Rattle.host_summary.proofs.summing.total.Goals as goal

pub loop-place-preserved : goal.loop-place-preserved
loop-place-preserved c =
    sum_goes c.args.rounds c.args.heads.now c.args.steps.now c.loop-place.place c.loop-place.total c.in-Ok.port c.add.new.total
    c.loop-place-test.true c.loop-place.invariant
    (subst (λ (made : Result Summary OutOfMemory). IfOk made (IsSummaryOf c.args.rounds c.args.heads.now c.args.steps.now c.loop-place.place))
    c.in-Ok.is (c.requires.ports.each c.loop-place.place _ c.loop-place-test.true))
    c.add.ensures
