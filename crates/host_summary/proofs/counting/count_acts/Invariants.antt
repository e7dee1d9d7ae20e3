use Rattle.std.proofs.Common.{◌≡◌, take}
use Rattle.host_summary.specs.Tally.{with_acts}
use Rattle.host_summary.proofs.counting.count_acts.Given as goal

abbrev pub invariant-loop-act : goal.invariant-loop-act
invariant-loop-act l = l.summary ≡ with_acts l.fn.summary (take l.act-index l.acts)
