use Rattle.host_summary.proofs.Sums.{IsSum}
use Rattle.host_summary.proofs.summing.total.Given as goal

abbrev pub invariant-loop-place : goal.invariant-loop-place
invariant-loop-place l = IsSum l.rounds l.heads l.steps l.place l.total
