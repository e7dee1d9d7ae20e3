use Rattle.host_core.proofs.TakenSteps.{IsReplayed}
use Rattle.host_core.proofs.hosted.hosted.Given as goal

abbrev pub invariant-loop-taken : goal.invariant-loop-taken
invariant-loop-taken l = IsReplayed l.heads l.steps l.taken-index l.host l.turns
