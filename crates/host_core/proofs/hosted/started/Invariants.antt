use Rattle.std.proofs.Common.{[], take}
use Rattle.host_core.specs.Hosting.{IsPlayed}
use Rattle.host_core.proofs.hosted.started.Given as goal

abbrev pub invariant-loop-number : goal.invariant-loop-number
invariant-loop-number l = IsPlayed (take l.number l.heads) [] l.host
