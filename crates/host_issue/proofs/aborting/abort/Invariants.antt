use Rattle.std.proofs.Common.{◌≡◌, ◌++◌, take, drop, length}
use Rattle.host_issue.specs.Aborting.{aborted}
use Rattle.host_issue.proofs.aborting.abort.Given as goal

abbrev pub invariant-loop-number : goal.invariant-loop-number
invariant-loop-number l =
    (length l.initial.slots ≡ 32)
    × (length l.slots ≡ 32)
    × (l.slots ≡ aborted l.place (take l.number l.initial.slots) ++ drop l.number l.initial.slots)
