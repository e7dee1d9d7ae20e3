use Rattle.std.proofs.Common.{◌≡◌, ◌++◌, take, drop, length}
use Rattle.host_tags.specs.Numbers.{without}
use Rattle.host_tags.proofs.slots.Slots.release_issue.Given as goal

abbrev pub invariant-loop-tag : goal.invariant-loop-tag
invariant-loop-tag l =
    (length l.initial.self ≡ 32)
    × (length l.self ≡ 32)
    × (l.self ≡ without l.number.n (take l.tag l.initial.self) ++ drop l.tag l.initial.self)
