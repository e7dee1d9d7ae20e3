use Rattle.std.proofs.Common.{◌≡◌, ◌++◌, take, drop, map}
use Rattle.eh_ring.specs.Marks.{old_entry}
use Rattle.eh_ring.proofs.ring.Ring.mark_old.Given as goal

abbrev pub invariant-loop-entry : goal.invariant-loop-entry
invariant-loop-entry l = l.entry-items ≡ map old_entry (take l.entry-index l.initial.entry-items) ++ drop l.entry-index l.initial.entry-items
