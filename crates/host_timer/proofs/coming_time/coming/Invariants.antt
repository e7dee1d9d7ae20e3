use Rattle.std.proofs.Common.{◌≡◌, take, min, nat_lt, filter, filter_map}
use Rattle.std.specs.List.{reduce}
use Rattle.host_timer.specs.Coming.{deadline_in}
use Rattle.host_timer.proofs.coming_time.coming.Given as goal

abbrev pub invariant-loop-slot : goal.invariant-loop-slot
invariant-loop-slot l = l.least ≡ reduce min (filter (nat_lt l.now.n) (filter_map deadline_in (take l.slot-index l.flights)))
