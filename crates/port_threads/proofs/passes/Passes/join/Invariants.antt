use Rattle.std.proofs.Common.{◌≡◌, ◌++◌, ◌≤◌, ◌<◌, ℕ, length, map, take, drop}
use Rattle.port_threads.specs.Held.{joined_all, held_at}
use Rattle.port_threads.specs.PassesHeld.{held, AllThere}
use Rattle.std.specs.Prelude.{IsSome, None, slice_index_or}
use Rattle.port_threads.proofs.passes.Passes.join.Given as goal

abbrev pub invariant-loop-port : goal.invariant-loop-port
invariant-loop-port l = record {
  long : length l.mine.items ≡ length l.desks;
  other : length l.theirs.items ≡ length l.desks;
  both : map held l.mine.items ≡ joined_all (take l.port l.fn.self) (take l.port l.fn.other) ++ drop l.port l.fn.self;
  still : (k : ℕ) → l.port ≤ k → k < length l.desks → held (slice_index_or l.theirs.items k None) ≡ held_at l.fn.other k;
  there : AllThere l.mine.items;
  still_there : (k : ℕ) → l.port ≤ k → k < length l.desks → IsSome (slice_index_or l.theirs.items k None);
}
