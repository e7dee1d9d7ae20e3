use Rattle.std.proofs.Common.{◌≡◌, ◌<◌, ◌≤◌, ◌+◌, ℕ, length, get_or, drop}
use Rattle.std.specs.Prelude.{IsSome, None}
use Rattle.std.specs.Vec.Iter.{into_iter_items, into_iter_len}
use Rattle.port_core.specs.PortView.{PortView}
use Rattle.port_threads.specs.Held.{held_at}
use Rattle.port_threads.specs.PassesHeld.{held}
use Rattle.port_threads.specs.Stiles.{Stile, IsClosed}
use Rattle.port_threads.proofs.passes.Passes.close.Given as goal

abbrev pub invariant-loop-desk : goal.invariant-loop-desk
invariant-loop-desk l = record {
  done : length l.host ≡ l.place;
  left : l.place + into_iter_len l.desk-iterator ≡ length l.fn.desks.items;
  rest : into_iter_items l.desk-iterator ≡ drop l.place l.fn.desks.items;
  long : length l.items.items ≡ length l.fn.desks.items;
  still : (k : ℕ) → l.place ≤ k → k < length l.fn.desks.items → held (get_or l.items.items k None) ≡ held_at l.fn.self k;
  there : (k : ℕ) → l.place ≤ k → k < length l.fn.desks.items → IsSome (get_or l.items.items k None);
  closed : (k : ℕ) (t : Stile) (p : PortView) → k < l.place → IsClosed (get_or l.fn.desks.items k t) (held_at l.fn.self k) (get_or l.host k p);
}
