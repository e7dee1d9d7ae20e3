use Rattle.std.proofs.Common.{◌≡◌, ◌≤◌, replicate, List}
use Rattle.std.specs.Vec.{vec_capacity}
use Rattle.eh_ring.specs.declared.entry.RingEntry.{RingEntry}
use Rattle.port_past.specs.Rings.{no_entries}
use Rattle.port_ledger.proofs.ring_list.RingList.new.Given as goal

abbrev pub invariant-loop-at : goal.invariant-loop-at
invariant-loop-at l = (l.list.items ≡ replicate {A = List RingEntry} l.at no_entries) × (15 ≤ vec_capacity l.list)
