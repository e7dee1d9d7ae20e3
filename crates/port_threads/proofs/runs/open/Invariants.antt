use Rattle.std.proofs.Common.{◌≡◌, length, map, take, vec_len, vec_capacity}
use Rattle.port_threads.specs.Stiles.{AllNew, first_pass}
use Rattle.port_threads.proofs.runs.open.Given as goal

abbrev pub invariant-loop-number : goal.invariant-loop-number
invariant-loop-number l = record {
  done : vec_len l.desks ≡ l.number;
  room : vec_capacity l.desks ≡ length l.heads;
  passes : l.passes ≡ map first_pass l.desks.items;
  desks : AllNew 0 (take l.number l.heads) l.desks.items;
}
