use Rattle.std.proofs.Common.{◌≡◌, ◌<◌, ℕ, length, take}
use Rattle.std.specs.Prelude.{slice_index}
use Rattle.port_threads.specs.Walks.{steps_by, Walked}
use Rattle.port_threads.proofs.walks.walk.Given as goal

abbrev pub invariant-loop-line : goal.invariant-loop-line
invariant-loop-line g l = record {
  walked : Walked l.fn.actor (take l.line-index l.script.steps) l.fn.passes l.passes;
  long : length l.counts ≡ 8;
  counts : (port : ℕ) → port < length l.desks → slice_index l.counts port ≡ length (steps_by port (take l.line-index l.script.steps) l.fn.actor);
}
