use Rattle.std.proofs.Common.{◌≡◌, ◌++◌, length, map, take, drop}
use Rattle.port_threads.specs.Held.{lessened, single}
use Rattle.port_threads.specs.PassesHeld.{held, AllThere}
use Rattle.port_threads.proofs.passes.Passes.split.Given as goal

abbrev pub invariant-loop-port : goal.invariant-loop-port
invariant-loop-port l = record {
  long : length l.items.items ≡ length l.desks;
  rest : map held l.items.items ≡ map lessened (take l.port l.fn.self) ++ drop l.port l.fn.self;
  given : map held l.given.items ≡ map single (take l.port l.fn.self);
  there : AllThere l.items.items;
  all_given : AllThere l.given.items;
}
