use Rattle.std.proofs.Common.{arith, refl}
use Rattle.host_defer.specs.Obstacles.{is_elsewhere}
use Rattle.port_steps.proofs.OutlineLemmas.{none_such}
use Rattle.port_steps.proofs.deferral.any_elsewhere.Goals as goal

pub returns-then-busy-eq0 : goal.returns-then-busy-eq0
returns-then-busy-eq0 c = none_such (is_elsewhere c.args.x) _ _ refl c.busy.ensures.bits (omega (arith, c.if-busy-eq0.true))
