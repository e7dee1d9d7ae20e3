use Rattle.std.proofs.Common.{◌∙◌, arith, sym}
use Rattle.port_core.proofs.Quiets.{none_waits, one_waits}
use Rattle.port_ledger.specs.LedgerView.{past}
use Rattle.port_core.proofs.quiet.none_waits.Goals as goal

pub returns-then-is_some : goal.returns-then-is_some
returns-then-is_some c =
    one_waits (past c.args.ledger.now) c.at.result c.front.result c.front.ensures.value (sym c.is_some.ensures ∙ c.if-is_some.true)

pub returns : goal.returns
returns c = none_waits (past c.args.ledger.now) c.loop-place.place c.loop-place.invariant (omega (arith, c.loop-place-test.false))
