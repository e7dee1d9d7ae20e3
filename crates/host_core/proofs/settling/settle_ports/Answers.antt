use Rattle.std.proofs.Common.{get_or, sym}
use Rattle.host_core.proofs.SettleLemmas.{on_err_any}
use Rattle.host_core.proofs.SettledPorts.{ports_begin, ports_calm, ports_cut, ports_go, ports_settled, same_cut}
use Rattle.host_core.proofs.settling.settle_ports.Goals as goal

pub loop-place-init : goal.loop-place-init
loop-place-init c = ports_begin c.args.rounds c.args.ports.now

pub loop-place-preserved : goal.loop-place-preserved
loop-place-preserved c =
    ports_go c.args.rounds c.loop-place.place c.args.ports.now c.loop-place.ports c.index-ports-place.result
    (get_or c.loop-place.ports c.loop-place.place c.index-ports-place.result) c.settle.new.port
    c.loop-place.invariant c.loop-place-test.true c.index-ports-place.is (sym c.index-ports-place.is) c.in_ok-settle.ensures.number
    c.in_ok-settle.ensures.head c.in_ok-settle.ensures.entries c.in_ok-settle.ensures.calm

pub returns-in_err-settle-clause-same : goal.returns-in_err-settle-clause-same
returns-in_err-settle-clause-same c =
    same_cut c.args.rounds c.loop-place.place c.args.ports.now c.loop-place.ports c.index-ports-place.result
    (get_or c.loop-place.ports c.loop-place.place c.index-ports-place.result) c.settle.new.port
    c.loop-place.invariant c.index-ports-place.is (sym c.index-ports-place.is) c.in_err-settle.ensures.number c.in_err-settle.ensures.head

pub returns-in_err-settle-clause-part : goal.returns-in_err-settle-clause-part
returns-in_err-settle-clause-part c =
    on_err_any c.from_residual.result
    (ports_cut c.args.rounds c.loop-place.place c.args.ports.now c.loop-place.ports c.index-ports-place.result
    (get_or c.loop-place.ports c.loop-place.place c.index-ports-place.result) c.settle.new.port
    c.loop-place.invariant c.loop-place-test.true c.index-ports-place.is (sym c.index-ports-place.is) c.in_err-settle.ensures.part)

pub returns-clause-settled : goal.returns-clause-settled
returns-clause-settled c =
    ports_settled c.args.rounds c.loop-place.place c.args.ports.now c.loop-place.ports c.loop-place.invariant c.loop-place-test.false

pub returns-clause-calm : goal.returns-clause-calm
returns-clause-calm c calm few =
    ports_calm c.args.rounds c.loop-place.place c.args.ports.now c.loop-place.ports c.loop-place.invariant c.loop-place-test.false calm few
