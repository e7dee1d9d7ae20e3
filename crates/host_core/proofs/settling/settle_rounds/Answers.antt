use Rattle.std.proofs.Common.{◌∙◌, arith}
use Rattle.host_core.proofs.SettleLemmas.{on_err_any, settling_begins, settling_cut, settling_ends, settling_goes, settling_stops}
use Rattle.host_core.proofs.settling.settle_rounds.Goals as goal

pub loop-round-init : goal.loop-round-init
loop-round-init g c = settling_begins c.args.rounds (g.S.Station.seen c.args.port.now)

pub loop-round-preserved : goal.loop-round-preserved
loop-round-preserved g c =
    settling_goes c.args.rounds c.loop-round.round (g.S.Station.seen c.args.port.now) (g.S.Station.seen c.loop-round.port) (g.S.Station.seen c.settle_round.new.port) c.in_ok-settle_round.field-0
    c.loop-round.invariant (omega (arith, c.loop-round-test.true)) c.if-not-branch.false c.in_ok-settle_round.ensures.goes
    c.in_ok-settle_round.ensures.head c.in_ok-settle_round.ensures.number

pub returns-in_err-settle_round-clause-number : goal.returns-in_err-settle_round-clause-number
returns-in_err-settle_round-clause-number g c = c.in_err-settle_round.ensures.number ∙ c.loop-round.invariant.number

pub returns-in_err-settle_round-clause-head : goal.returns-in_err-settle_round-clause-head
returns-in_err-settle_round-clause-head g c = c.in_err-settle_round.ensures.head ∙ c.loop-round.invariant.head

pub returns-in_err-settle_round-clause-part : goal.returns-in_err-settle_round-clause-part
returns-in_err-settle_round-clause-part g c =
    on_err_any c.from_residual.result
    (settling_cut c.args.rounds c.loop-round.round (g.S.Station.seen c.args.port.now) (g.S.Station.seen c.loop-round.port) (g.S.Station.seen c.settle_round.new.port) c.loop-round.invariant
    (omega (arith, c.loop-round-test.true)) c.in_err-settle_round.ensures.part)

pub returns-then-not-branch-clause-entries : goal.returns-then-not-branch-clause-entries
returns-then-not-branch-clause-entries g c =
    settling_stops c.args.rounds c.loop-round.round (g.S.Station.seen c.args.port.now) (g.S.Station.seen c.loop-round.port) (g.S.Station.seen c.settle_round.new.port) c.in_ok-settle_round.field-0
    c.loop-round.invariant (omega (arith, c.loop-round-test.true)) c.if-not-branch.true c.in_ok-settle_round.ensures.goes

pub returns-clause-entries : goal.returns-clause-entries
returns-clause-entries g c =
    settling_ends c.args.rounds c.loop-round.round (g.S.Station.seen c.args.port.now) (g.S.Station.seen c.loop-round.port) c.loop-round.invariant (omega (arith, c.loop-round-test.false))
