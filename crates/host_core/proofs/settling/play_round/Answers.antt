use Rattle.std.proofs.Common.{◌≡◌, ◌∷◌, [], arith}
use Rattle.std.proofs.lemmas.Result.{IfOk-weaker, on_err_weaker, on_ok_weaker}
use Rattle.ata_trace.specs.declared.step.Step.TheVariants.{Expire, Irq, Recover}
use Rattle.host_core.proofs.RoundLemmas.{kick_goes, kicks_end, last_entries, last_idle, round_cut, rounding_goes, work_goes, works_end}
use Rattle.host_core.proofs.SettleLemmas.{on_err_any}
use Rattle.port_rules.specs.Settle.{are_idle}
use Rattle.host_core.specs.Settled.{round_after}
use Rattle.host_core.proofs.settling.play_round.Goals as goal

pub loop-kicked-preserved : goal.loop-kicked-preserved
loop-kicked-preserved g c =
    kick_goes (g.S.Station.seen c.args.port.now) (g.S.Station.seen c.loop-kicked.port) (g.S.Station.seen c.take.new.port) c.loop-kicked.idle c.in_ok-idle.idle
    c.loop-kicked.kicked _ c.at-place.ensures (omega (arith, c.loop-kicked-test.true, c.places-count.ensures))
    c.loop-kicked.invariant c.in_ok-idle.ensures.entries c.in_ok-idle.ensures.idle c.in_ok-idle.ensures.head c.in_ok-idle.ensures.number

pub loop-worked-init : goal.loop-worked-init
loop-worked-init g c =
    kicks_end (g.S.Station.seen c.args.port.now) (g.S.Station.seen c.loop-kicked.port) c.loop-kicked.idle c.loop-kicked.kicked
    (omega (arith, c.loop-kicked-test.false, c.places-count.ensures)) c.loop-kicked.invariant

pub loop-worked-preserved : goal.loop-worked-preserved
loop-worked-preserved g c =
    work_goes (g.S.Station.seen c.args.port.now) (g.S.Station.seen c.loop-worked.port) (g.S.Station.seen c.take-in-loop-worked.new.port) c.loop-worked.idle c.in_ok-idle-2.idle
    c.loop-worked.worked _ _ c.at-place-in-loop-worked.ensures c.at-pick.ensures (omega (arith, c.loop-worked-test.true, c.places-count.ensures))
    c.loop-worked.invariant c.in_ok-idle-2.ensures.entries c.in_ok-idle-2.ensures.idle c.in_ok-idle-2.ensures.head c.in_ok-idle-2.ensures.number

pub returns-in_err-timed-clause-part : goal.returns-in_err-timed-clause-part
returns-in_err-timed-clause-part g c =
    let end = works_end (g.S.Station.seen c.args.port.now) (g.S.Station.seen c.loop-worked.port) c.loop-worked.idle c.loop-worked.worked (omega (arith, c.loop-worked-test.false, c.places-count.ensures)) c.loop-worked.invariant in
    let served =
    rounding_goes (g.S.Station.seen c.args.port.now) (g.S.Station.seen c.loop-worked.port) (g.S.Station.seen c.take-2.new.port) c.loop-worked.idle c.in_ok-served.served Irq (Expire ∷ Recover ∷ []) end
    c.in_ok-served.ensures.entries c.in_ok-served.ensures.idle c.in_ok-served.ensures.head c.in_ok-served.ensures.number in
    on_err_any c.from_residual-in_err-timed.result
    (round_cut (g.S.Station.seen c.args.port.now) (g.S.Station.seen c.take-2.new.port) (g.S.Station.seen c.take-3.new.port) c.in_ok-served.served (Expire ∷ Recover ∷ []) served c.in_err-timed.ensures.err)

pub returns-clause-entries : goal.returns-clause-entries
returns-clause-entries g c =
    let end = works_end (g.S.Station.seen c.args.port.now) (g.S.Station.seen c.loop-worked.port) c.loop-worked.idle c.loop-worked.worked (omega (arith, c.loop-worked-test.false, c.places-count.ensures)) c.loop-worked.invariant in
    let served =
    rounding_goes (g.S.Station.seen c.args.port.now) (g.S.Station.seen c.loop-worked.port) (g.S.Station.seen c.take-2.new.port) c.loop-worked.idle c.in_ok-served.served Irq (Expire ∷ Recover ∷ []) end
    c.in_ok-served.ensures.entries c.in_ok-served.ensures.idle c.in_ok-served.ensures.head c.in_ok-served.ensures.number in
    let timed =
    rounding_goes (g.S.Station.seen c.args.port.now) (g.S.Station.seen c.take-2.new.port) (g.S.Station.seen c.take-3.new.port) c.in_ok-served.served c.in_ok-timed.timed Expire (Recover ∷ []) served
    c.in_ok-timed.ensures.entries c.in_ok-timed.ensures.idle c.in_ok-timed.ensures.head c.in_ok-timed.ensures.number in
    on_ok_weaker c.take-4.result
    (last_entries (g.S.Station.seen c.args.port.now) (g.S.Station.seen c.take-3.new.port) (g.S.Station.seen c.take-4.new.port) c.in_ok-timed.timed Recover timed)
    c.take-4.ensures.entries

pub returns-clause-idle : goal.returns-clause-idle
returns-clause-idle g c =
    let end = works_end (g.S.Station.seen c.args.port.now) (g.S.Station.seen c.loop-worked.port) c.loop-worked.idle c.loop-worked.worked (omega (arith, c.loop-worked-test.false, c.places-count.ensures)) c.loop-worked.invariant in
    let served =
    rounding_goes (g.S.Station.seen c.args.port.now) (g.S.Station.seen c.loop-worked.port) (g.S.Station.seen c.take-2.new.port) c.loop-worked.idle c.in_ok-served.served Irq (Expire ∷ Recover ∷ []) end
    c.in_ok-served.ensures.entries c.in_ok-served.ensures.idle c.in_ok-served.ensures.head c.in_ok-served.ensures.number in
    let timed =
    rounding_goes (g.S.Station.seen c.args.port.now) (g.S.Station.seen c.take-2.new.port) (g.S.Station.seen c.take-3.new.port) c.in_ok-served.served c.in_ok-timed.timed Expire (Recover ∷ []) served
    c.in_ok-timed.ensures.entries c.in_ok-timed.ensures.idle c.in_ok-timed.ensures.head c.in_ok-timed.ensures.number in
    IfOk-weaker c.take-4.result _ (λ idle. idle ≡ are_idle (round_after (g.S.Station.seen c.args.port.now).head (g.S.Station.seen c.args.port.now).entries))
    (λ still stays. last_idle (g.S.Station.seen c.args.port.now) (g.S.Station.seen c.take-3.new.port) c.in_ok-timed.timed still Recover timed stays)
    c.take-4.ensures.idle

pub returns-clause-part : goal.returns-clause-part
returns-clause-part g c =
    let end = works_end (g.S.Station.seen c.args.port.now) (g.S.Station.seen c.loop-worked.port) c.loop-worked.idle c.loop-worked.worked (omega (arith, c.loop-worked-test.false, c.places-count.ensures)) c.loop-worked.invariant in
    let served =
    rounding_goes (g.S.Station.seen c.args.port.now) (g.S.Station.seen c.loop-worked.port) (g.S.Station.seen c.take-2.new.port) c.loop-worked.idle c.in_ok-served.served Irq (Expire ∷ Recover ∷ []) end
    c.in_ok-served.ensures.entries c.in_ok-served.ensures.idle c.in_ok-served.ensures.head c.in_ok-served.ensures.number in
    let timed =
    rounding_goes (g.S.Station.seen c.args.port.now) (g.S.Station.seen c.take-2.new.port) (g.S.Station.seen c.take-3.new.port) c.in_ok-served.served c.in_ok-timed.timed Expire (Recover ∷ []) served
    c.in_ok-timed.ensures.entries c.in_ok-timed.ensures.idle c.in_ok-timed.ensures.head c.in_ok-timed.ensures.number in
    on_err_weaker c.take-4.result
    (round_cut (g.S.Station.seen c.args.port.now) (g.S.Station.seen c.take-3.new.port) (g.S.Station.seen c.take-4.new.port) c.in_ok-timed.timed (Recover ∷ []) timed)
    c.take-4.ensures.err
