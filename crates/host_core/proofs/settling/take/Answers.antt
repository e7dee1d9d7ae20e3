use Rattle.host_core.proofs.RoundLemmas.{take_idle}
use Rattle.host_core.proofs.settling.take.Goals as goal

pub returns-then-idle-clause-idle : goal.returns-then-idle-clause-idle
returns-then-idle-clause-idle g c =
    take_idle (g.S.Station.seen c.args.port.now) (g.S.Station.seen c.reserve.new.self) (g.S.Station.seen c.step.new.self) c.settle_count-seq.result c.args.step.now c.args.idle c.is_idle_last.result
    c.in_ok-reserve.ensures.ok c.settle_count-seq.ensures c.step.ensures.entries c.is_idle_last.ensures c.if-idle.true
