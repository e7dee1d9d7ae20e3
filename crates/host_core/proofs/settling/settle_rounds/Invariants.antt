use Rattle.host_core.proofs.SettleLemmas.{IsSettling}
use Rattle.host_core.proofs.settling.settle_rounds.Given as goal

abbrev pub invariant-loop-round : goal.invariant-loop-round
invariant-loop-round g l = IsSettling l.rounds l.round (g.S.Station.seen l.initial.port) (g.S.Station.seen l.port)
