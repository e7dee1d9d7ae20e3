use Rattle.host_core.proofs.AloneLemmas.{IsPlayedAlone}
use Rattle.host_core.proofs.alone.play.Given as goal

abbrev pub invariant-loop-taken : goal.invariant-loop-taken
invariant-loop-taken g l =
    IsPlayedAlone (g.S.Station.seen l.fn.port).number (g.S.Station.seen l.fn.port).head l.steps l.taken-index (g.S.Station.seen l.port) l.turns
