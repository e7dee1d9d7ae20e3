use Rattle.host_core.proofs.RoundLemmas.{IsRounding, kicks_from, works_from}
use Rattle.host_core.proofs.settling.play_round.Given as goal

abbrev pub invariant-loop-kicked : goal.invariant-loop-kicked
invariant-loop-kicked g l = IsRounding (g.S.Station.seen l.initial.port) (g.S.Station.seen l.port) l.idle (kicks_from (g.S.Station.seen l.initial.port).head l.kicked)

abbrev pub invariant-loop-worked : goal.invariant-loop-worked
invariant-loop-worked g l = IsRounding (g.S.Station.seen l.fn.port) (g.S.Station.seen l.port) l.idle (works_from (g.S.Station.seen l.fn.port).head l.worked)
