use Rattle.host_core.proofs.CalmLemmas.{settles_well}
use Rattle.host_core.proofs.settling.settle.Goals as goal

pub returns-clause-calm : goal.returns-clause-calm
returns-clause-calm g c calm few =
    settles_well (g.S.Station.seen c.args.port.now).head c.args.rounds (g.S.Station.seen c.args.port.now).entries (g.S.Station.seen c.settle_rounds.new.port).entries c.stays_legal.ensures
    c.in_ok-settle_rounds.ensures.entries calm few
