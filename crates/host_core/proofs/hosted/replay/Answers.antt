use Rattle.std.proofs.Common.{◌∙◌, ap, subst}
use Rattle.host_core.proofs.CalmLemmas.{calm_ports}
use Rattle.host_core.proofs.SettledPorts.{host_settled}
use Rattle.host_core.specs.Hosting.{IsHostOf}
use Rattle.port_core.specs.Weave.{runs_from}
use Rattle.host_core.proofs.hosted.replay.Goals as goal

pub returns-clause-host : goal.returns-clause-host
returns-clause-host c =
    subst (λ heads. IsHostOf c.args.rounds heads c.args.script.now.steps c.settle_all.new.host) c.items.ensures
    (subst (λ steps. IsHostOf c.args.rounds c.items.result.now steps c.settle_all.new.host) c.items-2.ensures
    (host_settled c.args.rounds c.items.result.now c.items-2.result.now c.in_ok-host.host c.settle_all.new.host c.in_ok-host.ensures
    c.in_ok-settle_all.ensures.heads c.in_ok-settle_all.ensures.journals))

pub returns-clause-calm : goal.returns-clause-calm
returns-clause-calm c calm few =
    c.in_ok-settle_all.ensures.calm
    (calm_ports c.items.result.now c.args.script.now.steps c.in_ok-host.host calm c.in_ok-host.ensures.same
    (c.in_ok-host.ensures.journals ∙ ap (λ steps. runs_from 0 c.items.result.now steps) c.items-2.ensures))
    few
