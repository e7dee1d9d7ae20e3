use Rattle.std.proofs.Common.{[], subst}
use Rattle.std.proofs.lemmas.Result.{IfOk-weaker}
use Rattle.host_core.proofs.SettledPorts.{host_unsettled}
use Rattle.host_core.specs.Hosting.{IsHostOf, IsPlayed}
use Rattle.host_core.proofs.hosted.boot.Goals as goal

pub returns : goal.returns
returns c =
    IfOk-weaker c.started.result (λ host. IsPlayed c.items.result.now [] host) (λ host. IsHostOf 0 c.args.script.now.head [] host)
    (λ host played. subst (λ heads. IsHostOf 0 heads [] host) c.items.ensures (host_unsettled c.items.result.now [] host played))
    c.started.ensures
