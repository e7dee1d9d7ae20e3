use Rattle.std.proofs.Common.{◌∙◌, ◌∷◌, [], ap}
use Rattle.host_summary.proofs.Counts.{one_counted}
use Rattle.host_summary.specs.Summary.{summary_of}
use Rattle.port_core.specs.PortView.{PortView}
use Rattle.host_summary.proofs.counted.Counted.summary.Goals as goal

pub returns-clause-value : goal.returns-clause-value
returns-clause-value c =
    one_counted c.self.inside.machine.entries c.from.result c.self.inside.counts c.self.invariant (c.from.ensures ∙ c.live.ensures.value)
    ∙ ap (λ (port : PortView). summary_of [] (port.entries ∷ [])) c.self.view_is
