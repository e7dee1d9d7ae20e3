use Rattle.std.proofs.Common.{◌≡◌, List, slice_get, ap, ◌∙◌}
use Rattle.std.specs.Option.{option_copied}
use Rattle.port_core.specs.PortView.{PortView}
use Rattle.port_core.proofs.Hosts.{numbered_found}
use Rattle.port_core.proofs.host.Host.port.Goals as goal

pub returns-clause-number : goal.returns-clause-number
returns-clause-number c =
    let found : option_copied c.port_at.result ≡ slice_get c.self.inside.ports.items c.args.number =
    c.port_at.ensures
    ∙ ap (λ (ports : List PortView). slice_get ports c.get.result) c.deref.ensures.value
    ∙ ap (slice_get c.self.inside.ports.items) c.get.ensures.value in
    numbered_found c.self.inside.ports.items c.args.number c.port_at.result c.self.invariant.numbered found
