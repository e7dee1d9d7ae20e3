use Rattle.port_core.proofs.Hosts.{of_host_set}
use Rattle.port_core.proofs.host.Host.step.Goals as goal

pub invariant_of-self : goal.invariant_of-self
invariant_of-self c =
    of_host_set c.get-place.result c.self.inside.ports.items c.index_mut.result.now c.step.new.self c.index_mut.ensures.value
    c.step.ensures.number c.self.invariant
