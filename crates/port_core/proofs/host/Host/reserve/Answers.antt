use Rattle.port_core.proofs.Hosts.{of_host_set, same_number}
use Rattle.port_core.proofs.host.Host.reserve.Goals as goal

pub invariant_of-self : goal.invariant_of-self
invariant_of-self c =
    of_host_set c.get-place.result c.self.inside.ports.items c.index_mut.result.now c.reserve.new.self c.index_mut.ensures.value
    (same_number c.reserve.result c.index_mut.result.now c.reserve.new.self c.reserve.ensures.ok c.reserve.ensures.err) c.self.invariant
