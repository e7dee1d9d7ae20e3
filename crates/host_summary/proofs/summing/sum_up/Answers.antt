use Rattle.std.proofs.Common.{◌≤◌, List, length, subst, sym}
use Rattle.ata_script.specs.declared.port_head.PortHead.{PortHead}
use Rattle.host_core.proofs.FewPorts.{few_ports}
use Rattle.host_summary.proofs.summing.sum_up.Goals as goal

pub sum_ports-requires-clause-few : goal.sum_ports-requires-clause-few
sum_ports-requires-clause-few g c κs within =
    subst (λ (heads : List PortHead). length heads ≤ 8) (sym c.items.ensures) (few_ports c.args.script.now)
