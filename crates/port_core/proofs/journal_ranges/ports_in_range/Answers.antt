use Rattle.std.proofs.Common.{◌<◌, length, arith}
use Rattle.port_core.proofs.ToldLemmas.{ports_more}
use Rattle.port_core.proofs.journal_ranges.ports_in_range.Goals as goal

pub loop-port-preserved : goal.loop-port-preserved
loop-port-preserved c =
    let within : c.loop-port.port-index < length c.args.ports.now = omega arith in
    ports_more c.args.ports.now c.loop-port.port-index c.port-item.result within c.port-item.is c.loop-port.invariant c.port_in_range.ensures
