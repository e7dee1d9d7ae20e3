use Rattle.std.proofs.Common.{◌<◌, length, arith}
use Rattle.port_core.specs.Text.{text_of}
use Rattle.port_core.proofs.Pieces.{list_cut, list_more}
use Rattle.port_core.proofs.text.put_ports.Goals as goal

pub returns-in-Err : goal.returns-in-Err
returns-in-Err g c =
    let within : c.loop-port.port-index < length c.args.ports.now = omega arith in
    list_cut text_of _ _ _ _ _ _ _ c.args.ports.now c.loop-port.port-index c.port-item.result within c.port-item.is c.loop-port.invariant c.in-Err.ensures

pub loop-port-preserved : goal.loop-port-preserved
loop-port-preserved g c =
    let within : c.loop-port.port-index < length c.args.ports.now = omega arith in
    list_more text_of _ _ _ _ _ _ c.args.ports.now c.loop-port.port-index c.port-item.result within c.port-item.is c.loop-port.invariant c.in-Ok.ensures
