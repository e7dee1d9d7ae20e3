use Rattle.std.proofs.Common.{arith, ◌<◌, ◌+◌, ◌++◌, ◌∙◌, ap, length}
use Rattle.std.specs.Prelude.{map}
use Rattle.ata_script.specs.Heads.{port_said}
use Rattle.ata_script.specs.ScriptText.{items_text, port_items}
use Rattle.ata_script.proofs.PortsPut.{port_put}
use Rattle.ata_script.proofs.writer.put_ports.Goals as goal

pub loop-port-preserved : goal.loop-port-preserved
loop-port-preserved c =
    let within : c.loop-port.port-index < length c.args.ports.now = omega arith in (
      port_put c.loop-port.text.items c.extend_from_slice.new.self.items c.put_drives.new.text.items c.bytes.result.now
          (c.args.text.now.items ++ items_text (port_items 0 (map port_said c.args.ports.now))) c.loop-port.number c.args.ports.now c.loop-port.port-index c.port-item.result c.items.result.now
          within c.port-item.is (c.bytes.ensures.value ∙ c.set_port_line.ensures) c.in_ok-extend_from_slice.ensures.items c.items.ensures c.in_ok-put_drives.ensures c.loop-port.invariant.0,
      ap (λ n. n + 1) c.loop-port.invariant.1,
    )
