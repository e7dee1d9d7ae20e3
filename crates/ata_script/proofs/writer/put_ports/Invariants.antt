use Rattle.std.proofs.Common.{◌≡◌, ◌++◌, drop}
use Rattle.std.specs.Prelude.{map}
use Rattle.ata_script.specs.Heads.{port_said}
use Rattle.ata_script.specs.ScriptText.{items_text, port_items}
use Rattle.ata_script.proofs.writer.put_ports.Given as goal

abbrev pub invariant-loop-port : goal.invariant-loop-port
invariant-loop-port l =
    (l.text.items ++ items_text (port_items l.number (map port_said (drop l.port-index l.ports))) ≡ l.fn.text.items ++ items_text (port_items 0 (map port_said l.ports)))
    × (l.number ≡ l.port-index)
