use Rattle.std.proofs.Common.{List, ℕ, map, subst, ap, ◌∙◌}
use Rattle.ata_io.specs.Writing.{Writes}
use Rattle.ata_trace.specs.Texts.{ArePorts, PortText}
use Rattle.std.specs.List.{flat_map}
use Rattle.port_core.specs.Text.{text_of}
use Rattle.port_core.specs.Told.{told_of}
use Rattle.port_core.proofs.Hosts.{texts_by_number}
use Rattle.port_core.proofs.ToldLemmas.{told_by_number}
use Rattle.port_core.proofs.text.put_host.Goals as goal

pub returns-clause-written : goal.returns-clause-written
returns-clause-written g c =
    subst (λ (text : List ℕ). Writes g.K.Sink.written g.K.Sink.fault_count c.args.sink.now c.put_ports.new.sink c.put_ports.result text)
    (ap (flat_map text_of) c.ports-2.ensures.ports ∙ texts_by_number c.args.host.now c.ports-2.ensures.numbers)
    c.put_ports.ensures

pub returns-clause-ranges : goal.returns-clause-ranges
returns-clause-ranges g c =
    subst (λ (told : List PortText). ArePorts told)
    (ap (map told_of) c.ports.ensures.ports ∙ told_by_number 0 c.args.host.now c.ports.ensures.numbers) c.ports_in_range.ensures
