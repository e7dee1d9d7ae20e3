use Rattle.std.proofs.Common.{List, ◌++◌, subst}
use Rattle.std.specs.List.{flat_map}
use Rattle.ata_io.specs.Writing.{Writes}
use Rattle.ata_trace.specs.Entries.{EntryView}
use Rattle.port_core.specs.Text.{entry_text, counts_text}
use Rattle.port_core.proofs.Pieces.{wrote, writes_then, writes_cut_of}
use Rattle.port_core.proofs.text.put_rest.Goals as goal

pub returns-in-Ok : goal.returns-in-Ok
returns-in-Ok g c =
    subst (λ (entries : List EntryView). Writes g.K.Sink.written g.K.Sink.fault_count c.args.sink.now c.put_counts.new.sink c.put_counts.result (flat_map entry_text entries ++ counts_text c.args.port.now.number c.args.port.now.entries))
    c.journal.ensures
    (writes_then _ _ _ _ _ _ _ _ (wrote _ _ _ _ _ _ c.in-Ok.ensures) c.put_counts.ensures)

pub returns-in-Err : goal.returns-in-Err
returns-in-Err g c = writes_cut_of (flat_map entry_text) _ _ _ _ _ _ _ _ _ c.journal.ensures c.in-Err.ensures
