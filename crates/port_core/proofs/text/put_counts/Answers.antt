use Rattle.std.proofs.Common.{List, ◌++◌, length, subst}
use Rattle.std.specs.List.{flat_map}
use Rattle.ata_base.specs.declared.cmd.Cmd.{Cmd}
use Rattle.ata_io.specs.Writing.{Writes}
use Rattle.ata_trace.specs.Entries.{past_of}
use Rattle.port_past.specs.Commands.{commands}
use Rattle.port_past.specs.Live.{live}
use Rattle.port_core.specs.Text.{live_text, end_line}
use Rattle.port_core.proofs.Pieces.{wrote, writes_then, writes_cut_of}
use Rattle.port_core.proofs.text.put_counts.Goals as goal

pub returns-in-Ok : goal.returns-in-Ok
returns-in-Ok g c =
    let past = past_of c.args.port.now.entries in
    subst (λ (accepted : List Cmd). Writes g.K.Sink.written g.K.Sink.fault_count c.args.sink.now c.put_last.new.sink c.put_last.result (flat_map (live_text (live past)) accepted ++ end_line c.args.port.now.number (length (commands past)) (length (live past))))
    c.accepted.ensures
    (writes_then _ _ _ _ _ _ _ _ (wrote _ _ _ _ _ _ c.in-Ok.ensures) c.put_last.ensures)

pub returns-in-Err : goal.returns-in-Err
returns-in-Err g c =
    writes_cut_of (flat_map (live_text (live (past_of c.args.port.now.entries)))) _ _ _ _ _ _ _ _ _ c.accepted.ensures c.in-Err.ensures
