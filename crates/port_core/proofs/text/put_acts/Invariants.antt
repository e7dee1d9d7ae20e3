use Rattle.std.proofs.Common.{take}
use Rattle.std.specs.List.{flat_map}
use Rattle.ata_trace.specs.Text.{act_line}
use Rattle.port_core.proofs.Pieces.{Wrote}
use Rattle.port_core.proofs.text.put_acts.Given as goal

abbrev pub invariant-loop-i : goal.invariant-loop-i
invariant-loop-i g l = Wrote g.K.Sink.written g.K.Sink.fault_count l.fn.sink l.sink (flat_map act_line (take l.i l.acts))
