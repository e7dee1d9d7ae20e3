use Rattle.std.proofs.Common.{take}
use Rattle.std.specs.List.{flat_map}
use Rattle.ata_trace.specs.Entries.{past_of}
use Rattle.port_past.specs.Live.{live}
use Rattle.port_core.specs.Text.{live_text}
use Rattle.port_core.proofs.Pieces.{Wrote}
use Rattle.port_core.proofs.text.put_lives.Given as goal

abbrev pub invariant-loop-command : goal.invariant-loop-command
invariant-loop-command g l = Wrote g.K.Sink.written g.K.Sink.fault_count l.fn.sink l.sink (flat_map (live_text (live (past_of l.port.entries))) (take l.command-index l.accepted))
