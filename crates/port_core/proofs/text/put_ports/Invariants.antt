use Rattle.std.proofs.Common.{take}
use Rattle.std.specs.List.{flat_map}
use Rattle.port_core.specs.Text.{text_of}
use Rattle.port_core.proofs.Pieces.{Wrote}
use Rattle.port_core.proofs.text.put_ports.Given as goal

abbrev pub invariant-loop-port : goal.invariant-loop-port
invariant-loop-port g l = Wrote g.K.Sink.written g.K.Sink.fault_count l.fn.sink l.sink (flat_map text_of (take l.port-index l.ports))
