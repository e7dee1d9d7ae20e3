use Rattle.std.proofs.Common.{map, take}
use Rattle.ata_trace.specs.Texts.{ArePorts}
use Rattle.port_core.specs.Told.{told_of}
use Rattle.port_core.proofs.journal_ranges.ports_in_range.Given as goal

abbrev pub invariant-loop-port : goal.invariant-loop-port
invariant-loop-port l = ArePorts (map told_of (take l.port-index l.ports))
