use Rattle.std.specs.Prelude.{◌-◌, length}
use Rattle.ata_io.proofs.Loops.{ReadSome}
use Rattle.ata_io.proofs.reading.read_all.Given as goal

abbrev pub invariant-loop-bytes : goal.invariant-loop-bytes
invariant-loop-bytes g l = ReadSome (g.S.Source.left l.fn.source) (g.S.Source.left l.source) (g.S.Source.fault_count l.fn.source) (g.S.Source.fault_count l.source) l.bytes.items l.limit

abbrev pub decreases-loop-bytes : goal.decreases-loop-bytes
decreases-loop-bytes g l = l.limit - length l.bytes.items
