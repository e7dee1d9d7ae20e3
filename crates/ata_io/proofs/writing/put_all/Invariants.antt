use Rattle.std.specs.Prelude.{◌-◌, length}
use Rattle.ata_io.proofs.Loops.{WroteSome}
use Rattle.ata_io.proofs.writing.put_all.Given as goal

abbrev pub invariant-loop-at : goal.invariant-loop-at
invariant-loop-at g l = WroteSome (g.K.Sink.written l.fn.sink) (g.K.Sink.written l.sink) (g.K.Sink.fault_count l.fn.sink) (g.K.Sink.fault_count l.sink) l.piece l.at

abbrev pub decreases-loop-at : goal.decreases-loop-at
decreases-loop-at g l = length l.piece - l.at
