use Rattle.std.proofs.KnownBytes.{Consumes-trans}
use Rattle.ata_io.proofs.reading.read_all.Goals as goal

pub returns-then-count-limit-clause-gone : goal.returns-then-count-limit-clause-gone
returns-then-count-limit-clause-gone g c = (_, Consumes-trans _ _ _ _ _ c.loop-bytes.invariant.consumes c.in-Ok.ensures.bytes.0)

pub returns-then-is_err-clause-gone : goal.returns-then-is_err-clause-gone
returns-then-is_err-clause-gone g c = (_, Consumes-trans _ _ _ _ _ c.loop-bytes.invariant.consumes c.in-Ok.ensures.bytes.0)
