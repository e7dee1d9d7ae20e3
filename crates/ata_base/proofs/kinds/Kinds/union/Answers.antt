use Rattle.std.proofs.lemmas.Nat.{or_lt}
use Rattle.ata_base.proofs.kinds.Kinds.union.Goals as goal

-- src/kinds.rt:55:5
pub invariant_of-result : goal.invariant_of-result
invariant_of-result c = rw c.union.ensures (or_lt 11 _ _ c.self.invariant c.other.invariant)
