use Rattle.std.proofs.Common.{arith}
use Rattle.std.proofs.lemmas.Nat.{and_le_l}
use Rattle.ata_base.proofs.kinds.Kinds.without.Goals as goal

-- src/kinds.rt:64:5
pub invariant_of-result : goal.invariant_of-result
invariant_of-result c = grind (arith, and_le_l, c.remove.ensures, c.self.invariant)
