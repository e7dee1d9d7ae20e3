use Rattle.std.proofs.Common.{◌-◌, ◌≡◌, ◌≤◌, ◌++◌, decimal, drop, length}
use Rattle.ata_trace.proofs.number.leading_number.Given as goal

-- the digits of the number and the rest are the text
abbrev pub invariant-loop-at : goal.invariant-loop-at
invariant-loop-at l = (decimal l.n ++ drop l.at l.text ≡ l.text) × (l.at ≤ length l.text)

abbrev pub decreases-loop-at : goal.decreases-loop-at
decreases-loop-at l = length l.text - l.at
