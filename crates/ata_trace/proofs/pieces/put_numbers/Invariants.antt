use Rattle.std.proofs.Common.{◌≡◌, ◌+◌, ◌*◌, ◌≤◌, drop, length, map}
use Rattle.std.specs.Prelude.{decimal}
use Rattle.ata_trace.specs.Text.{joined}
use Rattle.ata_trace.proofs.pieces.put_numbers.Given as goal

-- the numbers to come make of the line what all of them make of it
abbrev pub invariant-loop-number : goal.invariant-loop-number
invariant-loop-number l =
    (joined l.line (map decimal (drop l.number-index l.numbers)) ≡ joined l.fn.line (map decimal l.numbers))
    × (length l.line ≤ length l.fn.line + 21 * l.number-index)
