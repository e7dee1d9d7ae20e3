use Rattle.std.proofs.Common.{◌-◌, ◌≡◌, ◌≤◌, drop, length}
use Rattle.std.specs.Str.{bytes_eq}
use Rattle.ata_trace.specs.Parts.{parts_of, first, later}
use Rattle.ata_trace.proofs.parts.common.Given as goal

-- the bytes before are the same, and none of them is a cut
abbrev pub invariant-loop-at : goal.invariant-loop-at
invariant-loop-at l =
    (l.at ≤ length l.text) × (l.at ≤ length l.name)
    × (bytes_eq (first (parts_of l.cut l.text)) l.name ≡ bytes_eq (first (parts_of l.cut (drop l.at l.text))) (drop l.at l.name))
    × (later (parts_of l.cut l.text) ≡ later (parts_of l.cut (drop l.at l.text)))

abbrev pub decreases-loop-at : goal.decreases-loop-at
decreases-loop-at l = length l.name - l.at
