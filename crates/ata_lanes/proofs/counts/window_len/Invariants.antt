use Rattle.std.proofs.Common.{◌≡◌, ◌≤◌, ◌+◌, ◌-◌, length, drop, zip}
use Rattle.std.specs.List.{prefix_len}
use Rattle.ata_lanes.specs.Counts.{is_within}
use Rattle.ata_lanes.proofs.counts.window_len.Given as goal

abbrev pub invariant-loop-seen : goal.invariant-loop-seen
invariant-loop-seen l =
    (l.seen ≤ length l.cats)
    × (prefix_len (is_within l.since) (zip l.cats l.times)
    ≡ l.seen + prefix_len (is_within l.since) (drop l.seen (zip l.cats l.times)))

abbrev pub decreases-loop-seen : goal.decreases-loop-seen
decreases-loop-seen l = length l.cats - l.seen
