use Rattle.std.proofs.Common.{◌≡◌, ◌*◌, ◌%◌, length, take, sum}
use Rattle.ata_lanes.proofs.sum.sum512.Given as goal

abbrev pub invariant-loop-chunk : goal.invariant-loop-chunk
invariant-loop-chunk l = (length l.lanes ≡ 64) × (sum l.lanes % 256 ≡ sum (take (64 * l.chunk) l.page) % 256)
