use Rattle.std.proofs.Common.{◌≡◌, ◌-◌, ◌<◌, ◌^◌, Bool, drop, length}
use Rattle.ata_base.specs.Masks.{mask_of, Decides}
use Rattle.ata_base.proofs.mask.mask_of.Given as goal

abbrev pub invariant-loop-below : goal.invariant-loop-below
invariant-loop-below g l = record {
  room : l.mask < 2 ^ l.below;
  value : (passes : _ → Bool) → Decides g.F.Fn l.test passes → l.mask ≡ mask_of passes (drop (length l.list - l.below) l.list);
}
