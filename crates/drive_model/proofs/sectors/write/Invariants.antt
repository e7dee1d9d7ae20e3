use Rattle.std.proofs.Common.{◌≡◌, length}
use Rattle.drive_model.specs.Sectors.{written}
use Rattle.drive_model.proofs.sectors.write.Given as goal

abbrev pub invariant-loop-step : goal.invariant-loop-step
invariant-loop-step l =
    (l.stamps ≡ written l.lba l.step l.stamp l.initial.stamps)
    × (length l.stamps ≡ length l.initial.stamps)
