use Rattle.std.proofs.Common.{◌≡◌, false, length}
use Rattle.drive_model.specs.Sectors.{written}
use Rattle.drive_model.proofs.sectors.mend.Given as goal

abbrev pub invariant-loop-step : goal.invariant-loop-step
invariant-loop-step l =
    (l.bad ≡ written l.lba l.step false l.initial.bad)
    × (length l.bad ≡ length l.initial.bad)
