use Rattle.std.proofs.Common.{◌≡◌, ℕ, ◌+◌, ◌<◌, false, get_or}
use Rattle.drive_model.proofs.sectors.Sectors.least_bad.Given as goal

abbrev pub invariant-loop-step : goal.invariant-loop-step
invariant-loop-step l = (k : ℕ) → k < l.step → get_or l.self.bad (l.lba + k) false ≡ false
