-- How late the issues in flight may be due, and since when an asked port may be quiet.
use Rattle.std.specs.Prelude.{◌≡◌, ℕ, ◌+◌, ◌≤◌, Bool, true, nat_le, List, [], ◌∷◌}
use Rattle.ata_trace.specs.Entries.{EntryView}
use Rattle.ata_trace.specs.Event.{Event}
use Rattle.ata_trace.specs.declared.step.Step.{Step}
use Rattle.ata_trace.specs.declared.step.Step.TheVariants.{Submit}
use Rattle.port_past.specs.Clock.{clock}
use Rattle.port_past.specs.Drain.{quiet_since}
use Rattle.port_past.specs.Slots.{slots}
use Rattle.port_stands.specs.Gate.{AreAll}

-- whether the command that a step submits waits so long at most, in ms
abbrev pub is_short_step : ℕ → Step → Bool
is_short_step limit (Submit id place op allow wait) = nat_le wait limit
is_short_step limit _ = true

-- the steps of these entries submit only such commands
abbrev pub AreShort : ℕ → List EntryView → Type 0
AreShort limit [] = Unit {0}
AreShort limit (r ∷ rest) = (is_short_step limit r.step ≡ true) × AreShort limit rest

-- each issue in flight is due within that time, and the port is quiet since a time that has been
pub record IsTimely (limit : ℕ) (past : List Event) : Type 0 where
  pub due : AreAll (λ f. f.deadline.n ≤ clock past + limit) (slots past)
  pub quiet_since : quiet_since past ≤ clock past

-- how long a command of a script may wait at most, in ms
abbrev pub longest_wait : ℕ
longest_wait = 1000000
