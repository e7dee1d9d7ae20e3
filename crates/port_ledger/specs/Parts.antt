use Rattle.std.specs.Prelude.{ℕ, ◌≤◌, List, Option, None, Some, slice_index, slice_get, unwrap_or}
use Rattle.port_past.specs.declared.completion.Completion.{Completion}

-- the good end of the issue under a tag
abbrev pub completion_at : List (Option Completion) → ℕ → Option Completion
completion_at done tag = unwrap_or (slice_get done tag) None

-- none of these numbers is above this
pub record AreAtMost (most : ℕ) (list : List ℕ) : Type 0 where
  pub each : (place : ℕ) → slice_index list place ≤ most

-- what is told of a place, the later where there is a later one
abbrev pub later : {A : Type 0} → Option A → Option A → Option A
later None was = was
later (Some it) was = Some it
