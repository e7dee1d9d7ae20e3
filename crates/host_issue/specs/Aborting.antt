-- Issues in flight that are given to recovery without kinds of error.
use Rattle.std.specs.Prelude.{ℕ, Bool, true, false, not, ◌==◌, ◌&&◌, List, Option, map, option_map, if◌then◌else◌}
use Rattle.std.specs.Option.{option_map_or}
use Rattle.host_tags.specs.Marks.{condemned}
use Rattle.host_tags.specs.declared.in_flight.InFlight.{InFlight}
use Rattle.host_issue.specs.Issuing.{no_kinds}

-- whether an issue is at a place, or with None at any
abbrev pub is_at : Option ℕ → InFlight → Bool
is_at place f = option_map_or (λ x. f.place == x) place true

-- whether an issue that recovery doesn't own is in a slot: one of a place, or with None of any
abbrev pub is_abortable : Option ℕ → Option InFlight → Bool
is_abortable place slot = option_map_or (λ f. not f.owned && is_at place f) slot false

-- a slot once its issue, where it is such a one, is given to recovery without kinds of error
abbrev pub aborted_slot : Option ℕ → Option InFlight → Option InFlight
aborted_slot place slot = if is_abortable place slot then option_map (condemned no_kinds) slot else slot

-- the slots once each such issue is given to recovery
abbrev pub aborted : Option ℕ → List (Option InFlight) → List (Option InFlight)
aborted place slots = map (aborted_slot place) slots
