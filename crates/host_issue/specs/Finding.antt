-- Issues in flight found by their tags.
use Rattle.std.specs.Prelude.{◌≡◌, ℕ, ◌<◌, Bool, false, not, ◌&&◌, List, Option, Some, None, IsTrue, position}
use Rattle.ata_base.specs.Limits.{tag_count}
use Rattle.hba_model.specs.Tags.{tag_at, is_done}
use Rattle.hba_model.specs.TagView.{TagView}
use Rattle.host_tags.specs.Slots.{flight_at, is_unowned}
use Rattle.host_tags.specs.declared.in_flight.InFlight.{InFlight}
use Rattle.host_timer.specs.Due.{has_due}

-- the least tag that passes a test; none exactly where no tag does
abbrev pub IsLeastTag : (ℕ → Bool) → Option ℕ → Type 0
IsLeastTag test None = (tag : ℕ) → tag < tag_count → test tag ≡ false
IsLeastTag test (Some tag) = IsTrue (test tag) × ((lower : ℕ) → lower < tag → test lower ≡ false)

-- whether a tag is done and its issue in flight isn't owned
abbrev pub is_answerable : List (Option InFlight) → List TagView → ℕ → Bool
is_answerable slots tags tag = is_unowned (flight_at slots tag) && is_done (tag_at tags tag)

-- whether recovery waits for the issue in a slot: it is neither owned nor due
abbrev pub is_awaited : ℕ → Bool → Option InFlight → Bool
is_awaited now drained slot = is_unowned slot && not (has_due now drained slot)

-- the least tag whose issue recovery waits for
abbrev pub waiting_of : ℕ → Bool → List (Option InFlight) → Option ℕ
waiting_of now drained slots = position (is_awaited now drained) slots
