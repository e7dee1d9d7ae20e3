-- Which issues are due.
use Rattle.std.specs.Prelude.{ℕ, ◌+◌, Bool, false, not, ◌&&◌, ◌||◌, nat_le, List, Option}
use Rattle.std.specs.Option.{option_map_or}
use Rattle.ata_base.specs.Masks.{mask_of}
use Rattle.host_tags.specs.declared.in_flight.InFlight.{InFlight}
use Rattle.host_tags.specs.Slots.{flight_at}

-- whether a slot's issue is due at a time: recovery doesn't own it, and its deadline is at most the time or the
-- port has given up waiting
abbrev pub has_due : ℕ → Bool → Option InFlight → Bool
has_due clock drained slot = option_map_or (λ f. not f.owned && (nat_le f.deadline.n clock || drained)) slot false

-- whether an issue that is due is in flight under a tag
abbrev pub is_due : ℕ → Bool → List (Option InFlight) → ℕ → Bool
is_due clock drained slots tag = has_due clock drained (flight_at slots tag)

-- the tags whose issues are due as a mask, whose bit t stands for tag t
abbrev pub due_mask : ℕ → Bool → List (Option InFlight) → ℕ
due_mask clock drained slots = mask_of (has_due clock drained) slots

-- for so many ms a port has to be quiet before it gives up waiting
abbrev pub drain_wait : ℕ
drain_wait = 3000

-- the time from which a port that has been quiet since then gives up waiting
abbrev pub drain_time : ℕ → ℕ
drain_time quiet_since = quiet_since + drain_wait
