-- The masks that are kept beside the slots. Words of the code.
use Rattle.std.specs.Prelude.{ℕ, ◌≡◌, List, Option, length}
use Rattle.ata_base.specs.Limits.{tag_count}
use Rattle.host_tags.specs.Slots.{busy_mask, owned_mask, queued_mask}
use Rattle.host_tags.specs.declared.in_flight.InFlight.{InFlight}

-- the slots are those of 32 tags, and the masks are theirs
pub record AreMasks (slots : List (Option InFlight)) (busy owned queued : ℕ) : Type 0 where
  pub each_tag : length slots ≡ tag_count
  pub of_busy : busy_mask slots ≡ busy
  pub of_owned : owned_mask slots ≡ owned
  pub of_queued : queued_mask slots ≡ queued
