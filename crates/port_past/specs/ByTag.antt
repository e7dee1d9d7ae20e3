use Rattle.std.specs.Prelude.{Bool, List, ◌∷◌, Option, None, replicate, if◌then◌else◌}
use Rattle.ata_base.specs.Limits.{tag_count}
use Rattle.host_tags.specs.declared.in_flight.InFlight.{InFlight}

-- What is kept of the issues in flight, by tag beside the slots.

-- nothing is kept
abbrev pub under_no_tag : {A : Type 0} → List (Option A)
under_no_tag = replicate tag_count None

-- a list by tag with one value where the slots pass a test
abbrev pub set_where : {A : Type 0} → (Option InFlight → Bool) → A → List (Option InFlight) → List A → List A
set_where test value (slot ∷ flights) (x ∷ rest) = (if test slot then value else x) ∷ set_where test value flights rest
set_where test value _ rest = rest
