-- How the tags and the causes of a controller stand in masks. Words of the code.
use Rattle.std.specs.Prelude.{ℕ, ◌≡◌, ◌<◌, ◌^◌, length, Bool, true, false, ◌&&◌, not, List, [], ◌∷◌, Option, map, nat_eq}
use Rattle.std.specs.Int.{bit_at}
use Rattle.std.specs.List.{range_with_len}
use Rattle.ata_base.specs.Limits.{most_places, tag_count}
use Rattle.ata_base.specs.declared.regs.Regs.{Regs}
use Rattle.hba_model.specs.TagView.{Stage, Idle, Active, Done, TagView}

-- whether a bit of a mask is set
abbrev pub has_bit : ℕ → ℕ → Bool
has_bit mask k = nat_eq (bit_at mask k) 1

-- so many bits of a mask, from bit 0 on
unfoldable pub bits_of : ℕ → ℕ → List Bool
bits_of count mask = map (has_bit mask) (range_with_len 0 count)

-- the bits that stand in one list and not in the other
abbrev pub bits_less : List Bool → List Bool → List Bool
bits_less (bit ∷ bits) (other ∷ others) = (bit && not other) ∷ bits_less bits others
bits_less _ _ = []

-- the stage of a tag, by whether it is active and whether its done bit stands
abbrev pub stage_of : Bool → Bool → Stage
stage_of true done = Active
stage_of false true = Done
stage_of false false = Idle

-- the tags by their places, which of them are active, and which of them are done
abbrev pub tags_of : List (Option ℕ) → List Bool → List Bool → List TagView
tags_of (place ∷ places) (active ∷ actives) (done ∷ dones) =
    record { place = place; stage = stage_of active done } ∷ tags_of places actives dones
tags_of _ _ _ = []

-- no tag is both active and done
abbrev pub NoneIsBoth : List Bool → List Bool → Type 0
NoneIsBoth (active ∷ actives) (done ∷ dones) = ((active && done) ≡ false) × NoneIsBoth actives dones
NoneIsBoth _ _ = Unit {0}

-- the masks and lists are those of 32 tags and 15 places, and no tag is both active and done
pub record IsSound (active finished tferr : ℕ) (places : List (Option ℕ)) (failed : List (Option (ℕ × Regs))) : Type 0 where
  pub each_tag : length places ≡ tag_count
  pub each_place : length failed ≡ most_places
  pub few_active : active < 2 ^ tag_count
  pub few_finished : finished < 2 ^ tag_count
  pub few_failed : tferr < 2 ^ most_places
  pub apart : NoneIsBoth (bits_of tag_count active) (bits_of tag_count finished)
