use Rattle.std.specs.Prelude.{ℕ, ◌==◌, Bool, true, false, List, Option, None, Some, unwrap_or, slice_get, slice_set, if◌then◌else◌}
use Rattle.std.specs.Option.{option_map_or}
use Rattle.ata_base.specs.Masks.{mask_of}
use Rattle.hba_model.specs.TagView.{Stage, Idle, Active, Done, TagView, never_issued}

-- The tags of a controller, each of them in order.

-- what stands under a tag
abbrev pub tag_at : List TagView → ℕ → TagView
tag_at tags t = unwrap_or (slice_get tags t) never_issued

-- whether a stage is that of an active tag
abbrev pub is_active_stage : Stage → Bool
is_active_stage Idle = false
is_active_stage Active = true
is_active_stage Done = false

-- whether a stage is that of a tag whose done bit stands
abbrev pub is_done_stage : Stage → Bool
is_done_stage Idle = false
is_done_stage Active = false
is_done_stage Done = true

-- whether a tag is active
abbrev pub is_active : TagView → Bool
is_active tag = is_active_stage tag.stage

-- whether a tag's done bit stands
abbrev pub is_done : TagView → Bool
is_done tag = is_done_stage tag.stage

-- the active tags as a mask, whose bit t stands for tag t
abbrev pub active_mask : List TagView → ℕ
active_mask tags = mask_of is_active tags

-- the tags whose done bits stand, as a mask
abbrev pub done_mask : List TagView → ℕ
done_mask tags = mask_of is_done tags

-- a tag is issued at a place: it is active there, and its done bit is cleared
abbrev pub issued : ℕ → ℕ → List TagView → List TagView
issued t place tags = slice_set tags t (record { place = Some place; stage = Active })

-- a tag is finished: its done bit stands, it isn't active any more, and its place stays
abbrev pub finished : ℕ → List TagView → List TagView
finished t tags = slice_set tags t (record (tag_at tags t) { stage = Done })

-- whether this is where a tag was issued last
abbrev pub is_issued_at : ℕ → Option ℕ → Bool
is_issued_at place last = option_map_or (λ p. p == place) last false

-- a tag is neither active nor done any more
abbrev pub cleared : TagView → TagView
cleared tag = record tag { stage = Idle }

-- a tag once the link of a place is cleared, or with None the links of all: it is cleared exactly where it was
-- issued there
abbrev pub cleared_by : Option ℕ → TagView → TagView
cleared_by (Some place) tag = if is_issued_at place tag.place then cleared tag else tag
cleared_by None tag = cleared tag
