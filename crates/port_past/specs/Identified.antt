use Rattle.std.specs.Prelude.{ℕ, List, [], ◌∷◌, Option, None, slice_index_or, slice_set, option_and_then, min}
use Rattle.std.specs.Option.{option_map_or}
use Rattle.ata_base.specs.declared.identity.Identity.{Identity}
use Rattle.ata_script.specs.declared.port_head.PortHead.{PortHead}
use Rattle.ata_trace.specs.Event.{Event}
use Rattle.ata_trace.specs.Event.Event.{Told}
use Rattle.ata_trace.specs.declared.act.Act.TheVariants.{Identified}
use Rattle.link_model.specs.LinkView.{LinkView}
use Rattle.port_past.specs.Heads.{identity_of}
use Rattle.port_past.specs.Links.{links, linked_at, link_at}
use Rattle.port_past.specs.Places.{nowhere}

-- `identified X` is told by the drive that is linked at X
abbrev pub identified_by_after : Event → List LinkView → List (Option ℕ) → List (Option ℕ)
identified_by_after (Told (Identified place model serial sectors depth)) cables was = slice_set was place (linked_at cables place)
identified_by_after _ cables was = was

-- the number of the drive that gave the last `identified X`, by place
abbrev pub identified_by : PortHead → List Event → List (Option ℕ)
identified_by head [] = nowhere
identified_by head (event ∷ past) = identified_by_after event (links head past) (identified_by head past)

-- the identity of the drive that gave the last `identified X`, which knows more than the act tells
abbrev pub drive_identity_at : PortHead → List Event → ℕ → Option Identity
drive_identity_at head past place =
    option_and_then (identity_of head.drives) (slice_index_or (identified_by head past) place None)

-- the generation of the device at a place, which no act tells; 0 where none was identified
abbrev pub generation_at : PortHead → List Event → ℕ → ℕ
generation_at head past place = option_map_or (λ i. i.gen_no) (drive_identity_at head past place) 0

-- the present speed of a place: the lesser of its limit and the generation of its device
abbrev pub speed_at : PortHead → List Event → ℕ → ℕ
speed_at head past place = min (link_at (links head past) place).limit (generation_at head past place)
