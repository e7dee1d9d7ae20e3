use Rattle.std.specs.Prelude.{ℕ, Bool, false, List, [], ◌∷◌, Option, Some, None, slice_get, slice_set}
use Rattle.std.specs.Option.{option_map_or}
use Rattle.ata_script.specs.declared.port_head.PortHead.{PortHead}
use Rattle.ata_trace.specs.Event.{Event}
use Rattle.ata_trace.specs.Event.Event.{Told}
use Rattle.ata_trace.specs.declared.act.Act.TheVariants.{IdentAsked, Unplugged}
use Rattle.drive_model.specs.Log.{answers_asking}
use Rattle.drive_model.specs.View.{DriveView}
use Rattle.link_model.specs.LinkView.{LinkView}
use Rattle.port_past.specs.Drives.{drives}
use Rattle.port_past.specs.Links.{links, linked_at}
use Rattle.port_past.specs.Places.{everywhere}

-- whether a drive is linked that answers when it is asked now
abbrev pub answers_ident : Option ℕ → List DriveView → Bool
answers_ident None views = false
answers_ident (Some d) views = option_map_or answers_asking (slice_get views d) false

-- `ident-asked X` is answered where a drive is linked whose identfail count is 0, but not once it is unplugged
abbrev pub ident_answered_after : Event → List LinkView → List DriveView → List Bool → List Bool
ident_answered_after (Told (IdentAsked place attempt deadline)) cables views was =
    slice_set was place (answers_ident (linked_at cables place) views)
ident_answered_after (Told (Unplugged place)) cables views was = slice_set was place false
ident_answered_after _ cables views was = was

-- whether the drive would answer the last ident-asked X, by place; a freeze may still cut it off
abbrev pub is_ident_answered : PortHead → List Event → List Bool
is_ident_answered head [] = everywhere false
is_ident_answered head (event ∷ past) = ident_answered_after event (links head past) (drives head past) (is_ident_answered head past)
