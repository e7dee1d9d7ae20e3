use Rattle.std.specs.Prelude.{ℕ, ◌==◌, Bool, false, not, ◌&&◌, nat_lt, is_some, is_none, length, List, [], ◌∷◌, Option, Some, None, if◌then◌else◌}
use Rattle.std.specs.List.{list_any}
use Rattle.std.specs.Option.{option_map_or}
use Rattle.ata_base.specs.declared.fault.Fault.{Fault}
use Rattle.ata_base.specs.declared.fault.Fault.TheVariants.{Serr}
use Rattle.ata_script.specs.declared.port_head.PortHead.{PortHead}
use Rattle.ata_trace.specs.Event.{Event}
use Rattle.ata_trace.specs.declared.act.Act.{Act}
use Rattle.ata_trace.specs.declared.act.Act.TheVariants.{Plugged, Unplugged, Injected, Nothing}
use Rattle.drive_model.specs.Inject.{can_inject}
use Rattle.drive_model.specs.View.{DriveView}
use Rattle.link_model.specs.LinkView.{LinkView}
use Rattle.port_past.specs.Drives.{drives, plugged_drive}
use Rattle.port_past.specs.Links.{links, plugged_at}
use Rattle.port_rules.specs.Told.{raised_acts}

-- whether a drive is plugged somewhere
abbrev pub is_plugged : ℕ → List LinkView → Bool
is_plugged drive cables = list_any (λ link. option_map_or (λ d. d == drive) link.plugged false) cables

-- whether a drive can be plugged at a place: the port has both, the place is empty, and the drive is plugged nowhere
abbrev pub can_plug : PortHead → List LinkView → ℕ → ℕ → Bool
can_plug head cables place drive =
    nat_lt place head.places && nat_lt drive (length head.drives)
    && is_none (plugged_at cables place) && not (is_plugged drive cables)

-- the acts of a plug step
abbrev pub plug_acts : PortHead → List Event → ℕ → ℕ → List Act
plug_acts head past place drive =
    if can_plug head (links head past) place drive then Plugged place drive ∷ raised_acts past else Nothing ∷ []

-- the acts of an unplug step
abbrev pub unplug_acts : PortHead → List Event → ℕ → List Act
unplug_acts head past place =
    if is_some (plugged_at (links head past) place) then Unplugged place ∷ raised_acts past else Nothing ∷ []

-- a bit of SError can be put in at each place, another fault into a plugged drive that can take it
abbrev pub fault_acts : List Event → ℕ → Fault → Option DriveView → List Act
fault_acts past place (Serr bit) v = Injected place ∷ raised_acts past
fault_acts past place fault None = Nothing ∷ []
fault_acts past place fault (Some v) = if can_inject fault v then Injected place ∷ [] else Nothing ∷ []

-- the acts of an inject step
abbrev pub inject_acts : PortHead → List Event → ℕ → Fault → List Act
inject_acts head past place fault =
    if nat_lt place head.places then fault_acts past place fault (plugged_drive head past place) else Nothing ∷ []
