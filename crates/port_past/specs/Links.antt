use Rattle.std.specs.Prelude.{ℕ, List, [], ◌∷◌, map, slice_index_or, Option, Some, None}
use Rattle.ata_base.specs.SerrorBits.{serror_bit}
use Rattle.ata_base.specs.declared.fault.Fault.TheVariants.{Serr}
use Rattle.ata_script.specs.declared.drive_head.DriveHead.{DriveHead}
use Rattle.ata_script.specs.declared.port_head.PortHead.{PortHead}
use Rattle.ata_trace.specs.Event.{Event}
use Rattle.ata_trace.specs.Event.Event.{Told}
use Rattle.ata_trace.specs.declared.step.Step.{Step}
use Rattle.ata_trace.specs.declared.step.Step.TheVariants.{Work, Inject}
use Rattle.ata_trace.specs.declared.act.Act.TheVariants.{ResetBegun, Hot, Recorded, Autopsied, Plugged, Unplugged, Injected}
use Rattle.ata_base.specs.declared.speed_action.SpeedAction.TheVariants.{Speed}
use Rattle.link_model.specs.LinkView.{LinkView, empty_link, linked_drive, with_serror, with_plugged, after_reset}
use Rattle.port_past.specs.Heads.{drive_at_boot}
use Rattle.port_past.specs.Places.{all_places, changed_at}
use Rattle.port_past.specs.Steps.{last_step}

-- the link of a place when its port boots: the drive that stands there is linked
abbrev pub link_at_boot : List DriveHead → ℕ → LinkView
link_at_boot heads place = after_reset (record empty_link { plugged = drive_at_boot heads place })

-- a fault of SError sets its bit
abbrev pub faulted : Step → LinkView → LinkView
faulted (Inject place (Serr bit)) link = with_serror (serror_bit bit) link
faulted _ link = link

-- a link with another speed limit
abbrev pub limited : ℕ → LinkView → LinkView
limited limit link = record link { limit = limit }

-- a link once its SError was read
abbrev pub serror_read : LinkView → LinkView
serror_read link = record link { serror = 0 }

-- `plugged X D` and `unplugged X` end the link and set PhyRdy change in SError, `reset-begun X` makes the link; faults
-- set other bits, and the autopsy clears all; `hot X G` and the action `speed G` limit the speed
abbrev pub links_after : Event → Step → List LinkView → List LinkView
links_after (Told (Plugged place drive)) step was = changed_at place (with_plugged (Some drive)) was
links_after (Told (Unplugged place)) step was = changed_at place (with_plugged None) was
links_after (Told (ResetBegun (Some place) attempt deadline)) step was = changed_at place after_reset was
links_after (Told (Injected place)) step was = changed_at place (faulted step) was
links_after (Told (Hot place generation)) step was = changed_at place (limited generation) was
links_after (Told (Recorded place io in_doubt kinds ncq_off speed_down pio keep (Speed generation))) step was =
    changed_at place (limited generation) was
links_after (Told Autopsied) step was = map serror_read was
links_after _ step was = was

-- the links of a port, by place
abbrev pub links : PortHead → List Event → List LinkView
links head [] = map (link_at_boot head.drives) all_places
links head (event ∷ past) = links_after event (last_step past) (links head past)

-- the link of a place; past the port's places an empty one
abbrev pub link_at : List LinkView → ℕ → LinkView
link_at cables place = slice_index_or cables place empty_link

-- the number of the drive that is plugged at a place
abbrev pub plugged_at : List LinkView → ℕ → Option ℕ
plugged_at cables place = (link_at cables place).plugged

-- the number of the drive that is linked at a place
abbrev pub linked_at : List LinkView → ℕ → Option ℕ
linked_at cables place = linked_drive (link_at cables place)

-- the number of the drive that a work step lets work
abbrev pub worker : Step → List LinkView → Option ℕ
worker (Work place pick) cables = linked_at cables place
worker _ cables = None
