use Rattle.std.specs.Prelude.{ℕ, Bool, false, not, min, List, [], ◌∷◌, ◌++◌, Option, Some, slice_index_or, if◌then◌else◌}
use Rattle.std.specs.Option.{option_map_or}
use Rattle.ata_base.specs.declared.ms.Ms.{Ms}
use Rattle.ata_script.specs.declared.port_head.PortHead.{PortHead}
use Rattle.ata_trace.specs.Event.{Event}
use Rattle.ata_trace.specs.declared.act.Act.{Act}
use Rattle.ata_trace.specs.declared.act.Act.TheVariants.{Thawed, ResetBegun, ResetLate, ResetFailed, ResetEndedGen, ResetEndedNone, Detached, Disabled}
use Rattle.drive_model.specs.View.{DriveView}
use Rattle.port_past.specs.Attachment.{attached}
use Rattle.port_past.specs.Links.{links, link_at}
use Rattle.port_rules.specs.Told.{told_if, frozen_acts}

-- a direct port is thawed with the end of its reset
abbrev pub thaw_acts : PortHead → List Act
thaw_acts head = told_if (not head.pmp) Thawed

-- a reset of a place begins, which freezes a direct port
abbrev pub reset_begun_acts : PortHead → List Event → ℕ → ℕ → Ms → List Act
reset_begun_acts head past place attempt deadline =
    (if head.pmp then [] else frozen_acts past) ++ ResetBegun (Some place) attempt deadline ∷ []

-- an act where a device is attached
abbrev pub if_attached : List Event → ℕ → Act → List Act
if_attached past place act = told_if (slice_index_or (attached past) place false) act

-- the generation of a link: the lesser of its limit and its drive's
abbrev pub generation_of : PortHead → List Event → ℕ → Option DriveView → ℕ
generation_of head past place v =
    min (option_map_or (λ d. d.identity.gen_no) v 0) (link_at (links head past) place).limit

-- a reset ends, since no drive is linked: the device is gone
abbrev pub reset_gone_acts : PortHead → List Event → ℕ → List Act
reset_gone_acts head past place = ResetEndedNone place ∷ thaw_acts head ++ if_attached past place (Detached place)

-- a reset ends, since its drive is ready
abbrev pub reset_ready_acts : PortHead → List Event → ℕ → Option DriveView → List Act
reset_ready_acts head past place v = ResetEndedGen place (generation_of head past place v) ∷ thaw_acts head

-- a reset is late: tried again, or given up
abbrev pub reset_late_acts : List Event → ℕ → Bool → List Act
reset_late_acts past place again =
    ResetLate (Some place) ∷ (if again then [] else ResetFailed (Some place) ∷ if_attached past place (Disabled place))
