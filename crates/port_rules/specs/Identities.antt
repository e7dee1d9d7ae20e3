use Rattle.std.specs.Prelude.{ℕ, ◌&&◌, Bool, false, not, List, [], ◌∷◌, ◌++◌, Option, slice_index_or, if◌then◌else◌, ◌-◌, ◌==◌, ◌||◌, slice_index, bytes_eq}
use Rattle.std.specs.Option.{option_map_or}
use Rattle.ata_trace.specs.Event.{Event}
use Rattle.ata_trace.specs.declared.act.Act.{Act}
use Rattle.ata_trace.specs.declared.act.Act.TheVariants.{Detached, Disabled, IdentLate, Identified, Same, Attached, Mode}
use Rattle.drive_model.specs.View.{DriveView}
use Rattle.port_past.specs.Attachment.{attached}
use Rattle.ata_base.specs.Limits.{fastest_udma}
use Rattle.ata_base.specs.declared.identity.Identity.{Identity}
use Rattle.port_past.specs.Identities.{identity_at}
use Rattle.port_past.specs.declared.identity_told.IdentityTold.{IdentityTold}
use Rattle.port_past.specs.Modes.{udmas, ncq_on}
use Rattle.port_past.specs.Doubt.{dubious}
use Rattle.port_past.specs.Lowerings.{lowerings, ncq_ended}
use Rattle.port_rules.specs.Resets.{if_attached}

-- whether an identity is of the drive that told another: model, serial and sectors are the same
abbrev pub is_same_drive : Identity → IdentityTold → Bool
is_same_drive found known =
    bytes_eq found.model known.model && bytes_eq found.serial known.serial && (found.sectors == known.sectors)

-- whether a device that is found is the one that is attached
abbrev pub is_attached_drive : List Event → ℕ → Identity → Bool
is_attached_drive past place found =
    slice_index_or (attached past) place false && option_map_or (is_same_drive found) (identity_at past place) false

-- the acts by which a device that is found comes to be attached
abbrev pub attach_acts : List Event → ℕ → Bool → List Act
attach_acts past place same =
    if same then Same place ∷ []
    else if slice_index_or (attached past) place false then Detached place ∷ Attached place ∷ []
    else Attached place ∷ []

-- the UDMA mode of a device: the fastest less the lowerings, of which a new device has none
abbrev pub udma_of : List Event → ℕ → Bool → ℕ
udma_of past place same = if same then fastest_udma - slice_index (lowerings past) place else fastest_udma

-- whether NCQ is on: the device has a queue, and no action ended it, of which a new device has none
abbrev pub ncq_of : List Event → ℕ → Bool → Identity → Bool
ncq_of past place same found = not (found.depth == 0) && not (same && slice_index_or (ncq_ended past) place false)

-- whether two truth values differ
abbrev pub differ : Bool → Bool → Bool
differ a b = if a then not b else b

-- whether a mode differs from the last `mode X`
abbrev pub is_other_mode : List Event → ℕ → ℕ → Bool → Bool
is_other_mode past place udma on =
    not (udma == slice_index (udmas past) place) || differ on (slice_index_or (ncq_on past) place false)

-- the mode of a device, in doubt where it is a new one, was dubious before, or has another mode
abbrev pub mode_act : List Event → ℕ → Bool → ℕ → Bool → Act
mode_act past place same udma on =
    Mode place udma on (not same || slice_index_or (dubious past) place false || is_other_mode past place udma on)

-- the acts of an identity that was read, of a device that is the attached one or another
abbrev pub identity_read_acts : List Event → ℕ → Identity → Bool → List Act
identity_read_acts past place i same =
    Identified place i.model i.serial i.sectors i.depth
    ∷ attach_acts past place same
    ++ mode_act past place same (udma_of past place same) (ncq_of past place same i) ∷ []

-- the acts of an identity that was read
abbrev pub identity_acts : List Event → ℕ → Identity → List Act
identity_acts past place found = identity_read_acts past place found (is_attached_drive past place found)

-- an identity is late: tried again, or given up
abbrev pub ident_late_acts : List Event → ℕ → Bool → List Act
ident_late_acts past place again = IdentLate place ∷ (if again then [] else if_attached past place (Disabled place))

-- the identity of the drive that answers, which is linked
abbrev pub ident_read_acts : List Event → ℕ → Option DriveView → List Act
ident_read_acts past place v = option_map_or (λ d. identity_acts past place d.identity) v []
