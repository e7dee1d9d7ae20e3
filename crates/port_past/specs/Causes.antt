use Rattle.std.specs.Prelude.{Bool, true, false, not, ◌&&◌, ◌||◌, List, [], ◌∷◌, Option, Some, None, slice_set, if◌then◌else◌}
use Rattle.ata_base.specs.declared.fault.SerrorBit.{SerrorBit}
use Rattle.ata_base.specs.declared.fault.SerrorBit.TheVariants.{Phy, Exch}
use Rattle.ata_base.specs.declared.fault.Fault.TheVariants.{Serr}
use Rattle.ata_script.specs.declared.port_head.PortHead.{PortHead}
use Rattle.ata_trace.specs.Event.{Event}
use Rattle.ata_trace.specs.Event.Event.{Entered, Told}
use Rattle.ata_trace.specs.declared.act.Act.TheVariants.{Done, ResetBegun, Plugged, Unplugged, Injected}
use Rattle.ata_trace.specs.declared.step.Step.{Step}
use Rattle.ata_trace.specs.declared.step.Step.TheVariants.{Work, Irq, Inject}
use Rattle.drive_model.specs.Work.{registers}
use Rattle.eh_autopsy.specs.declared.failed_issue.FailedIssue.{FailedIssue}
use Rattle.drive_model.specs.Told.{is_good_end}
use Rattle.port_past.specs.Line.{is_irq_served}
use Rattle.port_past.specs.Places.{nowhere}
use Rattle.port_past.specs.Steps.{last_step}

-- whether a step takes the causes: an interrupt does that is served
abbrev pub takes_causes : Step → Bool → Bool
takes_causes Irq served = served
takes_causes _ served = false

-- TFERR of the place that works is set by its failed issue
abbrev pub with_tferr : Step → FailedIssue → List (Option FailedIssue) → List (Option FailedIssue)
with_tferr (Work place pick) failure was = slice_set was place (Some failure)
with_tferr _ failure was = was

-- a `done` that isn't good sets TFERR of the place that works; a reset of the place or the host clears it
abbrev pub tferr_after : Event → Step → Bool → List (Option FailedIssue) → List (Option FailedIssue)
tferr_after (Entered time who seq step) last served was = if takes_causes step served then nowhere else was
tferr_after (Told (Done number status error lba count)) last served was =
    if is_good_end status error lba then was
    else with_tferr last (record { number = number; regs = registers status error lba count }) was
tferr_after (Told (ResetBegun (Some place) attempt deadline)) last served was = slice_set was place None
tferr_after (Told (ResetBegun None attempt deadline)) last served was = nowhere
tferr_after _ last served was = was

-- by place, the issue that set the cause TFERR that stands, with its registers
abbrev pub tferr : List Event → List (Option FailedIssue)
tferr [] = nowhere
tferr (event ∷ past) = tferr_after event (last_step past) (is_irq_served past) (tferr past)

-- whether a bit of SError tells that a drive was plugged or unplugged: PhyRdy change and exchanged
abbrev pub is_hotplug_bit : SerrorBit → Bool
is_hotplug_bit Phy = true
is_hotplug_bit Exch = true
is_hotplug_bit _ = false

-- whether a step puts in a bit of SError that tells of a hotplug
abbrev pub injects_hotplug : Step → Bool
injects_hotplug (Inject place (Serr bit)) = is_hotplug_bit bit
injects_hotplug _ = false

-- whether a step puts in a bit of SError that tells of an error of the link, which is each other bit
abbrev pub injects_link_error : Step → Bool
injects_link_error (Inject place (Serr bit)) = not (is_hotplug_bit bit)
injects_link_error _ = false

-- whether a step puts in a bit of SError, whichever
abbrev pub injects_serror : Step → Bool
injects_serror (Inject place (Serr bit)) = true
injects_serror _ = false

-- a cause falls where an interrupt begins that is served
abbrev pub cause_begun : Step → Bool → Bool → Bool
cause_begun step served was = if takes_causes step served then false else was

-- IFERR of a direct port: set by a bit of SError that tells of an error of the link, cleared by a reset of the place
abbrev pub iferr_after : Bool → Event → Step → Bool → Bool → Bool
iferr_after pmp (Entered time who seq step) last served was = cause_begun step served was
iferr_after pmp (Told (ResetBegun (Some place) attempt deadline)) last served was = pmp && was
iferr_after pmp (Told (Injected place)) last served was = was || (not pmp && injects_link_error last)
iferr_after pmp _ last served was = was

-- whether IFERR stands
abbrev pub has_iferr : PortHead → List Event → Bool
has_iferr head [] = false
has_iferr head (event ∷ past) = iferr_after head.pmp event (last_step past) (is_irq_served past) (has_iferr head past)

-- CONNECT of a direct port: set where a drive is plugged or unplugged, and by a bit of SError that tells of that
abbrev pub connect_after : Bool → Event → Step → Bool → Bool → Bool
connect_after pmp (Entered time who seq step) last served was = cause_begun step served was
connect_after pmp (Told (Plugged place drive)) last served was = was || not pmp
connect_after pmp (Told (Unplugged place)) last served was = was || not pmp
connect_after pmp (Told (Injected place)) last served was = was || (not pmp && injects_hotplug last)
connect_after pmp _ last served was = was

-- whether CONNECT stands
abbrev pub has_connect : PortHead → List Event → Bool
has_connect head [] = false
has_connect head (event ∷ past) = connect_after head.pmp event (last_step past) (is_irq_served past) (has_connect head past)

-- NOTIFY of a multiplier: set where a drive is plugged or unplugged, and by each bit of SError
abbrev pub notify_after : Bool → Event → Step → Bool → Bool → Bool
notify_after pmp (Entered time who seq step) last served was = cause_begun step served was
notify_after pmp (Told (Plugged place drive)) last served was = was || pmp
notify_after pmp (Told (Unplugged place)) last served was = was || pmp
notify_after pmp (Told (Injected place)) last served was = was || (pmp && injects_serror last)
notify_after pmp _ last served was = was

-- whether NOTIFY stands
abbrev pub has_notify : PortHead → List Event → Bool
has_notify head [] = false
has_notify head (event ∷ past) = notify_after head.pmp event (last_step past) (is_irq_served past) (has_notify head past)
