use Rattle.std.specs.Prelude.{ℕ, true, not, ◌==◌, List, [], ◌∷◌, Option, Some, None, flat_map, option_and_then}
use Rattle.ata_base.specs.Limits.{fastest_udma}
use Rattle.ata_base.specs.declared.identity.Identity.{Identity}
use Rattle.ata_script.specs.declared.port_head.PortHead.{PortHead}
use Rattle.ata_trace.specs.Entries.{EntryView}
use Rattle.ata_trace.specs.declared.act.Act.{Act}
use Rattle.ata_trace.specs.declared.act.Act.TheVariants.{Identified, Attached, Mode}
use Rattle.ata_trace.specs.declared.step.Step.TheVariants.{Boot}
use Rattle.ata_trace.specs.declared.who.Who.TheVariants.{Boot as ByBoot}
use Rattle.port_past.specs.Heads.{identity_of, drive_at_boot, places_of}
use Rattle.port_rules.specs.Told.{or_nothing}

-- a drive that stands at a place when its port boots is identified, attached and given its mode: the fastest UDMA
-- mode, NCQ on exactly where the drive has a queue, in doubt
abbrev pub found_acts : ℕ → Option Identity → List Act
found_acts place None = []
found_acts place (Some i) =
    Identified place i.model i.serial i.sectors i.depth ∷ Attached place ∷ Mode place fastest_udma (not (i.depth == 0)) true ∷ []

-- what is told of the drive that stands at a place when its port boots
abbrev pub found_at : PortHead → ℕ → List Act
found_at head place = found_acts place (option_and_then (identity_of head.drives) (drive_at_boot head.drives place))

-- the acts of the boot, place after place
abbrev pub boot_acts : PortHead → List Act
boot_acts head = or_nothing (flat_map (found_at head) (places_of head))

-- the boot entry of a port
abbrev pub boot_entry : PortHead → EntryView
boot_entry head = record { at = 0; who = ByBoot; seq = 0; step = Boot; acts = boot_acts head }
