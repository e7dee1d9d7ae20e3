use Rattle.std.specs.Prelude.{true, false, List, [], ◌∷◌, ◌++◌, codes}
use Rattle.ata_trace.specs.declared.act.Act.{Act}
use Rattle.ata_trace.specs.declared.act.Act.TheVariants.{Identified, Attached, Mode, Nothing}

-- the acts of the boot of a port without a drive
abbrev pub no_drive_found : List Act
no_drive_found = Nothing ∷ []

-- the acts of the boot where the drive has no queue
abbrev pub unqueued_found : List Act
unqueued_found = Identified 0 (codes "ALPHA") (codes "S1") 4096 0 ∷ Attached 0 ∷ Mode 0 6 false true ∷ []

-- the acts of the boot where the drive queues two commands
abbrev pub shallow_found : List Act
shallow_found = Identified 0 (codes "ALPHA") (codes "S1") 4096 2 ∷ Attached 0 ∷ Mode 0 6 true true ∷ []

-- the acts of the boot where the drive queues 32 commands
abbrev pub queued_found : List Act
queued_found = Identified 0 (codes "ALPHA") (codes "S1") 4096 32 ∷ Attached 0 ∷ Mode 0 6 true true ∷ []

-- the acts of the boot where a second drive stands at place 1
abbrev pub two_found : List Act
two_found = queued_found ++ Identified 1 (codes "ALPHA") (codes "S2") 4096 32 ∷ Attached 1 ∷ Mode 1 6 true true ∷ []

-- the acts of the boot of two unlike drives, of which the second has no queue
abbrev pub unlike_found : List Act
unlike_found =
    Identified 0 (codes "DISK-B") (codes "B1") 65536 32 ∷ Attached 0 ∷ Mode 0 6 true true
    ∷ Identified 1 (codes "DISK-C") (codes "C1") 65536 0 ∷ Attached 1 ∷ Mode 1 6 false true
    ∷ []
