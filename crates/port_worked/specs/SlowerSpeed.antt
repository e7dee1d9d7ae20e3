use Rattle.std.specs.Prelude.{List, [], ◌∷◌, Some, true, false, codes}
use Rattle.ata_base.specs.Kinds.{ata_bus}
use Rattle.ata_base.specs.declared.fault.Fault.TheVariants.{Icrc}
use Rattle.ata_base.specs.declared.link_action.LinkAction.TheVariants.{Reset}
use Rattle.ata_base.specs.declared.op.Op.TheVariants.{Read, Write}
use Rattle.ata_base.specs.declared.speed_action.SpeedAction.TheVariants.{NoChange, Speed}
use Rattle.ata_trace.specs.declared.act.Act.TheVariants.{Accepted, Raised, Frozen, Thawed, Requested, Begun, Autopsied, Ended, Cleared, ResetEndedGen, Identified, Same, Mode, Injected, Nothing}
use Rattle.ata_trace.specs.declared.step.Step.TheVariants.{Submit, Kick, Work, Irq, Recover, Inject}
use Rattle.port_worked.specs.Acts.{issued, done, answered_ok, condemned, judged, recorded, action, reset_begun, ident_asked, retried}
use Rattle.port_worked.specs.Rows.{Row}

-- four errors of the wire: the fourth makes the link slower
abbrev pub slower_speed_rows : List Row
slower_speed_rows =
    (0, Submit 1 0 (Write 0 8 7) 5 30000, Accepted 1 ∷ [])
    ∷ (0, Kick 0, issued 1 1 0 30000 (codes "2780350000000040000000000800000000000000") ∷ [])
    ∷ (0, Work 0 0, done 1 0x40 0x00 0 0 ∷ Raised ∷ [])
    ∷ (0, Irq, answered_ok 1 1 0x40 0x00 0 0 [] ∷ [])
    ∷ (0, Inject 0 (Icrc 4), Injected 0 ∷ [])
    ∷ (0, Submit 2 0 (Read 0 1) 5 30000, Accepted 2 ∷ [])
    ∷ (0, Kick 0, issued 2 2 0 30000 (codes "2780250000000040000000000100000000000000") ∷ [])
    ∷ (0, Work 0 0, done 2 0x41 0x84 0 0 ∷ Raised ∷ [])
    ∷ (0, Irq, condemned 2 [] ∷ Requested ∷ [])
    ∷ (0, Recover, Begun ∷ [])
    ∷ (0, Recover, judged 2 (ata_bus ∷ []) ∷ recorded 0 true false (ata_bus ∷ []) false false false false NoChange ∷ action 0 (ata_bus ∷ []) Reset ∷ Autopsied ∷ [])
    ∷ (0, Recover, Frozen ∷ reset_begun (Some 0) 1 10000 ∷ [])
    ∷ (0, Recover, ResetEndedGen 0 3 ∷ Thawed ∷ [])
    ∷ (0, Recover, ident_asked 0 1 5000 ∷ [])
    ∷ (0, Recover, Identified 0 (codes "ALPHA") (codes "S1") 4096 0 ∷ Same 0 ∷ Mode 0 6 false false ∷ [])
    ∷ (0, Recover, retried 2 2 false ∷ Ended ∷ [])
    ∷ (0, Kick 0, issued 2 3 0 30000 (codes "2780250000000040000000000100000000000000") ∷ [])
    ∷ (0, Work 0 0, done 3 0x41 0x84 0 0 ∷ Raised ∷ [])
    ∷ (0, Irq, condemned 3 [] ∷ Requested ∷ [])
    ∷ (0, Recover, Begun ∷ [])
    ∷ (0, Recover, judged 3 (ata_bus ∷ []) ∷ recorded 0 true false (ata_bus ∷ []) false false false false NoChange ∷ action 0 (ata_bus ∷ []) Reset ∷ Autopsied ∷ [])
    ∷ (0, Recover, Frozen ∷ reset_begun (Some 0) 1 10000 ∷ [])
    ∷ (0, Recover, ResetEndedGen 0 3 ∷ Thawed ∷ [])
    ∷ (0, Recover, ident_asked 0 1 5000 ∷ [])
    ∷ (0, Recover, Identified 0 (codes "ALPHA") (codes "S1") 4096 0 ∷ Same 0 ∷ Mode 0 6 false false ∷ [])
    ∷ (0, Recover, retried 2 3 false ∷ Ended ∷ [])
    ∷ (0, Kick 0, issued 2 4 0 30000 (codes "2780250000000040000000000100000000000000") ∷ [])
    ∷ (0, Work 0 0, done 4 0x41 0x84 0 0 ∷ Raised ∷ [])
    ∷ (0, Irq, condemned 4 [] ∷ Requested ∷ [])
    ∷ (0, Recover, Begun ∷ [])
    ∷ (0, Recover, judged 4 (ata_bus ∷ []) ∷ recorded 0 true false (ata_bus ∷ []) false false false false NoChange ∷ action 0 (ata_bus ∷ []) Reset ∷ Autopsied ∷ [])
    ∷ (0, Recover, Frozen ∷ reset_begun (Some 0) 1 10000 ∷ [])
    ∷ (0, Recover, ResetEndedGen 0 3 ∷ Thawed ∷ [])
    ∷ (0, Recover, ident_asked 0 1 5000 ∷ [])
    ∷ (0, Recover, Identified 0 (codes "ALPHA") (codes "S1") 4096 0 ∷ Same 0 ∷ Mode 0 6 false false ∷ [])
    ∷ (0, Recover, retried 2 4 false ∷ Ended ∷ [])
    ∷ (0, Kick 0, issued 2 5 0 30000 (codes "2780250000000040000000000100000000000000") ∷ [])
    ∷ (0, Work 0 0, done 5 0x41 0x84 0 0 ∷ Raised ∷ [])
    ∷ (0, Irq, condemned 5 [] ∷ Requested ∷ [])
    ∷ (0, Recover, Begun ∷ [])
    ∷ (0, Recover, judged 5 (ata_bus ∷ []) ∷ recorded 0 true false (ata_bus ∷ []) false true false false (Speed 2) ∷ Cleared 0 ∷ action 0 (ata_bus ∷ []) Reset ∷ Autopsied ∷ [])
    ∷ (0, Recover, Frozen ∷ reset_begun (Some 0) 1 10000 ∷ [])
    ∷ (0, Recover, ResetEndedGen 0 2 ∷ Thawed ∷ [])
    ∷ (0, Recover, ident_asked 0 1 5000 ∷ [])
    ∷ (0, Recover, Identified 0 (codes "ALPHA") (codes "S1") 4096 0 ∷ Same 0 ∷ Mode 0 6 false false ∷ [])
    ∷ (0, Recover, retried 2 5 false ∷ Ended ∷ [])
    ∷ (0, Kick 0, issued 2 6 0 30000 (codes "2780250000000040000000000100000000000000") ∷ [])
    ∷ (0, Work 0 0, done 6 0x40 0x00 0 0 ∷ Raised ∷ [])
    ∷ (0, Irq, answered_ok 2 6 0x40 0x00 0 0 (7 ∷ []) ∷ [])
    ∷ (0, Recover, Nothing ∷ [])
    ∷ (0, Recover, Nothing ∷ [])
    ∷ (0, Recover, Nothing ∷ [])
    ∷ (0, Recover, Nothing ∷ [])
    ∷ (0, Recover, Nothing ∷ [])
    ∷ (0, Recover, Nothing ∷ [])
    ∷ (0, Recover, Nothing ∷ [])
    ∷ []
