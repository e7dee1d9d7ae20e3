use Rattle.std.specs.Prelude.{List, [], ◌∷◌, true, false, codes}
use Rattle.ata_base.specs.Kinds.{dev}
use Rattle.ata_base.specs.declared.fault.Fault.TheVariants.{Abort}
use Rattle.ata_base.specs.declared.link_action.LinkAction.TheVariants.{Revalidate}
use Rattle.ata_base.specs.declared.op.Op.TheVariants.{Read}
use Rattle.ata_base.specs.declared.speed_action.SpeedAction.TheVariants.{NoChange}
use Rattle.ata_trace.specs.declared.act.Act.TheVariants.{Accepted, Raised, Requested, Begun, Autopsied, Ended, Identified, Same, Mode, Injected, Nothing}
use Rattle.ata_trace.specs.declared.step.Step.TheVariants.{Submit, Kick, Work, Irq, Recover, Inject}
use Rattle.port_worked.specs.Acts.{issued, done, answered_failed, condemned, judged, recorded, action, ident_asked}
use Rattle.port_worked.specs.Rows.{Row}

-- with an allowance of 0 the read fails at the end of its first recovery
abbrev pub aborted_read_without_allowance_rows : List Row
aborted_read_without_allowance_rows =
    (0, Inject 0 (Abort 1), Injected 0 ∷ [])
    ∷ (0, Submit 1 0 (Read 0 1) 0 30000, Accepted 1 ∷ [])
    ∷ (0, Kick 0, issued 1 1 0 30000 (codes "2780250000000040000000000100000000000000") ∷ [])
    ∷ (0, Work 0 0, done 1 0x41 0x04 0 0 ∷ Raised ∷ [])
    ∷ (0, Irq, condemned 1 [] ∷ Requested ∷ [])
    ∷ (0, Recover, Begun ∷ [])
    ∷ (0, Recover, judged 1 (dev ∷ []) ∷ recorded 0 true true (dev ∷ []) false false false false NoChange ∷ action 0 (dev ∷ []) Revalidate ∷ Autopsied ∷ [])
    ∷ (0, Recover, ident_asked 0 1 5000 ∷ [])
    ∷ (0, Recover, Identified 0 (codes "ALPHA") (codes "S1") 4096 0 ∷ Same 0 ∷ Mode 0 6 false true ∷ [])
    ∷ (0, Recover, answered_failed 1 1 (dev ∷ []) 0x41 0x04 0 0 ∷ Ended ∷ [])
    ∷ (0, Recover, Nothing ∷ [])
    ∷ []
