use Rattle.std.specs.Prelude.{List, [], ◌∷◌, Some, true, false, codes}
use Rattle.ata_base.specs.Kinds.{hsm}
use Rattle.ata_base.specs.declared.fault.Fault.TheVariants.{Abort, LogNq}
use Rattle.ata_base.specs.declared.link_action.LinkAction.TheVariants.{Reset}
use Rattle.ata_base.specs.declared.op.Op.TheVariants.{Read}
use Rattle.ata_base.specs.declared.speed_action.SpeedAction.TheVariants.{NoChange}
use Rattle.ata_trace.specs.declared.act.Act.TheVariants.{Accepted, Raised, Frozen, Thawed, Requested, Begun, Autopsied, Ended, LogNotQueued, ResetEndedGen, Identified, Same, Mode, Injected}
use Rattle.ata_trace.specs.declared.step.Step.TheVariants.{Submit, Kick, Work, Irq, Recover, Inject}
use Rattle.port_worked.specs.Acts.{issued, done, aborted, answered_failed, condemned, judged, recorded, action, reset_begun, ident_asked}
use Rattle.port_worked.specs.Rows.{Row}

-- the log names no queued command, so each one is blamed, and with allowances of 0 each fails
abbrev pub blamed_without_allowance_rows : List Row
blamed_without_allowance_rows =
    (0, Inject 0 (Abort 1), Injected 0 ∷ [])
    ∷ (0, Inject 0 (LogNq 1), Injected 0 ∷ [])
    ∷ (0, Submit 1 0 (Read 0 1) 0 30000, Accepted 1 ∷ [])
    ∷ (0, Submit 2 0 (Read 0 1) 0 30000, Accepted 2 ∷ [])
    ∷ (0, Kick 0, issued 1 1 0 30000 (codes "2780600100000040000000000000000000000000") ∷ [])
    ∷ (0, Kick 0, issued 2 2 1 30000 (codes "2780600100000040000000000800000000000000") ∷ [])
    ∷ (0, Work 0 0, done 1 0x41 0x04 0 0 ∷ Raised ∷ [])
    ∷ (0, Irq, condemned 1 [] ∷ condemned 2 [] ∷ Requested ∷ [])
    ∷ (0, Recover, Begun ∷ [])
    ∷ (0, Recover, LogNotQueued 0 ∷ aborted 2 ∷ [])
    ∷ (0, Recover, judged 1 (hsm ∷ []) ∷ judged 2 (hsm ∷ []) ∷ recorded 0 true true (hsm ∷ []) false false false false NoChange ∷ action 0 (hsm ∷ []) Reset ∷ Autopsied ∷ [])
    ∷ (0, Recover, Frozen ∷ reset_begun (Some 0) 1 10000 ∷ [])
    ∷ (0, Recover, ResetEndedGen 0 3 ∷ Thawed ∷ [])
    ∷ (0, Recover, ident_asked 0 1 5000 ∷ [])
    ∷ (0, Recover, Identified 0 (codes "ALPHA") (codes "S1") 4096 32 ∷ Same 0 ∷ Mode 0 6 true true ∷ [])
    ∷ (0, Recover, answered_failed 1 1 (hsm ∷ []) 0x00 0x00 0 0 ∷ answered_failed 2 2 (hsm ∷ []) 0x00 0x00 0 0 ∷ Ended ∷ [])
    ∷ []
