use Rattle.std.specs.Prelude.{List, [], ◌∷◌, Some, true, false, codes}
use Rattle.ata_base.specs.Kinds.{hsm}
use Rattle.ata_base.specs.declared.fault.Fault.TheVariants.{BadStat}
use Rattle.ata_base.specs.declared.link_action.LinkAction.TheVariants.{Reset}
use Rattle.ata_base.specs.declared.op.Op.TheVariants.{Read}
use Rattle.ata_base.specs.declared.speed_action.SpeedAction.TheVariants.{NoChange, Speed, Mode as ToMode}
use Rattle.ata_trace.specs.declared.act.Act.TheVariants.{Accepted, Raised, Frozen, Thawed, Requested, Begun, Autopsied, Ended, ResetEndedGen, Identified, Same, Mode, Injected}
use Rattle.ata_trace.specs.declared.step.Step.TheVariants.{Submit, Kick, Work, Irq, Recover, Inject}
use Rattle.port_worked.specs.Acts.{issued, done, answered_failed, condemned, judged, recorded, action, reset_begun, ident_asked, retried}
use Rattle.port_worked.specs.Rows.{Row}

-- a drive whose status says busy at each try: five retries, each with a slower link or mode, then the command fails
abbrev pub ten_bad_statuses_rows : List Row
ten_bad_statuses_rows =
    (0, Inject 0 (BadStat 10), Injected 0 ∷ [])
    ∷ (0, Submit 1 0 (Read 0 1) 5 30000, Accepted 1 ∷ [])
    ∷ (0, Kick 0, issued 1 1 0 30000 (codes "2780250000000040000000000100000000000000") ∷ [])
    ∷ (0, Work 0 0, done 1 0x80 0x00 0 0 ∷ Raised ∷ [])
    ∷ (0, Irq, condemned 1 [] ∷ Requested ∷ [])
    ∷ (0, Recover, Begun ∷ [])
    ∷ (0, Recover, judged 1 (hsm ∷ []) ∷ recorded 0 true true (hsm ∷ []) false false false false NoChange ∷ action 0 (hsm ∷ []) Reset ∷ Autopsied ∷ [])
    ∷ (0, Recover, Frozen ∷ reset_begun (Some 0) 1 10000 ∷ [])
    ∷ (0, Recover, ResetEndedGen 0 3 ∷ Thawed ∷ [])
    ∷ (0, Recover, ident_asked 0 1 5000 ∷ [])
    ∷ (0, Recover, Identified 0 (codes "ALPHA") (codes "S1") 4096 0 ∷ Same 0 ∷ Mode 0 6 false true ∷ [])
    ∷ (0, Recover, retried 1 1 false ∷ Ended ∷ [])
    ∷ (0, Kick 0, issued 1 2 0 30000 (codes "2780250000000040000000000100000000000000") ∷ [])
    ∷ (0, Work 0 0, done 2 0x80 0x00 0 0 ∷ Raised ∷ [])
    ∷ (0, Irq, condemned 2 [] ∷ Requested ∷ [])
    ∷ (0, Recover, Begun ∷ [])
    ∷ (0, Recover, judged 2 (hsm ∷ []) ∷ recorded 0 true true (hsm ∷ []) true true true true (Speed 2) ∷ action 0 (hsm ∷ []) Reset ∷ Autopsied ∷ [])
    ∷ (0, Recover, Frozen ∷ reset_begun (Some 0) 1 10000 ∷ [])
    ∷ (0, Recover, ResetEndedGen 0 2 ∷ Thawed ∷ [])
    ∷ (0, Recover, ident_asked 0 1 5000 ∷ [])
    ∷ (0, Recover, Identified 0 (codes "ALPHA") (codes "S1") 4096 0 ∷ Same 0 ∷ Mode 0 6 false true ∷ [])
    ∷ (0, Recover, retried 1 2 false ∷ Ended ∷ [])
    ∷ (0, Kick 0, issued 1 3 0 30000 (codes "2780250000000040000000000100000000000000") ∷ [])
    ∷ (0, Work 0 0, done 3 0x80 0x00 0 0 ∷ Raised ∷ [])
    ∷ (0, Irq, condemned 3 [] ∷ Requested ∷ [])
    ∷ (0, Recover, Begun ∷ [])
    ∷ (0, Recover, judged 3 (hsm ∷ []) ∷ recorded 0 true true (hsm ∷ []) true true true true (Speed 1) ∷ action 0 (hsm ∷ []) Reset ∷ Autopsied ∷ [])
    ∷ (0, Recover, Frozen ∷ reset_begun (Some 0) 1 10000 ∷ [])
    ∷ (0, Recover, ResetEndedGen 0 1 ∷ Thawed ∷ [])
    ∷ (0, Recover, ident_asked 0 1 5000 ∷ [])
    ∷ (0, Recover, Identified 0 (codes "ALPHA") (codes "S1") 4096 0 ∷ Same 0 ∷ Mode 0 6 false true ∷ [])
    ∷ (0, Recover, retried 1 3 false ∷ Ended ∷ [])
    ∷ (0, Kick 0, issued 1 4 0 30000 (codes "2780250000000040000000000100000000000000") ∷ [])
    ∷ (0, Work 0 0, done 4 0x80 0x00 0 0 ∷ Raised ∷ [])
    ∷ (0, Irq, condemned 4 [] ∷ Requested ∷ [])
    ∷ (0, Recover, Begun ∷ [])
    ∷ (0, Recover, judged 4 (hsm ∷ []) ∷ recorded 0 true true (hsm ∷ []) true true true true (ToMode 5) ∷ action 0 (hsm ∷ []) Reset ∷ Autopsied ∷ [])
    ∷ (0, Recover, Frozen ∷ reset_begun (Some 0) 1 10000 ∷ [])
    ∷ (0, Recover, ResetEndedGen 0 1 ∷ Thawed ∷ [])
    ∷ (0, Recover, ident_asked 0 1 5000 ∷ [])
    ∷ (0, Recover, Identified 0 (codes "ALPHA") (codes "S1") 4096 0 ∷ Same 0 ∷ Mode 0 5 false true ∷ [])
    ∷ (0, Recover, retried 1 4 false ∷ Ended ∷ [])
    ∷ (0, Kick 0, issued 1 5 0 30000 (codes "2780250000000040000000000100000000000000") ∷ [])
    ∷ (0, Work 0 0, done 5 0x80 0x00 0 0 ∷ Raised ∷ [])
    ∷ (0, Irq, condemned 5 [] ∷ Requested ∷ [])
    ∷ (0, Recover, Begun ∷ [])
    ∷ (0, Recover, judged 5 (hsm ∷ []) ∷ recorded 0 true true (hsm ∷ []) true true true true (ToMode 4) ∷ action 0 (hsm ∷ []) Reset ∷ Autopsied ∷ [])
    ∷ (0, Recover, Frozen ∷ reset_begun (Some 0) 1 10000 ∷ [])
    ∷ (0, Recover, ResetEndedGen 0 1 ∷ Thawed ∷ [])
    ∷ (0, Recover, ident_asked 0 1 5000 ∷ [])
    ∷ (0, Recover, Identified 0 (codes "ALPHA") (codes "S1") 4096 0 ∷ Same 0 ∷ Mode 0 4 false true ∷ [])
    ∷ (0, Recover, retried 1 5 false ∷ Ended ∷ [])
    ∷ (0, Kick 0, issued 1 6 0 30000 (codes "2780250000000040000000000100000000000000") ∷ [])
    ∷ (0, Work 0 0, done 6 0x80 0x00 0 0 ∷ Raised ∷ [])
    ∷ (0, Irq, condemned 6 [] ∷ Requested ∷ [])
    ∷ (0, Recover, Begun ∷ [])
    ∷ (0, Recover, judged 6 (hsm ∷ []) ∷ recorded 0 true true (hsm ∷ []) true true true true NoChange ∷ action 0 (hsm ∷ []) Reset ∷ Autopsied ∷ [])
    ∷ (0, Recover, Frozen ∷ reset_begun (Some 0) 1 10000 ∷ [])
    ∷ (0, Recover, ResetEndedGen 0 1 ∷ Thawed ∷ [])
    ∷ (0, Recover, ident_asked 0 1 5000 ∷ [])
    ∷ (0, Recover, Identified 0 (codes "ALPHA") (codes "S1") 4096 0 ∷ Same 0 ∷ Mode 0 4 false true ∷ [])
    ∷ (0, Recover, answered_failed 1 6 (hsm ∷ []) 0x80 0x00 0 0 ∷ Ended ∷ [])
    ∷ []
