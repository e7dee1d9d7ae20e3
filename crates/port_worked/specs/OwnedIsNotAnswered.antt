use Rattle.std.specs.Prelude.{List, [], ◌∷◌, Some, None, true, false, codes}
use Rattle.ata_base.specs.Kinds.{timeout}
use Rattle.ata_base.specs.declared.link_action.LinkAction.TheVariants.{Reset}
use Rattle.ata_base.specs.declared.op.Op.TheVariants.{Read}
use Rattle.ata_base.specs.declared.speed_action.SpeedAction.TheVariants.{NoChange}
use Rattle.ata_trace.specs.declared.act.Act.TheVariants.{Accepted, Raised, Frozen, Thawed, Requested, Begun, Autopsied, Ended, ResetEndedGen, ResetEndedHost, Identified, Same, Mode, Nothing}
use Rattle.ata_trace.specs.declared.step.Step.TheVariants.{Submit, Kick, Work, Irq, Tick, Expire, Recover}
use Rattle.port_worked.specs.Acts.{issued, done, expired, condemned, judged, recorded, action, reset_begun, ident_asked, retried, now}
use Rattle.port_worked.specs.Rows.{Row}

-- after the reset of the host a drive ends a command that recovery owns: an interrupt doesn't answer it
abbrev pub owned_is_not_answered_rows : List Row
owned_is_not_answered_rows =
    (0, Submit 1 1 (Read 0 1) 5 1000, Accepted 1 ∷ [])
    ∷ (0, Kick 1, issued 1 1 0 1000 (codes "2781600100000040000000000000000000000000") ∷ [])
    ∷ (0, Tick 1000, now 1000 ∷ [])
    ∷ (1000, Recover, Nothing ∷ [])
    ∷ (1000, Expire, expired 1 1 ∷ Requested ∷ [])
    ∷ (1000, Recover, Begun ∷ condemned 1 (timeout ∷ []) ∷ Frozen ∷ [])
    ∷ (1000, Recover, judged 1 (timeout ∷ []) ∷ recorded 1 true true (timeout ∷ []) false false false false NoChange ∷ action 1 (timeout ∷ []) Reset ∷ Autopsied ∷ [])
    ∷ (1000, Recover, reset_begun None 1 11000 ∷ [])
    ∷ (1000, Recover, ResetEndedHost ∷ Thawed ∷ [])
    ∷ (1000, Work 1 0, done 1 0x40 0x00 0 0 ∷ Raised ∷ [])
    ∷ (1000, Irq, Nothing ∷ [])
    ∷ (1000, Recover, reset_begun (Some 0) 1 11000 ∷ [])
    ∷ (1000, Recover, ResetEndedGen 0 3 ∷ [])
    ∷ (1000, Recover, ident_asked 0 1 6000 ∷ [])
    ∷ (1000, Recover, Identified 0 (codes "ALPHA") (codes "S1") 4096 32 ∷ Same 0 ∷ Mode 0 6 true true ∷ [])
    ∷ (1000, Recover, reset_begun (Some 1) 1 11000 ∷ [])
    ∷ (1000, Recover, ResetEndedGen 1 3 ∷ [])
    ∷ (1000, Recover, ident_asked 1 1 6000 ∷ [])
    ∷ (1000, Recover, Identified 1 (codes "ALPHA") (codes "S2") 4096 32 ∷ Same 1 ∷ Mode 1 6 true true ∷ [])
    ∷ (1000, Recover, retried 1 1 false ∷ Ended ∷ [])
    ∷ []
