use Rattle.std.specs.Prelude.{List, [], ◌∷◌, Some, true, codes}
use Rattle.ata_base.specs.declared.link_action.LinkAction.TheVariants.{Reset}
use Rattle.ata_base.specs.declared.op.Op.TheVariants.{Read}
use Rattle.ata_trace.specs.declared.act.Act.TheVariants.{Accepted, Raised, Frozen, Thawed, Requested, Begun, Autopsied, Ended, Hot, ResetEndedGen, Identified, Same, Attached, Detached, Mode, Plugged, Unplugged}
use Rattle.ata_trace.specs.declared.step.Step.TheVariants.{Submit, Kick, Irq, Recover, Plug, Unplug}
use Rattle.port_worked.specs.Acts.{issued, answered_nodev, condemned, judged, action, reset_begun, ident_asked}
use Rattle.port_worked.specs.Rows.{Row}

-- another drive is plugged before recovery looks: the reset finds it, and the device changes at once
abbrev pub plugged_before_recovery_rows : List Row
plugged_before_recovery_rows =
    (0, Submit 1 0 (Read 0 1) 5 30000, Accepted 1 ∷ [])
    ∷ (0, Submit 2 0 (Read 0 1) 5 30000, Accepted 2 ∷ [])
    ∷ (0, Submit 3 0 (Read 0 1) 5 30000, Accepted 3 ∷ [])
    ∷ (0, Kick 0, issued 1 1 0 30000 (codes "2780600100000040000000000000000000000000") ∷ [])
    ∷ (0, Kick 0, issued 2 2 1 30000 (codes "2780600100000040000000000800000000000000") ∷ [])
    ∷ (0, Unplug 0, Unplugged 0 ∷ Raised ∷ [])
    ∷ (0, Irq, condemned 1 [] ∷ condemned 2 [] ∷ Frozen ∷ Requested ∷ [])
    ∷ (0, Plug 0 1, Plugged 0 1 ∷ Raised ∷ [])
    ∷ (0, Recover, Begun ∷ [])
    ∷ (0, Recover, judged 1 [] ∷ judged 2 [] ∷ Hot 0 3 ∷ action 0 [] Reset ∷ Autopsied ∷ [])
    ∷ (0, Recover, reset_begun (Some 0) 1 10000 ∷ [])
    ∷ (0, Recover, ResetEndedGen 0 3 ∷ Thawed ∷ [])
    ∷ (0, Recover, ident_asked 0 1 5000 ∷ [])
    ∷ (0, Recover, Identified 0 (codes "ALPHA") (codes "S2") 4096 32 ∷ Detached 0 ∷ Attached 0 ∷ Mode 0 6 true true ∷ [])
    ∷ (0, Recover, answered_nodev 1 1 ∷ answered_nodev 2 2 ∷ Ended ∷ [])
    ∷ (0, Irq, Frozen ∷ Requested ∷ [])
    ∷ (0, Kick 0, answered_nodev 3 0 ∷ [])
    ∷ (0, Recover, Begun ∷ [])
    ∷ (0, Recover, action 0 [] Reset ∷ Autopsied ∷ [])
    ∷ (0, Recover, reset_begun (Some 0) 1 10000 ∷ [])
    ∷ (0, Recover, ResetEndedGen 0 3 ∷ Thawed ∷ [])
    ∷ (0, Recover, ident_asked 0 1 5000 ∷ [])
    ∷ (0, Recover, Identified 0 (codes "ALPHA") (codes "S2") 4096 32 ∷ Same 0 ∷ Mode 0 6 true true ∷ [])
    ∷ (0, Recover, Ended ∷ [])
    ∷ []
