use Rattle.std.specs.Prelude.{List, [], ◌∷◌, Some, true, false, codes}
use Rattle.ata_base.specs.Kinds.{timeout}
use Rattle.ata_base.specs.declared.fault.Fault.TheVariants.{Hang}
use Rattle.ata_base.specs.declared.link_action.LinkAction.TheVariants.{Reset}
use Rattle.ata_base.specs.declared.op.Op.TheVariants.{Read}
use Rattle.ata_base.specs.declared.speed_action.SpeedAction.TheVariants.{NoChange}
use Rattle.ata_trace.specs.declared.act.Act.TheVariants.{Accepted, Raised, Frozen, Thawed, Requested, Begun, Autopsied, Ended, Hot, ResetEndedGen, ResetEndedNone, Identified, Same, Detached, Mode, Unplugged, Injected, Nothing}
use Rattle.ata_trace.specs.declared.step.Step.TheVariants.{Submit, Kick, Work, Irq, Tick, Expire, Recover, Unplug, Inject}
use Rattle.port_worked.specs.Acts.{issued, answered_nodev, expired, condemned, judged, recorded, action, reset_begun, ident_asked, retried, now}
use Rattle.port_worked.specs.Rows.{Row}

-- the drive is unplugged after it was identified: its command is given back, and a second recovery ends it
abbrev pub unplugged_once_identified_rows : List Row
unplugged_once_identified_rows =
    (0, Inject 0 (Hang 1), Injected 0 ∷ [])
    ∷ (0, Submit 1 0 (Read 0 1) 5 30000, Accepted 1 ∷ [])
    ∷ (0, Kick 0, issued 1 1 0 30000 (codes "2780250000000040000000000100000000000000") ∷ [])
    ∷ (0, Work 0 0, Nothing ∷ [])
    ∷ (0, Tick 30000, now 30000 ∷ [])
    ∷ (30000, Expire, expired 1 1 ∷ Requested ∷ [])
    ∷ (30000, Recover, Begun ∷ condemned 1 (timeout ∷ []) ∷ Frozen ∷ [])
    ∷ (30000, Recover, judged 1 (timeout ∷ []) ∷ recorded 0 true true (timeout ∷ []) false false false false NoChange ∷ action 0 (timeout ∷ []) Reset ∷ Autopsied ∷ [])
    ∷ (30000, Recover, reset_begun (Some 0) 1 40000 ∷ [])
    ∷ (30000, Recover, ResetEndedGen 0 3 ∷ Thawed ∷ [])
    ∷ (30000, Recover, ident_asked 0 1 35000 ∷ [])
    ∷ (30000, Recover, Identified 0 (codes "ALPHA") (codes "S1") 4096 0 ∷ Same 0 ∷ Mode 0 6 false true ∷ [])
    ∷ (30000, Unplug 0, Unplugged 0 ∷ Raised ∷ [])
    ∷ (30000, Recover, retried 1 1 false ∷ Ended ∷ [])
    ∷ (30000, Kick 0, issued 1 2 0 60000 (codes "2780250000000040000000000100000000000000") ∷ [])
    ∷ (30000, Irq, condemned 2 [] ∷ Frozen ∷ Requested ∷ [])
    ∷ (30000, Recover, Begun ∷ [])
    ∷ (30000, Recover, judged 2 [] ∷ Hot 0 3 ∷ action 0 [] Reset ∷ Autopsied ∷ [])
    ∷ (30000, Recover, reset_begun (Some 0) 1 40000 ∷ [])
    ∷ (30000, Recover, ResetEndedNone 0 ∷ Thawed ∷ Detached 0 ∷ [])
    ∷ (30000, Recover, answered_nodev 1 2 ∷ Ended ∷ [])
    ∷ []
