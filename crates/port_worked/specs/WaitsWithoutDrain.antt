use Rattle.std.specs.Prelude.{List, [], ◌∷◌, Some, true, false, codes}
use Rattle.ata_base.specs.Kinds.{timeout}
use Rattle.ata_base.specs.declared.fault.Fault.TheVariants.{Hang}
use Rattle.ata_base.specs.declared.link_action.LinkAction.TheVariants.{Reset}
use Rattle.ata_base.specs.declared.op.Op.TheVariants.{Read}
use Rattle.ata_base.specs.declared.speed_action.SpeedAction.TheVariants.{NoChange}
use Rattle.ata_trace.specs.declared.act.Act.TheVariants.{Accepted, Raised, Frozen, Thawed, Requested, Begun, Autopsied, Ended, ResetEndedGen, Identified, Same, Mode, WaitingTag, Injected, Nothing}
use Rattle.ata_trace.specs.declared.step.Step.TheVariants.{Submit, Kick, Work, Irq, Tick, Expire, Recover, Inject}
use Rattle.port_worked.specs.Acts.{issued, done, answered_ok, expired, condemned, judged, recorded, action, reset_begun, ident_asked, retried, now}
use Rattle.port_worked.specs.Rows.{Row}

-- without fast drain a port waits for the deadline of each command, however long nothing comes
abbrev pub waits_without_drain_rows : List Row
waits_without_drain_rows =
    (0, Inject 0 (Hang 2), Injected 0 ∷ [])
    ∷ (0, Submit 1 0 (Read 0 1) 5 1000, Accepted 1 ∷ [])
    ∷ (0, Submit 2 0 (Read 0 1) 5 30000, Accepted 2 ∷ [])
    ∷ (0, Kick 0, issued 1 1 0 1000 (codes "2780600100000040000000000000000000000000") ∷ [])
    ∷ (0, Kick 0, issued 2 2 1 30000 (codes "2780600100000040000000000800000000000000") ∷ [])
    ∷ (0, Tick 1000, now 1000 ∷ [])
    ∷ (1000, Expire, expired 1 1 ∷ Requested ∷ [])
    ∷ (1000, Recover, WaitingTag 1 ∷ [])
    ∷ (1000, Tick 2999, now 3999 ∷ [])
    ∷ (3999, Expire, Nothing ∷ [])
    ∷ (3999, Tick 1, now 4000 ∷ [])
    ∷ (4000, Expire, Nothing ∷ [])
    ∷ (4000, Recover, WaitingTag 1 ∷ [])
    ∷ (4000, Tick 26000, now 30000 ∷ [])
    ∷ (30000, Expire, expired 2 2 ∷ [])
    ∷ (30000, Recover, Begun ∷ condemned 1 (timeout ∷ []) ∷ condemned 2 (timeout ∷ []) ∷ Frozen ∷ [])
    ∷ (30000, Recover, judged 1 (timeout ∷ []) ∷ judged 2 (timeout ∷ []) ∷ recorded 0 true true (timeout ∷ []) false false false false NoChange ∷ action 0 (timeout ∷ []) Reset ∷ Autopsied ∷ [])
    ∷ (30000, Recover, reset_begun (Some 0) 1 40000 ∷ [])
    ∷ (30000, Recover, ResetEndedGen 0 3 ∷ Thawed ∷ [])
    ∷ (30000, Recover, ident_asked 0 1 35000 ∷ [])
    ∷ (30000, Recover, Identified 0 (codes "ALPHA") (codes "S1") 4096 32 ∷ Same 0 ∷ Mode 0 6 true true ∷ [])
    ∷ (30000, Recover, retried 1 1 false ∷ retried 2 2 false ∷ Ended ∷ [])
    ∷ (30000, Kick 0, issued 1 3 0 31000 (codes "2780600100000040000000000000000000000000") ∷ [])
    ∷ (30000, Work 0 0, done 3 0x40 0x00 0 0 ∷ Raised ∷ [])
    ∷ (30000, Irq, answered_ok 1 3 0x40 0x00 0 0 (0 ∷ []) ∷ [])
    ∷ (30000, Kick 0, issued 2 4 0 60000 (codes "2780600100000040000000000000000000000000") ∷ [])
    ∷ (30000, Work 0 0, done 4 0x40 0x00 0 0 ∷ Raised ∷ [])
    ∷ (30000, Irq, answered_ok 2 4 0x40 0x00 0 0 (0 ∷ []) ∷ [])
    ∷ []
