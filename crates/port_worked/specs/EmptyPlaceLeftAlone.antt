use Rattle.std.specs.Prelude.{List, [], ◌∷◌, Some, None, true, false, codes}
use Rattle.ata_base.specs.Kinds.{timeout}
use Rattle.ata_base.specs.declared.fault.Fault.TheVariants.{Hang}
use Rattle.ata_base.specs.declared.link_action.LinkAction.TheVariants.{Reset}
use Rattle.ata_base.specs.declared.op.Op.TheVariants.{Read}
use Rattle.ata_base.specs.declared.speed_action.SpeedAction.TheVariants.{NoChange}
use Rattle.ata_trace.specs.declared.act.Act.TheVariants.{Accepted, Refused, Raised, Frozen, Thawed, Requested, Begun, Autopsied, Ended, ResetEndedGen, ResetEndedHost, Identified, Same, Mode, Injected}
use Rattle.ata_trace.specs.declared.refusal.Refusal.TheVariants.{NoDevice}
use Rattle.ata_trace.specs.declared.step.Step.TheVariants.{Submit, Kick, Work, Irq, Tick, Expire, Recover, Inject}
use Rattle.port_worked.specs.Acts.{issued, done, answered_ok, expired, condemned, judged, recorded, action, reset_begun, ident_asked, retried, now}
use Rattle.port_worked.specs.Rows.{Row}

-- a hang on a multiplier with an empty place: behind the host only the place with a device is reset
abbrev pub empty_place_left_alone_rows : List Row
empty_place_left_alone_rows =
    (0, Inject 0 (Hang 1), Injected 0 ∷ [])
    ∷ (0, Submit 1 0 (Read 0 1) 5 30000, Accepted 1 ∷ [])
    ∷ (0, Submit 2 1 (Read 0 1) 5 30000, Refused 2 NoDevice ∷ [])
    ∷ (0, Kick 0, issued 1 1 0 30000 (codes "2780600100000040000000000000000000000000") ∷ [])
    ∷ (0, Tick 30000, now 30000 ∷ [])
    ∷ (30000, Expire, expired 1 1 ∷ Requested ∷ [])
    ∷ (30000, Recover, Begun ∷ condemned 1 (timeout ∷ []) ∷ Frozen ∷ [])
    ∷ (30000, Recover, judged 1 (timeout ∷ []) ∷ recorded 0 true true (timeout ∷ []) false false false false NoChange ∷ action 0 (timeout ∷ []) Reset ∷ Autopsied ∷ [])
    ∷ (30000, Recover, reset_begun None 1 40000 ∷ [])
    ∷ (30000, Recover, ResetEndedHost ∷ Thawed ∷ [])
    ∷ (30000, Recover, reset_begun (Some 0) 1 40000 ∷ [])
    ∷ (30000, Recover, ResetEndedGen 0 3 ∷ [])
    ∷ (30000, Recover, ident_asked 0 1 35000 ∷ [])
    ∷ (30000, Recover, Identified 0 (codes "ALPHA") (codes "S1") 4096 32 ∷ Same 0 ∷ Mode 0 6 true true ∷ [])
    ∷ (30000, Recover, retried 1 1 false ∷ Ended ∷ [])
    ∷ (30000, Kick 0, issued 1 2 0 60000 (codes "2780600100000040000000000000000000000000") ∷ [])
    ∷ (30000, Work 0 0, done 2 0x40 0x00 0 0 ∷ Raised ∷ [])
    ∷ (30000, Irq, answered_ok 1 2 0x40 0x00 0 0 (0 ∷ []) ∷ [])
    ∷ []
