use Rattle.std.specs.Prelude.{List, [], ◌∷◌, Some, true, false, codes}
use Rattle.ata_base.specs.Kinds.{timeout}
use Rattle.ata_base.specs.declared.fault.Fault.TheVariants.{Hang}
use Rattle.ata_base.specs.declared.link_action.LinkAction.TheVariants.{Reset}
use Rattle.ata_base.specs.declared.op.Op.TheVariants.{Read}
use Rattle.ata_base.specs.declared.speed_action.SpeedAction.TheVariants.{NoChange}
use Rattle.ata_trace.specs.declared.act.Act.TheVariants.{Accepted, Refused, Frozen, Requested, Begun, Autopsied, Ended, ResetLate, ResetFailed, Disabled, Injected, Nothing}
use Rattle.ata_trace.specs.declared.refusal.Refusal.TheVariants.{NoDevice}
use Rattle.ata_trace.specs.declared.step.Step.TheVariants.{Submit, Kick, Work, Tick, Expire, Recover, Inject}
use Rattle.port_worked.specs.Acts.{issued, answered_nodev, expired, condemned, judged, recorded, action, reset_begun, now}
use Rattle.port_worked.specs.Rows.{Row}

-- a drive that is never ready in time: four tries of the reset, then its device is disabled
abbrev pub slow_drive_rows : List Row
slow_drive_rows =
    (0, Inject 0 (Hang 1), Injected 0 ∷ [])
    ∷ (0, Submit 1 0 (Read 0 1) 5 30000, Accepted 1 ∷ [])
    ∷ (0, Kick 0, issued 1 1 0 30000 (codes "2780250000000040000000000100000000000000") ∷ [])
    ∷ (0, Work 0 0, Nothing ∷ [])
    ∷ (0, Tick 30000, now 30000 ∷ [])
    ∷ (30000, Expire, expired 1 1 ∷ Requested ∷ [])
    ∷ (30000, Recover, Begun ∷ condemned 1 (timeout ∷ []) ∷ Frozen ∷ [])
    ∷ (30000, Recover, judged 1 (timeout ∷ []) ∷ recorded 0 true true (timeout ∷ []) false false false false NoChange ∷ action 0 (timeout ∷ []) Reset ∷ Autopsied ∷ [])
    ∷ (30000, Recover, reset_begun (Some 0) 1 40000 ∷ [])
    ∷ (30000, Tick 10000, now 40000 ∷ [])
    ∷ (40000, Recover, ResetLate (Some 0) ∷ [])
    ∷ (40000, Recover, reset_begun (Some 0) 2 50000 ∷ [])
    ∷ (40000, Tick 10000, now 50000 ∷ [])
    ∷ (50000, Recover, ResetLate (Some 0) ∷ [])
    ∷ (50000, Recover, reset_begun (Some 0) 3 85000 ∷ [])
    ∷ (50000, Tick 35000, now 85000 ∷ [])
    ∷ (85000, Recover, ResetLate (Some 0) ∷ [])
    ∷ (85000, Recover, reset_begun (Some 0) 4 90000 ∷ [])
    ∷ (85000, Tick 5000, now 90000 ∷ [])
    ∷ (90000, Recover, ResetLate (Some 0) ∷ ResetFailed (Some 0) ∷ Disabled 0 ∷ [])
    ∷ (90000, Recover, answered_nodev 1 1 ∷ Ended ∷ [])
    ∷ (90000, Submit 2 0 (Read 0 1) 5 30000, Refused 2 NoDevice ∷ [])
    ∷ []
