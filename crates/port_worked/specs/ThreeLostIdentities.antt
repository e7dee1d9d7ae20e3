use Rattle.std.specs.Prelude.{List, [], ◌∷◌, Some, true, false, codes}
use Rattle.ata_base.specs.Kinds.{dev}
use Rattle.ata_base.specs.declared.fault.Fault.TheVariants.{Abort, IdentFail}
use Rattle.ata_base.specs.declared.link_action.LinkAction.TheVariants.{Revalidate}
use Rattle.ata_base.specs.declared.op.Op.TheVariants.{Read}
use Rattle.ata_base.specs.declared.speed_action.SpeedAction.TheVariants.{NoChange}
use Rattle.ata_trace.specs.declared.act.Act.TheVariants.{Accepted, Raised, Frozen, Thawed, Requested, Begun, Autopsied, Ended, ResetEndedGen, IdentLate, Disabled, Injected}
use Rattle.ata_trace.specs.declared.step.Step.TheVariants.{Submit, Kick, Work, Irq, Tick, Recover, Inject}
use Rattle.port_worked.specs.Acts.{issued, done, answered_nodev, condemned, judged, recorded, action, reset_begun, ident_asked, now}
use Rattle.port_worked.specs.Rows.{Row}

-- a drive that doesn't answer three times is disabled, and its command ends without a device
abbrev pub three_lost_identities_rows : List Row
three_lost_identities_rows =
    (0, Inject 0 (Abort 1), Injected 0 ∷ [])
    ∷ (0, Inject 0 (IdentFail 3), Injected 0 ∷ [])
    ∷ (0, Submit 1 0 (Read 0 1) 5 30000, Accepted 1 ∷ [])
    ∷ (0, Kick 0, issued 1 1 0 30000 (codes "2780250000000040000000000100000000000000") ∷ [])
    ∷ (0, Work 0 0, done 1 0x41 0x04 0 0 ∷ Raised ∷ [])
    ∷ (0, Irq, condemned 1 [] ∷ Requested ∷ [])
    ∷ (0, Recover, Begun ∷ [])
    ∷ (0, Recover, judged 1 (dev ∷ []) ∷ recorded 0 true true (dev ∷ []) false false false false NoChange ∷ action 0 (dev ∷ []) Revalidate ∷ Autopsied ∷ [])
    ∷ (0, Recover, ident_asked 0 1 5000 ∷ [])
    ∷ (0, Tick 5000, now 5000 ∷ [])
    ∷ (5000, Recover, IdentLate 0 ∷ [])
    ∷ (5000, Recover, Frozen ∷ reset_begun (Some 0) 1 15000 ∷ [])
    ∷ (5000, Recover, ResetEndedGen 0 3 ∷ Thawed ∷ [])
    ∷ (5000, Recover, ident_asked 0 2 15000 ∷ [])
    ∷ (5000, Tick 10000, now 15000 ∷ [])
    ∷ (15000, Recover, IdentLate 0 ∷ [])
    ∷ (15000, Recover, Frozen ∷ reset_begun (Some 0) 1 25000 ∷ [])
    ∷ (15000, Recover, ResetEndedGen 0 3 ∷ Thawed ∷ [])
    ∷ (15000, Recover, ident_asked 0 3 45000 ∷ [])
    ∷ (15000, Tick 30000, now 45000 ∷ [])
    ∷ (45000, Recover, IdentLate 0 ∷ Disabled 0 ∷ [])
    ∷ (45000, Recover, answered_nodev 1 1 ∷ Ended ∷ [])
    ∷ []
