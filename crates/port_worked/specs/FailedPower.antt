use Rattle.std.specs.Prelude.{List, [], ◌∷◌, codes}
use Rattle.ata_base.specs.Kinds.{dev}
use Rattle.ata_base.specs.declared.fault.Fault.TheVariants.{Abort}
use Rattle.ata_base.specs.declared.link_action.LinkAction.TheVariants.{NoAction}
use Rattle.ata_base.specs.declared.op.Op.TheVariants.{Power}
use Rattle.ata_trace.specs.declared.act.Act.TheVariants.{Accepted, Raised, Requested, Begun, Autopsied, Ended, Injected, Nothing}
use Rattle.ata_trace.specs.declared.step.Step.TheVariants.{Submit, Kick, Work, Irq, Recover, Inject}
use Rattle.port_worked.specs.Acts.{issued, done, answered_failed, condemned, judged, action}
use Rattle.port_worked.specs.Rows.{Row}

-- a power command that the drive refuses isn't worth a retry: it fails, and its drive is left alone
abbrev pub failed_power_rows : List Row
failed_power_rows =
    (0, Inject 0 (Abort 1), Injected 0 ∷ [])
    ∷ (0, Submit 1 0 Power 5 30000, Accepted 1 ∷ [])
    ∷ (0, Kick 0, issued 1 1 0 30000 (codes "2780e50000000040000000000000000000000000") ∷ [])
    ∷ (0, Work 0 0, done 1 0x41 0x04 0 0 ∷ Raised ∷ [])
    ∷ (0, Irq, condemned 1 [] ∷ Requested ∷ [])
    ∷ (0, Recover, Begun ∷ [])
    ∷ (0, Recover, judged 1 (dev ∷ []) ∷ action 0 (dev ∷ []) NoAction ∷ Autopsied ∷ [])
    ∷ (0, Recover, answered_failed 1 1 (dev ∷ []) 0x41 0x04 0 0 ∷ Ended ∷ [])
    ∷ (0, Recover, Nothing ∷ [])
    ∷ (0, Recover, Nothing ∷ [])
    ∷ (0, Recover, Nothing ∷ [])
    ∷ []
