use Rattle.std.specs.Prelude.{List, [], ◌∷◌, Some, None, true, false, codes}
use Rattle.ata_base.specs.Kinds.{timeout}
use Rattle.ata_base.specs.declared.link_action.LinkAction.TheVariants.{Reset}
use Rattle.ata_base.specs.declared.op.Op.TheVariants.{Read}
use Rattle.ata_base.specs.declared.speed_action.SpeedAction.TheVariants.{NoChange}
use Rattle.ata_trace.specs.declared.act.Act.TheVariants.{Accepted, Raised, Frozen, Thawed, Requested, Begun, Autopsied, Ended, Hot, ResetEndedGen, ResetEndedHost, Identified, Same, Attached, Mode, Plugged}
use Rattle.ata_trace.specs.declared.step.Step.TheVariants.{Submit, Kick, Irq, Tick, Recover, Plug}
use Rattle.port_worked.specs.Acts.{issued, condemned, judged, recorded, action, reset_begun, ident_asked, retried, now}
use Rattle.port_worked.specs.Rows.{Row}

-- a drive was plugged at an empty place while another place's command hung: the reset of the host takes that place too
abbrev pub hot_place_after_host_reset_rows : List Row
hot_place_after_host_reset_rows =
    (0, Submit 1 0 (Read 0 1) 5 1000, Accepted 1 ∷ [])
    ∷ (0, Kick 0, issued 1 1 0 1000 (codes "2780600100000040000000000000000000000000") ∷ [])
    ∷ (0, Plug 1 1, Plugged 1 1 ∷ Raised ∷ [])
    ∷ (0, Irq, Requested ∷ [])
    ∷ (0, Tick 1000, now 1000 ∷ [])
    ∷ (1000, Recover, Begun ∷ condemned 1 (timeout ∷ []) ∷ Frozen ∷ [])
    ∷ (1000, Recover, judged 1 (timeout ∷ []) ∷ recorded 0 true true (timeout ∷ []) false false false false NoChange ∷ action 0 (timeout ∷ []) Reset ∷ Hot 1 3 ∷ action 1 [] Reset ∷ Autopsied ∷ [])
    ∷ (1000, Recover, reset_begun None 1 11000 ∷ [])
    ∷ (1000, Recover, ResetEndedHost ∷ Thawed ∷ [])
    ∷ (1000, Recover, reset_begun (Some 0) 1 11000 ∷ [])
    ∷ (1000, Recover, ResetEndedGen 0 3 ∷ [])
    ∷ (1000, Recover, ident_asked 0 1 6000 ∷ [])
    ∷ (1000, Recover, Identified 0 (codes "ALPHA") (codes "S1") 4096 32 ∷ Same 0 ∷ Mode 0 6 true true ∷ [])
    ∷ (1000, Recover, reset_begun (Some 1) 1 11000 ∷ [])
    ∷ (1000, Recover, ResetEndedGen 1 3 ∷ [])
    ∷ (1000, Recover, ident_asked 1 1 6000 ∷ [])
    ∷ (1000, Recover, Identified 1 (codes "ALPHA") (codes "S2") 4096 32 ∷ Attached 1 ∷ Mode 1 6 true true ∷ [])
    ∷ (1000, Recover, retried 1 1 false ∷ Ended ∷ [])
    ∷ []
