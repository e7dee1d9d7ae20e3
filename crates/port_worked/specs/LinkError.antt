use Rattle.std.specs.Prelude.{List, [], ◌∷◌, Some, true, false, codes}
use Rattle.ata_base.specs.Kinds.{ata_bus}
use Rattle.ata_base.specs.declared.fault.Fault.TheVariants.{Serr}
use Rattle.ata_base.specs.declared.fault.SerrorBit.TheVariants.{Data}
use Rattle.ata_base.specs.declared.link_action.LinkAction.TheVariants.{Reset}
use Rattle.ata_base.specs.declared.op.Op.TheVariants.{Read}
use Rattle.ata_base.specs.declared.speed_action.SpeedAction.TheVariants.{NoChange}
use Rattle.ata_trace.specs.declared.act.Act.TheVariants.{Accepted, Raised, Frozen, Thawed, Requested, Begun, Autopsied, Ended, ResetEndedGen, Identified, Same, Mode, Injected}
use Rattle.ata_trace.specs.declared.step.Step.TheVariants.{Submit, Kick, Work, Irq, Recover, Inject}
use Rattle.port_worked.specs.Acts.{issued, done, answered_ok, condemned, judged, recorded, action, reset_begun, ident_asked, retried}
use Rattle.port_worked.specs.Rows.{Row}

-- a recovered data error of the link: what flies is condemned, and the port is frozen and reset
abbrev pub link_error_rows : List Row
link_error_rows =
    (0, Submit 1 0 (Read 0 1) 5 30000, Accepted 1 ∷ [])
    ∷ (0, Kick 0, issued 1 1 0 30000 (codes "2780250000000040000000000100000000000000") ∷ [])
    ∷ (0, Inject 0 (Serr Data), Injected 0 ∷ Raised ∷ [])
    ∷ (0, Irq, condemned 1 [] ∷ Frozen ∷ Requested ∷ [])
    ∷ (0, Recover, Begun ∷ [])
    ∷ (0, Recover, judged 1 (ata_bus ∷ []) ∷ recorded 0 true true (ata_bus ∷ []) false false false false NoChange ∷ action 0 (ata_bus ∷ []) Reset ∷ Autopsied ∷ [])
    ∷ (0, Recover, reset_begun (Some 0) 1 10000 ∷ [])
    ∷ (0, Recover, ResetEndedGen 0 3 ∷ Thawed ∷ [])
    ∷ (0, Recover, ident_asked 0 1 5000 ∷ [])
    ∷ (0, Recover, Identified 0 (codes "ALPHA") (codes "S1") 4096 0 ∷ Same 0 ∷ Mode 0 6 false true ∷ [])
    ∷ (0, Recover, retried 1 1 false ∷ Ended ∷ [])
    ∷ (0, Kick 0, issued 1 2 0 30000 (codes "2780250000000040000000000100000000000000") ∷ [])
    ∷ (0, Work 0 0, done 2 0x40 0x00 0 0 ∷ Raised ∷ [])
    ∷ (0, Irq, answered_ok 1 2 0x40 0x00 0 0 (0 ∷ []) ∷ [])
    ∷ []
