use Rattle.std.specs.Prelude.{List, [], ◌∷◌, Some, true, false, codes}
use Rattle.ata_base.specs.declared.fault.Fault.TheVariants.{Serr}
use Rattle.ata_base.specs.declared.fault.SerrorBit.TheVariants.{Phy}
use Rattle.ata_base.specs.declared.link_action.LinkAction.TheVariants.{Reset}
use Rattle.ata_trace.specs.declared.act.Act.TheVariants.{Raised, Frozen, Thawed, Requested, Begun, Autopsied, Ended, Hot, ResetEndedGen, Identified, Same, Mode, Injected}
use Rattle.ata_trace.specs.declared.step.Step.TheVariants.{Irq, Recover, Inject}
use Rattle.port_worked.specs.Acts.{action, reset_begun, ident_asked}
use Rattle.port_worked.specs.Rows.{Row}

-- three hotplugs within a minute: the third limits the link to generation 1
abbrev pub three_phy_changes_rows : List Row
three_phy_changes_rows =
    (0, Inject 0 (Serr Phy), Injected 0 ∷ Raised ∷ [])
    ∷ (0, Irq, Frozen ∷ Requested ∷ [])
    ∷ (0, Recover, Begun ∷ [])
    ∷ (0, Recover, Hot 0 3 ∷ action 0 [] Reset ∷ Autopsied ∷ [])
    ∷ (0, Recover, reset_begun (Some 0) 1 10000 ∷ [])
    ∷ (0, Recover, ResetEndedGen 0 3 ∷ Thawed ∷ [])
    ∷ (0, Recover, ident_asked 0 1 5000 ∷ [])
    ∷ (0, Recover, Identified 0 (codes "ALPHA") (codes "S1") 4096 0 ∷ Same 0 ∷ Mode 0 6 false true ∷ [])
    ∷ (0, Recover, Ended ∷ [])
    ∷ (0, Inject 0 (Serr Phy), Injected 0 ∷ Raised ∷ [])
    ∷ (0, Irq, Frozen ∷ Requested ∷ [])
    ∷ (0, Recover, Begun ∷ [])
    ∷ (0, Recover, Hot 0 3 ∷ action 0 [] Reset ∷ Autopsied ∷ [])
    ∷ (0, Recover, reset_begun (Some 0) 1 10000 ∷ [])
    ∷ (0, Recover, ResetEndedGen 0 3 ∷ Thawed ∷ [])
    ∷ (0, Recover, ident_asked 0 1 5000 ∷ [])
    ∷ (0, Recover, Identified 0 (codes "ALPHA") (codes "S1") 4096 0 ∷ Same 0 ∷ Mode 0 6 false true ∷ [])
    ∷ (0, Recover, Ended ∷ [])
    ∷ (0, Inject 0 (Serr Phy), Injected 0 ∷ Raised ∷ [])
    ∷ (0, Irq, Frozen ∷ Requested ∷ [])
    ∷ (0, Recover, Begun ∷ [])
    ∷ (0, Recover, Hot 0 1 ∷ action 0 [] Reset ∷ Autopsied ∷ [])
    ∷ (0, Recover, reset_begun (Some 0) 1 10000 ∷ [])
    ∷ (0, Recover, ResetEndedGen 0 1 ∷ Thawed ∷ [])
    ∷ (0, Recover, ident_asked 0 1 5000 ∷ [])
    ∷ (0, Recover, Identified 0 (codes "ALPHA") (codes "S1") 4096 0 ∷ Same 0 ∷ Mode 0 6 false true ∷ [])
    ∷ (0, Recover, Ended ∷ [])
    ∷ []
