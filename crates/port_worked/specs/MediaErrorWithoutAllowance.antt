use Rattle.std.specs.Prelude.{List, [], ◌∷◌, true, codes}
use Rattle.ata_base.specs.Kinds.{dev, media, ncq}
use Rattle.ata_base.specs.declared.fault.Fault.TheVariants.{Media}
use Rattle.ata_base.specs.declared.link_action.LinkAction.TheVariants.{Revalidate}
use Rattle.ata_base.specs.declared.op.Op.TheVariants.{Read}
use Rattle.ata_trace.specs.declared.act.Act.TheVariants.{Accepted, Raised, Requested, Begun, Autopsied, Ended, Log, Identified, Same, Mode, Injected}
use Rattle.ata_trace.specs.declared.step.Step.TheVariants.{Submit, Kick, Work, Irq, Recover, Inject}
use Rattle.port_worked.specs.Acts.{issued, done, aborted, answered_ok, answered_failed, condemned, judged, action, ident_asked, retried}
use Rattle.port_worked.specs.Rows.{Row}

-- the commands beside the one that found the bad sector are tried again though their allowances are 0
abbrev pub media_error_without_allowance_rows : List Row
media_error_without_allowance_rows =
    (0, Inject 0 (Media 100), Injected 0 ∷ [])
    ∷ (0, Submit 1 0 (Read 0 8) 0 30000, Accepted 1 ∷ [])
    ∷ (0, Submit 2 0 (Read 96 8) 0 30000, Accepted 2 ∷ [])
    ∷ (0, Submit 3 0 (Read 200 8) 0 30000, Accepted 3 ∷ [])
    ∷ (0, Kick 0, issued 1 1 0 30000 (codes "2780600800000040000000000000000000000000") ∷ [])
    ∷ (0, Kick 0, issued 2 2 1 30000 (codes "2780600860000040000000000800000000000000") ∷ [])
    ∷ (0, Kick 0, issued 3 3 2 30000 (codes "27806008c8000040000000001000000000000000") ∷ [])
    ∷ (0, Work 0 1, done 2 0x41 0x40 100 0 ∷ Raised ∷ [])
    ∷ (0, Irq, condemned 1 [] ∷ condemned 2 [] ∷ condemned 3 [] ∷ Requested ∷ [])
    ∷ (0, Recover, Begun ∷ [])
    ∷ (0, Recover, Log 0 1 0x41 0x40 100 0 ∷ aborted 1 ∷ aborted 3 ∷ [])
    ∷ (0, Recover, judged 1 [] ∷ judged 2 (dev ∷ media ∷ ncq ∷ []) ∷ judged 3 [] ∷ action 0 (dev ∷ media ∷ ncq ∷ []) Revalidate ∷ Autopsied ∷ [])
    ∷ (0, Recover, ident_asked 0 1 5000 ∷ [])
    ∷ (0, Recover, Identified 0 (codes "ALPHA") (codes "S1") 4096 32 ∷ Same 0 ∷ Mode 0 6 true true ∷ [])
    ∷ (0, Recover, retried 1 1 true ∷ answered_failed 2 2 (dev ∷ media ∷ ncq ∷ []) 0x41 0x40 100 0 ∷ retried 3 3 true ∷ Ended ∷ [])
    ∷ (0, Kick 0, issued 1 4 0 30000 (codes "2780600800000040000000000000000000000000") ∷ [])
    ∷ (0, Work 0 0, done 4 0x40 0x00 0 0 ∷ Raised ∷ [])
    ∷ (0, Irq, answered_ok 1 4 0x40 0x00 0 0 (0 ∷ 0 ∷ 0 ∷ 0 ∷ 0 ∷ 0 ∷ 0 ∷ 0 ∷ []) ∷ [])
    ∷ (0, Kick 0, issued 3 5 0 30000 (codes "27806008c8000040000000000000000000000000") ∷ [])
    ∷ (0, Work 0 0, done 5 0x40 0x00 0 0 ∷ Raised ∷ [])
    ∷ (0, Irq, answered_ok 3 5 0x40 0x00 0 0 (0 ∷ 0 ∷ 0 ∷ 0 ∷ 0 ∷ 0 ∷ 0 ∷ 0 ∷ []) ∷ [])
    ∷ []
