use Rattle.std.specs.Prelude.{List, [], ◌∷◌, codes}
use Rattle.ata_base.specs.Kinds.{dev, media, ncq}
use Rattle.ata_base.specs.declared.fault.Fault.TheVariants.{Media}
use Rattle.ata_base.specs.declared.link_action.LinkAction.TheVariants.{Revalidate}
use Rattle.ata_base.specs.declared.op.Op.TheVariants.{Read}
use Rattle.ata_trace.specs.declared.act.Act.TheVariants.{Accepted, Raised, Requested, Begun, Autopsied, Log, WaitingTag, Injected}
use Rattle.ata_trace.specs.declared.step.Step.TheVariants.{Submit, Kick, Work, Irq, Recover, Inject}
use Rattle.port_worked.specs.Acts.{issued, done, aborted, answered_ok, condemned, judged, action}
use Rattle.port_worked.specs.Rows.{Row}

-- with FIS-based switching two places are in flight; an error at one of them leaves the other's command alone
abbrev pub two_places_in_flight_rows : List Row
two_places_in_flight_rows =
    (0, Submit 1 0 (Read 0 1) 5 30000, Accepted 1 ∷ [])
    ∷ (0, Submit 2 1 (Read 0 1) 5 30000, Accepted 2 ∷ [])
    ∷ (0, Submit 3 0 (Read 0 1) 5 30000, Accepted 3 ∷ [])
    ∷ (0, Kick 0, issued 1 1 0 30000 (codes "2780600100000040000000000000000000000000") ∷ [])
    ∷ (0, Kick 1, issued 2 2 1 30000 (codes "2781600100000040000000000800000000000000") ∷ [])
    ∷ (0, Kick 0, issued 3 3 2 30000 (codes "2780600100000040000000001000000000000000") ∷ [])
    ∷ (0, Inject 0 (Media 0), Injected 0 ∷ [])
    ∷ (0, Work 0 0, done 1 0x41 0x40 0 0 ∷ Raised ∷ [])
    ∷ (0, Irq, condemned 1 [] ∷ condemned 3 [] ∷ Requested ∷ [])
    ∷ (0, Recover, WaitingTag 1 ∷ [])
    ∷ (0, Work 1 0, done 2 0x40 0x00 0 0 ∷ Raised ∷ [])
    ∷ (0, Irq, answered_ok 2 2 0x40 0x00 0 0 (0 ∷ []) ∷ [])
    ∷ (0, Recover, Begun ∷ [])
    ∷ (0, Recover, Log 0 0 0x41 0x40 0 0 ∷ aborted 3 ∷ [])
    ∷ (0, Recover, judged 1 (dev ∷ media ∷ ncq ∷ []) ∷ judged 3 [] ∷ action 0 (dev ∷ media ∷ ncq ∷ []) Revalidate ∷ Autopsied ∷ [])
    ∷ []
