use Rattle.std.specs.Prelude.{List, [], ◌∷◌, codes}
use Rattle.ata_base.specs.declared.op.Op.TheVariants.{Read}
use Rattle.ata_trace.specs.declared.act.Act.TheVariants.{Accepted, Raised, Requested, Begun, Autopsied, Ended}
use Rattle.ata_trace.specs.declared.step.Step.TheVariants.{Submit, Kick, Work, Irq, Tick, Expire, Recover}
use Rattle.port_worked.specs.Acts.{issued, done, answered_ok, expired, now}
use Rattle.port_worked.specs.Rows.{Row}

-- the time of a command is up, but an interrupt answers it before recovery begins
abbrev pub late_but_done_rows : List Row
late_but_done_rows =
    (0, Submit 1 0 (Read 0 1) 5 30000, Accepted 1 ∷ [])
    ∷ (0, Kick 0, issued 1 1 0 30000 (codes "2780250000000040000000000100000000000000") ∷ [])
    ∷ (0, Tick 30000, now 30000 ∷ [])
    ∷ (30000, Expire, expired 1 1 ∷ Requested ∷ [])
    ∷ (30000, Work 0 0, done 1 0x40 0x00 0 0 ∷ Raised ∷ [])
    ∷ (30000, Irq, answered_ok 1 1 0x40 0x00 0 0 (0 ∷ []) ∷ [])
    ∷ (30000, Recover, Begun ∷ [])
    ∷ (30000, Recover, Autopsied ∷ [])
    ∷ (30000, Recover, Ended ∷ [])
    ∷ []
