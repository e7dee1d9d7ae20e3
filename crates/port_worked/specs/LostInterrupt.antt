use Rattle.std.specs.Prelude.{List, [], ◌∷◌, codes}
use Rattle.ata_base.specs.declared.op.Op.TheVariants.{Read}
use Rattle.ata_trace.specs.declared.act.Act.TheVariants.{Accepted, Raised, Lost}
use Rattle.ata_trace.specs.declared.step.Step.TheVariants.{Submit, Kick, Work, Irq, Drop}
use Rattle.port_worked.specs.Acts.{issued, done, answered_ok}
use Rattle.port_worked.specs.Rows.{Row}

-- an interrupt is lost, and the next one answers both commands that the drive has ended
abbrev pub lost_interrupt_rows : List Row
lost_interrupt_rows =
    (0, Submit 1 0 (Read 0 1) 5 30000, Accepted 1 ∷ [])
    ∷ (0, Submit 2 0 (Read 0 1) 5 30000, Accepted 2 ∷ [])
    ∷ (0, Kick 0, issued 1 1 0 30000 (codes "2780600100000040000000000000000000000000") ∷ [])
    ∷ (0, Kick 0, issued 2 2 1 30000 (codes "2780600100000040000000000800000000000000") ∷ [])
    ∷ (0, Work 0 0, done 1 0x40 0x00 0 0 ∷ Raised ∷ [])
    ∷ (0, Drop, Lost ∷ [])
    ∷ (0, Work 0 0, done 2 0x40 0x00 0 0 ∷ Raised ∷ [])
    ∷ (0, Irq, answered_ok 1 1 0x40 0x00 0 0 (0 ∷ []) ∷ answered_ok 2 2 0x40 0x00 0 0 (0 ∷ []) ∷ [])
    ∷ []
