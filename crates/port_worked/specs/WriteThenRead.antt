use Rattle.std.specs.Prelude.{List, [], ◌∷◌, codes}
use Rattle.ata_base.specs.declared.op.Op.TheVariants.{Read, Write}
use Rattle.ata_trace.specs.declared.act.Act.TheVariants.{Accepted, Raised}
use Rattle.ata_trace.specs.declared.step.Step.TheVariants.{Submit, Kick, Work, Irq}
use Rattle.port_worked.specs.Acts.{issued, done, answered_ok}
use Rattle.port_worked.specs.Rows.{Row}

-- a write gives eight sectors the stamp 7, and a read of them finds it
abbrev pub write_then_read_rows : List Row
write_then_read_rows =
    (0, Submit 1 0 (Write 0 8 7) 5 30000, Accepted 1 ∷ [])
    ∷ (0, Kick 0, issued 1 1 0 30000 (codes "2780350000000040000000000800000000000000") ∷ [])
    ∷ (0, Work 0 0, done 1 0x40 0 0 0 ∷ Raised ∷ [])
    ∷ (0, Irq, answered_ok 1 1 0x40 0 0 0 [] ∷ [])
    ∷ (0, Submit 2 0 (Read 0 8) 5 30000, Accepted 2 ∷ [])
    ∷ (0, Kick 0, issued 2 2 0 30000 (codes "2780250000000040000000000800000000000000") ∷ [])
    ∷ (0, Work 0 0, done 2 0x40 0 0 0 ∷ Raised ∷ [])
    ∷ (0, Irq, answered_ok 2 2 0x40 0 0 0 (7 ∷ 7 ∷ 7 ∷ 7 ∷ 7 ∷ 7 ∷ 7 ∷ 7 ∷ []) ∷ [])
    ∷ []
