use Rattle.std.specs.Prelude.{List, [], ◌∷◌, codes}
use Rattle.ata_base.specs.declared.op.Op.TheVariants.{Write}
use Rattle.ata_trace.specs.declared.act.Act.TheVariants.{Accepted, Raised, Nothing}
use Rattle.ata_trace.specs.declared.step.Step.TheVariants.{Submit, Kick, Work, Irq, Stray}
use Rattle.port_worked.specs.Acts.{issued, done, answered_ok}
use Rattle.port_worked.specs.Rows.{Row}

-- an interrupt without cause answers nothing and lowers the line; one that comes while the line is up changes nothing
abbrev pub stray_interrupt_rows : List Row
stray_interrupt_rows =
    (0, Submit 1 0 (Write 0 8 7) 5 30000, Accepted 1 ∷ [])
    ∷ (0, Kick 0, issued 1 1 0 30000 (codes "2780610800000040000000000000000000000000") ∷ [])
    ∷ (0, Stray 0, Raised ∷ [])
    ∷ (0, Irq, Nothing ∷ [])
    ∷ (0, Stray 5, Raised ∷ [])
    ∷ (0, Work 0 0, done 1 0x40 0 0 0 ∷ [])
    ∷ (0, Stray 0, Nothing ∷ [])
    ∷ (0, Irq, answered_ok 1 1 0x40 0 0 0 [] ∷ [])
    ∷ (0, Irq, Nothing ∷ [])
    ∷ []
