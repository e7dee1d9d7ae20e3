use Rattle.std.specs.Prelude.{List, [], ◌∷◌, codes}
use Rattle.ata_base.specs.declared.op.Op.TheVariants.{Write, Flush}
use Rattle.ata_trace.specs.declared.act.Act.TheVariants.{Accepted, Deferred, Raised}
use Rattle.ata_base.specs.declared.deferral.Deferral.TheVariants.{LinkBusy}
use Rattle.ata_trace.specs.declared.step.Step.TheVariants.{Submit, Kick, Work, Irq}
use Rattle.port_worked.specs.Acts.{issued, done, answered_ok}
use Rattle.port_worked.specs.Rows.{Row}

-- a flush waits for the write before it, and the write after it waits for the flush
abbrev pub flush_between_queued_writes_rows : List Row
flush_between_queued_writes_rows =
    (0, Submit 1 0 (Write 0 8 7) 5 30000, Accepted 1 ∷ [])
    ∷ (0, Submit 2 0 Flush 5 30000, Accepted 2 ∷ [])
    ∷ (0, Submit 3 0 (Write 8 8 9) 5 30000, Accepted 3 ∷ [])
    ∷ (0, Kick 0, issued 1 1 0 30000 (codes "2780610800000040000000000000000000000000") ∷ [])
    ∷ (0, Kick 0, Deferred 2 LinkBusy ∷ [])
    ∷ (0, Work 0 0, done 1 0x40 0 0 0 ∷ Raised ∷ [])
    ∷ (0, Irq, answered_ok 1 1 0x40 0 0 0 [] ∷ [])
    ∷ (0, Kick 0, issued 2 2 0 30000 (codes "2780ea0000000040000000000000000000000000") ∷ [])
    ∷ (0, Kick 0, Deferred 3 LinkBusy ∷ [])
    ∷ (0, Work 0 0, done 2 0x40 0 0 0 ∷ Raised ∷ [])
    ∷ (0, Irq, answered_ok 2 2 0x40 0 0 0 [] ∷ [])
    ∷ (0, Kick 0, issued 3 3 0 30000 (codes "2780610808000040000000000000000000000000") ∷ [])
    ∷ (0, Work 0 0, done 3 0x40 0 0 0 ∷ Raised ∷ [])
    ∷ (0, Irq, answered_ok 3 3 0x40 0 0 0 [] ∷ [])
    ∷ []
