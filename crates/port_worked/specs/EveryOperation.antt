use Rattle.std.specs.Prelude.{List, [], ◌∷◌, codes}
use Rattle.ata_base.specs.declared.op.Op.TheVariants.{Read, Write, Verify, Flush, Power}
use Rattle.ata_trace.specs.declared.act.Act.TheVariants.{Accepted, Refused, Deferred, Raised, Nothing}
use Rattle.ata_base.specs.declared.deferral.Deferral.TheVariants.{LinkBusy}
use Rattle.ata_trace.specs.declared.refusal.Refusal.TheVariants.{SameId, BadCount, BadRange}
use Rattle.ata_trace.specs.declared.step.Step.TheVariants.{Submit, Kick, Work, Irq}
use Rattle.port_worked.specs.Acts.{issued, done, answered_ok}
use Rattle.port_worked.specs.Rows.{Row}

-- a verify, a power and a flush go alone, a read and a write side by side: the drive ends the write
-- first, so the read finds its stamp; then steps with nothing to do, and refusals of each operation
abbrev pub every_operation_rows : List Row
every_operation_rows =
    (0, Submit 1 0 (Verify 5 3) 5 30000, Accepted 1 ∷ [])
    ∷ (0, Submit 2 0 Power 5 30000, Accepted 2 ∷ [])
    ∷ (0, Submit 3 0 Flush 5 30000, Accepted 3 ∷ [])
    ∷ (0, Submit 4 0 (Read 1 1) 5 30000, Accepted 4 ∷ [])
    ∷ (0, Submit 5 0 (Write 1 1 4) 5 30000, Accepted 5 ∷ [])
    ∷ (0, Kick 0, issued 1 1 0 30000 (codes "2780420005000040000000000300000000000000") ∷ [])
    ∷ (0, Kick 0, Deferred 2 LinkBusy ∷ [])
    ∷ (0, Work 0 5, done 1 0x40 0 0 0 ∷ Raised ∷ [])
    ∷ (0, Irq, answered_ok 1 1 0x40 0 0 0 [] ∷ [])
    ∷ (0, Kick 0, issued 2 2 0 30000 (codes "2780e50000000040000000000000000000000000") ∷ [])
    ∷ (0, Kick 0, Deferred 3 LinkBusy ∷ [])
    ∷ (0, Work 0 5, done 2 0x40 0 0 255 ∷ Raised ∷ [])
    ∷ (0, Irq, answered_ok 2 2 0x40 0 0 255 [] ∷ [])
    ∷ (0, Kick 0, issued 3 3 0 30000 (codes "2780ea0000000040000000000000000000000000") ∷ [])
    ∷ (0, Kick 0, Deferred 4 LinkBusy ∷ [])
    ∷ (0, Work 0 5, done 3 0x40 0 0 0 ∷ Raised ∷ [])
    ∷ (0, Irq, answered_ok 3 3 0x40 0 0 0 [] ∷ [])
    ∷ (0, Kick 0, issued 4 4 0 30000 (codes "2780600101000040000000000000000000000000") ∷ [])
    ∷ (0, Kick 0, issued 5 5 1 30000 (codes "2780610101000040000000000800000000000000") ∷ [])
    ∷ (0, Work 0 5, done 5 0x40 0 0 0 ∷ Raised ∷ [])
    ∷ (0, Irq, answered_ok 5 5 0x40 0 0 0 [] ∷ [])
    ∷ (0, Kick 0, Nothing ∷ [])
    ∷ (0, Kick 0, Nothing ∷ [])
    ∷ (0, Work 0 5, done 4 0x40 0 0 0 ∷ Raised ∷ [])
    ∷ (0, Irq, answered_ok 4 4 0x40 0 0 0 (4 ∷ []) ∷ [])
    ∷ (0, Kick 0, Nothing ∷ [])
    ∷ (0, Work 0 0, Nothing ∷ [])
    ∷ (0, Irq, Nothing ∷ [])
    ∷ (0, Submit 6 0 (Verify 0 0) 5 30000, Refused 6 BadCount ∷ [])
    ∷ (0, Submit 6 0 (Verify 4095 2) 5 30000, Refused 6 BadRange ∷ [])
    ∷ (0, Submit 6 0 Power 5 30000, Accepted 6 ∷ [])
    ∷ (0, Submit 6 0 Flush 5 30000, Refused 6 SameId ∷ [])
    ∷ (0, Kick 0, issued 6 6 0 30000 (codes "2780e50000000040000000000000000000000000") ∷ [])
    ∷ (0, Work 0 0, done 6 0x40 0 0 255 ∷ Raised ∷ [])
    ∷ (0, Irq, answered_ok 6 6 0x40 0 0 255 [] ∷ [])
    ∷ []
