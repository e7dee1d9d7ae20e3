use Rattle.std.specs.Prelude.{List, [], ◌∷◌, codes}
use Rattle.ata_base.specs.declared.op.Op.TheVariants.{Read, Write}
use Rattle.ata_trace.specs.declared.act.Act.TheVariants.{Accepted, Raised}
use Rattle.ata_trace.specs.declared.step.Step.TheVariants.{Submit, Kick, Work, Irq}
use Rattle.port_worked.specs.Acts.{issued, done, answered_ok}
use Rattle.port_worked.specs.Rows.{Row}

-- five writes are in flight; whatever the order in which the drive ends them, an interrupt answers in
-- tag order; a read that takes a freed tag finds the stamps of the writes that ended before it
abbrev pub answers_in_tag_order_rows : List Row
answers_in_tag_order_rows =
    (0, Submit 1 0 (Write 1 1 101) 5 30000, Accepted 1 ∷ [])
    ∷ (0, Submit 2 0 (Write 2 1 102) 5 30000, Accepted 2 ∷ [])
    ∷ (0, Submit 3 0 (Write 3 1 103) 5 30000, Accepted 3 ∷ [])
    ∷ (0, Submit 4 0 (Write 4 1 104) 5 30000, Accepted 4 ∷ [])
    ∷ (0, Submit 5 0 (Write 5 1 105) 5 30000, Accepted 5 ∷ [])
    ∷ (0, Kick 0, issued 1 1 0 30000 (codes "2780610101000040000000000000000000000000") ∷ [])
    ∷ (0, Kick 0, issued 2 2 1 30000 (codes "2780610102000040000000000800000000000000") ∷ [])
    ∷ (0, Kick 0, issued 3 3 2 30000 (codes "2780610103000040000000001000000000000000") ∷ [])
    ∷ (0, Kick 0, issued 4 4 3 30000 (codes "2780610104000040000000001800000000000000") ∷ [])
    ∷ (0, Kick 0, issued 5 5 4 30000 (codes "2780610105000040000000002000000000000000") ∷ [])
    ∷ (0, Work 0 4, done 5 0x40 0 0 0 ∷ Raised ∷ [])
    ∷ (0, Work 0 0, done 1 0x40 0 0 0 ∷ [])
    ∷ (0, Irq, answered_ok 1 1 0x40 0 0 0 [] ∷ answered_ok 5 5 0x40 0 0 0 [] ∷ [])
    ∷ (0, Submit 6 0 (Read 1 5) 5 30000, Accepted 6 ∷ [])
    ∷ (0, Kick 0, issued 6 6 0 30000 (codes "2780600501000040000000000000000000000000") ∷ [])
    ∷ (0, Work 0 1, done 3 0x40 0 0 0 ∷ Raised ∷ [])
    ∷ (0, Work 0 2, done 6 0x40 0 0 0 ∷ [])
    ∷ (0, Work 0 0, done 2 0x40 0 0 0 ∷ [])
    ∷ (
      0,
      Irq,
      answered_ok 6 6 0x40 0 0 0 (101 ∷ 0 ∷ 103 ∷ 0 ∷ 105 ∷ [])
          ∷ answered_ok 2 2 0x40 0 0 0 []
          ∷ answered_ok 3 3 0x40 0 0 0 []
          ∷ [],
    )
    ∷ (0, Work 0 0, done 4 0x40 0 0 0 ∷ Raised ∷ [])
    ∷ (0, Irq, answered_ok 4 4 0x40 0 0 0 [] ∷ [])
    ∷ []
