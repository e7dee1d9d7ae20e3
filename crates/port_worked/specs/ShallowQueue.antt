use Rattle.std.specs.Prelude.{List, [], ◌∷◌, codes}
use Rattle.ata_base.specs.declared.op.Op.TheVariants.{Write}
use Rattle.ata_trace.specs.declared.act.Act.TheVariants.{Accepted, Deferred, Raised}
use Rattle.ata_base.specs.declared.deferral.Deferral.TheVariants.{NoTag}
use Rattle.ata_trace.specs.declared.step.Step.TheVariants.{Submit, Kick, Work, Irq}
use Rattle.port_worked.specs.Acts.{issued, done, answered_ok}
use Rattle.port_worked.specs.Rows.{Row}

-- with two tags, the third write waits for one and takes the tag that came free
abbrev pub shallow_queue_rows : List Row
shallow_queue_rows =
    (0, Submit 1 0 (Write 8 8 1) 5 30000, Accepted 1 ∷ [])
    ∷ (0, Submit 2 0 (Write 16 8 2) 5 30000, Accepted 2 ∷ [])
    ∷ (0, Submit 3 0 (Write 24 8 3) 5 30000, Accepted 3 ∷ [])
    ∷ (0, Submit 4 0 (Write 32 8 4) 5 30000, Accepted 4 ∷ [])
    ∷ (0, Kick 0, issued 1 1 0 30000 (codes "2780610808000040000000000000000000000000") ∷ [])
    ∷ (0, Kick 0, issued 2 2 1 30000 (codes "2780610810000040000000000800000000000000") ∷ [])
    ∷ (0, Kick 0, Deferred 3 NoTag ∷ [])
    ∷ (0, Work 0 1, done 2 0x40 0 0 0 ∷ Raised ∷ [])
    ∷ (0, Irq, answered_ok 2 2 0x40 0 0 0 [] ∷ [])
    ∷ (0, Kick 0, issued 3 3 1 30000 (codes "2780610818000040000000000800000000000000") ∷ [])
    ∷ (0, Work 0 1, done 3 0x40 0 0 0 ∷ Raised ∷ [])
    ∷ (0, Work 0 0, done 1 0x40 0 0 0 ∷ [])
    ∷ (0, Irq, answered_ok 1 1 0x40 0 0 0 [] ∷ answered_ok 3 3 0x40 0 0 0 [] ∷ [])
    ∷ (0, Kick 0, issued 4 4 0 30000 (codes "2780610820000040000000000000000000000000") ∷ [])
    ∷ (0, Work 0 0, done 4 0x40 0 0 0 ∷ Raised ∷ [])
    ∷ (0, Irq, answered_ok 4 4 0x40 0 0 0 [] ∷ [])
    ∷ []
