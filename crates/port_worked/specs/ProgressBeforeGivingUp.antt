use Rattle.std.specs.Prelude.{List, [], ◌∷◌, codes}
use Rattle.ata_base.specs.declared.fault.Fault.TheVariants.{Hang}
use Rattle.ata_base.specs.declared.op.Op.TheVariants.{Read}
use Rattle.ata_trace.specs.declared.act.Act.TheVariants.{Accepted, Raised, Drained, Requested, Injected, Nothing}
use Rattle.ata_trace.specs.declared.step.Step.TheVariants.{Submit, Kick, Work, Irq, Tick, Expire, Inject}
use Rattle.port_worked.specs.Acts.{issued, done, answered_ok, expired, now}
use Rattle.port_worked.specs.Rows.{Row}

-- an answer in between begins the 3,000 ms anew
abbrev pub progress_before_giving_up_rows : List Row
progress_before_giving_up_rows =
    (0, Inject 0 (Hang 1), Injected 0 ∷ [])
    ∷ (0, Submit 1 0 (Read 0 1) 5 1000, Accepted 1 ∷ [])
    ∷ (0, Submit 2 0 (Read 0 1) 5 30000, Accepted 2 ∷ [])
    ∷ (0, Submit 3 0 (Read 0 1) 5 30000, Accepted 3 ∷ [])
    ∷ (0, Kick 0, issued 1 1 0 1000 (codes "2780600100000040000000000000000000000000") ∷ [])
    ∷ (0, Kick 0, issued 2 2 1 30000 (codes "2780600100000040000000000800000000000000") ∷ [])
    ∷ (0, Kick 0, issued 3 3 2 30000 (codes "2780600100000040000000001000000000000000") ∷ [])
    ∷ (0, Tick 1000, now 1000 ∷ [])
    ∷ (1000, Expire, expired 1 1 ∷ Requested ∷ [])
    ∷ (1000, Tick 2000, now 3000 ∷ [])
    ∷ (3000, Work 0 0, done 2 0x40 0x00 0 0 ∷ Raised ∷ [])
    ∷ (3000, Irq, answered_ok 2 2 0x40 0x00 0 0 (0 ∷ []) ∷ [])
    ∷ (3000, Tick 2000, now 5000 ∷ [])
    ∷ (5000, Expire, Nothing ∷ [])
    ∷ (5000, Tick 1000, now 6000 ∷ [])
    ∷ (6000, Expire, Drained ∷ expired 3 3 ∷ [])
    ∷ []
