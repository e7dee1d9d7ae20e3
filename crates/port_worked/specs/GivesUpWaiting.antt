use Rattle.std.specs.Prelude.{List, [], ◌∷◌, codes}
use Rattle.ata_base.specs.Kinds.{timeout}
use Rattle.ata_base.specs.declared.fault.Fault.TheVariants.{Hang}
use Rattle.ata_base.specs.declared.op.Op.TheVariants.{Read}
use Rattle.ata_trace.specs.declared.act.Act.TheVariants.{Accepted, Drained, Frozen, Requested, Begun, WaitingTag, Injected, Nothing}
use Rattle.ata_trace.specs.declared.step.Step.TheVariants.{Submit, Kick, Tick, Expire, Recover, Inject}
use Rattle.port_worked.specs.Acts.{issued, expired, condemned, now}
use Rattle.port_worked.specs.Rows.{Row}

-- a port with fast drain gives up 3,000 ms after recovery was asked for
abbrev pub gives_up_waiting_rows : List Row
gives_up_waiting_rows =
    (0, Inject 0 (Hang 2), Injected 0 ∷ [])
    ∷ (0, Submit 1 0 (Read 0 1) 5 1000, Accepted 1 ∷ [])
    ∷ (0, Submit 2 0 (Read 0 1) 5 30000, Accepted 2 ∷ [])
    ∷ (0, Kick 0, issued 1 1 0 1000 (codes "2780600100000040000000000000000000000000") ∷ [])
    ∷ (0, Kick 0, issued 2 2 1 30000 (codes "2780600100000040000000000800000000000000") ∷ [])
    ∷ (0, Tick 1000, now 1000 ∷ [])
    ∷ (1000, Expire, expired 1 1 ∷ Requested ∷ [])
    ∷ (1000, Recover, WaitingTag 1 ∷ [])
    ∷ (1000, Tick 2999, now 3999 ∷ [])
    ∷ (3999, Expire, Nothing ∷ [])
    ∷ (3999, Tick 1, now 4000 ∷ [])
    ∷ (4000, Expire, Drained ∷ expired 2 2 ∷ [])
    ∷ (4000, Recover, Begun ∷ condemned 1 (timeout ∷ []) ∷ condemned 2 (timeout ∷ []) ∷ Frozen ∷ [])
    ∷ []
