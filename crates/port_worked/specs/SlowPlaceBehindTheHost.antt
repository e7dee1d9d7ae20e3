use Rattle.std.specs.Prelude.{List, [], ◌∷◌, Some, None, true, false, codes}
use Rattle.ata_base.specs.Kinds.{timeout}
use Rattle.ata_base.specs.declared.deferral.Deferral.TheVariants.{PortBusy}
use Rattle.ata_base.specs.declared.fault.Fault.TheVariants.{Hang}
use Rattle.ata_base.specs.declared.link_action.LinkAction.TheVariants.{Reset}
use Rattle.ata_base.specs.declared.op.Op.TheVariants.{Read, Write}
use Rattle.ata_base.specs.declared.speed_action.SpeedAction.TheVariants.{NoChange}
use Rattle.ata_trace.specs.declared.act.Act.TheVariants.{Accepted, Deferred, Exclusive, Raised, Frozen, Thawed, Requested, Begun, Autopsied, Ended, ResetLate, ResetEndedGen, ResetEndedHost, Identified, Same, Mode, Injected}
use Rattle.ata_trace.specs.declared.step.Step.TheVariants.{Submit, Kick, Work, Irq, Tick, Expire, Recover, Inject}
use Rattle.port_worked.specs.Acts.{issued, done, answered_ok, expired, condemned, judged, recorded, action, reset_begun, ident_asked, retried, now}
use Rattle.port_worked.specs.Rows.{Row}

-- a hang on a multiplier: the host is reset, then each place in order, and the second waits for the slow first
abbrev pub slow_place_behind_the_host_rows : List Row
slow_place_behind_the_host_rows =
    (0, Inject 0 (Hang 1), Injected 0 ∷ [])
    ∷ (0, Submit 1 0 (Write 0 8 3) 5 30000, Accepted 1 ∷ [])
    ∷ (0, Submit 2 1 (Read 0 1) 5 30000, Accepted 2 ∷ [])
    ∷ (0, Kick 0, issued 1 1 0 30000 (codes "2780610800000040000000000000000000000000") ∷ [])
    ∷ (0, Kick 1, Deferred 2 PortBusy ∷ Exclusive 1 ∷ [])
    ∷ (0, Tick 30000, now 30000 ∷ [])
    ∷ (30000, Expire, expired 1 1 ∷ Requested ∷ [])
    ∷ (30000, Recover, Begun ∷ condemned 1 (timeout ∷ []) ∷ Frozen ∷ [])
    ∷ (30000, Recover, judged 1 (timeout ∷ []) ∷ recorded 0 true true (timeout ∷ []) false false false false NoChange ∷ action 0 (timeout ∷ []) Reset ∷ Autopsied ∷ [])
    ∷ (30000, Recover, reset_begun None 1 40000 ∷ [])
    ∷ (30000, Recover, ResetEndedHost ∷ Thawed ∷ [])
    ∷ (30000, Recover, reset_begun (Some 0) 1 40000 ∷ [])
    ∷ (30000, Tick 10000, now 40000 ∷ [])
    ∷ (40000, Recover, ResetLate (Some 0) ∷ [])
    ∷ (40000, Recover, reset_begun (Some 0) 2 50000 ∷ [])
    ∷ (40000, Tick 10000, now 50000 ∷ [])
    ∷ (50000, Recover, ResetLate (Some 0) ∷ [])
    ∷ (50000, Recover, reset_begun (Some 0) 3 85000 ∷ [])
    ∷ (50000, Tick 12000, now 62000 ∷ [])
    ∷ (62000, Recover, ResetEndedGen 0 2 ∷ [])
    ∷ (62000, Recover, ident_asked 0 1 67000 ∷ [])
    ∷ (62000, Recover, Identified 0 (codes "DISK-B") (codes "B1") 65536 32 ∷ Same 0 ∷ Mode 0 6 true true ∷ [])
    ∷ (62000, Recover, reset_begun (Some 1) 1 72000 ∷ [])
    ∷ (62000, Recover, ResetEndedGen 1 1 ∷ [])
    ∷ (62000, Recover, ident_asked 1 1 67000 ∷ [])
    ∷ (62000, Recover, Identified 1 (codes "DISK-C") (codes "C1") 65536 0 ∷ Same 1 ∷ Mode 1 6 false true ∷ [])
    ∷ (62000, Recover, retried 1 1 false ∷ Ended ∷ [])
    ∷ (62000, Kick 0, issued 1 2 0 92000 (codes "2780610800000040000000000000000000000000") ∷ [])
    ∷ (62000, Kick 1, Deferred 2 PortBusy ∷ Exclusive 1 ∷ [])
    ∷ (62000, Work 0 0, done 2 0x40 0x00 0 0 ∷ Raised ∷ [])
    ∷ (62000, Irq, answered_ok 1 2 0x40 0x00 0 0 [] ∷ [])
    ∷ (62000, Kick 1, issued 2 3 0 92000 (codes "2781250000000040000000000100000000000000") ∷ [])
    ∷ (62000, Work 1 0, done 3 0x40 0x00 0 0 ∷ Raised ∷ [])
    ∷ (62000, Irq, answered_ok 2 3 0x40 0x00 0 0 (0 ∷ []) ∷ [])
    ∷ []
