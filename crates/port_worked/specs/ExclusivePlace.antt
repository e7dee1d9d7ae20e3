use Rattle.std.specs.Prelude.{List, [], ◌∷◌, codes}
use Rattle.ata_base.specs.declared.deferral.Deferral.TheVariants as why
use Rattle.ata_base.specs.declared.op.Op.TheVariants.{Read}
use Rattle.ata_trace.specs.declared.act.Act.TheVariants.{Accepted, Deferred, Exclusive, Raised}
use Rattle.ata_trace.specs.declared.step.Step.TheVariants.{Submit, Kick, Work, Irq}
use Rattle.port_worked.specs.Acts.{issued, done, answered_ok}
use Rattle.port_worked.specs.Rows.{Row}

-- two places of a multiplier take turns: the one that had to wait alone may issue next
abbrev pub exclusive_place_rows : List Row
exclusive_place_rows =
    (0, Submit 1 0 (Read 0 1) 5 30000, Accepted 1 ∷ [])
    ∷ (0, Submit 2 1 (Read 0 1) 5 30000, Accepted 2 ∷ [])
    ∷ (0, Submit 3 0 (Read 0 1) 5 30000, Accepted 3 ∷ [])
    ∷ (0, Kick 0, issued 1 1 0 30000 (codes "2780600100000040000000000000000000000000") ∷ [])
    ∷ (0, Kick 1, Deferred 2 why.PortBusy ∷ Exclusive 1 ∷ [])
    ∷ (0, Kick 0, Deferred 3 why.PortBusy ∷ [])
    ∷ (0, Work 0 0, done 1 0x40 0x00 0 0 ∷ Raised ∷ [])
    ∷ (0, Irq, answered_ok 1 1 0x40 0x00 0 0 (0 ∷ []) ∷ [])
    ∷ (0, Kick 0, Deferred 3 why.PortBusy ∷ [])
    ∷ (0, Kick 1, issued 2 2 0 30000 (codes "2781600100000040000000000000000000000000") ∷ [])
    ∷ (0, Work 1 0, done 2 0x40 0x00 0 0 ∷ Raised ∷ [])
    ∷ (0, Irq, answered_ok 2 2 0x40 0x00 0 0 (0 ∷ []) ∷ [])
    ∷ (0, Kick 0, issued 3 3 0 30000 (codes "2780600100000040000000000000000000000000") ∷ [])
    ∷ []
