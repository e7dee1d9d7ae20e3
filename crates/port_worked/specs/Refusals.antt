use Rattle.std.specs.Prelude.{List, [], ◌∷◌, codes}
use Rattle.ata_base.specs.declared.op.Op.TheVariants.{Read, Write}
use Rattle.ata_trace.specs.declared.act.Act.TheVariants.{Accepted, Refused, Raised}
use Rattle.ata_trace.specs.declared.refusal.Refusal.TheVariants.{SameId, NoDevice, BadCount, BadRange}
use Rattle.ata_trace.specs.declared.step.Step.TheVariants.{Submit, Kick, Work, Irq}
use Rattle.port_worked.specs.Acts.{issued, done, answered_ok}
use Rattle.port_worked.specs.Rows.{Row}

-- a number is refused again while its command waits, while it is in flight and after its answer; a
-- read is refused where no device is attached, for no and for too many sectors, and past the end;
-- the read of the last sectors is accepted, under the number that was refused before
abbrev pub refusals_rows : List Row
refusals_rows =
    (0, Submit 1 0 (Write 0 8 7) 5 30000, Accepted 1 ∷ [])
    ∷ (0, Submit 1 0 (Read 0 1) 5 30000, Refused 1 SameId ∷ [])
    ∷ (0, Kick 0, issued 1 1 0 30000 (codes "2780350000000040000000000800000000000000") ∷ [])
    ∷ (0, Submit 1 0 (Read 0 1) 5 30000, Refused 1 SameId ∷ [])
    ∷ (0, Work 0 0, done 1 0x40 0 0 0 ∷ Raised ∷ [])
    ∷ (0, Irq, answered_ok 1 1 0x40 0 0 0 [] ∷ [])
    ∷ (0, Submit 1 0 (Read 0 1) 5 30000, Refused 1 SameId ∷ [])
    ∷ (0, Submit 2 1 (Read 0 1) 5 30000, Refused 2 NoDevice ∷ [])
    ∷ (0, Submit 2 0 (Read 0 0) 5 30000, Refused 2 BadCount ∷ [])
    ∷ (0, Submit 2 0 (Read 0 17) 5 30000, Refused 2 BadCount ∷ [])
    ∷ (0, Submit 2 0 (Read 4090 8) 5 30000, Refused 2 BadRange ∷ [])
    ∷ (0, Submit 2 0 (Read 4088 8) 5 30000, Accepted 2 ∷ [])
    ∷ (0, Kick 0, issued 2 2 0 30000 (codes "27802500f80f0040000000000800000000000000") ∷ [])
    ∷ (0, Work 0 31, done 2 0x40 0 0 0 ∷ Raised ∷ [])
    ∷ (0, Irq, answered_ok 2 2 0x40 0 0 0 (0 ∷ 0 ∷ 0 ∷ 0 ∷ 0 ∷ 0 ∷ 0 ∷ 0 ∷ []) ∷ [])
    ∷ (0, Submit 2 0 (Write 0 1 9) 5 30000, Refused 2 SameId ∷ [])
    ∷ []
