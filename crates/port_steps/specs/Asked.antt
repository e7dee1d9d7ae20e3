use Rattle.std.specs.Prelude.{◌≡◌}
use Rattle.ata_base.specs.declared.op.Op.{Op}
use Rattle.ata_trace.specs.declared.step.Step.{Step}
use Rattle.ata_trace.specs.declared.step.Step.TheVariants.{Submit}

-- a step submits this operation
abbrev pub IsAskedFor : Op → Step → Type 0
IsAskedFor op (Submit id place asked allow wait) = asked ≡ op
IsAskedFor op _ = ⊥
