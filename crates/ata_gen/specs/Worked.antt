-- Lines of generated scripts, worked by hand.
use Rattle.std.specs.Prelude.{ℕ, List, [], ◌∷◌}
use Rattle.ata_base.specs.declared.fault.Fault.TheVariants.{Icrc, Media}
use Rattle.ata_base.specs.declared.op.Op.{Op}
use Rattle.ata_base.specs.declared.op.Op.TheVariants.{Read, Write, Flush}
use Rattle.ata_trace.specs.declared.step.Step.{Step}
use Rattle.ata_trace.specs.declared.step.Step.TheVariants.{Submit, Kick, Work, Irq, Drop, Recover, Inject}

-- the lines of a script of 1: its draw is 16838, which is even
abbrev pub first_lines : List (ℕ × ℕ × Step)
first_lines =
    (0, 0, Submit 1 0 (Read 33676 7) 5 30000) ∷ (0, 0, Kick 0) ∷ (0, 0, Work 0 0) ∷ (2, 0, Irq) ∷ (3, 0, Recover) ∷ []

-- each fiftieth has a bad frame
abbrev pub fiftieth_lines : List (ℕ × ℕ × Step)
fiftieth_lines =
    (1, 0, Inject 0 (Icrc 1)) ∷ (0, 0, Submit 50 0 (Read 33676 7) 5 30000) ∷ (0, 0, Kick 0) ∷ (0, 0, Work 0 0) ∷ (2, 0, Irq) ∷ (3, 0, Recover) ∷ []

-- each seventieth a bad sector, here at the multiplier
abbrev pub seventieth_lines : List (ℕ × ℕ × Step)
seventieth_lines =
    (1, 1, Inject 1 (Media 33678)) ∷ (0, 1, Submit 70 1 (Read 33678 8) 5 30000) ∷ (0, 1, Kick 1) ∷ (0, 1, Work 1 0) ∷ (2, 1, Irq) ∷ (3, 1, Recover) ∷ []

-- each three hundred and fiftieth has both, the bad frame first; each hundredth a lost interrupt
abbrev pub hundredth_lines : List (ℕ × ℕ × Step)
hundredth_lines =
    (1, 0, Inject 0 (Icrc 1)) ∷ (0, 0, Submit 100 0 (Read 33676 7) 5 30000) ∷ (0, 0, Kick 0) ∷ (0, 0, Work 0 0) ∷ (2, 0, Drop) ∷ (3, 0, Recover) ∷ []

abbrev pub both_lines : List (ℕ × ℕ × Step)
both_lines =
    (1, 0, Inject 0 (Icrc 1)) ∷ (1, 0, Inject 0 (Media 33676)) ∷ (0, 0, Submit 350 0 (Read 33676 7) 5 30000) ∷ (0, 0, Kick 0) ∷ (0, 0, Work 0 0)
    ∷ (2, 0, Irq) ∷ (3, 0, Recover) ∷ []

-- of eight draws the fifth writes its number as the stamp, and the last flushes
abbrev pub fifth_op : Op
fifth_op = Write 33740 7 9

abbrev pub last_op : Op
last_op = Flush
