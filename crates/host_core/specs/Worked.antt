-- A small script, worked by hand.
use Rattle.std.specs.Prelude.{ℕ, List, [], ◌∷◌}
use Rattle.ata_trace.specs.declared.step.Step.{Step}
use Rattle.ata_trace.specs.declared.step.Step.TheVariants.{Kick, Irq}
use Rattle.ata_trace.specs.declared.who.Who.TheVariants.{Actor}
use Rattle.port_rules.specs.Run.{StepCall}

-- steps of two actors at two ports
abbrev pub mixed_steps : List (ℕ × ℕ × Step)
mixed_steps = (1, 1, Kick 0) ∷ (0, 0, Irq) ∷ (0, 1, Irq) ∷ (1, 1, Irq) ∷ (1, 0, Kick 3) ∷ (0, 1, Kick 0) ∷ []

-- a step with its actor and number
abbrev pub asked : ℕ → ℕ → Step → StepCall
asked actor seq step = record { who = Actor actor; seq = seq; step = step }

-- what is asked of port 0, of port 1
abbrev pub of_port_0 : List StepCall
of_port_0 = asked 0 0 Irq ∷ asked 1 0 (Kick 3) ∷ []

abbrev pub of_port_1 : List StepCall
of_port_1 = asked 1 0 (Kick 0) ∷ asked 0 0 Irq ∷ asked 1 1 Irq ∷ asked 0 1 (Kick 0) ∷ []
