-- Passes as plain data.
use Rattle.std.specs.Prelude.{ℕ, ◌≤◌, length, List, All, Option, None, Some, IsSome}
use Rattle.ata_script.specs.declared.port_head.PortHead.{PortHead}
use Rattle.ata_trace.specs.declared.step.Step.{Step}
use Rattle.port_core.specs.PortView.{PortView}
use Rattle.port_threads.specs.Held.{Held, nothing}
use Rattle.turnstile.specs.Passes.{at, share, seen, own}
use Rattle.turnstile.specs.declared.pass.Pass.{Pass}

-- what a pass has
abbrev pub of_pass : {g : _} → Pass PortView Step (ℕ × PortHead) g → Held
of_pass p = record { at = at p; share = share p; seen = seen p; own = own p }

-- what a pass has, where there is one
abbrev pub held : {g : _} → Option (Pass PortView Step (ℕ × PortHead) g) → Held
held None = nothing
held (Some p) = of_pass p

-- a pass stands at each place
abbrev pub AllThere : {g : _} → List (Option (Pass PortView Step (ℕ × PortHead) g)) → Type 0
AllThere passes = All (λ p. IsSome p) passes

-- a pass for each of at most 8 ports
abbrev pub IsRow : {g : _} → List (Option (Pass PortView Step (ℕ × PortHead) g)) → Type 0
IsRow passes = (length passes ≤ 8) × AllThere passes
