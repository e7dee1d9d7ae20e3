use Rattle.std.proofs.Common.{ℕ, ◌<◌, All, take}
use Rattle.ata_trace.specs.declared.step.Step.{Step}
use Rattle.port_threads.proofs.runs.few_actors.Given as goal

abbrev pub invariant-loop-line : goal.invariant-loop-line
invariant-loop-line l = All (λ (line : ℕ × ℕ × Step). line.0 < 32) (take l.line-index l.lines)
