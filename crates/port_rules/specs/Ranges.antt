use Rattle.ata_trace.specs.Ranges.{IsStep}
use Rattle.ata_trace.specs.ScriptRanges.{IsScriptOp, IsScriptFault}
use Rattle.ata_trace.specs.declared.step.Step.{Step}
use Rattle.ata_trace.specs.declared.step.Step.TheVariants.{Submit, Inject}

-- a step that a script can have: each of its numbers is in the range that a script has for it, so a place is below 15, a
-- command waits for 1 to 1,000,000 ms, and time passes by at most 1,000,000 ms
abbrev pub IsScriptStep : Step → Type 0
IsScriptStep (Submit id place op allow wait) = IsStep (Submit id place op allow wait) × IsScriptOp op
IsScriptStep (Inject place fault) = IsStep (Inject place fault) × IsScriptFault fault
IsScriptStep step = IsStep step
