use Rattle.std.proofs.Common.{◌≡◌, ◌++◌, drop}
use Rattle.ata_script.specs.ScriptText.{items_text, step_items}
use Rattle.ata_script.proofs.writer.put_steps.Given as goal

abbrev pub invariant-loop-step : goal.invariant-loop-step
invariant-loop-step l = l.text.items ++ items_text (step_items (drop l.step-index l.steps)) ≡ l.fn.text.items ++ items_text (step_items l.steps)
