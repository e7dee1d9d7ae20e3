use Rattle.std.specs.Prelude.{length}
use Rattle.ata_script.specs.Drafts.{draft_said}
use Rattle.ata_script.proofs.LinesTaken.{SoFar}
use Rattle.ata_script.proofs.grammar.later_lines.Given as goal

abbrev pub invariant-loop-text : goal.invariant-loop-text
invariant-loop-text l = SoFar l.fn.lines (draft_said l.fn.draft) l.lines l.number (draft_said l.draft)

abbrev pub decreases-loop-text : goal.decreases-loop-text
decreases-loop-text l = length l.lines
