use Rattle.ata_script.specs.Drafts.{draft_said}
use Rattle.ata_script.proofs.LinesTaken.{line_on}
use Rattle.ata_script.proofs.grammar.later_lines.Goals as goal

pub loop-text-preserved : goal.loop-text-preserved
loop-text-preserved c =
    line_on {A = Unit {0}} c.args.lines.now (draft_said c.args.draft) c.loop-text.lines c.next.new.self c.loop-text.number
    (draft_said c.loop-text.draft) (draft_said c.later_line.new.draft) (record { text = c.in-Some.text.now; ended = c.in-Some.ended }) tt
    c.loop-text.invariant c.in-Some.ensures c.in-Ok.ensures
