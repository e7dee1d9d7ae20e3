use Rattle.std.proofs.Common.{arith, ◌∙◌, sym, ap, length}
use Rattle.ata_script.specs.Drafts.{draft_said}
use Rattle.ata_script.specs.Grammar.{Line, lines_size}
use Rattle.ata_script.specs.OfText.{Says, all_said}
use Rattle.ata_script.proofs.LineLemmas.{few_lines}
use Rattle.ata_script.proofs.LinesTaken.{all_right, all_says}
use Rattle.ata_script.proofs.Sizes.{text_size}
use Rattle.ata_script.proofs.grammar.read.Goals as goal

pub later_lines-requires : goal.later_lines-requires
later_lines-requires c = omega (arith, few_lines c.args.bytes.now, ap length c.new-lines.ensures, ap length c.in-Some.ensures)

pub invariant_of-result : goal.invariant_of-result
invariant_of-result c =
    let draft = c.in_ok-draft.draft in
    let line : Line = record { text = c.in-Some.text.now; ended = c.in-Some.ended } in
    let lines = sym c.new-lines.ensures ∙ c.in-Some.ensures in
    let begins = c.in-Ok.ensures in
    let says : Says c.args.bytes.now (all_said draft.version draft.head draft.steps) = record {
      right = all_right c.args.bytes.now line c.next.new.self c.in-Ok.version (draft_said c.new.result) lines begins c.new.ensures c.in_ok-draft.ensures.right;
      is = c.in_ok-draft.ensures.said ∙ all_says c.args.bytes.now line c.next.new.self c.in-Ok.version (draft_said c.new.result) lines begins c.new.ensures;
    } in
    record {
      text = ∣ record {
        bytes = c.args.bytes.now;
        says = says;
        few = omega (arith, c.requires, text_size c.args.bytes.now, ap lines_size lines, c.in_ok-draft.ensures.few, ap (λ d. length d.steps) c.new.ensures);
      } ∣₁;
    }
