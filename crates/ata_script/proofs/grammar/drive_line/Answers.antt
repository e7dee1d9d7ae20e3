use Rattle.std.proofs.Common.{◌≡◌, ap, ◌∙◌, sym, codes}
use Rattle.ata_trace.specs.Parts.{words_of}
use Rattle.ata_script.specs.Drafts.{draft_said, drive_line}
use Rattle.ata_script.specs.Fields.Field.{Small}
use Rattle.ata_script.specs.Taking.{start, taken, after, form_for, verdict}
use Rattle.ata_script.proofs.LinesTaken.{item_taken, rule_told, drive_after, drive_says}
use Rattle.ata_script.proofs.grammar.drive_line.Goals as goal

pub returns-in-None : goal.returns-in-None
returns-in-None c =
    let version = c.args.draft.now.version in
    let words = words_of c.args.text.now in
    let begun : c.small.new.self ≡ taken (Small (codes "drive")) (start words) = c.small.ensures ∙ ap (taken (Small (codes "drive"))) c.new-fields.ensures in
    let end : c.drive-port.new.fields ≡ after (form_for version words) (start words) =
    drive_after version words c.small.new.self c.drive-port.new.fields c.requires.drive begun c.drive-port.ensures.state in
    item_taken (draft_said c.args.draft.now) (draft_said c.add_drive.new.self) words (drive_line c.drive-port.result.0 c.drive-port.result.1 c.drive-port.result.2) c.add_drive.result
    (sym (c.verdict.ensures ∙ ap verdict end) ∙ c.in-None.is)
    (drive_says version words c.small.new.self _ c.requires.drive begun c.drive-port.ensures.value) c.add_drive.ensures

pub returns-in-Some : goal.returns-in-Some
returns-in-Some c =
    let version = c.args.draft.now.version in
    let words = words_of c.args.text.now in
    let begun : c.small.new.self ≡ taken (Small (codes "drive")) (start words) = c.small.ensures ∙ ap (taken (Small (codes "drive"))) c.new-fields.ensures in
    let end : c.drive-port.new.fields ≡ after (form_for version words) (start words) =
    drive_after version words c.small.new.self c.drive-port.new.fields c.requires.drive begun c.drive-port.ensures.state in
    rule_told (draft_said c.args.draft.now) words c.in-Some.rule (sym (c.verdict.ensures ∙ ap verdict end) ∙ c.in-Some.is)
