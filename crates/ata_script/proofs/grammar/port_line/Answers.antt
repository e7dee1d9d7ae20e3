use Rattle.std.proofs.Common.{◌≡◌, refl, ap, ◌∙◌, sym, codes}
use Rattle.ata_trace.specs.Parts.{words_of}
use Rattle.ata_script.specs.Drafts.{draft_said, port_line}
use Rattle.ata_script.specs.Fields.Field.{Small}
use Rattle.ata_script.specs.Taking.{start, taken, after, form_for, verdict}
use Rattle.ata_script.proofs.LinesTaken.{item_taken, rule_told, port_after, port_says}
use Rattle.ata_script.proofs.grammar.port_line.Goals as goal

pub returns-in-None : goal.returns-in-None
returns-in-None c =
    let version = c.args.draft.now.version in
    let words = words_of c.args.text.now in
    let begun : c.small.new.self ≡ taken (Small (codes "port")) (start words) = c.small.ensures ∙ ap (taken (Small (codes "port"))) c.new-fields.ensures in
    let end : c.port-number.new.fields ≡ after (form_for version words) (start words) =
    port_after version words _ c.small.new.self c.port-number.new.fields c.requires begun refl c.port-number.ensures.state in
    item_taken (draft_said c.args.draft.now) (draft_said c.add_port.new.self) words (port_line c.port-number.result.0 c.port-number.result.1) c.add_port.result
    (sym (c.verdict.ensures ∙ ap verdict end) ∙ c.in-None.is)
    (port_says version words _ c.small.new.self _ c.requires begun refl c.port-number.ensures.value) c.add_port.ensures

pub returns-in-Some : goal.returns-in-Some
returns-in-Some c =
    let version = c.args.draft.now.version in
    let words = words_of c.args.text.now in
    let begun : c.small.new.self ≡ taken (Small (codes "port")) (start words) = c.small.ensures ∙ ap (taken (Small (codes "port"))) c.new-fields.ensures in
    let end : c.port-number.new.fields ≡ after (form_for version words) (start words) =
    port_after version words _ c.small.new.self c.port-number.new.fields c.requires begun refl c.port-number.ensures.state in
    rule_told (draft_said c.args.draft.now) words c.in-Some.rule (sym (c.verdict.ensures ∙ ap verdict end) ∙ c.in-Some.is)
