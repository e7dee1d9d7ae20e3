use Rattle.std.proofs.Common.{◌≡◌, ap, ◌∙◌, sym}
use Rattle.ata_trace.specs.Parts.{words_of}
use Rattle.ata_script.specs.Drafts.{draft_said}
use Rattle.ata_script.specs.Items.Item.{Taken}
use Rattle.ata_script.specs.Taking.{start, after, form_for, verdict}
use Rattle.ata_script.proofs.LinesTaken.{item_taken, rule_told, step_after, step_says}
use Rattle.ata_script.proofs.grammar.step_line.Goals as goal

pub returns-in-None : goal.returns-in-None
returns-in-None c =
    let version = c.args.draft.now.version in
    let words = words_of c.args.text.now in
    let end : c.step-step.new.fields ≡ after (form_for version words) (start words) =
    step_after version words c.new-fields.result c.actor_no-actor.new.fields c.port_no-port.new.fields c.step-step.new.fields c.requires c.new-fields.ensures
    c.actor_no-actor.ensures.state c.port_no-port.ensures.state c.step-step.ensures.state in
    item_taken (draft_said c.args.draft.now) (draft_said c.add_step.new.self) words (Taken c.actor_no-actor.result c.port_no-port.result c.step-step.result) c.add_step.result
    (sym (c.verdict.ensures ∙ ap verdict end) ∙ c.in-None.is)
    (step_says version words c.new-fields.result c.actor_no-actor.new.fields c.port_no-port.new.fields c.actor_no-actor.result c.port_no-port.result c.step-step.result c.requires c.new-fields.ensures
    c.actor_no-actor.ensures.state c.port_no-port.ensures.state c.actor_no-actor.ensures.value c.port_no-port.ensures.value c.step-step.ensures.value)
    c.add_step.ensures

pub returns-in-Some : goal.returns-in-Some
returns-in-Some c =
    let version = c.args.draft.now.version in
    let words = words_of c.args.text.now in
    let end : c.step-step.new.fields ≡ after (form_for version words) (start words) =
    step_after version words c.new-fields.result c.actor_no-actor.new.fields c.port_no-port.new.fields c.step-step.new.fields c.requires c.new-fields.ensures
    c.actor_no-actor.ensures.state c.port_no-port.ensures.state c.step-step.ensures.state in
    rule_told (draft_said c.args.draft.now) words c.in-Some.rule (sym (c.verdict.ensures ∙ ap verdict end) ∙ c.in-Some.is)
