use Rattle.std.proofs.Common.{◌≡◌, ◌∙◌, ◌∷◌, [], ◌++◌, ap}
use Rattle.ata_trace.specs.Entries.{EntryView, past_of}
use Rattle.port_before.proofs.Struck.{entry_switched}
use Rattle.port_before.proofs.Undrained.{entry_undrained}
use Rattle.port_rules.specs.Legal.{entry_after}
use Rattle.port_core.proofs.Growing.{entries_grown, IsLegal_more}
use Rattle.port_core.proofs.Recoverable.{recoverable}
use Rattle.port_core.proofs.machine.take.Goals as goal

pub returns-clause-entries : goal.returns-clause-entries
returns-clause-entries c = entries_grown _ _ _ c.act.ensures.past

pub returns-clause-before_switching : goal.returns-clause-before_switching
returns-clause-before_switching c fbs =
    entries_grown _ _ _ c.act.ensures.past
    ∙ ap (λ (entry : EntryView). c.args.ledger.now.entries ++ entry ∷ [])
    (entry_switched c.args.ledger.now.head fbs c.args.ledger.now.entries c.requires.legal c.args.who c.args.seq c.args.step.now)

pub returns-clause-before_drain : goal.returns-clause-before_drain
returns-clause-before_drain c drain =
    entries_grown _ _ _ c.act.ensures.past
    ∙ ap (λ (entry : EntryView). c.args.ledger.now.entries ++ entry ∷ [])
    (entry_undrained c.args.ledger.now.head drain c.args.ledger.now.entries c.requires.legal c.args.who c.args.seq c.args.step.now)

pub returns-clause-legal : goal.returns-clause-legal
returns-clause-legal c =
    let same : c.act.new.ledger.entries ≡ c.args.ledger.now.entries ++ entry_after c.args.ledger.now.head (past_of c.args.ledger.now.entries) c.args.who c.args.seq c.args.step.now ∷ [] =
    entries_grown _ _ _ c.act.ensures.past in
    rw (c.act.ensures.head, same)
    (IsLegal_more c.args.ledger.now.head c.args.ledger.now.entries c.args.who c.args.seq c.args.step.now c.in_range.ensures c.requires.legal)

pub act-requires-clause-reached : goal.act-requires-clause-reached
act-requires-clause-reached c = recoverable _ _ c.requires.legal
