use Rattle.std.proofs.Common.{◌≡◌, ◌∙◌, ◌<◌, ◌∷◌, [], length, length-append, ap, sym, arith}
use Rattle.ata_trace.proofs.LastLemmas.{with_act_last}
use Rattle.ata_trace.proofs.Pasts.{past_of_with_act}
use Rattle.ata_trace.specs.Entries.{past_of}
use Rattle.ata_trace.specs.OpenEntries.{entry_last}
use Rattle.ata_trace.proofs.open_entry.OpenEntry.add.Goals as goal

pub returns-clause-entries : goal.returns-clause-entries
returns-clause-entries c =
    rw (← c.self.view_is, c.push_reserved.ensures.items)
    (sym (with_act_last c.self.inside.before.entries (entry_last c.self.inside.last) c.args.act))

pub returns-clause-past : goal.returns-clause-past
returns-clause-past c =
    let some : 0 < length c.args.self.now.entries =
    rw (← c.self.view_is) (omega (arith, length-append c.self.inside.before.entries (entry_last c.self.inside.last ∷ []))) in
    ap past_of (returns-clause-entries c) ∙ past_of_with_act c.args.self.now.entries c.args.act some
