use Rattle.std.proofs.Common.{◌∙◌, sym}
use Rattle.ata_trace.specs.OpenEntries.{entry_last}
use Rattle.ata_trace.proofs.LastLemmas.{last_pushed}
use Rattle.ata_trace.proofs.open_entry.OpenEntry.acts.Goals as goal

pub returns-clause-acts : goal.returns-clause-acts
returns-clause-acts c =
    rw (← c.self.view_is) (c.deref.ensures.value ∙ sym (last_pushed c.self.inside.before.entries (entry_last c.self.inside.last)))
