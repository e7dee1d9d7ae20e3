use Rattle.std.proofs.Common.{◌∙◌, ◌∷◌, ◌++◌, [], ap}
use Rattle.ata_trace.proofs.LastLemmas.{last_same, with_acts_last}
use Rattle.ata_trace.specs.OpenEntries.{entry_last, with_acts}
use Rattle.ata_trace.specs.OpenView.{OpenView}
use Rattle.ata_trace.proofs.open_entry.OpenEntry.keep.Goals as goal

pub returns : goal.returns
returns c = record {
  entries = λ before entry same.
      c.keep_acts.ensures
      ∙ ap (λ entries. with_acts entries c.deref.result.now) c.begin.ensures.entries
      ∙ with_acts_last c.args.journal.now.entries _ c.deref.result.now
      ∙ ap (λ acts. c.args.journal.now.entries ++ record (entry_last c.self.inside.last) { acts = acts } ∷ []) c.deref.ensures.value
      ∙ ap (λ last. c.args.journal.now.entries ++ last ∷ [])
      (last_same c.self.inside.before.entries before (entry_last c.self.inside.last) entry
      (ap (λ (view : OpenView). view.entries) c.self.view_is ∙ same));
}
