use Rattle.std.proofs.Common.{◌∙◌, ◌∷◌, ap}
use Rattle.ata_trace.proofs.Pasts.{past_of_push}
use Rattle.ata_trace.specs.Entries.{past_of}
use Rattle.ata_trace.specs.Event.Event.{Entered}
use Rattle.ata_trace.specs.OpenView.{OpenView}
use Rattle.ata_trace.proofs.open_entry.OpenEntry.begin.Goals as goal

pub returns-clause-past : goal.returns-clause-past
returns-clause-past c =
    rw (c.clear.ensures.items)
    (past_of_push c.then-self-inside.result.entries _
    ∙ ap (λ entries. Entered c.args.at.n c.args.who c.args.seq c.args.step ∷ past_of entries)
    (c.then-self-inside.ensures ∙ ap (λ (view : OpenView). view.entries) c.self.view_is))
