use Rattle.std.proofs.Common.{ℕ, List, length, subst, ◌∙◌}
use Rattle.ata_base.specs.declared.cmd.Cmd.{Cmd}
use Rattle.ata_trace.specs.Entries.{EntryView}
use Rattle.ata_trace.specs.Ranges.{IsLong}
use Rattle.ata_trace.specs.Texts.{AreEntries, AreIds}
use Rattle.port_core.specs.Told.{ids_of}
use Rattle.port_core.proofs.ToldLemmas.{told_in_range}
use Rattle.port_core.proofs.journal_ranges.port_in_range.Goals as goal

pub returns : goal.returns
returns c =
    told_in_range c.args.port.now.number c.args.port.now.entries
    (subst (λ (n : ℕ). IsLong n) (c.from.ensures ∙ c.get.ensures.value ∙ c.number.ensures) c.long_in_range.ensures)
    (subst (λ (entries : List EntryView). AreEntries entries) c.journal.ensures c.entries_in_range.ensures)
    (subst (λ (commands : List Cmd). AreIds (ids_of commands)) c.accepted-accepted.ensures c.ids_in_range.ensures)
    (subst (λ (commands : List Cmd). IsLong (length commands)) c.accepted-accepted.ensures c.long_in_range-2.ensures)
    (subst (λ (n : ℕ). IsLong n) (c.from-2.ensures ∙ c.live.ensures.value) c.long_in_range-3.ensures)
