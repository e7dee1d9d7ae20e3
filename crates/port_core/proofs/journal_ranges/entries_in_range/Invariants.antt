use Rattle.std.proofs.Common.{take}
use Rattle.ata_trace.specs.Texts.{AreEntries}
use Rattle.port_core.proofs.journal_ranges.entries_in_range.Given as goal

abbrev pub invariant-loop-i : goal.invariant-loop-i
invariant-loop-i l = AreEntries (take l.i l.journal.entries)
