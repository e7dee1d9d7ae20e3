use Rattle.std.proofs.Common.{take}
use Rattle.ata_trace.specs.Texts.{AreActs}
use Rattle.port_core.proofs.journal_ranges.acts_in_range.Given as goal

abbrev pub invariant-loop-i : goal.invariant-loop-i
invariant-loop-i l = AreActs (take l.i l.acts)
