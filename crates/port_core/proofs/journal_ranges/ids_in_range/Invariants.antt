use Rattle.std.proofs.Common.{take}
use Rattle.ata_trace.specs.Texts.{AreIds}
use Rattle.port_core.specs.Told.{ids_of}
use Rattle.port_core.proofs.journal_ranges.ids_in_range.Given as goal

abbrev pub invariant-loop-command : goal.invariant-loop-command
invariant-loop-command l = AreIds (ids_of (take l.command-index l.commands))
