use Rattle.std.proofs.Common.{◌≡◌, Some, slice_get, sym}
use Rattle.ata_trace.specs.Lent.{entry_lent}
use Rattle.port_core.proofs.Pieces.{at_element}
use Rattle.port_core.proofs.ToldLemmas.{entries_more}
use Rattle.port_core.proofs.journal_ranges.entries_in_range.Goals as goal

pub loop-i-preserved : goal.loop-i-preserved
loop-i-preserved c =
    let found : slice_get c.args.journal.now.entries c.loop-i.i ≡ Some (entry_lent c.in-Some.entry) = sym c.in-Some.ensures.value in
    let here = at_element c.args.journal.now.entries c.loop-i.i (entry_lent c.in-Some.entry) found in
    entries_more c.args.journal.now.entries c.loop-i.i _ here.0 here.1 c.loop-i.invariant c.entry_in_range.ensures
