use Rattle.std.proofs.Common.{◌≡◌, Some, slice_get, sym}
use Rattle.ata_trace.specs.Lent.{entry_lent}
use Rattle.port_core.specs.Text.{entry_text}
use Rattle.port_core.proofs.Pieces.{at_element, list_cut, list_more}
use Rattle.port_core.proofs.text.put_entries.Goals as goal

pub returns-in-Err : goal.returns-in-Err
returns-in-Err g c =
    let found : slice_get c.args.journal.now.entries c.loop-i.i ≡ Some (entry_lent c.in-Some.entry) = sym c.in-Some.ensures.value in
    let here = at_element c.args.journal.now.entries c.loop-i.i (entry_lent c.in-Some.entry) found in
    list_cut entry_text _ _ _ _ _ _ _ c.args.journal.now.entries c.loop-i.i _ here.0 here.1 c.loop-i.invariant c.in-Err.ensures

pub loop-i-preserved : goal.loop-i-preserved
loop-i-preserved g c =
    let found : slice_get c.args.journal.now.entries c.loop-i.i ≡ Some (entry_lent c.in-Some.entry) = sym c.in-Some.ensures.value in
    let here = at_element c.args.journal.now.entries c.loop-i.i (entry_lent c.in-Some.entry) found in
    list_more entry_text _ _ _ _ _ _ c.args.journal.now.entries c.loop-i.i _ here.0 here.1 c.loop-i.invariant c.in-Ok.ensures
