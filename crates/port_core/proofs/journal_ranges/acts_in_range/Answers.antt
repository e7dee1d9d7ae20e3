use Rattle.std.proofs.Common.{sym}
use Rattle.port_core.proofs.Pieces.{at_element}
use Rattle.port_core.proofs.ToldLemmas.{acts_more}
use Rattle.port_core.proofs.journal_ranges.acts_in_range.Goals as goal

pub loop-i-preserved : goal.loop-i-preserved
loop-i-preserved c =
    let here = at_element c.args.acts.now c.loop-i.i c.in-Some.act (sym c.in-Some.ensures.value) in
    acts_more c.args.acts.now c.loop-i.i _ here.0 here.1 c.loop-i.invariant (rw c.get-in-Some.ensures at c.in_range.ensures)
