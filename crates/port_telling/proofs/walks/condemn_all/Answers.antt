use Rattle.std.proofs.Common.{sym, arith}
use Rattle.ata_trace.specs.Entries.{past_of}
use Rattle.port_past.proofs.Sizes.{length_ends}
use Rattle.port_rules.proofs.TagByTag.{condemnations_told}
use Rattle.port_rules.specs.Interrupt.{is_struck}
use Rattle.port_telling.proofs.AddLemmas.{adds_same}
use Rattle.port_telling.proofs.WalkLemmas.{walk_goes, walk_ends}
use Rattle.port_telling.specs.Walks.{slots_in, completions_in}
use Rattle.port_telling.proofs.walks.condemn_all.Goals as goal

pub loop-tag-preserved : goal.loop-tag-preserved
loop-tag-preserved c =
    let size = length_ends c.args.ledger.now.head (past_of c.args.ledger.now.entries) in
    walk_goes (omega arith) size c.loop-tag.invariant (rw c.at.ensures at c.condemn_at.ensures)

pub returns-clause-adds : goal.returns-clause-adds
returns-clause-adds c =
    let test = is_struck c.args.all c.args.failing.now in
    let flights = slots_in c.args.ledger.now in
    adds_same (sym (condemnations_told test c.args.kinds flights (completions_in c.args.ledger.now)))
    (walk_ends (omega arith) c.loop-tag.invariant)
