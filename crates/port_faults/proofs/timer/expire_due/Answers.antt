use Rattle.std.proofs.Common.{arith}
use Rattle.ata_trace.specs.Entries.{past_of}
use Rattle.port_past.proofs.Sizes.{length_slots, length_ends}
use Rattle.port_rules.specs.Time.{expiry}
use Rattle.port_telling.proofs.AddLemmas.{adds_same}
use Rattle.port_faults.proofs.TimeLemmas.{due_still}
use Rattle.port_telling.proofs.WalkLemmas.{walk_goes, walk_ends, walk_alone}
use Rattle.port_telling.specs.Walks.{slots_in, completions_in}
use Rattle.port_faults.proofs.timer.expire_due.Goals as goal

pub loop-tag-preserved : goal.loop-tag-preserved
loop-tag-preserved c =
    let size = length_ends c.args.ledger.now.head (past_of c.args.ledger.now.entries) in
    let still =
    due_still c.args.clock.n c.args.drained _ c.args.tags _ (slots_in c.args.ledger.now) _
    c.is_in.ensures (c.requires.due c.loop-tag.tag) c.loop-tag.invariant.slots in
    let told = (rw c.at.ensures at c.expire_at.ensures) c.args.clock.n c.args.drained still in
    walk_goes (omega arith) size c.loop-tag.invariant told

pub returns-clause-adds : goal.returns-clause-adds
returns-clause-adds c =
    let size = length_ends c.args.ledger.now.head (past_of c.args.ledger.now.entries) in
    adds_same
    (walk_alone (expiry c.args.clock.n c.args.drained) (slots_in c.args.ledger.now) (completions_in c.args.ledger.now)
    (omega (arith, length_slots (past_of c.args.ledger.now.entries), size)))
    (walk_ends (omega arith) c.loop-tag.invariant)
