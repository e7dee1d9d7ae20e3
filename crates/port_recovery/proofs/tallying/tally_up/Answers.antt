use Rattle.std.proofs.Common.{◌<◌, ◌≤◌, length, refl, arith}
use Rattle.ata_trace.specs.Entries.{past_of}
use Rattle.port_past.proofs.Sizes.{length_slots}
use Rattle.port_recovery.proofs.TallyLemmas.{tally_next, tally_ends}
use Rattle.port_recovery.specs.Findings.{judged_below, view_in}
use Rattle.port_recovery.proofs.tallying.tally_up.Goals as goal

pub loop-tag-init : goal.loop-tag-init
loop-tag-init c = record { kinds = c.link_told.ensures.kinds; io = refl; io_error = refl }

pub loop-tag-preserved : goal.loop-tag-preserved
loop-tag-preserved c =
    let s = view_in c.args.ledger.now c.args.place in
    let within : c.loop-tag.tag < length s.slots = omega (arith, length_slots (past_of c.args.ledger.now.entries)) in
    let told = rw c.at.ensures at c.with_issue_at-all.ensures in
    tally_next s c.loop-tag.tag within (told (judged_below s c.loop-tag.tag) c.loop-tag.invariant)

pub returns-clause-kinds : goal.returns-clause-kinds
returns-clause-kinds c =
    let s = view_in c.args.ledger.now c.args.place in
    let through : length s.slots ≤ c.loop-tag.tag = omega (arith, length_slots (past_of c.args.ledger.now.entries)) in
    (tally_ends s c.loop-tag.tag through c.loop-tag.invariant).kinds

pub returns-clause-io : goal.returns-clause-io
returns-clause-io c =
    let s = view_in c.args.ledger.now c.args.place in
    let through : length s.slots ≤ c.loop-tag.tag = omega (arith, length_slots (past_of c.args.ledger.now.entries)) in
    (tally_ends s c.loop-tag.tag through c.loop-tag.invariant).io

pub returns-clause-io_error : goal.returns-clause-io_error
returns-clause-io_error c =
    let s = view_in c.args.ledger.now c.args.place in
    let through : length s.slots ≤ c.loop-tag.tag = omega (arith, length_slots (past_of c.args.ledger.now.entries)) in
    (tally_ends s c.loop-tag.tag through c.loop-tag.invariant).io_error
