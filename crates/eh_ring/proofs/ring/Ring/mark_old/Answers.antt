use Rattle.std.proofs.Common.{◌<◌, length, get_or, arith}
use Rattle.std.proofs.lemmas.List.{get_or_default}
use Rattle.std.proofs.lemmas.List.Edits.{map_over_more}
use Rattle.eh_ring.specs.declared.entry.RingEntry.{RingEntry}
use Rattle.eh_ring.specs.Marks.{old_entry}
use Rattle.eh_ring.proofs.ring.Ring.mark_old.Goals as goal

pub loop-entry-preserved : goal.loop-entry-preserved
loop-entry-preserved c =
    let before = c.make_contiguous-entry-items.result.now in
    let items = c.loop-entry.entry-items in
    let i = c.loop-entry.entry-index in
    let first : RingEntry = c.entry-item.result in
    let inside : i < length before = omega arith in
    let within : i < length items = omega arith in
    map_over_more old_entry before items i (get_or items i first) inside c.loop-entry.invariant
    (get_or_default items i first (get_or items i first) within)
