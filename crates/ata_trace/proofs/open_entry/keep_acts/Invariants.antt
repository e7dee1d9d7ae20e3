use Rattle.std.proofs.Common.{◌≡◌, ◌+◌, ◌<◌, ◌≤◌, length, take}
use Rattle.ata_trace.specs.OpenEntries.{with_acts}
use Rattle.ata_trace.proofs.open_entry.keep_acts.Given as goal

abbrev pub invariant-loop-act : goal.invariant-loop-act
invariant-loop-act l =
    (l.journal.entries ≡ with_acts l.fn.journal.entries (take l.act-index l.acts))
    × (0 < length l.journal.entries)
    × (length l.acts ≤ l.journal.act_room + l.act-index)
