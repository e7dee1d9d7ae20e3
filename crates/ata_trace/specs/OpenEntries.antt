use Rattle.std.specs.Prelude.{List, [], ◌∷◌}
use Rattle.ata_trace.specs.Entries.{EntryView, with_act}
use Rattle.ata_trace.specs.declared.act.Act.{Act}
use Rattle.ata_trace.specs.declared.last.Last.{Last}

-- the entry of a head and its acts
abbrev pub entry_last : Last → EntryView
entry_last l = record { at = l.at.n; who = l.who; seq = l.seq; step = l.step; acts = l.acts.items }

-- the acts of the last entry
abbrev pub last_acts : List EntryView → List Act
last_acts [] = []
last_acts (entry ∷ []) = entry.acts
last_acts (entry ∷ next ∷ rest) = last_acts (next ∷ rest)

-- the entries with these acts more in the last of them
abbrev pub with_acts : List EntryView → List Act → List EntryView
with_acts entries [] = entries
with_acts entries (act ∷ rest) = with_acts (with_act entries act) rest
