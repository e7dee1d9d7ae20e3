-- The numbers of a summary as they grow, act by act.
use Rattle.std.specs.Prelude.{ℕ, List, [], ◌∷◌}
use Rattle.ata_io.specs.Faults.{one_more}
use Rattle.ata_trace.specs.Entries.{EntryView}
use Rattle.ata_trace.specs.declared.act.Act.{Act}
use Rattle.ata_trace.specs.declared.act.Act.TheVariants.{Accepted, Refused, Issued, AnsweredOk, AnsweredFailed, AnsweredNodev, Retried, Begun, Recorded}
use Rattle.host_summary.specs.declared.summary.Summary.{Summary}

-- the summary of no journal, with the numbers that aren't counted in journals: commands and live ones
abbrev pub none_of : ℕ → ℕ → Summary
none_of commands live = record {
  commands = commands;
  accepted = 0;
  refused = 0;
  issued = 0;
  ok = 0;
  failed = 0;
  nodev = 0;
  retried = 0;
  runs = 0;
  recorded = 0;
  entries = 0;
  live = live;
}

-- an act more
abbrev pub with_act : Summary → Act → Summary
with_act s (Accepted id) = record s { accepted = one_more s.accepted }
with_act s (Refused id why) = record s { refused = one_more s.refused }
with_act s (Issued id number tag deadline fis) = record s { issued = one_more s.issued }
with_act s (AnsweredOk id number status error lba count stamps) = record s { ok = one_more s.ok }
with_act s (AnsweredFailed id number kinds status error lba count) = record s { failed = one_more s.failed }
with_act s (AnsweredNodev id number) = record s { nodev = one_more s.nodev }
with_act s (Retried id number raised) = record s { retried = one_more s.retried }
with_act s Begun = record s { runs = one_more s.runs }
with_act s (Recorded place io dubious kinds ncq_off speed_down pio keep action) = record s { recorded = one_more s.recorded }
with_act s _ = s

abbrev pub with_acts : Summary → List Act → Summary
with_acts s [] = s
with_acts s (act ∷ rest) = with_acts (with_act s act) rest

-- an entry more
abbrev pub with_entry : Summary → EntryView → Summary
with_entry s entry = with_acts (record s { entries = one_more s.entries }) entry.acts

abbrev pub with_entries : Summary → List EntryView → Summary
with_entries s [] = s
with_entries s (entry ∷ rest) = with_entries (with_entry s entry) rest

-- a journal more
abbrev pub with_journals : Summary → List (List EntryView) → Summary
with_journals s [] = s
with_journals s (entries ∷ rest) = with_journals (with_entries s entries) rest
