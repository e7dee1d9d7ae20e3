-- What the texts of ports tell, and the ranges of all that they tell.
use Rattle.std.specs.Prelude.{ℕ, ◌+◌, ◌-◌, ◌==◌, List, [], ◌∷◌, length, map, if◌then◌else◌}
use Rattle.std.specs.List.{list_any}
use Rattle.ata_base.specs.declared.cmd.Cmd.{Cmd}
use Rattle.ata_trace.specs.Entries.{EntryView, past_of}
use Rattle.ata_trace.specs.Ranges.{IsLong, IsStep, IsWho}
use Rattle.ata_trace.specs.Texts.{AreActs, AreEntries, AreIds, ArePorts, PortText}
use Rattle.port_core.specs.PortView.{PortView}
use Rattle.port_past.specs.Commands.{commands}
use Rattle.port_past.specs.Live.{live}

-- the numbers of these commands that are live
abbrev pub live_of : List ℕ → List Cmd → List ℕ
live_of lives [] = []
live_of lives (command ∷ rest) =
    if list_any (λ c. c == command.id) lives then command.id ∷ live_of lives rest else live_of lives rest

-- what the text of a port tells: its number, its entries, its live commands, and its counts
abbrev pub told_by : ℕ → List EntryView → PortText
told_by number entries = record {
  port = number;
  entries = entries;
  live = live_of (live (past_of entries)) (commands (past_of entries));
  accepted = length (commands (past_of entries));
  answered = length (commands (past_of entries)) - length (live (past_of entries));
  left = length (live (past_of entries));
}

-- what the texts of journals tell, of ports numbered on from this number
abbrev pub told_from : ℕ → List (List EntryView) → List PortText
told_from number [] = []
told_from number (entries ∷ rest) = told_by number entries ∷ told_from (number + 1) rest

-- what the text of a port tells
abbrev pub told_of : PortView → PortText
told_of port = told_by port.number port.entries

-- an entry is one that there is: its numbers are in the ranges of their types
abbrev pub IsEntry : EntryView → Type 0
IsEntry r = IsLong r.at × IsWho r.who × IsLong r.seq × IsStep r.step × AreActs r.acts

-- so is all that the text of a port tells
abbrev pub IsTold : PortText → Type 0
IsTold p = IsLong p.port × AreEntries p.entries × AreIds p.live × IsLong p.accepted × IsLong p.answered × IsLong p.left

-- the numbers of commands
abbrev pub ids_of : List Cmd → List ℕ
ids_of commands = map (λ c. c.id) commands

-- all that the texts of these journals tell is in the ranges of the types
abbrev pub AreInRange : List (List EntryView) → Type 0
AreInRange journals = ArePorts (told_from 0 journals)
