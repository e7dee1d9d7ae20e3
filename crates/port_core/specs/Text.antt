use Rattle.std.specs.Prelude.{ℕ, ◌+◌, ◌-◌, ◌==◌, List, [], ◌∷◌, ◌++◌, codes, decimal, length, if◌then◌else◌}
use Rattle.std.specs.List.{flat_map, list_any}
use Rattle.ata_base.specs.declared.cmd.Cmd.{Cmd}
use Rattle.ata_trace.specs.Entries.{EntryView, past_of}
use Rattle.ata_trace.specs.Text.{act_line, head_line, joined}
use Rattle.port_past.specs.Commands.{commands}
use Rattle.port_past.specs.Live.{live}
use Rattle.port_core.specs.PortView.{PortView}

-- the line that a port's text begins with, and its line feed
abbrev pub port_line : ℕ → List ℕ
port_line number = joined (codes "port") (decimal number ∷ []) ++ codes "\n"

-- the lines of an entry: its head, and a line for each act
abbrev pub entry_text : EntryView → List ℕ
entry_text entry = head_line entry.at entry.who entry.seq entry.step ++ flat_map act_line entry.acts

-- the line of a live command
abbrev pub live_line : ℕ → List ℕ
live_line id = joined (codes "live") (decimal id ∷ []) ++ codes "\n"

-- of the accepted commands, those that are live have a line
abbrev pub live_text : List ℕ → Cmd → List ℕ
live_text lives command = if list_any (λ c. c == command.id) lives then live_line command.id else []

-- the line that a port's text ends with: how many commands were accepted, answered, and are live
abbrev pub end_line : ℕ → ℕ → ℕ → List ℕ
end_line number accepted live =
    joined (codes "end") (decimal number ∷ decimal accepted ∷ decimal (accepted - live) ∷ decimal live ∷ []) ++ codes "\n"

-- the live commands in the order of acceptance, and the counts
abbrev pub counts_text : ℕ → List EntryView → List ℕ
counts_text number entries =
    flat_map (live_text (live (past_of entries))) (commands (past_of entries))
    ++ end_line number (length (commands (past_of entries))) (length (live (past_of entries)))

-- the entries, the live commands and the counts
abbrev pub rest_text : ℕ → List EntryView → List ℕ
rest_text number entries = flat_map entry_text entries ++ counts_text number entries

-- the text of a port: its number, its entries, its live commands and its counts
abbrev pub port_text : ℕ → List EntryView → List ℕ
port_text number entries = port_line number ++ rest_text number entries

-- the text of a port
abbrev pub text_of : PortView → List ℕ
text_of port = port_text port.number port.entries

-- the texts of journals one after the other, of ports numbered on from this number
abbrev pub texts_from : ℕ → List (List EntryView) → List ℕ
texts_from number [] = []
texts_from number (entries ∷ rest) = port_text number entries ++ texts_from (number + 1) rest

-- the texts of the journals of all ports, in the order of their numbers
abbrev pub texts_of : List (List EntryView) → List ℕ
texts_of journals = texts_from 0 journals
