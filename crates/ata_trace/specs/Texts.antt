-- The texts of ports.
use Rattle.std.specs.Prelude.{ℕ, ◌++◌, List, [], ◌∷◌, map, codes, decimal, ⊤}
use Rattle.ata_trace.specs.Entries.{EntryView}
use Rattle.ata_trace.specs.Ranges.{IsAct, IsStep, IsWho, IsLong, IsId}
use Rattle.ata_trace.specs.Text.{joined, act_words, step_words}
use Rattle.ata_trace.specs.Words.{who_word}
use Rattle.ata_trace.specs.declared.act.Act.{Act}

-- what the text of a port tells: its number, its entries, its live commands, and three counts
pub record PortText : Type 0 where
  pub port : ℕ
  pub entries : List EntryView
  pub live : List ℕ
  pub accepted : ℕ
  pub answered : ℕ
  pub left : ℕ

-- the words of its lines
abbrev pub act_row : Act → List (List ℕ)
act_row act = codes "-" ∷ act_words act

abbrev pub head_row : EntryView → List (List ℕ)
head_row r = codes "at" ∷ decimal r.at ∷ who_word r.who ∷ decimal r.seq ∷ step_words r.step

abbrev pub entry_rows : List EntryView → List (List (List ℕ))
entry_rows [] = []
entry_rows (r ∷ rest) = head_row r ∷ (map act_row r.acts ++ entry_rows rest)

abbrev pub live_row : ℕ → List (List ℕ)
live_row id = codes "live" ∷ decimal id ∷ []

abbrev pub port_row : PortText → List (List ℕ)
port_row p = codes "port" ∷ decimal p.port ∷ []

abbrev pub end_row : PortText → List (List ℕ)
end_row p = codes "end" ∷ decimal p.port ∷ decimal p.accepted ∷ decimal p.answered ∷ decimal p.left ∷ []

abbrev pub port_rows : List PortText → List (List (List ℕ))
port_rows [] = []
port_rows (p ∷ rest) = port_row p ∷ (entry_rows p.entries ++ (map live_row p.live ++ end_row p ∷ port_rows rest))

-- the line of a row
abbrev pub row_line : List (List ℕ) → List ℕ
row_line [] = codes "\n"
row_line (word ∷ words) = joined word words ++ codes "\n"

-- the text of some rows
abbrev pub rows_text : List (List (List ℕ)) → List ℕ
rows_text [] = []
rows_text (row ∷ rest) = row_line row ++ rows_text rest

-- the texts of several ports, put together
abbrev pub ports_text : List PortText → List ℕ
ports_text ports = rows_text (port_rows ports)

-- what there is
abbrev pub AreActs : List Act → Type 0
AreActs [] = ⊤
AreActs (act ∷ rest) = IsAct act × AreActs rest

abbrev pub AreEntries : List EntryView → Type 0
AreEntries [] = ⊤
AreEntries (r ∷ rest) = (IsLong r.at × IsWho r.who × IsLong r.seq × IsStep r.step × AreActs r.acts) × AreEntries rest

abbrev pub AreIds : List ℕ → Type 0
AreIds [] = ⊤
AreIds (id ∷ rest) = IsId id × AreIds rest

abbrev pub ArePorts : List PortText → Type 0
ArePorts [] = ⊤
ArePorts (p ∷ rest) =
    (IsLong p.port × AreEntries p.entries × AreIds p.live × IsLong p.accepted × IsLong p.answered × IsLong p.left) × ArePorts rest
