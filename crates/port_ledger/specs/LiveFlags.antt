use Rattle.std.specs.Prelude.{ℕ, Bool, false, List, filter, map}
use Rattle.std.specs.List.{slice_index_or}
use Rattle.ata_base.specs.declared.cmd.Cmd.{Cmd}

-- the numbers of commands
abbrev pub ids_of : List Cmd → List ℕ
ids_of accepted = map (λ c. c.id) accepted

-- the flag of a number in a table of flags
abbrev pub is_flagged : List Bool → ℕ → Bool
is_flagged flags id = slice_index_or flags id false

-- of these numbers, those that are flagged as live
abbrev pub live_of : List Bool → List ℕ → List ℕ
live_of flags ids = filter (λ id. is_flagged flags id) ids
