-- The words after the program's name, and the command that they ask for.
use Rattle.std.specs.Prelude.{ℕ, List, [], ◌∷◌, Option, Some, None, codes, map, if◌then◌else◌}
use Rattle.std.specs.Option.{option_and_then, option_map}
use Rattle.std.specs.Str.{bytes_eq}
use Rattle.std.specs.String.{string_bytes}
use Rattle.std.specs.declared.string.String.{String}
use Rattle.ata_script.specs.Fields.{is_number}
use Rattle.ata_trace.specs.Reading.{value_from}
use Rattle.atahost.specs.declared.command.Command.{Command}
use Rattle.atahost.specs.declared.command.Command.TheVariants.{Replay, Run, Gen}

-- the rounds of settling where the words name none
abbrev pub usual_rounds : ℕ
usual_rounds = 200000

-- the most rounds that they may name
abbrev pub most_rounds : ℕ
most_rounds = 1000000

-- the greatest number of a generated script; the least is 1
abbrev pub most_generated : ℕ
most_generated = 20000

-- the number that a word is, decimal, without sign and leading zeros, where it is in this range
abbrev pub number_of : ℕ → ℕ → List ℕ → Option ℕ
number_of least most word = if is_number least most word then Some (value_from 0 word) else None

-- the rounds by the words behind those of a command: none, or `--rounds` and their number
abbrev pub rounds_of : List (List ℕ) → Option ℕ
rounds_of [] = Some usual_rounds
rounds_of (flag ∷ number ∷ []) = if bytes_eq flag (codes "--rounds") then number_of 0 most_rounds number else None
rounds_of _ = None

-- `gen` by the words behind it: the number of its script, and its rounds
abbrev pub gen_of : List (List ℕ) → Option Command
gen_of [] = None
gen_of (number ∷ rest) = option_and_then (λ n. option_map (Gen n) (rounds_of rest)) (number_of 1 most_generated number)

-- the command that words ask for: `replay` or `run`, with its rounds, or `gen`
abbrev pub command_of : List (List ℕ) → Option Command
command_of [] = None
command_of (word ∷ rest) =
    if bytes_eq word (codes "replay") then option_map Replay (rounds_of rest)
    else if bytes_eq word (codes "run") then option_map Run (rounds_of rest)
    else if bytes_eq word (codes "gen") then gen_of rest else None

-- the command that the program's words ask for
abbrev pub asked_by : {A : Type 0} → List (String A) → Option Command
asked_by words = command_of (map string_bytes words)
