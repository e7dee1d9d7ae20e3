-- A script by its lines: the first line at fault with the least rule that it breaks, and what a script without a fault says.
use Rattle.std.specs.Prelude.{ℕ, Bool, true, false, ◌||◌, ◌==◌, ◌+◌, List, [], ◌∷◌, length, codes, Option, Some, None, if◌then◌else◌}
use Rattle.std.specs.Str.{bytes_eq}
use Rattle.ata_trace.specs.Parts.{parts_of, words_of}
use Rattle.ata_script.specs.Draft.{DraftView, begun, is_in_order, with_item}
use Rattle.ata_script.specs.Forms.{rule_of}
use Rattle.ata_script.specs.Taking.{item_for}

-- a line: its bytes without the line feed, and whether it has one
pub record Line : Type 0 where
  pub text : List ℕ
  pub ended : Bool

-- the lines of these pieces of a text: each but the last ends with a line feed, and nothing behind the last line feed is no line
abbrev pub lines_in : List (List ℕ) → List Line
lines_in [] = []
lines_in ([] ∷ []) = []
lines_in ((c ∷ text) ∷ []) = record { text = c ∷ text; ended = false } ∷ []
lines_in (text ∷ next ∷ rest) = record { text = text; ended = true } ∷ lines_in (next ∷ rest)

-- the lines of a text
abbrev pub lines_of : List ℕ → List Line
lines_of bytes = lines_in (parts_of 10 bytes)

-- the bytes of lines, with the line feed of each
abbrev pub lines_size : List Line → ℕ
lines_size [] = 0
lines_size (line ∷ rest) = length line.text + 1 + lines_size rest

-- whether a line is skipped: it is empty or begins with `#`
abbrev pub is_skipped : List ℕ → Bool
is_skipped [] = true
is_skipped (c ∷ rest) = c == 35

-- the version of a script with this first line
abbrev pub version_in : List ℕ → ℕ
version_in text = if bytes_eq text (codes "atahost 2") then 2 else 1

-- the least rule that the first line breaks: it is `atahost 1` or `atahost 2` (1), and has a line feed (2)
abbrev pub first_rule : Line → Option ℕ
first_rule line =
    if bytes_eq line.text (codes "atahost 1") || bytes_eq line.text (codes "atahost 2") then (if line.ended then None else Some 2) else Some 1

-- a rule, and 6 where none is broken but the order
abbrev pub or_order : Option ℕ → Bool → Option ℕ
or_order (Some rule) right = Some rule
or_order None right = if right then None else Some 6

-- the least of the rules 3 to 6 that these words break behind what was said: they are those of a form, with
-- its numbers and names (3 to 5), and in order (6)
abbrev pub words_rule : DraftView → List (List ℕ) → Option ℕ
words_rule said words = or_order (rule_of said.version words) (is_in_order said (item_for said.version words))

-- the least rule that a later line breaks behind what was said: it has a line feed (2), and, unless it
-- is skipped, its words are right
abbrev pub later_rule : DraftView → Line → Option ℕ
later_rule said line = if line.ended then (if is_skipped line.text then None else words_rule said (words_of line.text)) else Some 2

-- what was said with this line
abbrev pub with_line : DraftView → Line → DraftView
with_line said line = if is_skipped line.text then said else with_item said (item_for said.version (words_of line.text))

-- this fault, or the first in the lines that follow
abbrev pub or_later : ℕ → Option ℕ → Option (ℕ × ℕ) → Option (ℕ × ℕ)
or_later number None later = later
or_later number (Some rule) later = Some (number, rule)

-- the first fault in lines of which the first has this number, behind what was said: the number of its line, and its rule
abbrev pub later_fault : ℕ → DraftView → List Line → Option (ℕ × ℕ)
later_fault number said [] = None
later_fault number said (line ∷ rest) = or_later number (later_rule said line) (later_fault (number + 1) (with_line said line) rest)

-- what was said with these lines
abbrev pub with_lines : DraftView → List Line → DraftView
with_lines said [] = said
with_lines said (line ∷ rest) = with_lines (with_line said line) rest

-- the first fault of a text
abbrev pub fault_in : List Line → Option (ℕ × ℕ)
fault_in [] = Some (1, 1)
fault_in (line ∷ rest) = or_later 1 (first_rule line) (later_fault 2 (begun (version_in line.text)) rest)

abbrev pub fault_of : List ℕ → Option (ℕ × ℕ)
fault_of bytes = fault_in (lines_of bytes)

-- what a text without a fault says
abbrev pub said_in : List Line → DraftView
said_in [] = begun 1
said_in (line ∷ rest) = with_lines (begun (version_in line.text)) rest

abbrev pub said_of : List ℕ → DraftView
said_of bytes = said_in (lines_of bytes)
