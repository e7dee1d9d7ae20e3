-- What the texts of ports tell, word for word, and its ranges.
use Rattle.std.proofs.Common.{◌≡◌, ℕ, zero, suc, ◌+◌, ◌-◌, ◌<◌, ◌≤◌, ◌==◌, Bool, true, false, List, [], ◌∷◌, ◌++◌, length, map, take, get_or, refl, sym, ap, ◌∙◌, subst, arith, add-one, append_assoc}
use Rattle.std.specs.Prelude.{if◌then◌else◌}
use Rattle.std.specs.List.{flat_map, list_any}
use Rattle.ata_base.specs.declared.cmd.Cmd.{Cmd}
use Rattle.ata_trace.specs.Entries.{EntryView, past_of}
use Rattle.ata_trace.specs.Ranges.{IsAct, IsId, IsLong, IsStep}
use Rattle.ata_trace.specs.Text.{act_line}
use Rattle.ata_trace.specs.Texts.{AreActs, AreEntries, AreIds, ArePorts, PortText, act_row, end_row, entry_rows, head_row, live_row, port_row, port_rows, ports_text, row_line, rows_text}
use Rattle.ata_trace.specs.declared.act.Act.{Act}
use Rattle.ata_trace.specs.declared.step.Step.{Step}
use Rattle.ata_trace.specs.declared.step.Step.TheVariants.{Submit, Kick, Work, Irq, Drop, Stray, Tick, Expire, Recover, Plug, Unplug, Inject, Boot}
use Rattle.port_core.proofs.NumberRanges.{is_in}
use Rattle.port_core.specs.Hosts.{AreNumbered, journals_in}
use Rattle.port_core.specs.PortView.{PortView}
use Rattle.port_core.specs.Text.{entry_text, live_line, live_text, texts_from, texts_of}
use Rattle.port_core.specs.Told.{AreInRange, IsEntry, IsTold, ids_of, live_of, told_by, told_from, told_of}
use Rattle.port_past.specs.Commands.{commands}
use Rattle.port_past.specs.Live.{live}
use Rattle.port_rules.specs.Ranges.{IsScriptStep}

-- what holds of each of the first elements, and of the next, holds of one more
each_more :
    {X : Type 0} (P : X → Type 0) (A : List X → Type 0) → A [] → ((x : X) (xs : List X) → P x → A xs → A (x ∷ xs))
    → ((x : X) (xs : List X) → A (x ∷ xs) → P x × A xs) → (xs : List X) (i : ℕ) (x : X) → i < length xs → x ≡ get_or xs i x
    → A (take i xs) → P x → A (take (i + 1) xs)
each_more P A none both split [] i x within is before here = absurd (omega arith)
each_more P A none both split (y ∷ ys) zero x within is before here = both y [] (subst P is here) none
each_more P A none both split (y ∷ ys) (suc i) x within is before here =
    let parts : P y × A (take i ys) = split y (take i ys) before in
    rw (add-one (suc i))
    (both y (take (suc i) ys) parts.0
    (rw (add-one i) at (each_more P A none both split ys i x (omega arith) is parts.1 here)))

pub acts_more : (acts : List Act) (i : ℕ) (act : Act) → i < length acts → act ≡ get_or acts i act → AreActs (take i acts) → IsAct act → AreActs (take (i + 1) acts)
acts_more = each_more IsAct AreActs tt (λ x xs p q. (p, q)) (λ x xs p. p)

pub entries_more : (entries : List EntryView) (i : ℕ) (entry : EntryView) → i < length entries → entry ≡ get_or entries i entry → AreEntries (take i entries) → IsEntry entry → AreEntries (take (i + 1) entries)
entries_more = each_more IsEntry AreEntries tt (λ x xs p q. (p, q)) (λ x xs p. p)

abbrev AreIdsOf : List Cmd → Type 0
AreIdsOf commands = AreIds (ids_of commands)

abbrev IsIdOf : Cmd → Type 0
IsIdOf command = IsId command.id

pub ids_more : (commands : List Cmd) (i : ℕ) (command : Cmd) → i < length commands → command ≡ get_or commands i command → AreIds (ids_of (take i commands)) → IsId command.id → AreIds (ids_of (take (i + 1) commands))
ids_more = each_more IsIdOf AreIdsOf tt (λ x xs p q. (p, q)) (λ x xs p. p)

abbrev AreToldOf : List PortView → Type 0
AreToldOf ports = ArePorts (map told_of ports)

abbrev IsToldOf : PortView → Type 0
IsToldOf port = IsTold (told_of port)

pub ports_more : (ports : List PortView) (i : ℕ) (port : PortView) → i < length ports → port ≡ get_or ports i port → ArePorts (map told_of (take i ports)) → IsTold (told_of port) → ArePorts (map told_of (take (i + 1) ports))
ports_more = each_more IsToldOf AreToldOf tt (λ x xs p q. (p, q)) (λ x xs p. p)

-- a step that a script can have is one that there is
pub script_step : (step : Step) → IsScriptStep step → IsStep step
script_step (Submit id place op allow wait) is = is.0
script_step (Kick place) is = is
script_step (Work place pick) is = is
script_step Irq is = tt
script_step Drop is = tt
script_step (Stray tag) is = is
script_step (Tick ms) is = is
script_step Expire is = tt
script_step Recover is = tt
script_step (Plug place drive) is = is
script_step (Unplug place) is = is
script_step (Inject place fault) is = is.0
script_step Boot is = tt

-- the live ones of commands with numbers have numbers
live_in_range : (lives : List ℕ) (commands : List Cmd) → AreIds (ids_of commands) → AreIds (live_of lives commands)
live_in_range lives [] each = tt
live_in_range lives (command ∷ rest) each =
    chosen (list_any (λ c. c == command.id) lives) (live_in_range lives rest each.1) where
      chosen : (b : Bool) → AreIds (live_of lives rest) → AreIds (if b then command.id ∷ live_of lives rest else live_of lives rest)
      chosen true later = (each.0, later)
      chosen false later = later

less_long : (a b : ℕ) → IsLong a → IsLong (a - b)
less_long a b long = let high : a ≤ 18446744073709551615 = long.high in is_in 0 18446744073709551615 (a - b) (omega arith) (omega arith) (omega arith)

-- what the text of a port tells is in range where its parts are
pub told_in_range :
    (number : ℕ) (entries : List EntryView) → IsLong number → AreEntries entries → AreIds (ids_of (commands (past_of entries)))
    → IsLong (length (commands (past_of entries))) → IsLong (length (live (past_of entries))) → IsTold (told_by number entries)
told_in_range number entries port each ids accepted left = (
  port,
  each,
  live_in_range (live (past_of entries)) (commands (past_of entries)) ids,
  accepted,
  less_long (length (commands (past_of entries))) (length (live (past_of entries))) accepted,
  left,
)

-- what ports tell is what their journals tell
pub told_by_number : (number : ℕ) (ports : List PortView) → AreNumbered number ports → map told_of ports ≡ told_from number (journals_in ports)
told_by_number number [] are = refl
told_by_number number (port ∷ rest) are =
    ap (λ n. told_by n port.entries ∷ map told_of rest) are.0
    ∙ ap (λ told. told_by number port.entries ∷ told) (told_by_number (number + 1) rest are.1)

-- the lines of several lists of rows
rows_text_append : (a b : List (List (List ℕ))) → rows_text (a ++ b) ≡ rows_text a ++ rows_text b
rows_text_append [] b = refl
rows_text_append (row ∷ a) b =
    ap (λ text. row_line row ++ text) (rows_text_append a b) ∙ sym (append_assoc (row_line row) (rows_text a) (rows_text b))

act_rows : (acts : List Act) → rows_text (map act_row acts) ≡ flat_map act_line acts
act_rows [] = refl
act_rows (act ∷ acts) = ap (λ text. act_line act ++ text) (act_rows acts)

entry_lines : (entries : List EntryView) → rows_text (entry_rows entries) ≡ flat_map entry_text entries
entry_lines [] = refl
entry_lines (r ∷ rest) =
    let head : List ℕ = row_line (head_row r) in
    ap (λ text. head ++ text)
    (rows_text_append (map act_row r.acts) (entry_rows rest)
    ∙ ap (λ text. text ++ rows_text (entry_rows rest)) (act_rows r.acts)
    ∙ ap (λ text. flat_map act_line r.acts ++ text) (entry_lines rest))
    ∙ sym (append_assoc head (flat_map act_line r.acts) (flat_map entry_text rest))

live_lines : (lives : List ℕ) (commands : List Cmd) → rows_text (map live_row (live_of lives commands)) ≡ flat_map (live_text lives) commands
live_lines lives [] = refl
live_lines lives (command ∷ rest) = chosen (list_any (λ c. c == command.id) lives) (live_lines lives rest) where
  chosen : (b : Bool) → rows_text (map live_row (live_of lives rest)) ≡ flat_map (live_text lives) rest
      → rows_text (map live_row (if b then command.id ∷ live_of lives rest else live_of lives rest))
      ≡ (if b then live_line command.id else []) ++ flat_map (live_text lives) rest
  chosen true later = ap (λ text. live_line command.id ++ text) later
  chosen false later = later

regroup : (a b c d e : List ℕ) → (a ++ (b ++ (c ++ d))) ++ e ≡ a ++ (b ++ (c ++ (d ++ e)))
regroup a b c d e = simp append_assoc

-- the texts of journals are those of what they tell
pub texts_told : (number : ℕ) (journals : List (List EntryView)) → texts_from number journals ≡ ports_text (told_from number journals)
texts_told number [] = refl
texts_told number (entries ∷ rest) =
    regroup first entry_part live_part last (texts_from (number + 1) rest) ∙ ap (λ text. first ++ text) (sym (behind (texts_told (number + 1) rest))) where
      p : PortText
      p = told_by number entries

      first : List ℕ
      first = row_line (port_row p)

      entry_part : List ℕ
      entry_part = flat_map entry_text entries

      lives : List ℕ
      lives = live (past_of entries)

      live_part : List ℕ
      live_part = flat_map (live_text lives) (commands (past_of entries))

      last : List ℕ
      last = row_line (end_row p)

      later : List (List (List ℕ))
      later = port_rows (told_from (number + 1) rest)

      behind :
          texts_from (number + 1) rest ≡ ports_text (told_from (number + 1) rest)
          → rows_text (entry_rows entries ++ (map live_row p.live ++ end_row p ∷ later)) ≡ entry_part ++ (live_part ++ (last ++ texts_from (number + 1) rest))
      behind rest_is =
          rows_text_append (entry_rows entries) (map live_row p.live ++ end_row p ∷ later)
          ∙ ap (λ text. text ++ rows_text (map live_row p.live ++ end_row p ∷ later)) (entry_lines entries)
          ∙ ap (λ text. entry_part ++ text)
          (rows_text_append (map live_row p.live) (end_row p ∷ later)
          ∙ ap (λ text. text ++ rows_text (end_row p ∷ later)) (live_lines lives (commands (past_of entries)))
          ∙ ap (λ text. live_part ++ (last ++ text)) (sym rest_is))

-- journals that tell the same are the same
told_apart : (number : ℕ) (these those : List (List EntryView)) → told_from number these ≡ told_from number those → these ≡ those
told_apart number [] [] same = refl
told_apart number [] (entries ∷ rest) same = absurd (cc same)
told_apart number (entries ∷ rest) [] same = absurd (cc same)
told_apart number (entries ∷ rest) (others ∷ more) same =
    let first : told_by number entries ≡ told_by number others = cc same in
    let behind : told_from (number + 1) rest ≡ told_from (number + 1) more = cc same in
    let here : entries ≡ others = ap (λ (p : PortText). p.entries) first in
    ap (λ e. e ∷ rest) here ∙ ap (λ later. others ∷ later) (told_apart (number + 1) rest more behind)

-- journals with one text are the same, where no text tells two things
pub one_journal :
    ((a b : List PortText) → ArePorts a → ArePorts b → ports_text a ≡ ports_text b → a ≡ b) → (these those : List (List EntryView))
    → AreInRange these → AreInRange those → texts_of these ≡ texts_of those → these ≡ those
one_journal once these those first second same =
    told_apart 0 these those
    (once (told_from 0 these) (told_from 0 those) first second (sym (texts_told 0 these) ∙ same ∙ texts_told 0 those))
