-- The texts of ports: read line by line, from the last, they tell the ports.
use Rattle.std.proofs.Common.{arith, ◌≡◌, ℕ, Bool, true, false, ◌&&◌, List, [], ◌∷◌, ◌++◌, map, refl, sym, ◌∙◌, ap, append_assoc, append-nil, codes}
use Rattle.std.specs.Prelude.{◌==◌, nat_lt, if◌then◌else◌}
use Rattle.std.specs.Str.{bytes_eq}
use Rattle.std.specs.List.{onto_first}
use Rattle.std.proofs.lemmas.Bool.Decides.{nat_tests}
use Rattle.ata_trace.specs.Entries.{EntryView}
use Rattle.ata_trace.specs.Parts.{parts_of, words_of, first, none_left}
use Rattle.ata_trace.specs.Reading.{any_in, who_in}
use Rattle.ata_trace.specs.Text.{joined}
use Rattle.ata_trace.specs.Texts.{PortText, act_row, entry_rows, live_row, end_row, port_rows, rows_text, ports_text, AreActs, AreEntries, AreIds, ArePorts}
use Rattle.ata_trace.specs.Told.{second, third, fourth, fifth, after_five, id_in, act_told, step_told}
use Rattle.ata_trace.specs.declared.act.Act.{Act}
use Rattle.ata_trace.proofs.ActsBack.{act_back, act_plain}
use Rattle.ata_trace.proofs.Digits.{plain, n_in, n_plain}
use Rattle.ata_trace.proofs.LinesBack.{words_joined}
use Rattle.ata_trace.proofs.NameLemmas.{both}
use Rattle.ata_trace.proofs.PartLemmas.{some_part}
use Rattle.ata_trace.proofs.StepsBack.{who_back, step_back, step_plain}
use Rattle.ata_trace.proofs.WordsBack.{all_plain}

-- lines

-- whether a text has no line feed
abbrev clean : List ℕ → Bool
clean [] = true
clean (c ∷ rest) = nat_lt 10 c && clean rest

clean_more : (a b : List ℕ) → clean a ≡ true → clean b ≡ true → clean (a ++ b) ≡ true
clean_more [] b p q = q
clean_more (c ∷ a) b p q = let h = both (nat_lt 10 c) (clean a) p in rw (h.0, clean_more a b h.1 q) refl

plain_clean : (word : List ℕ) → plain word ≡ true → clean word ≡ true
plain_clean [] p = refl
plain_clean (c ∷ word) p = let h = both (nat_lt 32 c) (plain word) p in rw (plain_clean word h.1) (grind (arith, nat_tests, h.0))

joined_clean : (text : List ℕ) (words : List (List ℕ)) → clean text ≡ true → all_plain words ≡ true → clean (joined text words) ≡ true
joined_clean text [] p all = p
joined_clean text (word ∷ words) p all =
    let h = both (plain word) (all_plain words) all in
    joined_clean (text ++ 32 ∷ word) words (clean_more text (32 ∷ word) p (plain_clean word h.0)) h.1

no_end : (c : ℕ) (parts : List (List ℕ)) (rest : List ℕ) → nat_lt 10 c ≡ true → parts_of 10 rest ≡ parts → parts_of 10 (c ∷ rest) ≡ onto_first c parts
no_end c parts rest other same = let e : (c == 10) ≡ false = grind (arith, nat_tests, other) in rw (e, same) refl

first_line : (line rest : List ℕ) → clean line ≡ true → parts_of 10 (line ++ 10 ∷ rest) ≡ line ∷ parts_of 10 rest
first_line [] rest none = refl
first_line (c ∷ line) rest none = let h = both (nat_lt 10 c) (clean line) none in no_end c (line ∷ parts_of 10 rest) (line ++ 10 ∷ rest) h.0 (first_line line rest h.1)

-- the words of each line that ends
abbrev rows_of : List (List ℕ) → List (List (List ℕ))
rows_of [] = []
rows_of (last ∷ []) = []
rows_of (line ∷ next ∷ rest) = words_of line ∷ rows_of (next ∷ rest)

abbrev rows_in : List ℕ → List (List (List ℕ))
rows_in text = rows_of (parts_of 10 text)

-- rows of plain words, none of them empty
abbrev ArePlain : List (List (List ℕ)) → Type 0
ArePlain [] = Unit {0}
ArePlain ([] ∷ rest) = ⊥
ArePlain ((word ∷ words) ∷ rest) = (plain word ≡ true) × (all_plain words ≡ true) × ArePlain rest

more_rows : (line : List ℕ) (parts : List (List ℕ)) (text : List ℕ) → parts ≡ parts_of 10 text → rows_of (line ∷ parts) ≡ words_of line ∷ rows_of parts
more_rows line [] text e = absurd (cc (sym (some_part 10 text) ∙ ap none_left (sym e)))
more_rows line (next ∷ rest) text e = refl

rows_back : (rows : List (List (List ℕ))) → ArePlain rows → rows_in (rows_text rows) ≡ rows
rows_back [] h = refl
rows_back ([] ∷ rest) h = absurd h
rows_back ((word ∷ words) ∷ rest) h =
    ap rows_in (append_assoc (joined word words) (10 ∷ []) (rows_text rest))
    ∙ ap rows_of (first_line (joined word words) (rows_text rest) (joined_clean word words (plain_clean word h.0) h.1))
    ∙ more_rows (joined word words) (parts_of 10 (rows_text rest)) (rows_text rest) refl
    ∙ (λ i. words_joined word words h.0 h.1 i ∷ rows_back rest h.2 i)

-- what the rows from here on tell: the acts before the next head, the entries and the live commands
-- before the next end, the counts of that end, and the ports behind it
pub record Told : Type 0 where
  pub acts : List Act
  pub entries : List EntryView
  pub live : List ℕ
  pub counts : ℕ × ℕ × ℕ
  pub ports : List PortText

abbrev row_told : List (List ℕ) → Told → Told
row_told row t =
    if bytes_eq (first row) (codes "-") then record t { acts = act_told row ∷ t.acts }
    else if bytes_eq (first row) (codes "at") then
    record t { acts = []; entries = record { at = any_in (second row); who = who_in (third row); seq = any_in (fourth row); step = step_told (fifth row) (after_five row); acts = t.acts } ∷ t.entries }
    else if bytes_eq (first row) (codes "live") then record t { live = id_in (second row) ∷ t.live }
    else if bytes_eq (first row) (codes "end") then
    record { acts = []; entries = []; live = []; counts = (any_in (third row), any_in (fourth row), any_in (fifth row)); ports = t.ports }
    else
    record t { ports = record { port = any_in (second row); entries = t.entries; live = t.live; accepted = t.counts.0; answered = t.counts.1; left = t.counts.2 } ∷ t.ports }

pub rows_told : List (List (List ℕ)) → Told
rows_told [] = record { acts = []; entries = []; live = []; counts = (0, 0, 0); ports = [] }
rows_told (row ∷ rest) = row_told row (rows_told rest)

acts_told : (acts : List Act) (rest : List (List (List ℕ))) → AreActs acts → rows_told (map act_row acts ++ rest) ≡ record (rows_told rest) { acts = acts ++ (rows_told rest).acts }
unfolding rows_told
acts_told [] rest h = refl
acts_told (act ∷ acts) rest h = rw (acts_told acts rest h.1, act_back act h.0) refl

entries_told : (entries : List EntryView) (rest : List (List (List ℕ))) → AreEntries entries → (rows_told rest).acts ≡ []
    → rows_told (entry_rows entries ++ rest) ≡ record (rows_told rest) { entries = entries ++ (rows_told rest).entries }
unfolding rows_told
entries_told [] rest h none = refl
entries_told (r ∷ entries) rest h none =
    rw (
      append_assoc (map act_row r.acts) (entry_rows entries) rest,
      acts_told r.acts (entry_rows entries ++ rest) h.0.4,
      entries_told entries rest h.1 none,
      none,
      append-nil r.acts,
      n_in h.0.0,
      (who_back r.who h.0.1).0,
      n_in h.0.2,
      step_back r.step h.0.3,
    ) refl

live_told : (ids : List ℕ) (rest : List (List (List ℕ))) → AreIds ids → rows_told (map live_row ids ++ rest) ≡ record (rows_told rest) { live = ids ++ (rows_told rest).live }
unfolding rows_told
live_told [] rest h = refl
live_told (id ∷ ids) rest h = rw (live_told ids rest h.1, n_in h.0) refl

ports_told : (ports : List PortText) → ArePorts ports → (rows_told (port_rows ports)).ports ≡ ports
unfolding rows_told
ports_told [] h = refl
ports_told (p ∷ rest) h =
    let live = live_told p.live (end_row p ∷ port_rows rest) h.0.2 in
    rw (
      entries_told p.entries (map live_row p.live ++ end_row p ∷ port_rows rest) h.0.1 (ap (λ t. t.acts) live),
      live,
      append-nil p.entries,
      append-nil p.live,
      ports_told rest h.1,
      n_in h.0.0,
      n_in h.0.3,
      n_in h.0.4,
      n_in h.0.5,
    ) refl

-- all rows are of plain words

plain_rows : (a b : List (List (List ℕ))) → ArePlain a → ArePlain b → ArePlain (a ++ b)
plain_rows [] b p q = q
plain_rows ([] ∷ a) b p q = absurd p
plain_rows ((word ∷ words) ∷ a) b p q = (p.0, p.1, plain_rows a b p.2 q)

acts_plain : (acts : List Act) → AreActs acts → ArePlain (map act_row acts)
acts_plain [] h = tt
acts_plain (act ∷ acts) h = (refl, act_plain act h.0, acts_plain acts h.1)

entries_plain : (entries : List EntryView) → AreEntries entries → ArePlain (entry_rows entries)
entries_plain [] h = tt
entries_plain (r ∷ entries) h = (
  refl,
  rw (n_plain h.0.0, (who_back r.who h.0.1).1, n_plain h.0.2, step_plain r.step h.0.3) refl,
  plain_rows (map act_row r.acts) (entry_rows entries) (acts_plain r.acts h.0.4) (entries_plain entries h.1),
)

live_plain : (ids : List ℕ) → AreIds ids → ArePlain (map live_row ids)
live_plain [] h = tt
live_plain (id ∷ ids) h = (refl, rw (n_plain h.0) refl, live_plain ids h.1)

ports_plain : (ports : List PortText) → ArePorts ports → ArePlain (port_rows ports)
ports_plain [] h = tt
ports_plain (p ∷ rest) h = (
  refl,
  rw (n_plain h.0.0) refl,
  plain_rows (entry_rows p.entries) (map live_row p.live ++ end_row p ∷ port_rows rest) (entries_plain p.entries h.0.1)
      (plain_rows (map live_row p.live) (end_row p ∷ port_rows rest) (live_plain p.live h.0.2)
      (refl, rw (n_plain h.0.0, n_plain h.0.3, n_plain h.0.4, n_plain h.0.5) refl, ports_plain rest h.1)),
)

-- the text of ports tells them
pub text_back : (ports : List PortText) → ArePorts ports → (rows_told (rows_in (ports_text ports))).ports ≡ ports
text_back ports h = ap (λ rows. (rows_told rows).ports) (rows_back (port_rows ports) (ports_plain ports h)) ∙ ports_told ports h

-- no text belongs to two lists of ports
pub text_once : (a b : List PortText) → ArePorts a → ArePorts b → ports_text a ≡ ports_text b → a ≡ b
text_once a b f g same = sym (text_back a f) ∙ ap (λ text. (rows_told (rows_in text)).ports) same ∙ text_back b g
