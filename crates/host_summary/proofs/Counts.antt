-- What is counted act by act is what the filters count.
use Rattle.std.proofs.Common.{arith, ◌≡◌, ℕ, ◌+◌, ◌-◌, ◌≤◌, ◌<◌, ◌^◌, Bool, true, false, List, [], ◌∷◌, ◌++◌, length, filter, get_or, take, refl, sym, ◌∙◌, ap, subst, length-append}
use Rattle.std.specs.Prelude.{if◌then◌else◌}
use Rattle.std.proofs.lemmas.List.{take_more}
use Rattle.std.proofs.lemmas.List.Elements.{filter-append}
use Rattle.std.proofs.lemmas.Grind.{flat_map-append}
use Rattle.ata_io.specs.Faults.{one_more}
use Rattle.ata_trace.specs.Entries.{EntryView}
use Rattle.ata_trace.specs.declared.act.Act.{Act}
use Rattle.ata_trace.specs.declared.act.Act.TheVariants.{Accepted, Refused, Issued, AnsweredOk, AnsweredFailed, AnsweredNodev, Retried, Begun, Recorded}
use Rattle.host_summary.specs.Summary.{acts_in, acts_like, entries_in, is_accepted, is_begun, is_failed, is_issued, is_nodev, is_ok, is_recorded, is_refused, is_retried, summary_of, told}
use Rattle.host_summary.specs.Tally.{none_of, with_act, with_acts, with_entries, with_entry, with_journals}
use Rattle.host_summary.specs.declared.summary.Summary.{Summary}
use Rattle.port_core.specs.Hosts.{lives_in}

-- ---- one more behind others

acts_behind : (s : Summary) (acts : List Act) (act : Act) → with_acts s (acts ++ act ∷ []) ≡ with_act (with_acts s acts) act
acts_behind s [] act = refl
acts_behind s (first ∷ acts) act = acts_behind (with_act s first) acts act

pub entries_behind : (s : Summary) (entries : List EntryView) (entry : EntryView) → with_entries s (entries ++ entry ∷ []) ≡ with_entry (with_entries s entries) entry
entries_behind s [] entry = refl
entries_behind s (first ∷ entries) entry = entries_behind (with_entry s first) entries entry

-- the first elements of a list and the next are one more of the first
taken_next : {X : Type 0} (xs : List X) (i : ℕ) (x : X) → i < length xs → x ≡ get_or xs i x → take (i + 1) xs ≡ take i xs ++ x ∷ []
taken_next xs i x within here = take_more xs i x within ∙ ap (λ y. take i xs ++ y ∷ []) (sym here)

-- one act more was counted
pub acts_more :
    (s : Summary) (acts : List Act) (i : ℕ) (act : Act) → i < length acts → act ≡ get_or acts i act
    → with_acts s (take (i + 1) acts) ≡ with_act (with_acts s (take i acts)) act
acts_more s acts i act within here = ap (with_acts s) (taken_next acts i act within here) ∙ acts_behind s (take i acts) act

-- ---- a number that counts acts

-- one more where it is so
abbrev more_if : Bool → ℕ → ℕ
more_if true n = one_more n
more_if false n = n

-- a number of a summary counts the acts that pass a test, and nothing else changes it
record Counts (get : Summary → ℕ) (test : Act → Bool) : Type 0 where
  act : (s : Summary) (a : Act) → get (with_act s a) ≡ more_if (test a) (get s)
  entry : (s : Summary) (n : ℕ) → get (record s { entries = n }) ≡ get s

-- the number after one act more, where it fits
act_told : (test : Bool) (n k : ℕ) → told (more_if test n + k) ≡ told (n + (if test then k + 1 else k))
act_told true n k = omega arith
act_told false n k = refl

count_if : (test : Act → Bool) (a : Act) (rest : List Act) → length (filter test (a ∷ rest)) ≡ (if test a then length (filter test rest) + 1 else length (filter test rest))
count_if test a rest = choose (test a) where
  choose : (b : Bool) → length (if b then a ∷ filter test rest else filter test rest) ≡ (if b then length (filter test rest) + 1 else length (filter test rest))
  choose true = omega arith
  choose false = refl

acts_counted :
    (get : Summary → ℕ) (test : Act → Bool) → Counts get test → (s : Summary) (acts : List Act)
    → told (get (with_acts s acts)) ≡ told (get s + length (filter test acts))
acts_counted get test counts s [] = ap told (omega arith)
acts_counted get test counts s (a ∷ rest) =
    acts_counted get test counts (with_act s a) rest
    ∙ ap (λ n. told (n + length (filter test rest))) (counts.act s a)
    ∙ act_told (test a) (get s) (length (filter test rest))
    ∙ ap (λ k. told (get s + k)) (sym (count_if test a rest))

told_more : (a b k : ℕ) → told a ≡ told b → told (a + k) ≡ told (b + k)
told_more a b k same = omega (arith, same)

entries_counted :
    (get : Summary → ℕ) (test : Act → Bool) → Counts get test → (s : Summary) (entries : List EntryView)
    → told (get (with_entries s entries)) ≡ told (get s + length (filter test (acts_in entries)))
entries_counted get test counts s [] = ap told (omega arith)
entries_counted get test counts s (entry ∷ rest) =
    let first : Summary = record s { entries = one_more s.entries } in
    let n : ℕ = length (filter test entry.acts) in
    let k : ℕ = length (filter test (acts_in rest)) in
    let split : length (filter test (acts_in (entry ∷ rest))) ≡ n + k =
    ap length (filter-append test entry.acts (acts_in rest)) ∙ length-append (filter test entry.acts) (filter test (acts_in rest)) in
    let sum : get s + n + k ≡ get s + (n + k) = omega arith in
    entries_counted get test counts (with_entry s entry) rest
    ∙ told_more (get (with_acts first entry.acts)) (get s + n) k
    (acts_counted get test counts first entry.acts ∙ ap (λ m. told (m + n)) (counts.entry s (one_more s.entries)))
    ∙ ap told sum ∙ ap (λ m. told (get s + m)) (sym split)

journals_counted :
    (get : Summary → ℕ) (test : Act → Bool) → Counts get test → (s : Summary) (journals : List (List EntryView))
    → told (get (with_journals s journals)) ≡ told (get s + length (filter test (acts_in (entries_in journals))))
journals_counted get test counts s [] = ap told (omega arith)
journals_counted get test counts s (entries ∷ rest) =
    let n : ℕ = length (filter test (acts_in entries)) in
    let k : ℕ = length (filter test (acts_in (entries_in rest))) in
    let split : length (filter test (acts_in (entries_in (entries ∷ rest)))) ≡ n + k =
    ap (λ acts. length (filter test acts)) (flat_map-append (λ (e : EntryView). e.acts) entries (entries_in rest))
    ∙ ap length (filter-append test (acts_in entries) (acts_in (entries_in rest)))
    ∙ length-append (filter test (acts_in entries)) (filter test (acts_in (entries_in rest))) in
    let sum : get s + n + k ≡ get s + (n + k) = omega arith in
    journals_counted get test counts (with_entries s entries) rest
    ∙ told_more (get (with_entries s entries)) (get s + n) k (entries_counted get test counts s entries)
    ∙ ap told sum ∙ ap (λ m. told (get s + m)) (sym split)

-- ---- and it stays a number of 64 bits

if_fits : (test : Bool) (n : ℕ) → n ≤ 2 ^ 64 - 1 → more_if test n ≤ 2 ^ 64 - 1
if_fits true n fits = omega arith
if_fits false n fits = fits

acts_fit :
    (get : Summary → ℕ) (test : Act → Bool) → Counts get test → (s : Summary) (acts : List Act) → get s ≤ 2 ^ 64 - 1 → get (with_acts s acts) ≤ 2 ^ 64 - 1
acts_fit get test counts s [] fits = fits
acts_fit get test counts s (a ∷ rest) fits =
    let next : get (with_act s a) ≤ 2 ^ 64 - 1 = subst (λ n. n ≤ 2 ^ 64 - 1) (sym (counts.act s a)) (if_fits (test a) (get s) fits) in
    acts_fit get test counts (with_act s a) rest next

entries_fit :
    (get : Summary → ℕ) (test : Act → Bool) → Counts get test → (s : Summary) (entries : List EntryView) → get s ≤ 2 ^ 64 - 1
    → get (with_entries s entries) ≤ 2 ^ 64 - 1
entries_fit get test counts s [] fits = fits
entries_fit get test counts s (entry ∷ rest) fits =
    let first : Summary = record s { entries = one_more s.entries } in
    let begun : get first ≤ 2 ^ 64 - 1 = subst (λ n. n ≤ 2 ^ 64 - 1) (sym (counts.entry s (one_more s.entries))) fits in
    entries_fit get test counts (with_entry s entry) rest (acts_fit get test counts first entry.acts begun)

journals_fit :
    (get : Summary → ℕ) (test : Act → Bool) → Counts get test → (s : Summary) (journals : List (List EntryView)) → get s ≤ 2 ^ 64 - 1
    → get (with_journals s journals) ≤ 2 ^ 64 - 1
journals_fit get test counts s [] fits = fits
journals_fit get test counts s (entries ∷ rest) fits =
    journals_fit get test counts (with_entries s entries) rest (entries_fit get test counts s entries fits)

pub told_itself : (n : ℕ) → n ≤ 2 ^ 64 - 1 → told n ≡ n
told_itself n fits = omega (arith, fits)

-- so from 0 on it is what the filter counts
from_nothing :
    (get : Summary → ℕ) (test : Act → Bool) → Counts get test → (s : Summary) (journals : List (List EntryView)) → get s ≡ 0
    → get (with_journals s journals) ≡ acts_like test journals
from_nothing get test counts s journals zero =
    sym (told_itself (get (with_journals s journals)) (journals_fit get test counts s journals (omega (arith, zero))))
    ∙ journals_counted get test counts s journals
    ∙ ap told (omega (arith, zero))

-- ---- a number that no act changes

acts_stay : (get : Summary → ℕ) → ((s : Summary) (a : Act) → get (with_act s a) ≡ get s) → (s : Summary) (acts : List Act) → get (with_acts s acts) ≡ get s
acts_stay get stays s [] = refl
acts_stay get stays s (a ∷ rest) = acts_stay get stays (with_act s a) rest ∙ stays s a

-- nor an entry
record Stays (get : Summary → ℕ) : Type 0 where
  act : (s : Summary) (a : Act) → get (with_act s a) ≡ get s
  entry : (s : Summary) (n : ℕ) → get (record s { entries = n }) ≡ get s

entries_stay : (get : Summary → ℕ) → Stays get → (s : Summary) (entries : List EntryView) → get (with_entries s entries) ≡ get s
entries_stay get stays s [] = refl
entries_stay get stays s (entry ∷ rest) =
    entries_stay get stays (with_entry s entry) rest
    ∙ acts_stay get stays.act (record s { entries = one_more s.entries }) entry.acts
    ∙ stays.entry s (one_more s.entries)

journals_stay : (get : Summary → ℕ) → Stays get → (s : Summary) (journals : List (List EntryView)) → get (with_journals s journals) ≡ get s
journals_stay get stays s [] = refl
journals_stay get stays s (entries ∷ rest) = journals_stay get stays (with_entries s entries) rest ∙ entries_stay get stays s entries

-- ---- the number of entries

acts_are_none : (s : Summary) (acts : List Act) → (with_acts s acts).entries ≡ s.entries
acts_are_none = acts_stay (λ s. s.entries) each where
  each : (s : Summary) (a : Act) → (with_act s a).entries ≡ s.entries
  each s (Accepted id) = refl
  each s a = refl

told_next : (n k : ℕ) → told (one_more n + k) ≡ told (n + (k + 1))
told_next n k = omega arith

one_longer : (entry : EntryView) (rest : List EntryView) → length rest + 1 ≡ length (entry ∷ rest)
one_longer entry rest = omega arith

each_told : (s : Summary) (entries : List EntryView) → told (with_entries s entries).entries ≡ told (s.entries + length entries)
each_told s [] = ap told (omega arith)
each_told s (entry ∷ rest) =
    each_told (with_entry s entry) rest
    ∙ ap (λ n. told (n + length rest)) (acts_are_none (record s { entries = one_more s.entries }) entry.acts)
    ∙ told_next s.entries (length rest)
    ∙ ap (λ k. told (s.entries + k)) (one_longer entry rest)

all_told : (s : Summary) (journals : List (List EntryView)) → told (with_journals s journals).entries ≡ told (s.entries + length (entries_in journals))
all_told s [] = ap told (omega arith)
all_told s (entries ∷ rest) =
    let n : ℕ = length entries in
    let k : ℕ = length (entries_in rest) in
    let split : length (entries_in (entries ∷ rest)) ≡ n + k = length-append entries (entries_in rest) in
    let sum : s.entries + n + k ≡ s.entries + (n + k) = omega arith in
    all_told (with_entries s entries) rest
    ∙ told_more (with_entries s entries).entries (s.entries + n) k (each_told s entries)
    ∙ ap told sum ∙ ap (λ m. told (s.entries + m)) (sym split)

each_fits : (s : Summary) (entries : List EntryView) → s.entries ≤ 2 ^ 64 - 1 → (with_entries s entries).entries ≤ 2 ^ 64 - 1
each_fits s [] fits = fits
each_fits s (entry ∷ rest) fits =
    let first : Summary = record s { entries = one_more s.entries } in
    let next : (with_acts first entry.acts).entries ≤ 2 ^ 64 - 1 = subst (λ n. n ≤ 2 ^ 64 - 1) (sym (acts_are_none first entry.acts)) (if_fits true s.entries fits) in
    each_fits (with_entry s entry) rest next

all_fit : (s : Summary) (journals : List (List EntryView)) → s.entries ≤ 2 ^ 64 - 1 → (with_journals s journals).entries ≤ 2 ^ 64 - 1
all_fit s [] fits = fits
all_fit s (entries ∷ rest) fits = all_fit (with_entries s entries) rest (each_fits s entries fits)

entries_from_nothing : (s : Summary) (journals : List (List EntryView)) → s.entries ≡ 0 → (with_journals s journals).entries ≡ told (length (entries_in journals))
entries_from_nothing s journals zero =
    sym (told_itself (with_journals s journals).entries (all_fit s journals (omega (arith, zero))))
    ∙ all_told s journals
    ∙ ap told (omega (arith, zero))

-- ---- the numbers, each one

accepted_counts : Counts (λ s. s.accepted) is_accepted
accepted_counts = record { act = λ s a. each s a; entry = λ s n. refl } where
  each : (s : Summary) (a : Act) → (with_act s a).accepted ≡ more_if (is_accepted a) s.accepted
  each s (Accepted id) = refl
  each s a = refl

refused_counts : Counts (λ s. s.refused) is_refused
refused_counts = record { act = λ s a. each s a; entry = λ s n. refl } where
  each : (s : Summary) (a : Act) → (with_act s a).refused ≡ more_if (is_refused a) s.refused
  each s (Refused id why) = refl
  each s a = refl

issued_counts : Counts (λ s. s.issued) is_issued
issued_counts = record { act = λ s a. each s a; entry = λ s n. refl } where
  each : (s : Summary) (a : Act) → (with_act s a).issued ≡ more_if (is_issued a) s.issued
  each s (Issued id number tag deadline fis) = refl
  each s a = refl

ok_counts : Counts (λ s. s.ok) is_ok
ok_counts = record { act = λ s a. each s a; entry = λ s n. refl } where
  each : (s : Summary) (a : Act) → (with_act s a).ok ≡ more_if (is_ok a) s.ok
  each s (AnsweredOk id number status error lba count stamps) = refl
  each s a = refl

failed_counts : Counts (λ s. s.failed) is_failed
failed_counts = record { act = λ s a. each s a; entry = λ s n. refl } where
  each : (s : Summary) (a : Act) → (with_act s a).failed ≡ more_if (is_failed a) s.failed
  each s (AnsweredFailed id number kinds status error lba count) = refl
  each s a = refl

nodev_counts : Counts (λ s. s.nodev) is_nodev
nodev_counts = record { act = λ s a. each s a; entry = λ s n. refl } where
  each : (s : Summary) (a : Act) → (with_act s a).nodev ≡ more_if (is_nodev a) s.nodev
  each s (AnsweredNodev id number) = refl
  each s a = refl

retried_counts : Counts (λ s. s.retried) is_retried
retried_counts = record { act = λ s a. each s a; entry = λ s n. refl } where
  each : (s : Summary) (a : Act) → (with_act s a).retried ≡ more_if (is_retried a) s.retried
  each s (Retried id number raised) = refl
  each s a = refl

runs_counts : Counts (λ s. s.runs) is_begun
runs_counts = record { act = λ s a. each s a; entry = λ s n. refl } where
  each : (s : Summary) (a : Act) → (with_act s a).runs ≡ more_if (is_begun a) s.runs
  each s Begun = refl
  each s a = refl

recorded_counts : Counts (λ s. s.recorded) is_recorded
recorded_counts = record { act = λ s a. each s a; entry = λ s n. refl } where
  each : (s : Summary) (a : Act) → (with_act s a).recorded ≡ more_if (is_recorded a) s.recorded
  each s (Recorded place io dubious kinds ncq_off speed_down pio keep action) = refl
  each s a = refl

commands_stay : Stays (λ s. s.commands)
commands_stay = record { act = λ s a. each s a; entry = λ s n. refl } where
  each : (s : Summary) (a : Act) → (with_act s a).commands ≡ s.commands
  each s (Accepted id) = refl
  each s a = refl

-- ---- all of them

-- summaries with the same numbers
pub same_numbers : (s t : Summary)
    → s.commands ≡ t.commands
    → s.accepted ≡ t.accepted
    → s.refused ≡ t.refused
    → s.issued ≡ t.issued
    → s.ok ≡ t.ok
    → s.failed ≡ t.failed
    → s.nodev ≡ t.nodev
    → s.retried ≡ t.retried
    → s.runs ≡ t.runs
    → s.recorded ≡ t.recorded
    → s.entries ≡ t.entries
    → s.live ≡ t.live
    → s ≡ t
same_numbers s t commands accepted refused issued ok failed nodev retried runs recorded entries live =
    λ j. record {
      commands = commands j;
      accepted = accepted j;
      refused = refused j;
      issued = issued j;
      ok = ok j;
      failed = failed j;
      nodev = nodev j;
      retried = retried j;
      runs = runs j;
      recorded = recorded j;
      entries = entries j;
      live = live j;
    }

-- counted from 0 on, the entries of a port give what is told of them
pub one_counted :
    (entries : List EntryView) (live : ℕ) (s : Summary) → s ≡ with_entries (none_of 0 0) entries → live ≡ lives_in entries
    → record s { live = live } ≡ summary_of [] (entries ∷ [])
one_counted entries live s are lives =
    let z : Summary = none_of 0 0 in
    let journals : List (List EntryView) = entries ∷ [] in
    ap (λ (c : Summary). record c { live = live }) are
    ∙ same_numbers (record (with_journals z journals) { live = live }) (summary_of [] journals)
    (journals_stay (λ s. s.commands) commands_stay z journals)
    (from_nothing (λ s. s.accepted) is_accepted accepted_counts z journals refl)
    (from_nothing (λ s. s.refused) is_refused refused_counts z journals refl)
    (from_nothing (λ s. s.issued) is_issued issued_counts z journals refl)
    (from_nothing (λ s. s.ok) is_ok ok_counts z journals refl)
    (from_nothing (λ s. s.failed) is_failed failed_counts z journals refl)
    (from_nothing (λ s. s.nodev) is_nodev nodev_counts z journals refl)
    (from_nothing (λ s. s.retried) is_retried retried_counts z journals refl)
    (from_nothing (λ s. s.runs) is_begun runs_counts z journals refl)
    (from_nothing (λ s. s.recorded) is_recorded recorded_counts z journals refl)
    (entries_from_nothing z journals refl)
    (omega (arith, lives))
