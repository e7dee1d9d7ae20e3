-- Summaries of several ports, one after the other.
use Rattle.std.proofs.Common.{◌≡◌, ◌∙◌, ℕ, zero, suc, ◌+◌, ◌*◌, ◌<◌, ◌≤◌, Bool, List, [], ◌∷◌, ◌++◌, length, filter, take, get_or, refl, sym, ap, arith, length-append}
use Rattle.std.proofs.lemmas.List.{take_all, take_more, length-take-le}
use Rattle.std.proofs.lemmas.List.Elements.{filter-append}
use Rattle.std.proofs.lemmas.Grind.{flat_map-append}
use Rattle.std.proofs.lemmas.List.Sums.{sum_by_push}
use Rattle.ata_io.specs.Faults.{one_more}
use Rattle.ata_script.specs.declared.port_head.PortHead.{PortHead}
use Rattle.ata_trace.proofs.LastLemmas.{last_pushed}
use Rattle.ata_trace.specs.Entries.{EntryView}
use Rattle.ata_trace.specs.OpenEntries.{last_acts}
use Rattle.ata_trace.specs.declared.act.Act.{Act}
use Rattle.ata_trace.specs.declared.step.Step.{Step}
use Rattle.host_core.proofs.AloneLemmas.{settled_push}
use Rattle.host_summary.proofs.Counts.{entries_behind, same_numbers}
use Rattle.host_summary.specs.Summary.{acts_in, acts_like, entries_in, is_accepted, is_begun, is_failed, is_issued, is_nodev, is_ok, is_recorded, is_refused, is_retried, is_submit, summary_of, told}
use Rattle.host_summary.specs.Sums.{IsSummaryOf, plus}
use Rattle.host_summary.specs.Tally.{none_of, with_acts, with_entries}
use Rattle.host_summary.specs.declared.summary.Summary.{Summary}
use Rattle.port_core.specs.Hosts.{lives_in, lives_of}
use Rattle.port_core.specs.Weave.{asked_at, journals_of}
use Rattle.port_rules.specs.Settle.{settled_journal}

-- ---- one journal more

told_sum : (a b : ℕ) → told (told a + told b) ≡ told (a + b)
told_sum a b = omega arith

told_split : (a b n : ℕ) → n ≡ a + b → told (told a + told b) ≡ told n
told_split a b n split = told_sum a b ∙ ap told (sym split)

entries_split :
    (journals : List (List EntryView)) (entries : List EntryView)
    → entries_in (journals ++ entries ∷ []) ≡ entries_in journals ++ entries_in (entries ∷ [])
entries_split journals entries = flat_map-append (λ (e : List EntryView). e) journals (entries ∷ [])

like_split :
    (test : Act → Bool) (journals : List (List EntryView)) (entries : List EntryView)
    → told (acts_like test journals + acts_like test (entries ∷ [])) ≡ acts_like test (journals ++ entries ∷ [])
like_split test journals entries =
    let first : List Act = acts_in (entries_in journals) in
    let last : List Act = acts_in (entries_in (entries ∷ [])) in
    told_split (length (filter test first)) (length (filter test last)) (length (filter test (acts_in (entries_in (journals ++ entries ∷ [])))))
    (ap (λ e. length (filter test (acts_in e))) (entries_split journals entries)
    ∙ ap (λ acts. length (filter test acts)) (flat_map-append (λ (e : EntryView). e.acts) (entries_in journals) (entries_in (entries ∷ [])))
    ∙ ap length (filter-append test first last)
    ∙ length-append (filter test first) (filter test last))

count_split :
    (journals : List (List EntryView)) (entries : List EntryView)
    → told (told (length (entries_in journals)) + told (length (entries_in (entries ∷ [])))) ≡ told (length (entries_in (journals ++ entries ∷ [])))
count_split journals entries =
    told_split (length (entries_in journals)) (length (entries_in (entries ∷ []))) (length (entries_in (journals ++ entries ∷ [])))
    (ap length (entries_split journals entries) ∙ length-append (entries_in journals) (entries_in (entries ∷ [])))

live_one : (entries : List EntryView) → lives_of (entries ∷ []) ≡ lives_in entries
live_one entries = sum_by_push lives_in [] entries ∙ omega arith

live_split :
    (journals : List (List EntryView)) (entries : List EntryView)
    → lives_of journals + lives_of (entries ∷ []) ≡ lives_of (journals ++ entries ∷ [])
live_split journals entries =
    ap (λ n. lives_of journals + n) (live_one entries) ∙ sym (sum_by_push lives_in journals entries)

told_again : (n : ℕ) → told (told n + told 0) ≡ told n
told_again n = omega arith

-- the summary of one journal more is the sum
pub one_more_port :
    (steps : List (ℕ × ℕ × Step)) (journals : List (List EntryView)) (entries : List EntryView)
    → plus (summary_of steps journals) (summary_of [] (entries ∷ [])) ≡ summary_of steps (journals ++ entries ∷ [])
one_more_port steps journals entries =
    same_numbers (plus (summary_of steps journals) (summary_of [] (entries ∷ []))) (summary_of steps (journals ++ entries ∷ []))
    (told_again (length (filter is_submit steps)))
    (like_split is_accepted journals entries)
    (like_split is_refused journals entries)
    (like_split is_issued journals entries)
    (like_split is_ok journals entries)
    (like_split is_failed journals entries)
    (like_split is_nodev journals entries)
    (like_split is_retried journals entries)
    (like_split is_begun journals entries)
    (like_split is_recorded journals entries)
    (count_split journals entries)
    (live_split journals entries)

-- ---- the sum of the first ports

pub record IsSum (rounds : ℕ) (heads : List PortHead) (steps : List (ℕ × ℕ × Step)) (n : ℕ) (total : Summary) : Type 0 where
  pub value : total ≡ summary_of steps (journals_of rounds (take n heads) steps)
  pub few : total.live ≤ 65536 * n

-- of none
pub sum_begins :
    (rounds : ℕ) (heads : List PortHead) (steps : List (ℕ × ℕ × Step)) (total : Summary)
    → total ≡ none_of (told (length (filter is_submit steps))) 0 → IsSum rounds heads steps 0 total
sum_begins rounds heads steps total none = record {
  value = none;
  few = rw none (omega arith);
}

-- there is a head at each place
head_at : (heads : List PortHead) (n : ℕ) → n < length heads → (head : PortHead) × (head ≡ get_or heads n head)
head_at [] n within = absurd (omega (arith, within))
head_at (head ∷ rest) zero within = (head, refl)
head_at (head ∷ rest) (suc n) within = head_at rest n (omega (arith, within))

-- of one more
pub sum_goes :
    (rounds : ℕ) (heads : List PortHead) (steps : List (ℕ × ℕ × Step)) (n : ℕ) (total port next : Summary)
    → n < length heads → IsSum rounds heads steps n total → IsSummaryOf rounds heads steps n port
    → next ≡ plus total port → IsSum rounds heads steps (n + 1) next
sum_goes rounds heads steps n total port next within sum made added =
    let found = head_at heads n within in
    let head : PortHead = found.0 in
    let here : head ≡ get_or heads n head = found.1 in
    let more : take (n + 1) heads ≡ take n heads ++ head ∷ [] = take_more heads n head within ∙ ap (λ h. take n heads ++ h ∷ []) (sym here) in
    let place : 0 + length (take n heads) ≡ n = omega (arith, length-take-le n heads (omega (arith, within))) in
    record {
      value =
          added
          ∙ ap (λ s. plus s port) sum.value
          ∙ ap (plus (summary_of steps (journals_of rounds (take n heads) steps))) (made.value head here)
          ∙ one_more_port steps (journals_of rounds (take n heads) steps) (settled_journal rounds head (asked_at n steps))
          ∙ ap (λ i. summary_of steps (journals_of rounds (take n heads) steps ++ settled_journal rounds head (asked_at i steps) ∷ [])) (sym place)
          ∙ ap (summary_of steps) (sym (settled_push rounds 0 (take n heads) head steps))
          ∙ ap (λ h. summary_of steps (journals_of rounds h steps)) (sym more);
      few =
          let live : next.live ≡ total.live + port.live = ap (λ (s : Summary). s.live) added in
          omega (arith, live, sum.few, made.few);
    }

-- of all
pub sum_ends :
    (rounds : ℕ) (heads : List PortHead) (steps : List (ℕ × ℕ × Step)) (n : ℕ) (total : Summary)
    → length heads ≤ n → IsSum rounds heads steps n total → total ≡ summary_of steps (journals_of rounds heads steps)
sum_ends rounds heads steps n total all sum =
    sum.value ∙ ap (λ h. summary_of steps (journals_of rounds h steps)) (take_all n heads all)

-- ---- the entries of a port, counted as they are told

-- one entry more
pub counted_more :
    (s : Summary) (entries : List EntryView) (entry : EntryView) (all : List EntryView) (counts next : Summary)
    → counts ≡ with_entries s entries → all ≡ entries ++ entry ∷ []
    → next ≡ with_acts (record counts { entries = one_more counts.entries }) (last_acts all)
    → next ≡ with_entries s all
counted_more s entries entry all counts next are told_more made =
    let was : Summary = with_entries s entries in
    let begun : Summary = record was { entries = one_more was.entries } in
    made
    ∙ ap (λ (c : Summary). with_acts (record c { entries = one_more c.entries }) (last_acts all)) are
    ∙ ap (λ e. with_acts begun (last_acts e)) told_more
    ∙ ap (with_acts begun) (last_pushed entries entry)
    ∙ sym (entries_behind s entries entry)
    ∙ ap (with_entries s) (sym told_more)
