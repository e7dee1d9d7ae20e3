-- How many commands are live: those that wait and those in flight.
use Rattle.std.proofs.Common.{◌≡◌, ◌∙◌, ℕ, ◌+◌, ◌<◌, Bool, true, false, ◌==◌, List, [], ◌∷◌, ◌++◌, Option, None, Some, inl, inr, suc, length, map, flat_map, is_some, refl, sym, ap, subst, arith, if◌then◌else◌}
use Rattle.std.specs.List.{list_all, count_by, sum_by}
use Rattle.std.proofs.lemmas.Bool.{eqb-true, eq-eqb}
use Rattle.std.proofs.lemmas.List.{length-append}
use Rattle.std.proofs.lemmas.List.Sums.{sum_by-cons, sum_by-append}
use Rattle.ata_base.specs.declared.cmd.Cmd.{Cmd}
use Rattle.ata_script.specs.declared.port_head.PortHead.{PortHead}
use Rattle.ata_trace.specs.Entries.{EntryView, grown, past_from, past_of}
use Rattle.ata_trace.specs.Event.{Event, onto}
use Rattle.ata_trace.specs.Event.Event.{Entered, Told}
use Rattle.ata_trace.specs.declared.act.Act.{Act}
use Rattle.ata_trace.specs.declared.act.Act.TheVariants.{Retried, Autopsied, Ended}
use Rattle.ata_trace.specs.declared.step.Step.{Step}
use Rattle.ata_trace.specs.declared.step.Step.TheVariants.{Recover, Boot}
use Rattle.ata_trace.specs.declared.who.Who.{Who}
use Rattle.ata_trace.specs.declared.who.Who.TheVariants.{Boot as ByBoot}
use Rattle.host_tags.specs.declared.in_flight.InFlight.{InFlight}
use Rattle.port_facts.proofs.Legal.{journal_allowed}
use Rattle.port_facts.proofs.Once.{once_or_live}
use Rattle.port_facts.specs.Once.{one_if, is_issue_of, lives, flights, waits, returns}
use Rattle.port_past.specs.Clock.{clock}
use Rattle.port_past.specs.Commands.{commands}
use Rattle.port_past.specs.Attachment.{detachments}
use Rattle.port_past.specs.Completions.{completions}
use Rattle.port_past.specs.PortState.{is_frozen}
use Rattle.port_past.specs.Judged.{judged}
use Rattle.port_past.specs.Live.{live}
use Rattle.port_past.specs.Queues.{queues, retried}
use Rattle.port_past.specs.Slots.{slots}
use Rattle.port_rules.specs.Autopsy.{examined_acts, autopsy_acts}
use Rattle.port_past.specs.Heads.{places_of}
use Rattle.port_rules.specs.Boot.{boot_acts}
use Rattle.port_rules.specs.Finish.{finishes}
use Rattle.port_rules.specs.Sorting.{ok_answers, condemnations}
use Rattle.port_rules.specs.Legal.{legal_acts, entry_after, AreLegal, HasLegalActs, IsLegal}
use Rattle.port_rules.specs.Begin.{timed_out, with_freeze, begin_acts}
use Rattle.port_rules.specs.Recover.{recover_acts}
use Rattle.port_rules.specs.Logs.{log_acts}
use Rattle.port_rules.specs.AutopsyView.{autopsy_view}
use Rattle.ata_base.proofs.Truth.{both}
use Rattle.port_stands.proofs.Blocks.{all_append, all_wider}
use Rattle.ata_trace.proofs.Pasts.{onto_append}
use Rattle.port_stands.proofs.EachStep.{HasKick, HasSteps, all_step}
use Rattle.port_stands.proofs.GuardAutopsy.{is_autopsy_act, autopsy_all}
use Rattle.port_stands.proofs.GuardFrames.{is_gate_row}
use Rattle.port_stands.proofs.Lists.{all_answers, all_condemnations, all_with_freeze}
use Rattle.port_stands.proofs.Recovers.{is_rest, RecoverDoes, recover_does}
use Rattle.port_stands.proofs.Recovers.RecoverDoes.{Rests, Begins, Reads, Examines, DoesRow, Identifies, Ends}
use Rattle.port_stands.proofs.Silence.{boot_kind}
use Rattle.port_stands.proofs.Steps.{all_logs}
use Rattle.port_stands.specs.Counting.{IsLiveCounted}

-- ---- two lists in which each number is as often are as long

abbrev pub count : ℕ → List ℕ → ℕ
count n xs = count_by (λ x. x == n) xs

count_cons : (n x : ℕ) (xs : List ℕ) → count n (x ∷ xs) ≡ one_if (x == n) + count n xs
count_cons n x xs = sum_by-cons (λ y. one_if (y == n)) x xs

-- the list without a number once
abbrev pub but_one : ℕ → List ℕ → List ℕ
but_one n [] = []
but_one n (x ∷ xs) = if x == n then xs else x ∷ but_one n xs

found_once : (n : ℕ) (xs : List ℕ) → 0 < count n xs → length xs ≡ suc (length (but_one n xs))
found_once n [] some = absurd (omega (arith, some))
found_once n (x ∷ xs) some = by (x == n) refl (λ more. found_once n xs more)
  where
    by : (b : Bool) → (x == n) ≡ b → (0 < count n xs → length xs ≡ suc (length (but_one n xs))) → suc (length xs) ≡ suc (length (if b then xs else x ∷ but_one n xs))
    by true e later = refl
    by false e later = ap suc (later (omega (arith, some, count_cons n x xs, ap one_if e)))

found_count : (n m : ℕ) (xs : List ℕ) → 0 < count n xs → count m xs ≡ one_if (n == m) + count m (but_one n xs)
found_count n m [] some = absurd (omega (arith, some))
found_count n m (x ∷ xs) some = by (x == n) refl (λ more. found_count n m xs more)
  where
    by : (b : Bool) → (x == n) ≡ b → (0 < count n xs → count m xs ≡ one_if (n == m) + count m (but_one n xs))
        → count m (x ∷ xs) ≡ one_if (n == m) + count m (if b then xs else x ∷ but_one n xs)
    by true e later = count_cons m x xs ∙ ap (λ y. one_if (y == m) + count m xs) (eqb-true x n e)
    by false e later =
        omega (arith, count_cons m x xs, count_cons m x (but_one n xs), later (omega (arith, some, count_cons n x xs, ap one_if e)))

pub as_long : (xs ys : List ℕ) → ((n : ℕ) → count n xs ≡ count n ys) → length xs ≡ length ys
as_long [] [] same = refl
as_long [] (y ∷ ys) same = absurd (omega (arith, same y, count_cons y y ys, ap one_if (eq-eqb y y refl)))
as_long (x ∷ xs) ys same =
    let some : 0 < count x ys = omega (arith, same x, count_cons x x xs, ap one_if (eq-eqb x x refl)) in
    omega (
      arith,
      as_long xs (but_one x ys) (λ n. omega (arith, same n, count_cons n x xs, found_count x n ys some)),
      found_once x ys some,
    )

-- ---- the numbers of what flies and waits

abbrev pub flight_ids : List (Option InFlight) → List ℕ
flight_ids [] = []
flight_ids (None ∷ slots) = flight_ids slots
flight_ids (Some f ∷ slots) = f.id ∷ flight_ids slots

abbrev pub ids : List Cmd → List ℕ
ids cs = map (λ (c : Cmd). c.id) cs

abbrev pub queue_ids : List (List Cmd) → List ℕ
queue_ids [] = []
queue_ids (q ∷ queues) = ids q ++ queue_ids queues

flight_count : (id : ℕ) (slots : List (Option InFlight)) → count id (flight_ids slots) ≡ count_by (is_issue_of id) slots
flight_count id [] = refl
flight_count id (None ∷ slots) = omega (arith, flight_count id slots, sum_by-cons (λ s. one_if (is_issue_of id s)) None slots)
flight_count id (Some f ∷ slots) =
    omega (arith, flight_count id slots, count_cons id f.id (flight_ids slots), sum_by-cons (λ s. one_if (is_issue_of id s)) (Some f) slots)

ids_count : (id : ℕ) (cs : List Cmd) → count id (ids cs) ≡ count_by (λ c. c.id == id) cs
ids_count id [] = refl
ids_count id (c ∷ cs) = omega (arith, ids_count id cs, count_cons id c.id (ids cs), sum_by-cons (λ (d : Cmd). one_if (d.id == id)) c cs)

count_append : (n : ℕ) (xs ys : List ℕ) → count n (xs ++ ys) ≡ count n xs + count n ys
count_append n xs ys = sum_by-append (λ x. one_if (x == n)) xs ys

queue_count : (id : ℕ) (queues : List (List Cmd)) → count id (queue_ids queues) ≡ sum_by (count_by (λ c. c.id == id)) queues
queue_count id [] = refl
queue_count id (q ∷ queues) =
    omega (arith, queue_count id queues, ids_count id q, count_append id (ids q) (queue_ids queues), sum_by-cons (count_by (λ (c : Cmd). c.id == id)) q queues)

flight_length : (slots : List (Option InFlight)) → length (flight_ids slots) ≡ count_by is_some slots
flight_length [] = refl
flight_length (None ∷ slots) = omega (arith, flight_length slots, sum_by-cons (λ (s : Option InFlight). one_if (is_some s)) None slots)
flight_length (Some f ∷ slots) = omega (arith, flight_length slots, sum_by-cons (λ (s : Option InFlight). one_if (is_some s)) (Some f) slots)

ids_length : (cs : List Cmd) → length (ids cs) ≡ length cs
ids_length [] = refl
ids_length (c ∷ cs) = ap suc (ids_length cs)

queue_length : (queues : List (List Cmd)) → length (queue_ids queues) ≡ sum_by length queues
queue_length [] = refl
queue_length (q ∷ queues) =
    omega (arith, queue_length queues, length-append (ids q) (queue_ids queues), ids_length q, sum_by-cons (λ (c : List Cmd). length c) q queues)

-- where nothing is given back that no queue took
counted_of :
    (past : List Event) → ((id : ℕ) → lives id past ≡ flights id past + waits id past + returns id past) → retried past ≡ [] → IsLiveCounted past
counted_of past balance none =
    omega (
      arith,
      as_long (live past) (queue_ids (queues past) ++ flight_ids (slots past))
          (λ n. omega (
            arith,
            balance n,
            ap (λ (cs : List Cmd). count_by (λ c. c.id == n) cs) none,
            queue_count n (queues past),
            flight_count n (slots past),
            count_append n (queue_ids (queues past)) (flight_ids (slots past)),
          )),
      length-append (queue_ids (queues past)) (flight_ids (slots past)),
      queue_length (queues past),
      flight_length (slots past),
    )

-- ---- between entries nothing is given back

abbrev pub is_no_retry : Act → Bool
is_no_retry (Retried id number raised) = false
is_no_retry act = true

none_step : (p : List Event) (act : Act) → is_no_retry act ≡ true → retried p ≡ [] → retried (Told act ∷ p) ≡ []
none_step p (Retried id number raised) is none = absurd (cc)
none_step p Ended is none = refl
none_step p act is none = none

none_onto : (p : List Event) (acts : List Act) → list_all is_no_retry acts ≡ true → retried p ≡ [] → retried (onto p acts) ≡ []
none_onto p [] all none = none
none_onto p (act ∷ rest) all none =
    let parts = both (is_no_retry act) (list_all is_no_retry rest) all in
    none_onto (Told act ∷ p) rest parts.1 (none_step p act parts.0 none)

rest_retries : (act : Act) → is_rest act ≡ true → is_no_retry act ≡ true
rest_retries (Retried id number raised) is = is
rest_retries act is = refl

row_retries : (act : Act) → is_gate_row act ≡ true → is_no_retry act ≡ true
row_retries (Retried id number raised) is = is
row_retries act is = refl

autopsy_retries : (act : Act) → is_autopsy_act act ≡ true → is_no_retry act ≡ true
autopsy_retries (Retried id number raised) is = is
autopsy_retries act is = refl

retries_kick : HasKick is_no_retry
retries_kick = record { nothing = refl; deferred = λ i w. refl; exclusive = λ p. refl; gone = λ i. refl; issued = λ i n t d f. refl }

retries_steps : HasSteps is_no_retry
retries_steps = record {
  nothing = refl;
  accepted = λ i. refl;
  refused = λ i w. refl;
  done = λ n s e l c. refl;
  raised = refl;
  lost = refl;
  now = λ t. refl;
  plugged = λ p d. refl;
  unplugged = λ p. refl;
  injected = λ p. refl;
  answered = λ f e. refl;
  condemned = λ f. refl;
  frozen = refl;
  requested = refl;
  expired = λ f. refl;
  drained = refl;
}

module _ (head : PortHead) (past : List Event) (time : ℕ) (who : Who) (seq : ℕ) (none : retried past ≡ []) where
  recover_none : retried (onto (Entered time who seq Recover ∷ past) (recover_acts head past)) ≡ []
  recover_none = by (recover_does head past)
    where
      by : {acts : List Act} → RecoverDoes head past acts → retried (onto (Entered time who seq Recover ∷ past) acts) ≡ []
      by {acts} (Rests idle all) = none_onto (Entered time who seq Recover ∷ past) acts (all_wider is_rest is_no_retry rest_retries acts all) none
      by {acts} (Begins begin) =
          subst (λ a. retried (onto (Entered time who seq Recover ∷ past) a) ≡ []) (sym begin.told)
          (none_onto (Entered time who seq Recover ∷ past) (begin_acts head past)
          (all_append is_no_retry (ok_answers (slots past) (completions head past)) (with_freeze (is_frozen past) (condemnations (λ f. true) timed_out (slots past) (completions head past)))
          (all_answers is_no_retry (λ f e. refl) (slots past) (completions head past))
          (all_with_freeze is_no_retry (is_frozen past) (condemnations (λ f. true) timed_out (slots past) (completions head past)) refl
          (all_condemnations is_no_retry (λ f. true) timed_out (λ f. refl) (slots past) (completions head past)))) none)
      by {acts} (Reads log) =
          subst (λ a. retried (onto (Entered time who seq Recover ∷ past) a) ≡ []) (sym log.told)
          (none_onto (Entered time who seq Recover ∷ past) (log_acts head past log.place)
          (all_logs is_no_retry (record { page = λ p t s e l c. refl; failed = λ p. refl; bad_sum = λ p. refl; not_queued = λ p. refl; aborted = λ n. refl }) head past log.place) none)
      by {acts} (Examines autopsy) =
          subst (λ a. retried (onto (Entered time who seq Recover ∷ past) a) ≡ []) (sym autopsy.told)
          (none_onto (Entered time who seq Recover ∷ past) (autopsy_acts head past)
          (all_append is_no_retry (flat_map (λ place. examined_acts (autopsy_view head past place)) (places_of head)) (Autopsied ∷ [])
          (all_wider is_autopsy_act is_no_retry autopsy_retries (flat_map (λ place. examined_acts (autopsy_view head past place)) (places_of head)) (autopsy_all head past)) refl) none)
      by {acts} (DoesRow row modeless) = none_onto (Entered time who seq Recover ∷ past) acts (all_wider is_gate_row is_no_retry row_retries acts row.all) none
      by {acts} (Identifies identity) = none_onto (Entered time who seq Recover ∷ past) acts (all_wider is_gate_row is_no_retry row_retries acts identity.row.all) none
      by {acts} (Ends end) =
          subst (λ a. retried (onto (Entered time who seq Recover ∷ past) a) ≡ []) (sym end.told)
          (ap retried (onto_append (Entered time who seq Recover ∷ past) (finishes (commands past) (detachments past) (slots past) (judged past)) (Ended ∷ [])))

module _ (head : PortHead) where
  none_after : (past : List Event) (who : Who) (seq : ℕ) (step : Step) → retried past ≡ [] → retried (grown past (entry_after head past who seq step)) ≡ []
  none_after past who seq step none = elim (all_step is_no_retry retries_steps retries_kick head past step) [
    | inl is ↦ subst (λ s. retried (grown past (entry_after head past who seq s)) ≡ []) (sym is) (recover_none head past (clock past) who seq none)
    | inr all ↦ none_onto (Entered (clock past) who seq step ∷ past) (legal_acts head past step) all none
  ]

  entries_none : (past : List Event) (entries : List EntryView) → retried past ≡ [] → AreLegal head past entries → retried (past_from past entries) ≡ []
  entries_none past [] none legal = none
  entries_none past (r ∷ rest) none legal =
      entries_none (grown past r) rest
      (subst (λ x. retried (grown past x) ≡ []) (sym legal.0) (none_after past r.who r.seq r.step none)) legal.1

  acts_none : (journal : List EntryView) → HasLegalActs head journal → retried (past_of journal) ≡ []
  acts_none [] legal = absurd legal
  acts_none (first ∷ rest) legal =
      entries_none (grown [] first) rest
      (subst (λ x. retried (grown [] x) ≡ []) (sym legal.0)
      (none_onto (Entered 0 ByBoot 0 Boot ∷ []) (boot_acts head) (boot_kind head is_no_retry refl (λ p i. refl) (λ p. refl) (λ p o. refl)) refl)) legal.1

  journal_none : (journal : List EntryView) → IsLegal head journal → retried (past_of journal) ≡ []
  journal_none journal legal = acts_none journal legal.acts

  -- between entries a live command waits or is in flight
  pub journal_counted : (journal : List EntryView) → IsLegal head journal → IsLiveCounted (past_of journal)
  journal_counted journal legal =
      let past : List Event = past_of journal in
      counted_of past
      (λ id. let o = once_or_live head past (journal_allowed head journal legal) id in omega (arith, o.answered_or_live, o.answered_or_here))
      (journal_none journal legal)
