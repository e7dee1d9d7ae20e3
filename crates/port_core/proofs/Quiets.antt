-- Commands that neither wait nor are in flight aren't live.
use Rattle.std.proofs.Common.{◌≡◌, ◌∙◌, ℕ, zero, suc, ◌+◌, ◌<◌, ◌≤◌, Bool, true, false, ◌==◌, ◌&&◌, List, [], ◌∷◌, Option, None, Some, length, is_some, cond, refl, sym, ap, arith}
use Rattle.std.proofs.lemmas.Bool.Decides.{nat_tests}
use Rattle.std.proofs.lemmas.List.Sums.{sum_by-cons}
use Rattle.std.specs.List.{count_by, sum_by}
use Rattle.ata_base.specs.declared.cmd.Cmd.{Cmd}
use Rattle.ata_script.specs.declared.port_head.PortHead.{PortHead}
use Rattle.ata_trace.specs.Entries.{EntryView, past_of}
use Rattle.ata_trace.specs.Event.{Event}
use Rattle.host_queue.specs.Waiting.{front_of}
use Rattle.host_tags.specs.declared.in_flight.InFlight.{InFlight}
use Rattle.port_core.proofs.Settles.{none_live}
use Rattle.port_core.specs.Quiet.{are_empty, are_free}
use Rattle.port_past.proofs.Sizes.{length_queues}
use Rattle.port_past.specs.Live.{live}
use Rattle.port_past.specs.Queues.{queues}
use Rattle.port_past.specs.Slots.{slots}
use Rattle.port_rules.specs.Legal.{IsLegal}
use Rattle.port_rules.specs.Settle.{is_empty}
use Rattle.port_stands.proofs.Counting.{journal_counted}

above_zero : (n : ℕ) → false ≡ (suc n == 0)
above_zero n = grind (arith, nat_tests)

-- tags are free where none is counted
free_is : (flights : List (Option InFlight)) → are_free flights ≡ (count_by is_some flights == 0)
free_is [] = refl
free_is (None ∷ rest) =
    let more = sum_by-cons (λ (s : Option InFlight). cond (is_some s) 1 0) None rest in
    let same : count_by is_some rest ≡ count_by is_some (None ∷ rest) = omega (arith, more) in
    free_is rest ∙ ap (λ n. n == 0) same
free_is (Some f ∷ rest) =
    let more = sum_by-cons (λ (s : Option InFlight). cond (is_some s) 1 0) (Some f) rest in
    let one : suc (count_by is_some rest) ≡ count_by is_some (Some f ∷ rest) = omega (arith, more) in
    above_zero (count_by is_some rest) ∙ ap (λ n. n == 0) one

-- queues are empty where no command is counted
empty_is : (lists : List (List Cmd)) → are_empty lists ≡ (sum_by length lists == 0)
empty_is [] = refl
empty_is ([] ∷ rest) =
    let more = sum_by-cons (λ (q : List Cmd). length q) [] rest in
    let same : sum_by length rest ≡ sum_by length ([] ∷ rest) = omega (arith, more) in
    empty_is rest ∙ ap (λ n. n == 0) same
empty_is ((command ∷ queue) ∷ rest) =
    let more = sum_by-cons (λ (q : List Cmd). length q) (command ∷ queue) rest in
    let some : suc (length queue + sum_by length rest) ≡ sum_by length ((command ∷ queue) ∷ rest) = omega (arith, more) in
    above_zero (length queue + sum_by length rest) ∙ ap (λ n. n == 0) some

-- both counts are 0 where their sum is
both_zero : (n a b : ℕ) → n ≡ b + a → ((a == 0) && (b == 0)) ≡ (n == 0)
both_zero n zero zero sum = ap (λ m. m == 0) (sym sum)
both_zero n zero (suc b) sum =
    let some : suc b ≡ n = omega (arith, sum) in
    sym (above_zero b) ∙ above_zero b ∙ ap (λ m. m == 0) some
both_zero n (suc a) b sum =
    let some : suc (a + b) ≡ n = omega (arith, sum) in
    ap (λ c. c && (b == 0)) (sym (above_zero a)) ∙ above_zero (a + b) ∙ ap (λ m. m == 0) some

-- so no command is live where no issue is in flight and none waits
pub quiet_is :
    (head : PortHead) (entries : List EntryView) → IsLegal head entries
    → (are_free (slots (past_of entries)) && are_empty (queues (past_of entries))) ≡ is_empty (live (past_of entries))
quiet_is head entries legal =
    let past : List Event = past_of entries in
    let flying : ℕ = count_by is_some (slots past) in
    let waiting : ℕ = sum_by length (queues past) in
    ap (λ a. a && are_empty (queues past)) (free_is (slots past))
    ∙ ap (λ b. (flying == 0) && b) (empty_is (queues past))
    ∙ both_zero (length (live past)) flying waiting (journal_counted head entries legal)
    ∙ none_live (live past)

fronts_none : (lists : List (List Cmd)) → ((k : ℕ) → k < length lists → front_of lists k ≡ None) → are_empty lists ≡ true
fronts_none [] none = refl
fronts_none ([] ∷ rest) none = fronts_none rest (λ k within. none (suc k) (omega (arith, within)))
fronts_none ((command ∷ queue) ∷ rest) none = absurd (cc (none 0 (omega arith)))

front_some : (lists : List (List Cmd)) (k : ℕ) (command : Cmd) → front_of lists k ≡ Some command → are_empty lists ≡ false
front_some [] zero command some = absurd (cc some)
front_some [] (suc k) command some = absurd (cc some)
front_some ([] ∷ rest) zero command some = absurd (cc some)
front_some ((first ∷ queue) ∷ rest) zero command some = refl
front_some ([] ∷ rest) (suc k) command some = front_some rest k command some
front_some ((first ∷ queue) ∷ rest) (suc k) command some = refl

-- no command waits at a place before this one
abbrev pub NoneBefore : List Event → ℕ → Type 0
NoneBefore past n = (k : ℕ) → k < n → front_of (queues past) k ≡ None

-- nor at this one
pub none_next : (past : List Event) (n place : ℕ) (front : Option Cmd) → NoneBefore past n → place ≡ n → front ≡ front_of (queues past) place → is_some front ≡ false
    → NoneBefore past (n + 1)
none_next past n place (Some command) none at is over = absurd (cc over)
none_next past n place None none at is over = λ k within. by k within (k == n) refl where
  by : (k : ℕ) → k < n + 1 → (b : Bool) → (k == n) ≡ b → front_of (queues past) k ≡ None
  by k within true same =
      let e : k ≡ n = grind (arith, nat_tests) in
      ap (front_of (queues past)) (e ∙ sym at) ∙ sym is
  by k within false other =
      let less : k < n = grind (arith, nat_tests) in
      none k less

-- all queues are empty
pub none_waits : (past : List Event) (n : ℕ) → NoneBefore past n → 15 ≤ n → true ≡ are_empty (queues past)
none_waits past n none all =
    let long = length_queues past in
    sym (fronts_none (queues past) (λ k within. none k (omega (arith, within, long, all))))

-- one isn't
pub one_waits :
    (past : List Event) (place : ℕ) (front : Option Cmd) → front ≡ front_of (queues past) place → is_some front ≡ true
    → false ≡ are_empty (queues past)
one_waits past place None is some = absurd (cc some)
one_waits past place (Some command) is some = sym (front_some (queues past) place command (sym is))
