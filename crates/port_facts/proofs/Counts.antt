-- How counts over slots, queues and lists of numbers change.
use Rattle.std.proofs.Common.{◌≡◌, ◌∙◌, ℕ, ◌+◌, ◌<◌, Bool, true, false, not, ◌==◌, List, [], ◌∷◌, ◌++◌, Option, None, Some, option_map, length, drop, slice_get, slice_set, refl, ap, subst, arith, if◌then◌else◌, sym}
use Rattle.std.specs.List.{count_by, sum_by}
use Rattle.std.proofs.lemmas.Bool.{eqb-true, eq-eqb, ne_eqb}
use Rattle.std.proofs.lemmas.List.Sums.{sum_by-cons, sum_by-set, sum_by_push}
use Rattle.std.proofs.lemmas.Option.{unwrap_or-slice_get}
use Rattle.ata_base.specs.declared.cmd.Cmd.{Cmd}
use Rattle.host_queue.specs.Waiting.{waiting_at}
use Rattle.host_tags.specs.Numbers.{is_issue, changed_by_number}
use Rattle.host_tags.specs.Slots.{flight_at}
use Rattle.host_tags.specs.declared.in_flight.InFlight.{InFlight}
use Rattle.port_past.specs.Live.{but_answered}
use Rattle.port_past.specs.Queues.{with_retried}
use Rattle.port_facts.specs.Once.{one_if}
use Rattle.ata_base.specs.Each.{Each}
use Rattle.port_past.proofs.Sizes.{length_returned}

-- a slot is written
pub count_slot :
    (p : Option InFlight → Bool) (slots : List (Option InFlight)) (tag : ℕ) (slot : Option InFlight)
    → tag < length slots
    → count_by p (slice_set slots tag slot) + one_if (p (flight_at slots tag)) ≡ count_by p slots + one_if (p slot)
count_slot p slots tag slot within =
    rw (unwrap_or-slice_get slots tag None) (sum_by-set (λ x. one_if (p x)) slots tag slot None within)

changed_here : (p : Option InFlight → Bool) (change : InFlight → InFlight) → ((slot : Option InFlight) → p (option_map change slot) ≡ p slot)
    → (b : Bool) (slot : Option InFlight) → one_if (p (if b then option_map change slot else slot)) ≡ one_if (p slot)
changed_here p change keeps true slot = ap one_if (keeps slot)
changed_here p change keeps false slot = refl

-- a change that a test doesn't see leaves its count
pub count_changed :
    (p : Option InFlight → Bool) (change : InFlight → InFlight) → ((slot : Option InFlight) → p (option_map change slot) ≡ p slot)
    → (n : ℕ) (slots : List (Option InFlight)) → count_by p (changed_by_number change n slots) ≡ count_by p slots
count_changed p change keeps n [] = refl
count_changed p change keeps n (slot ∷ slots) =
    omega (
      arith,
      sum_by-cons (λ x. one_if (p x)) slot slots,
      sum_by-cons (λ x. one_if (p x)) (if is_issue n slot then option_map change slot else slot) (changed_by_number change n slots),
      changed_here p change keeps (is_issue n slot) slot,
      count_changed p change keeps n slots,
    )

-- a queue is written
pub count_queue :
    (p : Cmd → Bool) (queues : List (List Cmd)) (x : ℕ) (queue : List Cmd) → x < length queues
    → sum_by (count_by p) (slice_set queues x queue) + count_by p (waiting_at queues x)
    ≡ sum_by (count_by p) queues + count_by p queue
count_queue p queues x queue within =
    rw (unwrap_or-slice_get queues x []) (sum_by-set (count_by p) queues x queue [] within)

-- a command joins the end of a list
pub count_joined : (p : Cmd → Bool) (queue : List Cmd) (c : Cmd) → count_by p (queue ++ c ∷ []) ≡ count_by p queue + one_if (p c)
count_joined p queue c = sum_by_push (λ x. one_if (p x)) queue c

-- the front of a queue leaves
pub count_served :
    (p : Cmd → Bool) (queue : List Cmd) (front : Cmd) → slice_get queue 0 ≡ Some front
    → count_by p (drop 1 queue) + one_if (p front) ≡ count_by p queue
count_served p [] front is = absurd (cc)
count_served p (c ∷ queue) front is =
    let same : c ≡ front = cc in
    let e = sum_by-cons (λ x. one_if (p x)) c queue in
    subst (λ x. count_by p queue + one_if (p x) ≡ count_by p (c ∷ queue)) same (omega (arith, e))

-- what is given back goes into the queues
pub count_returned :
    (p : Cmd → Bool) (back : List Cmd) (queues : List (List Cmd)) → Each (λ c. c.place < 15) back → length queues ≡ 15
    → sum_by (count_by p) (with_retried back queues) ≡ sum_by (count_by p) queues + count_by p back
count_returned p [] queues places long = omega arith
count_returned p (c ∷ back) queues places long =
    let rest = with_retried back queues in
    omega (
      arith,
      count_queue p rest c.place (c ∷ waiting_at rest c.place) (omega (arith, places.0, long, length_returned back queues)),
      sum_by-cons (λ x. one_if (p x)) c (waiting_at rest c.place),
      sum_by-cons (λ x. one_if (p x)) c back,
      count_returned p back queues places.1 long,
    )

gone_by : (id c n : ℕ) (same : Bool) (rest was : List ℕ) → (n == c) ≡ same → (c == id) ≡ false
    → count_by (λ x. x == id) rest ≡ count_by (λ x. x == id) was
    → count_by (λ x. x == id) (if not same then n ∷ rest else rest) ≡ count_by (λ x. x == id) (n ∷ was)
gone_by id c n true rest was is other same =
    let unlike : (n == id) ≡ false = ne_eqb n id (λ e. absurd (cc (eq-eqb c id (sym (eqb-true n c is) ∙ e), other))) in
    omega (arith, sum_by-cons (λ x. one_if (x == id)) n was, ap one_if unlike, same)
gone_by id c n false rest was is other same =
    omega (arith, sum_by-cons (λ x. one_if (x == id)) n was, sum_by-cons (λ x. one_if (x == id)) n rest, same)

-- another number leaves a list of numbers
pub count_other :
    (c id : ℕ) (numbers : List ℕ) → (c == id) ≡ false
    → count_by (λ x. x == id) (but_answered (Some c) numbers) ≡ count_by (λ x. x == id) numbers
count_other c id [] other = refl
count_other c id (n ∷ numbers) other =
    gone_by id c n (n == c) (but_answered (Some c) numbers) numbers refl other (count_other c id numbers other)

left_by : (id n : ℕ) (same : Bool) (rest : List ℕ) → (n == id) ≡ same → count_by (λ x. x == id) rest ≡ 0
    → count_by (λ x. x == id) (if not same then n ∷ rest else rest) ≡ 0
left_by id n true rest is none = none
left_by id n false rest is none = omega (arith, sum_by-cons (λ x. one_if (x == id)) n rest, ap one_if is, none)

-- a number leaves them
pub count_left :
    (c id : ℕ) (numbers : List ℕ) → (c == id) ≡ true
    → count_by (λ x. x == id) (but_answered (Some c) numbers) ≡ 0
count_left c id [] same = refl
count_left c id (n ∷ numbers) same =
    left_by id n (n == c) (but_answered (Some c) numbers) (ap (λ x. n == x) (sym (eqb-true c id same)))
    (count_left c id numbers same)
