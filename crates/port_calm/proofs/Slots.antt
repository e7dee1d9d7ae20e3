-- Slots, what stands by tag beside them, and queues.
use Rattle.std.proofs.Common.{◌⊎◌, inl, inr, ◌≡◌, ◌≢◌, ◌∙◌, ℕ, ◌+◌, ◌<◌, ◌≤◌, ◌==◌, Bool, true, false, not, ◌||◌, cond, List, [], ◌∷◌, ◌++◌, find, Option, None, Some, suc, zero, length, drop, filter, slice_get, slice_set, unwrap_or, take, is_none, position, refl, ap, subst, arith, lt-ltb}
use Rattle.std.proofs.lemmas.Bool.{eqb-true, eq-eqb}
use Rattle.std.specs.List.{list_any}
use Rattle.ata_base.specs.declared.cmd.Cmd.{Cmd}
use Rattle.host_queue.specs.Waiting.{waiting_at}
use Rattle.host_tags.specs.Numbers.{is_issue, flight_of, without}
use Rattle.host_tags.specs.Slots.{flight_at, put, free_below}
use Rattle.host_tags.specs.declared.in_flight.InFlight.{InFlight}
use Rattle.ata_base.specs.Each.{Each}
use Rattle.port_calm.proofs.Sight.{waits_total, flights_total, times}
use Rattle.port_calm.specs.Calm.{is_among}
use Rattle.port_past.specs.ByTag.{set_where}
use Rattle.port_rules.specs.Kick.{outline}

same_by : (a b : ℕ) (c : Bool) → (a == b) ≡ c → (a ≡ b) ⊎ (a ≢ b)
same_by a b true is = inl (eqb-true a b is)
same_by a b false is = inr (λ e. let so = eq-eqb a b e in cc)

-- two numbers are the same or not
pub same_or_not : (a b : ℕ) → (a ≡ b) ⊎ (a ≢ b)
same_or_not a b = same_by a b (a == b) refl

pub not_same : (a b : ℕ) → a ≢ b → (a == b) ≡ false
not_same a b other = by (a == b) refl where
  by : (c : Bool) → (a == b) ≡ c → c ≡ false
  by true is = absurd (other (eqb-true a b is))
  by false is = refl

-- the issue under a tag after one was put under another
pub data Put (tag : ℕ) (f : InFlight) (slots : List (Option InFlight)) (t : ℕ) (g : InFlight) : Type 0 where
  New : t ≡ tag → g ≡ f → Put tag f slots t g
  Old : t ≢ tag → flight_at slots t ≡ Some g → Put tag f slots t g

put_later :
    (tag : ℕ) (f : InFlight) (slot : Option InFlight) (slots : List (Option InFlight)) (t : ℕ) (g : InFlight)
    → Put tag f slots t g → Put (suc tag) f (slot ∷ slots) (suc t) g
put_later tag f slot slots t g (New here same) = New (ap suc here) same
put_later tag f slot slots t g (Old other is) = Old (λ e. other (omega (arith, e))) is

pub put_get :
    (tag : ℕ) (f : InFlight) (slots : List (Option InFlight)) (t : ℕ) (g : InFlight)
    → flight_at (put tag f slots) t ≡ Some g → Put tag f slots t g
put_get tag f [] t g is = absurd (cc)
put_get zero f (slot ∷ slots) zero g is = New refl (cc)
put_get zero f (slot ∷ slots) (suc t) g is = Old (λ e. omega (arith, e)) is
put_get (suc tag) f (slot ∷ slots) zero g is = Old (λ e. omega (arith, e)) is
put_get (suc tag) f (slot ∷ slots) (suc t) g is = put_later tag f slot slots t g (put_get tag f slots t g is)

-- what is under a tag once an issue has left
pub without_at :
    (n : ℕ) (slots : List (Option InFlight)) (t : ℕ)
    → flight_at (without n slots) t ≡ cond (is_issue n (flight_at slots t)) None (flight_at slots t)
without_at n [] t = refl
without_at n (slot ∷ slots) zero = refl
without_at n (slot ∷ slots) (suc t) = without_at n slots t

-- what stands beside the slots once some of it is written
pub where_at :
    {A : Type 0} (test : Option InFlight → Bool) (value d : A) (slots : List (Option InFlight)) (xs : List A) (t : ℕ)
    → length slots ≡ length xs → test None ≡ false
    → unwrap_or (slice_get (set_where test value slots xs) t) d
    ≡ cond (test (flight_at slots t)) value (unwrap_or (slice_get xs t) d)
where_at test value d [] [] t long none = rw none refl
where_at test value d [] (x ∷ xs) t long none = absurd (omega (arith, long))
where_at test value d (slot ∷ slots) [] t long none = absurd (omega (arith, long))
where_at test value d (slot ∷ slots) (x ∷ xs) zero long none = refl
where_at test value d (slot ∷ slots) (x ∷ xs) (suc t) long none = where_at test value d slots xs t (omega (arith, long)) none

-- ---- how many there are

pub total_set :
    (queues : List (List Cmd)) (x : ℕ) (queue : List Cmd)
    → waits_total (slice_set queues x queue) + length (waiting_at queues x) ≤ waits_total queues + length queue
total_set [] x queue = omega arith
total_set (q ∷ queues) zero queue = omega arith
total_set (q ∷ queues) (suc x) queue = omega (arith, total_set queues x queue)

pub length_later : (queue : List Cmd) (front : Cmd) → slice_get queue 0 ≡ Some front → length (drop 1 queue) + 1 ≡ length queue
length_later [] front is = absurd (cc)
length_later (c ∷ queue) front is = omega arith

pub total_put :
    (tag : ℕ) (f : InFlight) (slots : List (Option InFlight)) → flights_total (put tag f slots) ≤ flights_total slots + 1
total_put tag f [] = omega arith
total_put zero f (None ∷ slots) = omega arith
total_put zero f (Some g ∷ slots) = omega arith
total_put (suc tag) f (None ∷ slots) = total_put tag f slots
total_put (suc tag) f (Some g ∷ slots) = omega (arith, total_put tag f slots)

total_here :
    (b : Bool) (g : InFlight) (slots : List (Option InFlight))
    → flights_total (cond b None (Some g) ∷ slots) ≤ suc (flights_total slots)
total_here true g slots = omega arith
total_here false g slots = omega arith

pub total_without : (n : ℕ) (slots : List (Option InFlight)) → flights_total (without n slots) ≤ flights_total slots
total_without n [] = omega arith
total_without n (None ∷ slots) = total_without n slots
total_without n (Some g ∷ slots) = omega (arith, total_here (g.number.n == n) g (without n slots), total_without n slots)

-- there are fewer once an issue has left
pub total_left :
    (slots : List (Option InFlight)) (t : ℕ) (f : InFlight) → flight_at slots t ≡ Some f
    → flights_total (without f.number.n slots) + 1 ≤ flights_total slots
total_left [] t f is = absurd (cc)
total_left (None ∷ slots) zero f is = absurd (cc)
total_left (Some g ∷ slots) zero f is =
    let same : (g.number.n == f.number.n) ≡ true = eq-eqb g.number.n f.number.n (ap (λ x. x.number.n) (the_same g f is)) in
    rw same (omega (arith, total_without f.number.n slots)) where
      the_same : (g f : InFlight) → Some g ≡ Some f → g ≡ f
      the_same g f e = cc
total_left (None ∷ slots) (suc t) f is = total_left slots t f is
total_left (Some g ∷ slots) (suc t) f is =
    omega (arith, total_here (g.number.n == f.number.n) g (without f.number.n slots), total_left slots t f is)

-- ---- searches

pub find_push :
    {A : Type 0} (test : A → Bool) (xs : List A) (x y : A) → find test xs ≡ Some y → find test (xs ++ x ∷ []) ≡ Some y
find_push test [] x y is = absurd (cc)
find_push {A} test (z ∷ xs) x y is = by (test z) is (find_push test xs x y) where
  by :
      (b : Bool) → cond b (Some z) (find test xs) ≡ Some y
      → (find test xs ≡ Some y → find test (xs ++ x ∷ []) ≡ Some y)
      → cond b (Some z) (find test (xs ++ x ∷ [])) ≡ Some y
  by true is later = is
  by false is later = later is

pub find_new :
    {A : Type 0} (test : A → Bool) (xs : List A) (x : A) → list_any test xs ≡ false → test x ≡ true
    → find test (xs ++ x ∷ []) ≡ Some x
find_new test [] x none is = rw is refl
find_new {A} test (z ∷ xs) x none is = by (test z) none (λ e. find_new test xs x e is) where
  by :
      (b : Bool) → (b || list_any test xs) ≡ false
      → (list_any test xs ≡ false → find test (xs ++ x ∷ []) ≡ Some x)
      → cond b (Some z) (find test (xs ++ x ∷ [])) ≡ Some x
  by true none later = absurd (cc)
  by false none later = later none

pub find_passes : {A : Type 0} (test : A → Bool) (xs : List A) (y : A) → find test xs ≡ Some y → test y ≡ true
find_passes test [] y is = absurd (cc)
find_passes {A} test (z ∷ xs) y is = by (test z) refl is (find_passes test xs y) where
  by :
      (b : Bool) → test z ≡ b → cond b (Some z) (find test xs) ≡ Some y
      → (find test xs ≡ Some y → test y ≡ true) → test y ≡ true
  by true so is later = let same : z ≡ y = cc in subst (λ w. test w ≡ true) same so
  by false so is later = later is

pub find_each :
    {A : Type 0} (P : A → Type 0) (test : A → Bool) (xs : List A) (y : A) → Each P xs → find test xs ≡ Some y → P y
find_each P test [] y h is = absurd (cc)
find_each {A} P test (z ∷ xs) y h is = by (test z) is (find_each P test xs y h.1) where
  by : (b : Bool) → cond b (Some z) (find test xs) ≡ Some y → (find test xs ≡ Some y → P y) → P y
  by true is later = let same : z ≡ y = cc in subst P same h.0
  by false is later = later is

-- a filter that keeps what passes a test
pub any_filter :
    {A : Type 0} (test keep : A → Bool) (xs : List A) → ((x : A) → test x ≡ true → keep x ≡ true)
    → list_any test xs ≡ true → list_any test (filter keep xs) ≡ true
any_filter test keep [] keeps is = is
any_filter {A} test keep (x ∷ xs) keeps is = by (test x) (keep x) refl refl is (any_filter test keep xs keeps) where
  by :
      (b k : Bool) → test x ≡ b → keep x ≡ k → (b || list_any test xs) ≡ true
      → (list_any test xs ≡ true → list_any test (filter keep xs) ≡ true)
      → list_any test (cond k (x ∷ filter keep xs) (filter keep xs)) ≡ true
  by true true so kept is later = rw so refl
  by true false so kept is later = let never = keeps x so in absurd (cc)
  by false true so kept is later = rw so (later is)
  by false false so kept is later = later is

-- what passes in a filtered list passes in the list, and is kept
pub any_filtered :
    {A : Type 0} (test keep : A → Bool) (xs : List A) → list_any test (filter keep xs) ≡ true
    → (list_any test xs ≡ true) × ((x : A) × ((test x ≡ true) × (keep x ≡ true)))
any_filtered test keep [] is = absurd (cc)
any_filtered {A} test keep (x ∷ xs) is = by (test x) (keep x) refl refl is (any_filtered test keep xs) where
  by :
      (b k : Bool) → test x ≡ b → keep x ≡ k
      → list_any test (cond k (x ∷ filter keep xs) (filter keep xs)) ≡ true
      → (list_any test (filter keep xs) ≡ true
      → (list_any test xs ≡ true) × ((y : A) × ((test y ≡ true) × (keep y ≡ true))))
      → ((b || list_any test xs) ≡ true) × ((y : A) × ((test y ≡ true) × (keep y ≡ true)))
  by true true so kept is later = (refl, (x, (so, kept)))
  by true false so kept is later = (refl, (later is).1)
  by false true so kept is later = later (rw so at is)
  by false false so kept is later = later is

-- of what passes in a queue the front or one behind it passes
pub any_front :
    {A : Type 0} (test : A → Bool) (queue : List A) (front : A) → slice_get queue 0 ≡ Some front
    → list_any test queue ≡ true → (test front ≡ true) ⊎ (list_any test (drop 1 queue) ≡ true)
any_front test [] front is any = absurd (cc)
any_front {A} test (x ∷ queue) front is any =
    let same : x ≡ front = cc in subst (λ y. (test y ≡ true) ⊎ (list_any test queue ≡ true)) same (by (test x) any) where
      by : (b : Bool) → (b || list_any test queue) ≡ true → (b ≡ true) ⊎ (list_any test queue ≡ true)
      by true any = inl refl
      by false any = inr any

pub front_push : {A : Type 0} (queue : List A) (c : A) → (k : A) × (slice_get (queue ++ c ∷ []) 0 ≡ Some k)
front_push [] c = (c, refl)
front_push (x ∷ queue) c = (x, refl)

first_place : {A : Type 0} (xs : List (Option A)) → position is_none (None ∷ xs) ≡ Some 0
first_place xs = ap (λ b. cond b (Some 0) None) (lt-ltb 0 (length (None ∷ xs)) (omega arith))

-- where nothing is in flight, the first tag is free
pub first_free :
    (limit : ℕ) (slots : List (Option InFlight)) → 0 < limit → 0 < length slots → flight_at slots 0 ≡ None
    → (free_below limit slots ≡ Some 0) × (free_below limit (outline slots) ≡ Some 0)
first_free zero slots some long none = absurd (omega arith)
first_free (suc limit) [] some long none = absurd (omega arith)
first_free (suc limit) (Some f ∷ slots) some long none = absurd (cc)
first_free (suc limit) (None ∷ slots) some long none =
    (first_place (take limit slots), first_place (take limit (outline slots)))

-- where nothing is in flight, nothing is seen
pub none_seen :
    (test : Option (ℕ × Bool) → Bool) (slots : List (Option InFlight)) → test None ≡ false
    → ((t : ℕ) (f : InFlight) → flight_at slots t ≡ Some f → ⊥) → list_any test (outline slots) ≡ false
none_seen test [] unseen empty = refl
none_seen test (None ∷ slots) unseen empty = rw unseen (none_seen test slots unseen (λ t f is. empty (suc t) f is))
none_seen test (Some f ∷ slots) unseen empty = absurd (empty 0 f refl)

-- ---- numbers

pub times_push : (id n : ℕ) (numbers : List ℕ) → times id (numbers ++ n ∷ []) ≡ times id numbers + cond (n == id) 1 0
times_push id n [] = omega arith
times_push id n (k ∷ numbers) = by (k == id) (n == id) (times_push id n numbers) where
  by :
      (b c : Bool) → times id (numbers ++ n ∷ []) ≡ times id numbers + cond c 1 0
      → cond b (suc (times id (numbers ++ n ∷ []))) (times id (numbers ++ n ∷ []))
      ≡ cond b (suc (times id numbers)) (times id numbers) + cond c 1 0
  by true true e = omega (arith, e)
  by true false e = omega (arith, e)
  by false true e = e
  by false false e = e

pub times_none : (id : ℕ) (numbers : List ℕ) → is_among id numbers ≡ false → times id numbers ≡ 0
times_none id [] none = refl
times_none id (k ∷ numbers) none = by (k == id) none (times_none id numbers) where
  by :
      (b : Bool) → (b || is_among id numbers) ≡ false → (is_among id numbers ≡ false → times id numbers ≡ 0)
      → cond b (suc (times id numbers)) (times id numbers) ≡ 0
  by true none later = absurd (cc)
  by false none later = later none

-- a number leaves a list of numbers
pub times_left :
    (k id : ℕ) (numbers : List ℕ) → times id (filter (λ c. not (c == k)) numbers) ≤ times id numbers
times_left k id [] = omega arith
times_left k id (n ∷ numbers) = by (n == k) (n == id) refl (times_left k id numbers) where
  by :
      (b c : Bool) → (n == id) ≡ c → times id (filter (λ c. not (c == k)) numbers) ≤ times id numbers
      → times id (cond (not b) (n ∷ filter (λ c. not (c == k)) numbers) (filter (λ c. not (c == k)) numbers))
      ≤ cond c (suc (times id numbers)) (times id numbers)
  by true true is le = omega (arith, le)
  by true false is le = le
  by false true is le = rw is (omega (arith, le))
  by false false is le = rw is le

-- so many less
pub length_left :
    (k : ℕ) (numbers : List ℕ) → length numbers ≡ length (filter (λ c. not (c == k)) numbers) + times k numbers
length_left k [] = refl
length_left k (n ∷ numbers) = by (n == k) (length_left k numbers) where
  by :
      (b : Bool) → length numbers ≡ length (filter (λ c. not (c == k)) numbers) + times k numbers
      → suc (length numbers)
      ≡ length (cond (not b) (n ∷ filter (λ c. not (c == k)) numbers) (filter (λ c. not (c == k)) numbers))
      + cond b (suc (times k numbers)) (times k numbers)
  by true e = omega (arith, e)
  by false e = omega (arith, e)

found_by :
    (n t : ℕ) (f g : InFlight) (slots : List (Option InFlight)) (b : Bool) → (g.number.n == n) ≡ b → flight_at (Some g ∷ slots) t ≡ Some f
    → f.number.n ≡ n → (g.number.n ≡ n → g ≡ f) → ((u : ℕ) → flight_at slots u ≡ Some f → flight_of n slots ≡ Some f)
    → flight_of n (Some g ∷ slots) ≡ Some f
found_by n t f g slots true is here same alone later = rw is (ap (λ k. Some k) (alone (eqb-true g.number.n n is)))
found_by n zero f g slots false is here same alone later =
    let it : g ≡ f = cc in let yes = eq-eqb g.number.n n (ap (λ (k : InFlight). k.number.n) it ∙ same) in absurd (cc)
found_by n (suc u) f g slots false is here same alone later = rw is (later u here)

-- the issue of a number that one alone has
pub find_flight :
    (n t : ℕ) (f : InFlight) (slots : List (Option InFlight)) → flight_at slots t ≡ Some f → f.number.n ≡ n
    → ((u : ℕ) (g : InFlight) → flight_at slots u ≡ Some g → g.number.n ≡ n → g ≡ f) → flight_of n slots ≡ Some f
find_flight n t f [] here same alone = absurd (cc)
find_flight n zero f (None ∷ slots) here same alone = absurd (cc)
find_flight n (suc t) f (None ∷ slots) here same alone = find_flight n t f slots here same (λ u g. alone (suc u) g)
find_flight n t f (Some g ∷ slots) here same alone =
    found_by n t f g slots (g.number.n == n) refl here same (alone 0 g refl)
    (λ u there. find_flight n u f slots there same (λ v k. alone (suc v) k))
