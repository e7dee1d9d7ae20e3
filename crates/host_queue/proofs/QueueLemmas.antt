use Rattle.std.proofs.Common.{◌≡◌, ℕ, ◌<◌, ◌≤◌, List, [], ◌∷◌, suc, zero, length, get_or, map, replicate, slice_set, Option, None, Some, Result, Ok, Err, OnOk, OnErr, IfSome, IfNone, refl, ap, arith}
use Rattle.std.proofs.lemmas.List.{length-map}
use Rattle.ata_base.specs.declared.cmd.Cmd.{Cmd}
use Rattle.host_queue.specs.QueueView.{QueueView, empty_queue}
use Rattle.host_queue.specs.Waiting.{waiting_at, front_of, spare_at, no_lists}

-- the commands of each queue
abbrev pub lists_of : List QueueView → List (List Cmd)
lists_of queues = map (λ queue. queue.commands) queues

-- the spare of each queue
abbrev pub spares_of : List QueueView → List ℕ
spares_of queues = map (λ queue. queue.spare) queues

-- a place that has spare is one of the queues
pub within_spare : (queues : List QueueView) (i : ℕ) → 0 < spare_at (spares_of queues) i → i < length queues
within_spare [] i some = absurd (omega (arith, some))
within_spare (queue ∷ queues) zero some = omega arith
within_spare (queue ∷ queues) (suc i) some = omega (arith, within_spare queues i some)

-- a place that has a list is one of the queues
pub within_lists : (queues : List QueueView) (i : ℕ) → i < length (lists_of queues) → i < length queues
within_lists queues i within = simp length-map at within

-- where the commands of one queue change, the lists change there
pub lists_set :
    (f : List Cmd → List Cmd) (queues : List QueueView) (i : ℕ) (was now : QueueView) → i < length queues
    → was ≡ get_or queues i was → now.commands ≡ f was.commands
    → lists_of (slice_set queues i now) ≡ slice_set (lists_of queues) i (f (waiting_at (lists_of queues) i))
lists_set f [] i was now within here is = absurd (omega arith)
lists_set f (queue ∷ queues) zero was now within here is = rw (is, here) refl
lists_set f (queue ∷ queues) (suc i) was now within here is =
    ap (λ xs. queue.commands ∷ xs) (lists_set f queues i was now (omega arith) here is)

-- where no queue's commands change, the lists stay
pub lists_stay :
    (queues : List QueueView) (i : ℕ) (was now : QueueView) → i < length queues → was ≡ get_or queues i was
    → now.commands ≡ was.commands → lists_of (slice_set queues i now) ≡ lists_of queues
lists_stay [] i was now within here is = absurd (omega arith)
lists_stay (queue ∷ queues) zero was now within here is = rw (is, here) refl
lists_stay (queue ∷ queues) (suc i) was now within here is =
    ap (λ xs. queue.commands ∷ xs) (lists_stay queues i was now (omega arith) here is)

-- where the spare of one queue changes, the spares change there
pub spares_set :
    (f : ℕ → ℕ) (queues : List QueueView) (i : ℕ) (was now : QueueView) → i < length queues
    → was ≡ get_or queues i was → now.spare ≡ f was.spare
    → spares_of (slice_set queues i now) ≡ slice_set (spares_of queues) i (f (spare_at (spares_of queues) i))
spares_set f [] i was now within here is = absurd (omega arith)
spares_set f (queue ∷ queues) zero was now within here is = rw (is, here) refl
spares_set f (queue ∷ queues) (suc i) was now within here is =
    ap (λ xs. queue.spare ∷ xs) (spares_set f queues i was now (omega arith) here is)

-- where no queue's spare changes, the spares stay
pub spares_stay :
    (queues : List QueueView) (i : ℕ) (was now : QueueView) → i < length queues → was ≡ get_or queues i was
    → now.spare ≡ was.spare → spares_of (slice_set queues i now) ≡ spares_of queues
spares_stay [] i was now within here is = absurd (omega arith)
spares_stay (queue ∷ queues) zero was now within here is = rw (is, here) refl
spares_stay (queue ∷ queues) (suc i) was now within here is =
    ap (λ xs. queue.spare ∷ xs) (spares_stay queues i was now (omega arith) here is)

-- nothing waits at a place that isn't there
pub front_past : (lists : List (List Cmd)) (x : ℕ) → length lists ≤ x → None ≡ front_of lists x
front_past [] x past = refl
front_past (cs ∷ lists) zero past = absurd (omega arith)
front_past (cs ∷ lists) (suc x) past = front_past lists x (omega arith)

-- empty queues have empty lists and no spare
pub lists_none : (n : ℕ) → lists_of (replicate n empty_queue) ≡ no_lists n
lists_none zero = refl
lists_none (suc n) = ap (λ xs. [] ∷ xs) (lists_none n)

pub spares_none : (n : ℕ) → spares_of (replicate n empty_queue) ≡ replicate n 0
spares_none zero = refl
spares_none (suc n) = ap (λ xs. 0 ∷ xs) (spares_none n)

-- what follows from the fact of a case holds in that case
pub on_ok : {T E P Q : Type 0} (r : Result T E) → OnOk r Q → (Q → P) → OnOk r P
on_ok (Ok v) h f = f h
on_ok (Err e) h f = tt

pub on_err : {T E P Q : Type 0} (r : Result T E) → OnErr r Q → (Q → P) → OnErr r P
on_err (Ok v) h f = tt
on_err (Err e) h f = f h

pub if_some : {T P Q : Type 0} (o : Option T) → IfSome o (λ _. Q) → (Q → P) → IfSome o (λ _. P)
if_some (Some v) h f = f h
if_some None h f = tt

pub if_none : {T P Q : Type 0} (o : Option T) → IfNone o Q → (Q → P) → IfNone o P
if_none (Some v) h f = tt
if_none None h f = f h
