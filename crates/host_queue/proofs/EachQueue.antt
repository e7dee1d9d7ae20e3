-- What holds of each command of each queue, by the queue's place.
use Rattle.std.proofs.Common.{ℕ, List, [], ◌∷◌, suc, zero, slice_set}
use Rattle.ata_base.specs.declared.cmd.Cmd.{Cmd}
use Rattle.host_queue.specs.Waiting.{waiting_at}
use Rattle.ata_base.specs.Each.{Each}
use Rattle.ata_base.proofs.EachLemmas.{every_weaker}

-- what holds of each command of each queue, by the queue's place
abbrev pub EachQueue : (ℕ → Cmd → Type 0) → List (List Cmd) → Type 0
EachQueue P [] = Unit {0}
EachQueue P (queue ∷ rest) = Each (P 0) queue × EachQueue (λ x. P (suc x)) rest

pub queue_at :
    (P : ℕ → Cmd → Type 0) (queues : List (List Cmd)) (x : ℕ) → EachQueue P queues → Each (P x) (waiting_at queues x)
queue_at P [] x all = tt
queue_at P (queue ∷ rest) zero all = all.0
queue_at P (queue ∷ rest) (suc x) all = queue_at (λ y. P (suc y)) rest x all.1

pub queue_set :
    (P : ℕ → Cmd → Type 0) (queues : List (List Cmd)) (x : ℕ) (queue : List Cmd) → EachQueue P queues → Each (P x) queue
    → EachQueue P (slice_set queues x queue)
queue_set P [] x queue all new = tt
queue_set P (q ∷ rest) zero queue all new = (new, all.1)
queue_set P (q ∷ rest) (suc x) queue all new = (all.0, queue_set (λ y. P (suc y)) rest x queue all.1 new)

pub queue_weaker :
    (P Q : ℕ → Cmd → Type 0) → ((x : ℕ) (c : Cmd) → P x c → Q x c) → (queues : List (List Cmd)) → EachQueue P queues
    → EachQueue Q queues
queue_weaker P Q weaker [] all = tt
queue_weaker P Q weaker (queue ∷ rest) all = (
  every_weaker (P 0) (Q 0) (weaker 0) queue all.0,
  queue_weaker (λ x. P (suc x)) (λ x. Q (suc x)) (λ x. weaker (suc x)) rest all.1,
)
