use Rattle.std.proofs.Common.{◌≡◌, ◌≢◌, true, false, nat_eq, below_more, get_or-set_same, get_or-set_other, ℕ, ◌+◌, ◌-◌, ◌<◌, ◌≤◌, List, [], ◌∷◌, ◌++◌, Some, suc, zero, length, get_or, set, max, slice_get, slice_set, refl, arith, length-set}
use Rattle.std.proofs.lemmas.Bool.Decides.{nat_tests}
use Rattle.std.proofs.lemmas.List.Elements.{All-cons, All-drop, All-head, All-push, All-tail}
use Rattle.ata_base.specs.declared.cmd.Cmd.{Cmd}
use Rattle.host_queue.specs.Waiting.{waiting_at, spare_at, less_spare, more_spare, joined, without_front, front_of, put_first}
use Rattle.ata_base.specs.Limits.{most_places}
use Rattle.port_past.specs.Queues.{with_retried}
use Rattle.port_ledger.specs.Commands.{CanServe}
use Rattle.port_ledger.specs.QueueParts.{AllServe, HasRoom, EachServes, IsReserved}

-- what holds of a list's elements holds of one after an element with it is written
keeps_set : (P : ℕ → Type 0) (xs : List ℕ) (x p new : ℕ) → P new → P (get_or xs p 0) → P (get_or (set xs x new) p 0)
keeps_set P [] x p new here there = there
keeps_set P (y ∷ ys) zero zero new here there = here
keeps_set P (y ∷ ys) zero (suc p) new here there = there
keeps_set P (y ∷ ys) (suc x) zero new here there = there
keeps_set P (y ∷ ys) (suc x) (suc p) new here there = keeps_set P ys x p new here there

-- the same of what waits at a place
keeps_waiting : (P : List Cmd → Type 0) (lists : List (List Cmd)) (x p : ℕ) (new : List Cmd) → P new → P (waiting_at lists p) → P (waiting_at (slice_set lists x new) p)
keeps_waiting P [] x p new here there = there
keeps_waiting P (y ∷ ys) zero zero new here there = here
keeps_waiting P (y ∷ ys) zero (suc p) new here there = there
keeps_waiting P (y ∷ ys) (suc x) zero new here there = there
keeps_waiting P (y ∷ ys) (suc x) (suc p) new here there = keeps_waiting P ys x p new here there

-- a spare that is written with enough leaves room
pub HasRoom_set : (room n x : ℕ) (spares : List ℕ) → HasRoom room spares → room ≤ n → HasRoom room (set spares x n)
HasRoom_set room n x spares h enough = record {
  places = simp length-set h.places;
  each = λ p within. keeps_set (λ s. room ≤ s) spares x p n enough (h.each p within);
}

HasRoom_weaker : (room less : ℕ) (spares : List ℕ) → less ≤ room → HasRoom room spares → HasRoom less spares
HasRoom_weaker room less spares le h = record {
  places = h.places;
  each = λ p within. omega (arith, h.each p within);
}

-- a command that joins takes a spare
pub HasRoom_less : (room x : ℕ) (spares : List ℕ) → HasRoom room spares → x < most_places → HasRoom (room - 1) (less_spare x spares)
HasRoom_less room x spares h within =
    HasRoom_set (room - 1) _ x spares (HasRoom_weaker room (room - 1) spares (omega arith) h) (omega (arith, h.each x within))

-- a command that leaves gives a spare
pub HasRoom_more : (room x : ℕ) (spares : List ℕ) → HasRoom room spares → x < most_places → HasRoom room (more_spare x spares)
HasRoom_more room x spares h within = HasRoom_set room _ x spares h (omega (arith, h.each x within))

-- a command that joins fits as the others do
pub EachServes_joined : (c : Cmd) (lists : List (List Cmd)) → EachServes lists → CanServe c → EachServes (joined c lists)
EachServes_joined c lists h fits = record {
  places = simp length-set h.places;
  each = λ p. keeps_waiting AllServe lists c.place p _ (All-push CanServe _ c (h.each c.place) fits) (h.each p);
}

-- what is left of the queues fits
pub EachServes_served : (x : ℕ) (lists : List (List Cmd)) → EachServes lists → EachServes (without_front x lists)
EachServes_served x lists h = record {
  places = simp length-set h.places;
  each = λ p. keeps_waiting AllServe lists x p _ (All-drop CanServe 1 _ (h.each x)) (h.each p);
}

front_serves : (waiting : List Cmd) (c : Cmd) → AllServe waiting → slice_get waiting 0 ≡ Some c → CanServe c
front_serves [] c h is = absurd (cc)
front_serves (d ∷ rest) c h is = let same : d ≡ c = cc in let first = h 0 d (omega arith) in rw (← same) first

-- the front of a queue fits
pub EachServes_front : (x : ℕ) (lists : List (List Cmd)) (c : Cmd) → EachServes lists → front_of lists x ≡ Some c → CanServe c
EachServes_front x lists c h is = front_serves (waiting_at lists x) c (h.each x) is

-- a spare that is raised isn't less than before
not_less : (before spares : List ℕ) (n p room : ℕ) → spare_at before n ≤ spare_at spares n → spare_at before p ≤ spare_at spares p → spare_at before p ≤ spare_at (set spares n (max (spare_at spares n) room)) p
not_less before spares n p room here there =
    elim (nat_eq p n) as (λ b. nat_eq p n ≡ b → spare_at before p ≤ spare_at (set spares n (max (spare_at spares n) room)) p) [
      | true ↦ λ e. keeps_set (λ s. spare_at before p ≤ s) spares n p _ (let same : p ≡ n = grind (arith, nat_tests) in rw same (omega arith)) there
      | false ↦ λ e. let other : p ≢ n = grind (arith, nat_tests) in rw get_or-set_other there
    ] refl

-- one place more has the room
pub IsReserved_more : (n room : ℕ) (before spares : List ℕ) → IsReserved n room before spares → n < most_places → IsReserved (n + 1) room before (set spares n (max (spare_at spares n) room))
IsReserved_more n room before spares h within = record {
  places = simp length-set h.places;
  reserved = below_more (λ p. room ≤ spare_at (set spares n (max (spare_at spares n) room)) p) n
      (λ p less. keeps_set (λ s. room ≤ s) spares n p _ (omega arith) (h.reserved p less))
      (let here : n < length spares = omega (arith, h.places) in rw (get_or-set_same spares n (max (spare_at spares n) room) 0 here) (omega arith));
  grown = λ p. not_less before spares n p room (h.grown n) (h.grown p);
}

-- all places have the room
pub HasRoom_reserved : (room : ℕ) (before spares : List ℕ) → IsReserved most_places room before spares → HasRoom room spares
HasRoom_reserved room before spares h = record { places = h.places; each = h.reserved }

-- no place has lost room
pub HasRoom_kept : (n room less : ℕ) (before spares : List ℕ) → IsReserved n room before spares → HasRoom less before → HasRoom less spares
HasRoom_kept n room less before spares h had = record {
  places = h.places;
  each = λ p within. omega (arith, had.each p within, h.grown p);
}

-- a command that joins takes from the room
pub HasRoom_joined : (room back x : ℕ) (spares : List ℕ) → HasRoom (room + back) spares → 0 < room → x < most_places → HasRoom (room - 1 + back) (less_spare x spares)
HasRoom_joined room back x spares h some within =
    HasRoom_weaker (room + back - 1) (room - 1 + back) (less_spare x spares) (omega arith) (HasRoom_less (room + back) x spares h within)

-- a command that is retried takes from the room, and is kept room for
pub HasRoom_retried : (room back : ℕ) (spares : List ℕ) → HasRoom (room + back) spares → 0 < room → HasRoom (room - 1 + (back + 1)) spares
HasRoom_retried room back spares h some = HasRoom_weaker (room + back) (room - 1 + (back + 1)) spares (omega arith) h

-- one more that can be served
pub push_serves : (c : Cmd) (commands : List Cmd) → AllServe commands → CanServe c → AllServe (commands ++ c ∷ [])
push_serves c commands all served = All-push CanServe commands c all served

-- the last one can be served
pub last_serves : (commands : List Cmd) (c : Cmd) → AllServe (commands ++ c ∷ []) → CanServe c
last_serves [] c all = All-head CanServe c [] all
last_serves (d ∷ rest) c all = last_serves rest c (All-tail CanServe d (rest ++ c ∷ []) all)

-- and the others
pub rest_serve : (commands : List Cmd) (c : Cmd) → AllServe (commands ++ c ∷ []) → AllServe commands
rest_serve [] c all = All-tail CanServe c [] all
rest_serve (d ∷ rest) c all =
    All-cons CanServe d rest (All-head CanServe d (rest ++ c ∷ []) all) (rest_serve rest c (All-tail CanServe d (rest ++ c ∷ []) all))

-- the last of the retried ones goes first
pub retried_last : (back : List Cmd) (c : Cmd) (lists : List (List Cmd)) → with_retried (back ++ c ∷ []) lists ≡ with_retried back (put_first c lists)
retried_last [] c lists = refl
retried_last (d ∷ rest) c lists = rw (retried_last rest c lists) refl

-- it can be served at the front
pub EachServes_first : (c : Cmd) (lists : List (List Cmd)) → EachServes lists → CanServe c → EachServes (put_first c lists)
EachServes_first c lists h served = record {
  places = simp length-set h.places;
  each = λ p. keeps_waiting AllServe lists c.place p _ (All-cons CanServe c _ served (h.each c.place)) (h.each p);
}

-- and takes a spare
pub HasRoom_first : (room back x : ℕ) (spares : List ℕ) → HasRoom (room + (back + 1)) spares → x < most_places → HasRoom (room + back) (less_spare x spares)
HasRoom_first room back x spares h within =
    HasRoom_weaker (room + (back + 1) - 1) (room + back) (less_spare x spares) (omega arith) (HasRoom_less (room + (back + 1)) x spares h within)
