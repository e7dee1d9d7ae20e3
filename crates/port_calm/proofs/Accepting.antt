-- A command is accepted.
use Rattle.std.proofs.Common.{ap, cond, ◌≤◌, ◌+◌, ◌⊎◌, inl, inr, ◌≡◌, ◌∙◌, ℕ, ◌<◌, ◌==◌, Bool, true, false, List, [], ◌∷◌, ◌++◌, Some, slice_get, slice_index_or, refl, sym, subst, arith, length-set, length-append}
use Rattle.std.proofs.lemmas.Bool.{eqb-true, eq-eqb}
use Rattle.std.specs.List.{list_any}
use Rattle.ata_base.specs.declared.cmd.Cmd.{Cmd}
use Rattle.ata_script.specs.declared.port_head.PortHead.{PortHead}
use Rattle.host_queue.specs.Waiting.{waiting_at, joined}
use Rattle.host_tags.specs.declared.in_flight.InFlight.{InFlight}
use Rattle.ata_base.specs.Each.{Each}
use Rattle.ata_base.proofs.EachLemmas.{every_weaker, every_push}
use Rattle.port_calm.proofs.Lists.{read_set, read_set_same, any_push, any_pushed, any_of_push}
use Rattle.port_calm.proofs.Sight.{Sight, IsCalm, IsWaiting, IsFlight, WaitsAt, Flies, Waits, times}
use Rattle.port_calm.proofs.Slots.{find_push, find_new, total_set, front_push, times_push, times_none}
use Rattle.port_calm.specs.Calm.{is_among}
use Rattle.port_past.specs.Commands.{is_accepted, is_gone}

abbrev pub accepted : Cmd → Sight → Sight
accepted c s = record s { commands = s.commands ++ c ∷ []; queues = joined c s.queues; live = s.live ++ c.id ∷ [] }

still_waiting :
    (attached : List Bool) (partings : List ℕ) (commands : List Cmd) (c : Cmd) (x : ℕ) (k : Cmd)
    → IsWaiting attached partings commands x k → IsWaiting attached partings (commands ++ c ∷ []) x k
still_waiting attached partings commands c x k w = record {
  place = w.place;
  current = w.current;
  wait = w.wait;
  known = find_push (λ (y : Cmd). y.id == k.id) commands c k w.known;
  home = w.home;
}

still_flying :
    (attached : List Bool) (commands : List Cmd) (issues : ℕ) (c : Cmd) (f : InFlight)
    → IsFlight attached commands issues f → IsFlight attached (commands ++ c ∷ []) issues f
still_flying attached commands issues c f w = record {
  unowned = w.unowned;
  later = w.later;
  some = w.some;
  numbered = w.numbered;
  cmd = w.cmd;
  known = find_push (λ (y : Cmd). y.id == f.id) commands c w.cmd w.known;
  place = w.place;
  home = w.home;
}

module _ (head : PortHead) (s : Sight) (c : Cmd) (h : IsCalm head s) (fresh : is_accepted c.id s.commands ≡ false) (home : slice_index_or s.still.attached c.place false ≡ true) (current : is_gone c s.still.partings ≡ false) (wait : 0 < c.wait.n) where
  waits_all :
      (x : ℕ) → Each (IsWaiting s.still.attached s.still.partings (s.commands ++ c ∷ []) x) (waiting_at (joined c s.queues) x)
  waits_all x =
      let P = IsWaiting s.still.attached s.still.partings (s.commands ++ c ∷ []) in
      let was : (y : ℕ) → Each (P y) (waiting_at s.queues y) =
      λ y. every_weaker (IsWaiting s.still.attached s.still.partings s.commands y) (P y)
      (still_waiting s.still.attached s.still.partings s.commands c y) (waiting_at s.queues y) (h.waits y) in
      let new : P c.place c = record {
        place = refl;
        current = current;
        wait = wait;
        known = find_new (λ (y : Cmd). y.id == c.id) s.commands c fresh (eq-eqb c.id c.id refl);
        home = home;
      } in
      read_set (Each (P x)) s.queues c.place (waiting_at s.queues c.place ++ c ∷ []) x []
      (λ e. subst (λ y. Each (P y) (waiting_at s.queues c.place ++ c ∷ [])) (sym e)
      (every_push (P c.place) (waiting_at s.queues c.place) c (was c.place) new))
      (was x)

  claims : (x : ℕ) → WaitsAt s.queues x → WaitsAt (joined c s.queues) x
  claims x w =
      let p = read_set (λ q. (k : Cmd) × (slice_get q 0 ≡ Some k)) s.queues c.place (waiting_at s.queues c.place ++ c ∷ []) x []
      (λ e. front_push (waiting_at s.queues c.place) c) (w.front, w.is) in
      record { front = p.0; is = p.1 }

  waits_on : (id : ℕ) → Waits s.queues id → Waits (joined c s.queues) id
  waits_on id w =
      let test : Cmd → Bool = λ k. k.id == id in
      record {
        place = w.place;
        among = read_set (λ q. list_any test q ≡ true) s.queues c.place (waiting_at s.queues c.place ++ c ∷ []) w.place []
            (λ e. any_push test (waiting_at s.queues c.place) c (subst (λ y. list_any test (waiting_at s.queues y) ≡ true) e w.among))
            w.among;
      }

  waits_new : (id : ℕ) → (c.id == id) ≡ true → Waits (joined c s.queues) id
  waits_new id is =
      let test : Cmd → Bool = λ k. k.id == id in
      let same = read_set_same s.queues c.place (waiting_at s.queues c.place ++ c ∷ []) []
      (omega (arith, (h.still.homes c.place home).few, h.long_queues)) in
      record {
        place = c.place;
        among = subst (λ q. list_any test q ≡ true) (sym same) (any_pushed test (waiting_at s.queues c.place) c is);
      }

  here_all : (id : ℕ) → is_among id (s.live ++ c.id ∷ []) ≡ true → Waits (joined c s.queues) id ⊎ Flies s.slots id
  here_all id is =
      elim (any_of_push (λ n. n == id) s.live c.id is) [
        | inl was ↦ elim (h.here id was) [ inl w ↦ inl (waits_on id w) | inr f ↦ inr f ]
        | inr new ↦ inl (waits_new id new)
      ]

  told_all :
      (id : ℕ) → is_accepted id (s.commands ++ c ∷ []) ≡ true
      → (is_among id (s.live ++ c.id ∷ []) ≡ true) ⊎ (is_among id s.answered ≡ true)
  told_all id is =
      elim (any_of_push (λ (k : Cmd). k.id == id) s.commands c is) [
        | inl was ↦ elim (h.told id was) [
          | inl live ↦ inl (any_push (λ n. n == id) s.live c.id live)
          | inr answered ↦ inr answered
        ]
        | inr new ↦ inl (any_pushed (λ n. n == id) s.live c.id new)
      ]

  not_live : (b : Bool) → is_among c.id s.live ≡ b → b ≡ false
  not_live true is = let was = h.known c.id is in absurd (cc)
  not_live false is = refl

  once_all : (id : ℕ) → times id (s.live ++ c.id ∷ []) ≤ 1
  once_all id = by (c.id == id) refl where
    none : times c.id s.live ≡ 0
    none = times_none c.id s.live (not_live _ refl)

    by : (b : Bool) → (c.id == id) ≡ b → times id (s.live ++ c.id ∷ []) ≤ 1
    by true is =
        let new = times_push id c.id s.live ∙ ap (λ b. times id s.live + cond b 1 0) is in
        let no : times id s.live ≡ 0 = subst (λ n. times n s.live ≡ 0) (eqb-true c.id id is) none in
        omega (arith, new, no)
    by false is =
        let new = times_push id c.id s.live ∙ ap (λ b. times id s.live + cond b 1 0) is in
        omega (arith, new, h.once id)

  pub accept_calm : IsCalm head (accepted c s)
  accept_calm = record {
    still = h.still;
    long_queues = length-set s.queues c.place _ ∙ h.long_queues;
    long_slots = h.long_slots;
    long_ends = h.long_ends;
    long_drives = h.long_drives;
    waits = waits_all;
    flies = λ t f is. still_flying s.still.attached s.commands s.issues c f (h.flies t f is);
    apart = h.apart;
    held = h.held;
    sound = h.sound;
    flown = h.flown;
    claimed = λ x is. elim (h.claimed x is) [ inl f ↦ inl f | inr w ↦ inr (claims x w) ];
    here = here_all;
    told = told_all;
    few = omega (
      arith,
      h.few,
      total_set s.queues c.place (waiting_at s.queues c.place ++ c ∷ []),
      length-append (waiting_at s.queues c.place) (c ∷ []),
      length-append s.live (c.id ∷ []),
    );
    once = once_all;
    known = λ id is. elim (any_of_push (λ n. n == id) s.live c.id is) [
      | inl was ↦ any_push (λ (k : Cmd). k.id == id) s.commands c (h.known id was)
      | inr new ↦ any_pushed (λ (k : Cmd). k.id == id) s.commands c new
    ];
    least = omega (arith, h.least, length-append s.live (c.id ∷ []), length-append s.commands (c ∷ []));
  }
