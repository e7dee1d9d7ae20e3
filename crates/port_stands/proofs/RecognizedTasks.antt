-- Where recovery stands at a place whose identity is yet to be read.
use Rattle.std.proofs.Common.{◌≡◌, ◌∙◌, ℕ, ◌+◌, Bool, true, false, ◌||◌, nat_lt, List, [], ◌∷◌, Option, None, Some, inl, inr, is_some, refl, sym, ap, subst, if◌then◌else◌}
use Rattle.std.specs.Prelude.{slice_index_or, slice_index}
use Rattle.std.specs.List.{list_any}
use Rattle.std.specs.Option.{option_map_or}
use Rattle.std.proofs.lemmas.Bool.{eqb-true, eq-eqb}
use Rattle.ata_base.proofs.Truth.{either_true, either_left, either_right}
use Rattle.ata_base.specs.declared.ms.Ms.{Ms}
use Rattle.eh_flow.specs.declared.phase.Phase.{Phase}
use Rattle.eh_flow.specs.declared.phase.Phase.TheVariants.{ResetOwed, IdentOwed, IdentOpen, Through}
use Rattle.eh_reval.specs.IdentWaits.{ident_tries}
use Rattle.port_past.specs.Attachment.{attached}
use Rattle.port_past.specs.PlaceTold.{late}
use Rattle.port_past.specs.declared.place_told.HostTold.{HostTold}
use Rattle.port_past.specs.declared.place_told.HostTold.TheVariants.{NotBegun as NoHost, ResetBegun as HostBegun, ResetEnded as HostEnded}
use Rattle.port_past.specs.declared.place_told.PlaceTold.{PlaceTold}
use Rattle.port_past.specs.declared.place_told.PlaceTold.TheVariants.{NotBegun as NothingSeen, ResetBegun as ResetOpenSeen, ResetLate as ResetLateSeen, ResetEnded as ResetEndedSeen, ResetFailed as ResetFailedSeen, IdentAsked as IdentOpenSeen, IdentLate as IdentLateSeen, Mode as ModeSeen}
use Rattle.port_past.specs.declared.task.Task.{Task}
use Rattle.port_past.specs.declared.task.Task.TheVariants.{Host, Reset, Revalidate}
use Rattle.port_rules.specs.Phase.{host_phase, place_phase}
use Rattle.port_stands.proofs.Fitting.{is_unread, is_task_at}
use Rattle.port_stands.proofs.GuardFrames.{host_no_place}
use Rattle.port_stands.proofs.Phases.{phase_place, stand_place, own_or_later, same_place, stand_of_task, is_of_some}
use Rattle.port_stands.specs.Words.{RecoveryView, task_stand, walk}

-- ---- the tasks

-- the task at which recovery stands is of its place
pub task_found : (s : RecoveryView) (x : ℕ) (tasks : List Task) (at : Phase) → walk s tasks ≡ at → phase_place at ≡ Some x → list_any (is_task_at x) tasks ≡ true
task_found s x [] at is there = absurd (cc (ap phase_place is, there))
task_found s x (task ∷ rest) at is there =
    elim (own_or_later (task_stand s task) (walk s rest) at is) [
      | inl own ↦ either_left (is_task_at x task) (list_any (is_task_at x) rest) (own_task task own)
      | inr more ↦ either_right (is_task_at x task) (list_any (is_task_at x) rest) (task_found s x rest at more.1 there)
    ]
  where
    own_task : (task : Task) → task_stand s task ≡ Some at → is_task_at x task ≡ true
    own_task Host own = absurd (host_no_place s.host x (ap stand_place own ∙ there))
    own_task (Reset p) own = eq-eqb p x (same_place p x (ResetOwed p 1 1) at (slice_index_or s.attached p false || slice_index_or s.hot p false) (slice_index s.lates p) (slice_index_or s.seen p NothingSeen) refl there own)
    own_task (Revalidate p) own = eq-eqb p x (same_place p x (IdentOwed p 1) at (slice_index_or s.attached p false || slice_index_or s.hot p false) (slice_index s.lates p) (slice_index_or s.seen p NothingSeen) refl there own)

some_if : (b : Bool) (p : Phase) → b ≡ true → is_some (if b then Some p else None) ≡ true
some_if true p is = refl
some_if false p is = absurd (cc)

-- a place whose identity is yet to be read isn't through
unread_stands :
    (place : ℕ) (first : Phase) (wanted : Bool) (lates : ℕ) (seen : PlaceTold) → wanted ≡ true → is_unread seen lates ≡ true
    → is_some (place_phase place first wanted lates seen) ≡ true
unread_stands place first wanted lates NothingSeen want is = absurd (cc)
unread_stands place first wanted lates (ResetOpenSeen attempt deadline) want is = refl
unread_stands place first wanted lates (ResetLateSeen attempt) want is = refl
unread_stands place first wanted lates (ResetEndedSeen true) want is = some_if wanted (IdentOwed place (lates + 1)) want
unread_stands place first wanted lates (ResetEndedSeen false) want is = absurd (cc)
unread_stands place first wanted lates ResetFailedSeen want is = absurd (cc)
unread_stands place first wanted lates (IdentOpenSeen deadline) want is = refl
unread_stands place first wanted lates IdentLateSeen want is = some_if (nat_lt lates ident_tries) (ResetOwed place 1 (lates + 1)) is
unread_stands place first wanted lates ModeSeen want is = absurd (cc)

-- so where recovery is through, no place with a device is such
pub through_read :
    (s : RecoveryView) (x : ℕ) (tasks : List Task) → walk s tasks ≡ Through → slice_index_or s.attached x false ≡ true
    → is_unread (slice_index_or s.seen x NothingSeen) (slice_index s.lates x) ≡ true → list_any (is_task_at x) tasks ≡ true → ⊥
through_read s x [] is there unread task = cc
through_read s x (t ∷ rest) is there unread task =
    elim (own_or_later (task_stand s t) (walk s rest) Through is) [
      | inl own ↦ absurd (cc (stand_of_task s t, ap is_of_some own))
      | inr later ↦ elim (either_true (is_task_at x t) (list_any (is_task_at x) rest) task) [
        | inl mine ↦ stands t mine later.0
        | inr more ↦ through_read s x rest later.1 there unread more
      ]
    ]
  where
    here : (p : ℕ) (first : Phase) → p ≡ x
        → is_some (place_phase p first (slice_index_or s.attached p false || slice_index_or s.hot p false) (slice_index s.lates p) (slice_index_or s.seen p NothingSeen)) ≡ true
    here p first e =
        subst (λ y. is_some (place_phase y first (slice_index_or s.attached y false || slice_index_or s.hot y false) (slice_index s.lates y) (slice_index_or s.seen y NothingSeen)) ≡ true) (sym e)
        (unread_stands x first (slice_index_or s.attached x false || slice_index_or s.hot x false) (slice_index s.lates x) (slice_index_or s.seen x NothingSeen)
        (either_left (slice_index_or s.attached x false) (slice_index_or s.hot x false) there) unread)

    stands : (t : Task) → is_task_at x t ≡ true → task_stand s t ≡ None → ⊥
    stands Host mine none = cc
    stands (Reset p) mine none = cc (sym (here p (ResetOwed p 1 1) (eqb-true p x mine)) ∙ ap is_some none)
    stands (Revalidate p) mine none = cc (sym (here p (IdentOwed p 1) (eqb-true p x mine)) ∙ ap is_some none)

-- ---- the tries of an identity

abbrev tries_of : Option Phase → Option (ℕ × ℕ)
tries_of (Some (IdentOpen place attempt deadline)) = Some (place, attempt)
tries_of p = None

tries_if : (b : Bool) (p : Phase) (t : ℕ × ℕ) → tries_of (Some p) ≡ None → tries_of (if b then Some p else None) ≡ Some t → ⊥
tries_if true p t none is = cc (none, is)
tries_if false p t none is = cc

own_tries :
    (q : ℕ) (first : Phase) (wanted : Bool) (lates : ℕ) (seen : PlaceTold) (t : ℕ × ℕ) → tries_of (Some first) ≡ None
    → tries_of (place_phase q first wanted lates seen) ≡ Some t → (q ≡ t.0) × (t.1 ≡ lates + 1)
own_tries q first wanted lates NothingSeen t none is = absurd (cc (none, is))
own_tries q first wanted lates (ResetOpenSeen attempt deadline) t none is = absurd (cc)
own_tries q first wanted lates (ResetLateSeen attempt) t none is = absurd (cc)
own_tries q first wanted lates (ResetEndedSeen true) t none is = absurd (tries_if wanted (IdentOwed q (lates + 1)) t refl is)
own_tries q first wanted lates (ResetEndedSeen false) t none is = absurd (cc)
own_tries q first wanted lates ResetFailedSeen t none is = absurd (cc)
own_tries q first wanted lates (IdentOpenSeen deadline) t none is =
    (ap (λ (o : Option (ℕ × ℕ)). option_map_or (λ p. p.0) o 0) is, sym (ap (λ (o : Option (ℕ × ℕ)). option_map_or (λ p. p.1) o 0) is))
own_tries q first wanted lates IdentLateSeen t none is = absurd (tries_if (nat_lt lates ident_tries) (ResetOwed q 1 (lates + 1)) t refl is)
own_tries q first wanted lates ModeSeen t none is = absurd (cc)

-- the try of an open identity is one more than the late ones
pub open_tries : (s : RecoveryView) (place attempt : ℕ) (deadline : Ms) (tasks : List Task) → walk s tasks ≡ IdentOpen place attempt deadline → attempt ≡ slice_index s.lates place + 1
open_tries s place attempt deadline [] is = absurd (cc)
open_tries s place attempt deadline (task ∷ rest) is =
    elim (own_or_later (task_stand s task) (walk s rest) (IdentOpen place attempt deadline) is) [
      | inl own ↦ by task (ap tries_of own)
      | inr more ↦ open_tries s place attempt deadline rest more.1
    ]
  where
    at_place : (q : ℕ) → (q ≡ place) × (attempt ≡ slice_index s.lates q + 1) → attempt ≡ slice_index s.lates place + 1
    at_place q both = both.1 ∙ ap (λ y. slice_index s.lates y + 1) both.0

    host_tries : (h : HostTold) → tries_of (host_phase h) ≡ Some (place, attempt) → ⊥
    host_tries NoHost is = cc
    host_tries HostBegun is = cc
    host_tries HostEnded is = cc

    by : (task : Task) → tries_of (task_stand s task) ≡ Some (place, attempt) → attempt ≡ slice_index s.lates place + 1
    by Host is = absurd (host_tries s.host is)
    by (Reset q) is = at_place q (own_tries q (ResetOwed q 1 1) (slice_index_or s.attached q false || slice_index_or s.hot q false) (slice_index s.lates q) (slice_index_or s.seen q NothingSeen) (place, attempt) refl is)
    by (Revalidate q) is = at_place q (own_tries q (IdentOwed q 1) (slice_index_or s.attached q false || slice_index_or s.hot q false) (slice_index s.lates q) (slice_index_or s.seen q NothingSeen) (place, attempt) refl is)

pub late_unread : (seen : PlaceTold) (lates : ℕ) → is_unread seen lates ≡ true → is_unread (late seen) lates ≡ true
late_unread (ResetOpenSeen attempt deadline) lates is = refl
late_unread seen lates is = is
