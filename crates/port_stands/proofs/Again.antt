-- Which tasks link a place again.
use Rattle.std.proofs.Common.{◌≡◌, ◌≢◌, ◌∙◌, ℕ, Bool, true, false, ◌||◌, ◌==◌, List, [], ◌∷◌, Option, None, Some, inl, inr, refl, sym, ap, subst}
use Rattle.std.specs.Prelude.{slice_index_or, slice_index}
use Rattle.std.specs.List.{list_any}
use Rattle.std.proofs.lemmas.Bool.{eqb-true, eq-eqb}
use Rattle.ata_base.specs.declared.ms.Ms.{Ms}
use Rattle.eh_flow.specs.declared.phase.Phase.{Phase}
use Rattle.eh_flow.specs.declared.phase.Phase.TheVariants.{ResetOwed, ResetOpen, IdentOwed, Through}
use Rattle.port_past.specs.PlaceTold.{place_told}
use Rattle.port_past.specs.declared.place_told.HostTold.{HostTold}
use Rattle.port_past.specs.declared.place_told.HostTold.TheVariants.{NotBegun as NoHost, ResetBegun as HostBegun, ResetEnded as HostEnded}
use Rattle.port_past.specs.declared.place_told.PlaceTold.{PlaceTold}
use Rattle.port_past.specs.declared.place_told.PlaceTold.TheVariants.{NotBegun, ResetBegun as ResetOpenSeen}
use Rattle.port_past.specs.declared.task.Task.{Task}
use Rattle.port_past.specs.declared.task.Task.TheVariants.{Host, Reset, Revalidate}
use Rattle.port_rules.specs.Phase.{host_phase, place_phase}
use Rattle.port_stands.proofs.GuardFrames.{host_no_place}
use Rattle.port_stands.proofs.Phases.{own_or_later, same_place, same_stand, stand_place, is_of_some, stand_of_task, phase_place}
use Rattle.ata_base.proofs.Truth.{not_true, either_left, either_right}
use Rattle.ata_base.specs.Each.{Each}
use Rattle.port_stands.specs.Words.{RecoveryView, stand_at, task_stand, walk}
use Rattle.port_stands.proofs.WholeTold.{about, stand_same}
use Rattle.port_stands.specs.Handled.{AreOther, AreSingleTasks, owes_reset, to_reset}
use Rattle.port_stands.specs.Severed.{links_again, to_link}

-- ---- which tasks link a place again

-- a phase that links a place again is of that place
again_place : (x : ℕ) (p : Option Phase) → links_again x p ≡ true → stand_place p ≡ Some x
again_place x (Some (ResetOwed at attempt ident)) is = ap Some (eqb-true at x is)
again_place x (Some (ResetOpen at attempt ident deadline)) is = ap Some (eqb-true at x is)
again_place x p is = absurd (cc)

pub host_again : (x : ℕ) (h : HostTold) → links_again x (host_phase h) ≡ false
host_again x NoHost = refl
host_again x HostBegun = refl
host_again x HostEnded = refl

-- a task of another place owes none
other_again : (s : RecoveryView) (x p : ℕ) (first : Phase) → phase_place first ≡ Some p → p ≢ x → links_again x (stand_at s p first) ≡ false
other_again s x p first at apart =
    not_true (links_again x (stand_at s p first))
    (λ e. apart (same_stand p x first (slice_index_or s.attached p false || slice_index_or s.hot p false) (slice_index s.lates p) (slice_index_or s.seen p NotBegun) at
    (again_place x (stand_at s p first) e)))

again_same : (s t : RecoveryView) (x : ℕ) (task : Task) → about s x ≡ about t x → links_again x (task_stand s task) ≡ links_again x (task_stand t task)
again_same s t x Host same = host_again x s.host ∙ sym (host_again x t.host)
again_same s t x (Reset p) same = by (p == x) refl
  where
    by : (b : Bool) → (p == x) ≡ b → links_again x (task_stand s (Reset p)) ≡ links_again x (task_stand t (Reset p))
    by true e = subst (λ y. links_again x (task_stand s (Reset y)) ≡ links_again x (task_stand t (Reset y))) (sym (eqb-true p x e)) (ap (links_again x) (stand_same s t x (ResetOwed x 1 1) same))
    by false e = other_again s x p (ResetOwed p 1 1) refl (λ q. cc (e, eq-eqb p x q)) ∙ sym (other_again t x p (ResetOwed p 1 1) refl (λ q. cc (e, eq-eqb p x q)))
again_same s t x (Revalidate p) same = by (p == x) refl
  where
    by : (b : Bool) → (p == x) ≡ b → links_again x (task_stand s (Revalidate p)) ≡ links_again x (task_stand t (Revalidate p))
    by true e = subst (λ y. links_again x (task_stand s (Revalidate y)) ≡ links_again x (task_stand t (Revalidate y))) (sym (eqb-true p x e)) (ap (links_again x) (stand_same s t x (IdentOwed x 1) same))
    by false e = other_again s x p (IdentOwed p 1) refl (λ q. cc (e, eq-eqb p x q)) ∙ sym (other_again t x p (IdentOwed p 1) refl (λ q. cc (e, eq-eqb p x q)))

any_again : (s t : RecoveryView) (x : ℕ) (tasks : List Task) → about s x ≡ about t x
    → list_any (λ task. links_again x (task_stand s task)) tasks ≡ list_any (λ task. links_again x (task_stand t task)) tasks
any_again s t x [] same = refl
any_again s t x (task ∷ rest) same = rw (again_same s t x task same, any_again s t x rest same)

-- what is to be linked again goes by what is told of the place
pub link_same : (s t : RecoveryView) (x : ℕ) → t.tasks ≡ s.tasks → about s x ≡ about t x → to_link t x ≡ to_link s x
link_same s t x ts same =
    ap (list_any (λ task. links_again x (task_stand t task))) ts ∙ sym (any_again s t x s.tasks same)

-- ---- the task at which recovery stands is the only one of its place

rest_again : (s : RecoveryView) (x : ℕ) (tasks : List Task) → Each (λ u. links_again x (task_stand s u) ≡ false) tasks → list_any (λ task. links_again x (task_stand s task)) tasks ≡ false
rest_again s x [] each = refl
rest_again s x (u ∷ rest) each = rw each.0 (rest_again s x rest each.1)

others_again : (s : RecoveryView) (x : ℕ) (task : Task) (rest : List Task) → stand_place (task_stand s task) ≡ Some x → Each (AreOther task) rest → Each (λ u. links_again x (task_stand s u) ≡ false) rest
others_again s x task [] at each = tt
others_again s x task (u ∷ rest) at each = (other_one task u at each.0, others_again s x task rest at each.1)
  where
    place_is : (p : ℕ) (first : Phase) → phase_place first ≡ Some p → stand_place (stand_at s p first) ≡ Some x → p ≡ x
    place_is p first f at = same_stand p x first (slice_index_or s.attached p false || slice_index_or s.hot p false) (slice_index s.lates p) (slice_index_or s.seen p NotBegun) f at

    other_one : (t u : Task) → stand_place (task_stand s t) ≡ Some x → AreOther t u → links_again x (task_stand s u) ≡ false
    other_one t Host at o = host_again x s.host
    other_one Host (Reset q) at o = absurd (host_no_place s.host x at)
    other_one Host (Revalidate q) at o = absurd (host_no_place s.host x at)
    other_one (Reset p) (Reset q) at o = other_again s x q (ResetOwed q 1 1) refl (λ e. o (place_is p (ResetOwed p 1 1) refl at ∙ sym e))
    other_one (Reset p) (Revalidate q) at o = other_again s x q (IdentOwed q 1) refl (λ e. o (place_is p (ResetOwed p 1 1) refl at ∙ sym e))
    other_one (Revalidate p) (Reset q) at o = other_again s x q (ResetOwed q 1 1) refl (λ e. o (place_is p (IdentOwed p 1) refl at ∙ sym e))
    other_one (Revalidate p) (Revalidate q) at o = other_again s x q (IdentOwed q 1) refl (λ e. o (place_is p (IdentOwed p 1) refl at ∙ sym e))

pub single_again :
    (s : RecoveryView) (x : ℕ) (tasks : List Task) (at : Phase) → AreSingleTasks tasks → walk s tasks ≡ at → phase_place at ≡ Some x → links_again x (Some at) ≡ false
    → list_any (λ task. links_again x (task_stand s task)) tasks ≡ false
single_again s x [] at single is there none = refl
single_again s x (task ∷ rest) at single is there none =
    elim (own_or_later (task_stand s task) (walk s rest) at is) [
      | inl own ↦ rw (ap (links_again x) own ∙ none) (rest_again s x rest (others_again s x task rest (ap stand_place own ∙ there) single.0))
      | inr more ↦ rw (ap (links_again x) more.0) (single_again s x rest at single.1 more.1 there none)
    ]

-- where recovery is through, nothing is to be linked again
through_again : (s : RecoveryView) (x : ℕ) (tasks : List Task) → walk s tasks ≡ Through → list_any (λ task. links_again x (task_stand s task)) tasks ≡ false
through_again s x [] is = refl
through_again s x (task ∷ rest) is =
    elim (own_or_later (task_stand s task) (walk s rest) Through is) [
      | inl own ↦ absurd (cc (stand_of_task s task, ap is_of_some own))
      | inr later ↦ through_later later.0 (through_again s x rest later.1)
    ]
  where
    through_later : task_stand s task ≡ None → list_any (λ task. links_again x (task_stand s task)) rest ≡ false → list_any (λ task. links_again x (task_stand s task)) (task ∷ rest) ≡ false
    through_later own more = ap (λ p. links_again x p || list_any (λ task. links_again x (task_stand s task)) rest) own ∙ more

-- where recovery links nothing again, a place isn't to be linked
pub none_again : (s : RecoveryView) (x : ℕ) → walk s s.tasks ≡ Through → to_link s x ≡ false
none_again s x at = through_again s x s.tasks at

pub opened :
    (s t : RecoveryView) (x attempt : ℕ) (deadline : Ms) (tasks : List Task) (at : Phase) → walk s tasks ≡ at → phase_place at ≡ Some x
    → slice_index_or t.seen x NotBegun ≡ ResetOpenSeen attempt deadline → list_any (λ task. links_again x (task_stand t task)) tasks ≡ true
opened s t x attempt deadline [] at is there place_told = absurd (cc (ap phase_place is, there))
opened s t x attempt deadline (task ∷ rest) at is there place_told =
    elim (own_or_later (task_stand s task) (walk s rest) at is) [
      | inl own ↦ either_left (links_again x (task_stand t task)) _ (own_again task own)
      | inr more ↦ either_right (links_again x (task_stand t task)) _ (opened s t x attempt deadline rest at more.1 there place_told)
    ]
  where
    open_again : (p : ℕ) (first : Phase) → p ≡ x → links_again x (stand_at t p first) ≡ true
    open_again p first e =
        subst (λ y. links_again x (stand_at t y first) ≡ true) (sym e)
        (ap (λ (z : PlaceTold). links_again x (place_phase x first (slice_index_or t.attached x false || slice_index_or t.hot x false) (slice_index t.lates x) z)) place_told ∙ eq-eqb x x refl)

    own_again : (task : Task) → task_stand s task ≡ Some at → links_again x (task_stand t task) ≡ true
    own_again Host own = absurd (host_no_place s.host x (ap stand_place own ∙ there))
    own_again (Reset p) own = open_again p (ResetOwed p 1 1) (same_place p x (ResetOwed p 1 1) at (slice_index_or s.attached p false || slice_index_or s.hot p false) (slice_index s.lates p) (slice_index_or s.seen p NotBegun) refl there own)
    own_again (Revalidate p) own = open_again p (IdentOwed p 1) (same_place p x (IdentOwed p 1) at (slice_index_or s.attached p false || slice_index_or s.hot p false) (slice_index s.lates p) (slice_index_or s.seen p NotBegun) refl there own)

reset_one : (x : ℕ) (p : Option Phase) → owes_reset x p ≡ true → links_again x p ≡ true
reset_one x (Some (ResetOwed at attempt ident)) e = e
reset_one x p e = absurd (cc)

either_wider : (a b c d : Bool) → (a ≡ true → c ≡ true) → (b ≡ true → d ≡ true) → (a || b) ≡ true → (c || d) ≡ true
either_wider true b c d f g e = either_left c d (f refl)
either_wider false b c d f g e = either_right c d (g e)

any_wider : (s : RecoveryView) (x : ℕ) (tasks : List Task) → list_any (λ task. owes_reset x (task_stand s task)) tasks ≡ true → list_any (λ task. links_again x (task_stand s task)) tasks ≡ true
any_wider s x [] e = absurd (cc)
any_wider s x (task ∷ rest) e =
    either_wider (owes_reset x (task_stand s task)) (list_any (λ u. owes_reset x (task_stand s u)) rest) (links_again x (task_stand s task)) (list_any (λ u. links_again x (task_stand s u)) rest)
    (reset_one x (task_stand s task)) (any_wider s x rest) e

-- a place that is to be reset is linked again
pub reset_again : (s : RecoveryView) (x : ℕ) → to_reset s x ≡ true → to_link s x ≡ true
reset_again s x is = any_wider s x s.tasks is
