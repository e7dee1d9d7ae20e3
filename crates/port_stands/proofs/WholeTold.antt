-- What the rows of a recovery tell of one place leaves of the others.
use Rattle.std.proofs.Common.{◌≡◌, ◌≢◌, ◌∙◌, ℕ, ◌+◌, Bool, true, false, not, ◌||◌, ◌==◌, List, [], ◌∷◌, Option, None, Some, inl, inr, slice_set, refl, sym, ap, subst}
use Rattle.std.specs.Prelude.{slice_index_or, slice_index}
use Rattle.std.specs.List.{list_all, list_any}
use Rattle.std.proofs.lemmas.Bool.{eqb-true, eq-eqb}
use Rattle.ata_script.specs.declared.port_head.PortHead.{PortHead}
use Rattle.ata_trace.specs.Event.{Event, onto}
use Rattle.ata_trace.specs.Event.Event.{Told}
use Rattle.ata_trace.specs.declared.act.Act.{Act}
use Rattle.ata_trace.specs.declared.act.Act.TheVariants.{Frozen, Thawed, ResetBegun, ResetLate, ResetFailed, ResetEndedGen, ResetEndedNone, ResetEndedHost, IdentAsked, IdentLate, Identified, Same, Attached, Detached, Disabled, Mode, WaitingReset, WaitingIdent}
use Rattle.eh_flow.specs.declared.phase.Phase.{Phase}
use Rattle.eh_flow.specs.declared.phase.Phase.TheVariants.{ResetOwed, IdentOwed}
use Rattle.port_past.specs.Attachment.{attached}
use Rattle.port_past.specs.Places.{changed_at}
use Rattle.port_past.specs.PlaceTold.{place_told, late, ident_lates}
use Rattle.port_past.specs.declared.place_told.HostTold.{HostTold}
use Rattle.port_past.specs.declared.place_told.HostTold.TheVariants.{NotBegun as NoHost, ResetBegun as HostBegun, ResetEnded as HostEnded}
use Rattle.port_past.specs.declared.place_told.PlaceTold.{PlaceTold}
use Rattle.port_past.specs.declared.place_told.PlaceTold.TheVariants.{NotBegun, ResetBegun as ResetOpenSeen, ResetEnded, ResetFailed as ResetHasFailed, IdentAsked as IdentOpenSeen, IdentLate as IdentWasLate, Mode as HasMode}
use Rattle.port_past.specs.declared.task.Task.{Task}
use Rattle.port_past.specs.declared.task.Task.TheVariants.{Host, Reset, Revalidate}
use Rattle.port_rules.specs.Phase.{host_phase, place_phase}
use Rattle.port_stands.proofs.Blocks.{left_alone}
use Rattle.port_stands.proofs.Driven.{read_change}
use Rattle.port_stands.proofs.GuardFrames.{host_no_place}
use Rattle.port_stands.proofs.Phases.{own_or_later, same_stand, stand_place, phase_place}
use Rattle.ata_base.proofs.Truth.{not_true}
use Rattle.port_stands.proofs.Within.{read_put}
use Rattle.port_stands.specs.Handled.{AreOther, AreSingleTasks, owes_reset, to_reset}
use Rattle.ata_base.specs.Each.{Each}
use Rattle.port_stands.specs.Words.{RecoveryView, recovery, stand_at, task_stand, walk}

-- ---- what is told of a place

pub record About : Type 0 where
  pub seen : PlaceTold
  pub lates : ℕ
  pub attached : Bool
  pub hot : Bool

abbrev pub about : RecoveryView → ℕ → About
about s x = record { seen = slice_index_or s.seen x NotBegun; lates = slice_index s.lates x; attached = slice_index_or s.attached x false; hot = slice_index_or s.hot x false }

-- a phase that owes a place a reset is of that place
owes_place : (x : ℕ) (p : Option Phase) → owes_reset x p ≡ true → stand_place p ≡ Some x
owes_place x (Some (ResetOwed at attempt ident)) is = ap Some (eqb-true at x is)
owes_place x p is = absurd (cc)

pub host_owes : (x : ℕ) (h : HostTold) → owes_reset x (host_phase h) ≡ false
host_owes x NoHost = refl
host_owes x HostBegun = refl
host_owes x HostEnded = refl

-- a task of another place owes none
other_owes : (s : RecoveryView) (x p : ℕ) (first : Phase) → phase_place first ≡ Some p → p ≢ x → owes_reset x (stand_at s p first) ≡ false
other_owes s x p first at apart =
    not_true (owes_reset x (stand_at s p first))
    (λ e. apart (same_stand p x first (slice_index_or s.attached p false || slice_index_or s.hot p false) (slice_index s.lates p) (slice_index_or s.seen p NotBegun) at
    (owes_place x (stand_at s p first) e)))

pub stand_same : (s t : RecoveryView) (x : ℕ) (first : Phase) → about s x ≡ about t x → stand_at s x first ≡ stand_at t x first
stand_same s t x first same = ap (λ (a : About). place_phase x first (a.attached || a.hot) a.lates a.seen) same

owes_same : (s t : RecoveryView) (x : ℕ) (task : Task) → about s x ≡ about t x → owes_reset x (task_stand s task) ≡ owes_reset x (task_stand t task)
owes_same s t x Host same = host_owes x s.host ∙ sym (host_owes x t.host)
owes_same s t x (Reset p) same = by (p == x) refl
  where
    by : (b : Bool) → (p == x) ≡ b → owes_reset x (task_stand s (Reset p)) ≡ owes_reset x (task_stand t (Reset p))
    by true e = subst (λ y. owes_reset x (task_stand s (Reset y)) ≡ owes_reset x (task_stand t (Reset y))) (sym (eqb-true p x e)) (ap (owes_reset x) (stand_same s t x (ResetOwed x 1 1) same))
    by false e = other_owes s x p (ResetOwed p 1 1) refl (λ q. cc (e, eq-eqb p x q)) ∙ sym (other_owes t x p (ResetOwed p 1 1) refl (λ q. cc (e, eq-eqb p x q)))
owes_same s t x (Revalidate p) same = by (p == x) refl
  where
    by : (b : Bool) → (p == x) ≡ b → owes_reset x (task_stand s (Revalidate p)) ≡ owes_reset x (task_stand t (Revalidate p))
    by true e = subst (λ y. owes_reset x (task_stand s (Revalidate y)) ≡ owes_reset x (task_stand t (Revalidate y))) (sym (eqb-true p x e)) (ap (owes_reset x) (stand_same s t x (IdentOwed x 1) same))
    by false e = other_owes s x p (IdentOwed p 1) refl (λ q. cc (e, eq-eqb p x q)) ∙ sym (other_owes t x p (IdentOwed p 1) refl (λ q. cc (e, eq-eqb p x q)))

any_same : (s t : RecoveryView) (x : ℕ) (tasks : List Task) → about s x ≡ about t x
    → list_any (λ task. owes_reset x (task_stand s task)) tasks ≡ list_any (λ task. owes_reset x (task_stand t task)) tasks
any_same s t x [] same = refl
any_same s t x (task ∷ rest) same = rw (owes_same s t x task same, any_same s t x rest same)

-- what is to be reset goes by what is told of the place
pub reset_same : (s t : RecoveryView) (x : ℕ) → t.tasks ≡ s.tasks → about s x ≡ about t x → to_reset t x ≡ to_reset s x
reset_same s t x ts same =
    ap (list_any (λ task. owes_reset x (task_stand t task))) ts ∙ sym (any_same s t x s.tasks same)

-- ---- the task at which recovery stands is the only one of its place

rest_owes : (s : RecoveryView) (x : ℕ) (tasks : List Task) → Each (λ u. owes_reset x (task_stand s u) ≡ false) tasks → list_any (λ task. owes_reset x (task_stand s task)) tasks ≡ false
rest_owes s x [] each = refl
rest_owes s x (u ∷ rest) each = rw each.0 (rest_owes s x rest each.1)

others_owe : (s : RecoveryView) (x : ℕ) (task : Task) (rest : List Task) → stand_place (task_stand s task) ≡ Some x → Each (AreOther task) rest → Each (λ u. owes_reset x (task_stand s u) ≡ false) rest
others_owe s x task [] at each = tt
others_owe s x task (u ∷ rest) at each = (other_one task u at each.0, others_owe s x task rest at each.1)
  where
    place_is : (p : ℕ) (first : Phase) → phase_place first ≡ Some p → stand_place (stand_at s p first) ≡ Some x → p ≡ x
    place_is p first f at = same_stand p x first (slice_index_or s.attached p false || slice_index_or s.hot p false) (slice_index s.lates p) (slice_index_or s.seen p NotBegun) f at

    other_one : (t u : Task) → stand_place (task_stand s t) ≡ Some x → AreOther t u → owes_reset x (task_stand s u) ≡ false
    other_one t Host at o = host_owes x s.host
    other_one Host (Reset q) at o = absurd (host_no_place s.host x at)
    other_one Host (Revalidate q) at o = absurd (host_no_place s.host x at)
    other_one (Reset p) (Reset q) at o = other_owes s x q (ResetOwed q 1 1) refl (λ e. o (place_is p (ResetOwed p 1 1) refl at ∙ sym e))
    other_one (Reset p) (Revalidate q) at o = other_owes s x q (IdentOwed q 1) refl (λ e. o (place_is p (ResetOwed p 1 1) refl at ∙ sym e))
    other_one (Revalidate p) (Reset q) at o = other_owes s x q (ResetOwed q 1 1) refl (λ e. o (place_is p (IdentOwed p 1) refl at ∙ sym e))
    other_one (Revalidate p) (Revalidate q) at o = other_owes s x q (IdentOwed q 1) refl (λ e. o (place_is p (IdentOwed p 1) refl at ∙ sym e))

pub single_owes :
    (s : RecoveryView) (x : ℕ) (tasks : List Task) (at : Phase) → AreSingleTasks tasks → walk s tasks ≡ at → phase_place at ≡ Some x → owes_reset x (Some at) ≡ false
    → list_any (λ task. owes_reset x (task_stand s task)) tasks ≡ false
single_owes s x [] at single is there none = refl
single_owes s x (task ∷ rest) at single is there none =
    elim (own_or_later (task_stand s task) (walk s rest) at is) [
      | inl own ↦ rw (ap (owes_reset x) own ∙ none) (rest_owes s x rest (others_owe s x task rest (ap stand_place own ∙ there) single.0))
      | inr more ↦ rw (ap (owes_reset x) more.0) (single_owes s x rest at single.1 more.1 there none)
    ]

-- ---- acts of other places

abbrev pub is_elsewhere : ℕ → Act → Bool
is_elsewhere x Frozen = true
is_elsewhere x Thawed = true
is_elsewhere x (ResetBegun None attempt deadline) = true
is_elsewhere x (ResetBegun (Some p) attempt deadline) = not (p == x)
is_elsewhere x (ResetLate None) = true
is_elsewhere x (ResetLate (Some p)) = not (p == x)
is_elsewhere x (ResetFailed None) = true
is_elsewhere x (ResetFailed (Some p)) = not (p == x)
is_elsewhere x (ResetEndedGen p generation) = not (p == x)
is_elsewhere x (ResetEndedNone p) = not (p == x)
is_elsewhere x ResetEndedHost = true
is_elsewhere x (IdentAsked p attempt deadline) = not (p == x)
is_elsewhere x (IdentLate p) = not (p == x)
is_elsewhere x (Identified p model serial sectors depth) = true
is_elsewhere x (Same p) = true
is_elsewhere x (Attached p) = not (p == x)
is_elsewhere x (Detached p) = not (p == x)
is_elsewhere x (Disabled p) = not (p == x)
is_elsewhere x (Mode p udma ncq dubious) = not (p == x)
is_elsewhere x (WaitingReset p) = true
is_elsewhere x (WaitingIdent p) = true
is_elsewhere x act = false

pub put_apart : {A : Type 0} (xs : List A) (p x : ℕ) (y d : A) → not (p == x) ≡ true → slice_index_or (slice_set xs p y) x d ≡ slice_index_or xs x d
put_apart xs p x y d apart = elim (read_put xs p x y d) [
  | inl here ↦ absurd (cc (eq-eqb p x (sym here.0), apart))
  | inr there ↦ there
]

pub change_apart : {A : Type 0} (xs : List A) (p x : ℕ) (g : A → A) (d : A) → not (p == x) ≡ true → slice_index_or (changed_at p g xs) x d ≡ slice_index_or xs x d
change_apart xs p x g d apart = elim (read_change xs p x g d) [
  | inl here ↦ absurd (cc (eq-eqb p x (sym here.0), apart))
  | inr there ↦ there.0
]

with_seen : (a : About) (s t : PlaceTold) → s ≡ t → record a { seen = s } ≡ record a { seen = t }
with_seen a s t e = ap (λ y. record a { seen = y }) e

about_step : (head : PortHead) (x : ℕ) (past : List Event) (act : Act) → is_elsewhere x act ≡ true → about (recovery head (Told act ∷ past)) x ≡ about (recovery head past) x
about_step head x past Frozen is = refl
about_step head x past Thawed is = refl
about_step head x past (ResetBegun None attempt deadline) is = refl
about_step head x past (ResetBegun (Some p) attempt deadline) is = with_seen (about (recovery head past) x) _ _ (put_apart (place_told past) p x (ResetOpenSeen attempt deadline) NotBegun is)
about_step head x past (ResetLate None) is = refl
about_step head x past (ResetLate (Some p)) is = with_seen (about (recovery head past) x) _ _ (change_apart (place_told past) p x late NotBegun is)
about_step head x past (ResetFailed None) is = refl
about_step head x past (ResetFailed (Some p)) is = with_seen (about (recovery head past) x) _ _ (put_apart (place_told past) p x ResetHasFailed NotBegun is)
about_step head x past (ResetEndedGen p generation) is = with_seen (about (recovery head past) x) _ _ (put_apart (place_told past) p x (ResetEnded true) NotBegun is)
about_step head x past (ResetEndedNone p) is = with_seen (about (recovery head past) x) _ _ (put_apart (place_told past) p x (ResetEnded false) NotBegun is)
about_step head x past ResetEndedHost is = refl
about_step head x past (IdentAsked p attempt deadline) is = with_seen (about (recovery head past) x) _ _ (put_apart (place_told past) p x (IdentOpenSeen deadline) NotBegun is)
about_step head x past (IdentLate p) is =
    ap (λ n. record (about (recovery head past) x) { seen = slice_index_or (slice_set (place_told past) p IdentWasLate) x NotBegun; lates = n }) (change_apart (ident_lates past) p x (λ n. n + 1) 0 is)
    ∙ with_seen (about (recovery head past) x) _ _ (put_apart (place_told past) p x IdentWasLate NotBegun is)
about_step head x past (Identified p model serial sectors depth) is = refl
about_step head x past (Same p) is = refl
about_step head x past (Attached p) is = ap (λ b. record (about (recovery head past) x) { attached = b }) (put_apart (attached past) p x true false is)
about_step head x past (Detached p) is = ap (λ b. record (about (recovery head past) x) { attached = b }) (put_apart (attached past) p x false false is)
about_step head x past (Disabled p) is = ap (λ b. record (about (recovery head past) x) { attached = b }) (put_apart (attached past) p x false false is)
about_step head x past (Mode p udma ncq dubious) is = with_seen (about (recovery head past) x) _ _ (put_apart (place_told past) p x HasMode NotBegun is)
about_step head x past (WaitingReset p) is = refl
about_step head x past (WaitingIdent p) is = refl
about_step head x past act is = absurd (cc)

-- acts of other places leave what is told of a place
pub about_left : (head : PortHead) (x : ℕ) (past : List Event) (acts : List Act) → list_all (is_elsewhere x) acts ≡ true → about (recovery head (onto past acts)) x ≡ about (recovery head past) x
about_left head x past acts all = left_alone (is_elsewhere x) (λ p. about (recovery head p) x) (about_step head x) past acts all
