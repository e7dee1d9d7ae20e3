-- The tasks that an autopsy makes: one of a place at most, and a reset where it says so.
use Rattle.std.proofs.Common.{◌≡◌, ◌∙◌, ℕ, ◌+◌, ◌≤◌, Bool, true, false, ◌||◌, ◌==◌, List, [], ◌∷◌, Option, None, Some, suc, zero, refl, ap, subst, arith, if◌then◌else◌, length}
use Rattle.std.specs.Prelude.{slice_index_or, slice_index}
use Rattle.std.specs.List.{list_any}
use Rattle.std.proofs.lemmas.Bool.{eq-eqb}
use Rattle.ata_base.specs.declared.link_action.LinkAction.{LinkAction}
use Rattle.ata_base.specs.declared.link_action.LinkAction.TheVariants.{NoAction, Revalidate, Reset}
use Rattle.port_past.specs.Places.{everywhere}
use Rattle.port_past.specs.Tasks.{with_action, action_tasks, reset_tasks, tasks_made}
use Rattle.port_past.specs.declared.place_told.PlaceTold.TheVariants.{NotBegun}
use Rattle.port_past.specs.declared.task.Task.{Task}
use Rattle.port_past.specs.declared.task.Task.TheVariants.{Host, Reset as ResetOf, Revalidate as RevalidateOf}
use Rattle.eh_flow.specs.declared.phase.Phase.TheVariants.{ResetOwed}
use Rattle.port_rules.specs.Phase.{place_phase}
use Rattle.ata_base.proofs.EachLemmas.{every_weaker}
use Rattle.port_stands.proofs.Within.{read_same}
use Rattle.port_stands.specs.Handled.{AreOther, AreSingleTasks, owes_reset}
use Rattle.ata_base.specs.Each.{Each}
use Rattle.port_stands.specs.Words.{RecoveryView, task_stand}
use Rattle.ata_base.proofs.Truth.{either_right}

-- a task of a place from here on
abbrev IsFrom : ℕ → Task → Type 0
IsFrom k Host = ⊥
IsFrom k (ResetOf p) = k ≤ p
IsFrom k (RevalidateOf p) = k ≤ p

from_later : (k : ℕ) (t : Task) → IsFrom (k + 1) t → IsFrom k t
from_later k Host is = is
from_later k (ResetOf p) is = omega (arith, is)
from_later k (RevalidateOf p) is = omega (arith, is)

reset_apart : (k : ℕ) (t : Task) → IsFrom (k + 1) t → AreOther (ResetOf k) t
reset_apart k Host is = absurd is
reset_apart k (ResetOf p) is = λ e. omega (arith, is, e)
reset_apart k (RevalidateOf p) is = λ e. omega (arith, is, e)

identity_apart : (k : ℕ) (t : Task) → IsFrom (k + 1) t → AreOther (RevalidateOf k) t
identity_apart k Host is = absurd is
identity_apart k (ResetOf p) is = λ e. omega (arith, is, e)
identity_apart k (RevalidateOf p) is = λ e. omega (arith, is, e)

record IsRow (k : ℕ) (ts : List Task) : Type 0 where
  pub from : Each (IsFrom k) ts
  pub single : AreSingleTasks ts

row_later : (k : ℕ) (ts : List Task) → IsRow (k + 1) ts → IsRow k ts
row_later k ts r = record { from = every_weaker (IsFrom (k + 1)) (IsFrom k) (from_later k) ts r.from; single = r.single }

row_reset : (k : ℕ) (ts : List Task) → IsRow (k + 1) ts → IsRow k (ResetOf k ∷ ts)
row_reset k ts r = record {
  from = (omega arith, every_weaker (IsFrom (k + 1)) (IsFrom k) (from_later k) ts r.from);
  single = (every_weaker (IsFrom (k + 1)) (AreOther (ResetOf k)) (reset_apart k) ts r.from, r.single);
}

row_identity : (k : ℕ) (ts : List Task) → IsRow (k + 1) ts → IsRow k (RevalidateOf k ∷ ts)
row_identity k ts r = record {
  from = (omega arith, every_weaker (IsFrom (k + 1)) (IsFrom k) (from_later k) ts r.from);
  single = (every_weaker (IsFrom (k + 1)) (AreOther (RevalidateOf k)) (identity_apart k) ts r.from, r.single);
}

resets_row : (k : ℕ) (attached hot : List Bool) → IsRow k (reset_tasks k attached hot)
resets_row k [] hot = record { from = tt; single = tt }
resets_row k (x ∷ attached) [] = record { from = tt; single = tt }
resets_row k (x ∷ attached) (y ∷ hot) = by (x || y) (resets_row (k + 1) attached hot)
  where
    by : (b : Bool) → IsRow (k + 1) (reset_tasks (k + 1) attached hot) → IsRow k (if b then ResetOf k ∷ reset_tasks (k + 1) attached hot else reset_tasks (k + 1) attached hot)
    by true r = row_reset k (reset_tasks (k + 1) attached hot) r
    by false r = row_later k (reset_tasks (k + 1) attached hot) r

actions_row : (k : ℕ) (said : List (Option LinkAction)) → IsRow k (action_tasks k said)
actions_row k [] = record { from = tt; single = tt }
actions_row k (x ∷ said) = by x (actions_row (k + 1) said)
  where
    by : (o : Option LinkAction) → IsRow (k + 1) (action_tasks (k + 1) said) → IsRow k (with_action k o (action_tasks (k + 1) said))
    by None r = row_later k (action_tasks (k + 1) said) r
    by (Some NoAction) r = row_later k (action_tasks (k + 1) said) r
    by (Some Revalidate) r = row_identity k (action_tasks (k + 1) said) r
    by (Some Reset) r = row_reset k (action_tasks (k + 1) said) r

host_apart : (ts : List Task) → Each (AreOther Host) ts
host_apart [] = tt
host_apart (t ∷ ts) = (tt, host_apart ts)

pub made_single : (whole : Bool) (attached hot : List Bool) (said : List (Option LinkAction)) → AreSingleTasks (tasks_made whole attached hot said)
made_single true attached hot said = (host_apart (reset_tasks 0 attached hot), (resets_row 0 attached hot).single)
made_single false attached hot said = (actions_row 0 said).single

-- whether a task is the reset of a place
abbrev pub is_reset_of : ℕ → Task → Bool
is_reset_of x (ResetOf p) = p == x
is_reset_of x task = false

-- where the autopsy says reset there is one
pub said_reset : (k i : ℕ) (said : List (Option LinkAction)) → slice_index_or said i None ≡ Some Reset → list_any (is_reset_of (k + i)) (action_tasks k said) ≡ true
said_reset k i [] is = absurd (cc)
said_reset k zero (x ∷ said) is = ap (λ o. list_any (is_reset_of (k + 0)) (with_action k o (action_tasks (k + 1) said))) is ∙ first (k == k + 0) (eq-eqb k (k + 0) (omega arith))
  where
    first : (b : Bool) → b ≡ true → (b || list_any (is_reset_of (k + 0)) (action_tasks (k + 1) said)) ≡ true
    first true e = refl
    first false e = absurd (cc)
said_reset k (suc i) (x ∷ said) is =
    by x (subst (λ n. list_any (is_reset_of n) (action_tasks (k + 1) said) ≡ true) (plus k i) (said_reset (k + 1) i said is))
  where
    plus : (k i : ℕ) → k + 1 + i ≡ k + suc i
    plus k i = omega arith

    by : (o : Option LinkAction) → list_any (is_reset_of (k + suc i)) (action_tasks (k + 1) said) ≡ true → list_any (is_reset_of (k + suc i)) (with_action k o (action_tasks (k + 1) said)) ≡ true
    by None r = r
    by (Some NoAction) r = r
    by (Some Revalidate) r = r
    by (Some Reset) r = either_right (k == k + suc i) _ r

-- such a reset is owed where nothing is told of any place
owes_of : (s : RecoveryView) (x : ℕ) (task : Task) → s.seen ≡ everywhere NotBegun → is_reset_of x task ≡ true → owes_reset x (task_stand s task) ≡ true
owes_of s x Host new is = absurd (cc)
owes_of s x (RevalidateOf p) new is = absurd (cc)
owes_of s x (ResetOf p) new is =
    ap (λ sn. owes_reset x (place_phase p (ResetOwed p 1 1) (slice_index_or s.attached p false || slice_index_or s.hot p false) (slice_index s.lates p) sn))
    (ap (λ l. slice_index_or l p NotBegun) new ∙ read_same 15 p NotBegun) ∙ is

or_either : (a b c : Bool) (x : Bool) → (a ≡ true → c ≡ true) → (b ≡ true → x ≡ true) → (a || b) ≡ true → (c || x) ≡ true
or_either true b true x f g e = refl
or_either true b false x f g e = absurd (cc (f refl))
or_either false b c x f g e = either_right c x (g e)

pub owed_by : (s : RecoveryView) (x : ℕ) (tasks : List Task) → s.seen ≡ everywhere NotBegun → list_any (is_reset_of x) tasks ≡ true → list_any (λ task. owes_reset x (task_stand s task)) tasks ≡ true
owed_by s x [] new is = absurd (cc)
owed_by s x (task ∷ rest) new is =
    or_either (is_reset_of x task) (list_any (is_reset_of x) rest) (owes_reset x (task_stand s task)) (list_any (λ task. owes_reset x (task_stand s task)) rest)
    (owes_of s x task new) (owed_by s x rest new) is

-- a device that is attached has a reset among those of a frozen multiplier
pub attached_reset :
    (k i : ℕ) (attached hot : List Bool) → length attached ≡ length hot → slice_index_or attached i false ≡ true
    → list_any (is_reset_of (k + i)) (reset_tasks k attached hot) ≡ true
attached_reset k i [] hot same is = absurd (cc)
attached_reset k i (a ∷ attached) [] same is = absurd (omega (arith, same))
attached_reset k zero (a ∷ attached) (h ∷ hot) same is =
    ap (λ b. list_any (is_reset_of (k + 0)) (if b || h then ResetOf k ∷ reset_tasks (k + 1) attached hot else reset_tasks (k + 1) attached hot)) is
    ∙ first (k == k + 0) (eq-eqb k (k + 0) (omega arith))
  where
    first : (b : Bool) → b ≡ true → (b || list_any (is_reset_of (k + 0)) (reset_tasks (k + 1) attached hot)) ≡ true
    first true e = refl
    first false e = absurd (cc)
attached_reset k (suc i) (a ∷ attached) (h ∷ hot) same is =
    by (a || h) (subst (λ n. list_any (is_reset_of n) (reset_tasks (k + 1) attached hot) ≡ true) (plus k i) (attached_reset (k + 1) i attached hot (omega (arith, same)) is))
  where
    plus : (k i : ℕ) → k + 1 + i ≡ k + suc i
    plus k i = omega arith

    by : (b : Bool) → list_any (is_reset_of (k + suc i)) (reset_tasks (k + 1) attached hot) ≡ true → list_any (is_reset_of (k + suc i)) (if b then ResetOf k ∷ reset_tasks (k + 1) attached hot else reset_tasks (k + 1) attached hot) ≡ true
    by true r = either_right (k == k + suc i) _ r
    by false r = r
