-- Where recovery stands, by its tasks.
use Rattle.std.proofs.Common.{◌≡◌, ℕ, ◌+◌, Bool, true, false, ◌||◌, List, [], ◌∷◌, Option, None, Some, is_some, ◌⊎◌, inl, inr, suc, zero, slice_set, refl, sym, ◌∙◌, ap, subst, if◌then◌else◌}
use Rattle.std.specs.Prelude.{slice_index_or, slice_index, unwrap_or}
use Rattle.ata_script.specs.declared.port_head.PortHead.{PortHead}
use Rattle.ata_trace.specs.Event.{Event}
use Rattle.eh_flow.specs.declared.phase.Phase.{Phase}
use Rattle.eh_flow.specs.declared.phase.Phase.TheVariants.{Idle, Logs, HostOwed, HostOpen, ResetOwed, ResetOpen, IdentOwed, IdentOpen, Through}
use Rattle.port_past.specs.PortState.{is_running, is_autopsied}
use Rattle.port_past.specs.Places.{changed_at}
use Rattle.port_past.specs.Tasks.{tasks}
use Rattle.port_past.specs.declared.place_told.HostTold.{HostTold}
use Rattle.port_past.specs.declared.place_told.HostTold.TheVariants.{NotBegun as NoHost, ResetBegun as HostBegun, ResetEnded as HostEnded}
use Rattle.port_past.specs.declared.place_told.PlaceTold.{PlaceTold}
use Rattle.port_past.specs.declared.place_told.PlaceTold.TheVariants.{NotBegun, ResetBegun, ResetLate, ResetEnded, ResetFailed, IdentAsked, IdentLate, Mode}
use Rattle.port_past.specs.declared.task.Task.{Task}
use Rattle.port_past.specs.declared.task.Task.TheVariants.{Host, Reset, Revalidate}
use Rattle.port_rules.specs.Phase.{host_phase, place_phase, task_phase, first_phase, phase}
use Rattle.port_stands.specs.Gate.{is_under_way}
use Rattle.port_stands.specs.Words.{RecoveryView, recovery, task_stand, walk, phase_of, is_through}

task_is : (head : PortHead) (past : List Event) (task : Task) → task_phase past task ≡ task_stand (recovery head past) task
task_is head past Host = refl
task_is head past (Reset place) = refl
task_is head past (Revalidate place) = refl

walk_is : (head : PortHead) (past : List Event) (tasks : List Task) → first_phase past tasks ≡ walk (recovery head past) tasks
walk_is head past [] = refl
walk_is head past (task ∷ rest) = rw (task_is head past task, walk_is head past rest)

-- the phase is the one by all that it is read from
pub phase_is : (head : PortHead) (past : List Event) → phase head past ≡ phase_of (recovery head past)
phase_is head past = phase_by (is_running past) (is_autopsied past)
  where
    phase_by : (running autopsied : Bool)
        → (if running then (if autopsied then first_phase past (tasks head past) else Logs) else Idle)
        ≡ (if running then (if autopsied then walk (recovery head past) (tasks head past) else Logs) else Idle)
    phase_by true true = walk_is head past (tasks head past)
    phase_by true false = refl
    phase_by false autopsied = refl

-- a phase of a task, or through
abbrev pub is_of_task : Phase → Bool
is_of_task Idle = false
is_of_task Logs = false
is_of_task phase = true

-- a phase of a task that isn't through
abbrev is_at_task : Phase → Bool
is_at_task Idle = false
is_at_task Logs = false
is_at_task Through = false
is_at_task phase = true

at_of_task : (p : Phase) → is_at_task p ≡ true → is_of_task p ≡ true
at_of_task Idle is = is
at_of_task Logs is = is
at_of_task p is = refl

at_open : (p : Phase) → is_at_task p ≡ true → is_through p ≡ false
at_open Through is = absurd (cc)
at_open p is = refl

-- where there is a phase, it is such a one
abbrev pub is_of_some : Option Phase → Bool
is_of_some None = true
is_of_some (Some phase) = is_at_task phase

host_of_task : (seen : HostTold) → is_of_some (host_phase seen) ≡ true
host_of_task NoHost = refl
host_of_task HostBegun = refl
host_of_task HostEnded = refl

either_of_task : (b : Bool) (p : Phase) → is_at_task p ≡ true → is_of_some (if b then Some p else None) ≡ true
either_of_task true p x = x
either_of_task false p x = refl

place_of_task : (place : ℕ) (first : Phase) (wanted : Bool) (lates : ℕ) (seen : PlaceTold) → is_at_task first ≡ true → is_of_some (place_phase place first wanted lates seen) ≡ true
place_of_task place first wanted lates NotBegun is = is
place_of_task place first wanted lates (ResetBegun attempt deadline) is = refl
place_of_task place first wanted lates (ResetLate attempt) is = refl
place_of_task place first wanted lates (ResetEnded true) is = either_of_task wanted (IdentOwed place (lates + 1)) refl
place_of_task place first wanted lates (ResetEnded false) is = refl
place_of_task place first wanted lates ResetFailed is = refl
place_of_task place first wanted lates (IdentAsked deadline) is = refl
place_of_task place first wanted lates IdentLate is = either_of_task _ (ResetOwed place 1 (lates + 1)) refl
place_of_task place first wanted lates Mode is = refl

pub stand_of_task : (s : RecoveryView) (task : Task) → is_of_some (task_stand s task) ≡ true
stand_of_task s Host = host_of_task s.host
stand_of_task s (Reset place) = place_of_task place (ResetOwed place 1 1) (slice_index_or s.attached place false || slice_index_or s.hot place false) (slice_index s.lates place) (slice_index_or s.seen place NotBegun) refl
stand_of_task s (Revalidate place) = place_of_task place (IdentOwed place 1) (slice_index_or s.attached place false || slice_index_or s.hot place false) (slice_index s.lates place) (slice_index_or s.seen place NotBegun) refl

own_of_task : (p : Option Phase) (q : Phase) → is_of_some p ≡ true → is_of_task q ≡ true → is_of_task (unwrap_or p q) ≡ true
own_of_task None q x y = y
own_of_task (Some p) q x y = at_of_task p x

walk_of_task : (s : RecoveryView) (tasks : List Task) → is_of_task (walk s tasks) ≡ true
walk_of_task s [] = refl
walk_of_task s (task ∷ rest) = own_of_task (task_stand s task) (walk s rest) (stand_of_task s task) (walk_of_task s rest)

-- what is known of a phase
pub idle_rests : (s : RecoveryView) → phase_of s ≡ Idle → s.running ≡ false
idle_rests s is = rests_by s.running s.autopsied refl refl is
  where
    rests_by : (running autopsied : Bool) → s.running ≡ running → s.autopsied ≡ autopsied → (if running then (if autopsied then walk s s.tasks else Logs) else Idle) ≡ Idle → s.running ≡ false
    rests_by true true r a is = absurd (cc (walk_of_task s s.tasks, ap is_of_task is))
    rests_by true false r a is = absurd (cc)
    rests_by false autopsied r a is = r

pub logs_runs : (s : RecoveryView) → phase_of s ≡ Logs → (s.running ≡ true) × (s.autopsied ≡ false)
logs_runs s is = runs_by s.running s.autopsied refl refl is
  where
    runs_by : (running autopsied : Bool) → s.running ≡ running → s.autopsied ≡ autopsied → (if running then (if autopsied then walk s s.tasks else Logs) else Idle) ≡ Logs → (s.running ≡ true) × (s.autopsied ≡ false)
    runs_by true true r a is = absurd (cc (walk_of_task s s.tasks, ap is_of_task is))
    runs_by true false r a is = (r, a)
    runs_by false autopsied r a is = absurd (cc)

pub record IsTask (s : RecoveryView) (phase : Phase) : Type 0 where
  pub running : s.running ≡ true
  pub autopsied : s.autopsied ≡ true
  pub at : walk s s.tasks ≡ phase

pub task_runs : (s : RecoveryView) (phase : Phase) → is_of_task phase ≡ true → phase_of s ≡ phase → IsTask s phase
task_runs s phase of is = runs_by s.running s.autopsied refl refl is
  where
    runs_by : (running autopsied : Bool) → s.running ≡ running → s.autopsied ≡ autopsied → (if running then (if autopsied then walk s s.tasks else Logs) else Idle) ≡ phase → IsTask s phase
    runs_by true true r a is = record { running = r; autopsied = a; at = is }
    runs_by true false r a is = absurd (cc (of, ap is_of_task is))
    runs_by false autopsied r a is = absurd (cc (of, ap is_of_task is))

-- the phase of a recovery that runs and has its autopsy
pub phase_walks : (s : RecoveryView) → s.running ≡ true → s.autopsied ≡ true → phase_of s ≡ walk s s.tasks
phase_walks s running autopsied = rw (running, autopsied)

under_way_by : (phase : Phase) → is_of_task phase ≡ true → is_through phase ≡ false → is_under_way phase ≡ true
under_way_by Idle is open_ = absurd (cc)
under_way_by Logs is open_ = refl
under_way_by HostOwed is open_ = refl
under_way_by HostOpen is open_ = refl
under_way_by (ResetOwed place attempt ident) is open_ = refl
under_way_by (ResetOpen place attempt ident deadline) is open_ = refl
under_way_by (IdentOwed place attempt) is open_ = refl
under_way_by (IdentOpen place attempt deadline) is open_ = refl
under_way_by Through is open_ = absurd (cc)

pub under_way : (s : RecoveryView) → s.running ≡ true → s.autopsied ≡ true → is_through (walk s s.tasks) ≡ false → is_under_way (phase_of s) ≡ true
under_way s running autopsied open_ =
    subst (λ p. is_under_way p ≡ true) (sym (phase_walks s running autopsied))
    (under_way_by (walk s s.tasks) (walk_of_task s s.tasks) open_)

-- ---- how the walk moves

own_open : (p : Option Phase) (q : Phase) → is_of_some p ≡ true → is_some p ≡ true → is_through (unwrap_or p q) ≡ false
own_open None q of some = absurd (cc)
own_open (Some p) q of some = at_open p of

later_open : (p : Option Phase) (q : Phase) → is_of_some p ≡ true → is_through q ≡ false → is_through (unwrap_or p q) ≡ false
later_open None q of x = x
later_open (Some p) q of x = at_open p of

-- a phase is the first task's own, or a later one's where that task is through
pub own_or_later : (p : Option Phase) (q r : Phase) → unwrap_or p q ≡ r → (p ≡ Some r) ⊎ ((p ≡ None) × (q ≡ r))
own_or_later None q r is = inr (refl, is)
own_or_later (Some p) q r is = inl (ap Some is)

-- where the task at which recovery stands isn't through after a change, recovery isn't
pub walk_moves :
    (s t : RecoveryView) (phase : Phase) (tasks : List Task)
    → ((task : Task) → task_stand s task ≡ Some phase → is_some (task_stand t task) ≡ true)
    → is_through phase ≡ false → walk s tasks ≡ phase → is_through (walk t tasks) ≡ false
walk_moves s t phase [] moves open_ is = absurd (cc)
walk_moves s t phase (task ∷ rest) moves open_ is =
    elim (own_or_later (task_stand s task) (walk s rest) phase is) [
      | inl own ↦ own_open (task_stand t task) (walk t rest) (stand_of_task t task) (moves task own)
      | inr later ↦ later_open (task_stand t task) (walk t rest) (stand_of_task t task) (walk_moves s t phase rest moves open_ later.1)
    ]

-- the place at which recovery stands
abbrev pub phase_place : Phase → Option ℕ
phase_place (ResetOwed place attempt ident) = Some place
phase_place (ResetOpen place attempt ident deadline) = Some place
phase_place (IdentOwed place attempt) = Some place
phase_place (IdentOpen place attempt deadline) = Some place
phase_place phase = None

-- the place of a task that isn't through
abbrev pub stand_place : Option Phase → Option ℕ
stand_place None = None
stand_place (Some phase) = phase_place phase

either_place : (b : Bool) (p : Phase) (place : ℕ) → phase_place p ≡ Some place → ((if b then Some p else None) ≡ None) ⊎ (stand_place (if b then Some p else None) ≡ Some place)
either_place true p place is = inr is
either_place false p place is = inl refl

pub place_stays :
    (place : ℕ) (first : Phase) (wanted : Bool) (lates : ℕ) (seen : PlaceTold) → phase_place first ≡ Some place
    → (place_phase place first wanted lates seen ≡ None) ⊎ (stand_place (place_phase place first wanted lates seen) ≡ Some place)
place_stays place first wanted lates NotBegun is = inr is
place_stays place first wanted lates (ResetBegun attempt deadline) is = inr refl
place_stays place first wanted lates (ResetLate attempt) is = inr refl
place_stays place first wanted lates (ResetEnded true) is = either_place wanted (IdentOwed place (lates + 1)) place refl
place_stays place first wanted lates (ResetEnded false) is = inl refl
place_stays place first wanted lates ResetFailed is = inl refl
place_stays place first wanted lates (IdentAsked deadline) is = inr refl
place_stays place first wanted lates IdentLate is = either_place _ (ResetOwed place 1 (lates + 1)) place refl
place_stays place first wanted lates Mode is = inl refl

-- a task of a place that stands at another place is none
pub same_stand :
    (p place : ℕ) (first : Phase) (wanted : Bool) (lates : ℕ) (seen : PlaceTold) → phase_place first ≡ Some p
    → stand_place (place_phase p first wanted lates seen) ≡ Some place → p ≡ place
same_stand p place first wanted lates seen at is =
    elim (place_stays p first wanted lates seen at) [
      | inl through ↦ absurd (cc (is, ap stand_place through))
      | inr own ↦ cc
    ]

pub same_place :
    (p place : ℕ) (first phase : Phase) (wanted : Bool) (lates : ℕ) (seen : PlaceTold) → phase_place first ≡ Some p
    → phase_place phase ≡ Some place → place_phase p first wanted lates seen ≡ Some phase → p ≡ place
same_place p place first phase wanted lates seen at is e = same_stand p place first wanted lates seen at (ap stand_place e ∙ is)

-- what was written is read, or the default where there is no such position
pub read_set : {A : Type 0} (xs : List A) (i : ℕ) (x d : A) → (slice_index_or (slice_set xs i x) i d ≡ x) ⊎ (slice_index_or (slice_set xs i x) i d ≡ d)
read_set [] i x d = inr refl
read_set (y ∷ xs) zero x d = inl refl
read_set (y ∷ xs) (suc i) x d = read_set xs i x d

pub read_changed : {A : Type 0} (xs : List A) (i : ℕ) (f : A → A) (d : A) → f d ≡ d → slice_index_or (changed_at i f xs) i d ≡ f (slice_index_or xs i d)
read_changed [] i f d same = sym same
read_changed (y ∷ xs) zero f d same = refl
read_changed (y ∷ xs) (suc i) f d same = read_changed xs i f d same

-- ---- the host

host_never :
    (p : ℕ) (first : Phase) (wanted : Bool) (lates : ℕ) (seen : PlaceTold) → phase_place first ≡ Some p
    → place_phase p first wanted lates seen ≡ Some HostOwed → ⊥
host_never p first wanted lates seen at is =
    elim (place_stays p first wanted lates seen at) [
      | inl through ↦ cc (is, through)
      | inr own ↦ cc (own, ap stand_place is)
    ]

-- once the host's reset is begun it is open
pub host_opens :
    (s : RecoveryView) (tasks : List Task) → walk s tasks ≡ HostOwed → walk (record s { host = HostBegun }) tasks ≡ HostOpen
host_opens s [] is = absurd (cc)
host_opens s (Host ∷ rest) is = refl
host_opens s (Reset place ∷ rest) is =
    elim (own_or_later (task_stand s (Reset place)) (walk s rest) HostOwed is) [
      | inl own ↦ absurd (host_never place (ResetOwed place 1 1) (slice_index_or s.attached place false || slice_index_or s.hot place false) (slice_index s.lates place) (slice_index_or s.seen place NotBegun) refl own)
      | inr later ↦ rw later.0 (host_opens s rest later.1)
    ]
host_opens s (Revalidate place ∷ rest) is =
    elim (own_or_later (task_stand s (Revalidate place)) (walk s rest) HostOwed is) [
      | inl own ↦ absurd (host_never place (IdentOwed place 1) (slice_index_or s.attached place false || slice_index_or s.hot place false) (slice_index s.lates place) (slice_index_or s.seen place NotBegun) refl own)
      | inr later ↦ rw later.0 (host_opens s rest later.1)
    ]
