-- The time to which a settling port ticks is at most the longest wait away.
use Rattle.std.proofs.Common.{◌≡◌, ℕ, ◌+◌, ◌≤◌, min, nat_lt, Bool, true, false, List, [], ◌∷◌, fold, filter, filter_map, Option, None, Some, option_map, option_and_then, option_to_list, slice_get, slice_index, slice_index_or, unwrap_or, suc, zero, refl, subst, arith, if◌then◌else◌}
use Rattle.std.specs.List.{cons_option, reduce}
use Rattle.ata_base.proofs.EachLemmas.{every_append, every_at, every_filter}
use Rattle.ata_base.specs.Each.{Each}
use Rattle.ata_script.specs.declared.port_head.PortHead.{PortHead}
use Rattle.ata_trace.specs.Event.{Event}
use Rattle.drive_model.specs.View.{DriveView}
use Rattle.eh_flow.specs.declared.phase.Phase.{Phase}
use Rattle.eh_flow.specs.declared.phase.Phase.TheVariants.{Idle, Logs, ResetOwed, ResetOpen, IdentOwed, IdentOpen}
use Rattle.eh_reval.specs.IdentWaits.{ident_tries}
use Rattle.host_tags.specs.declared.in_flight.InFlight.{InFlight}
use Rattle.host_timer.specs.Coming.{deadline_in, waited_times}
use Rattle.host_timer.specs.Due.{drain_time}
use Rattle.port_facts.proofs.Waits.{IsNear, IsReadySoon, ready_soon, told_near}
use Rattle.port_facts.specs.Allowed.{IsAllowed, longest_try}
use Rattle.port_past.specs.Clock.{clock}
use Rattle.port_past.specs.Drain.{quiet_since}
use Rattle.port_past.specs.Drives.{drives}
use Rattle.port_past.specs.Links.{links, linked_at}
use Rattle.port_past.specs.PlaceTold.{host_told, ident_lates, place_told}
use Rattle.port_past.specs.PortState.{is_running, is_autopsied}
use Rattle.port_past.specs.Slots.{slots}
use Rattle.port_past.specs.Tasks.{tasks}
use Rattle.port_past.specs.declared.place_told.HostTold.{HostTold}
use Rattle.port_past.specs.declared.place_told.HostTold.TheVariants.{NotBegun as HostNotBegun, ResetBegun as ToldHostBegun, ResetEnded as ToldHostEnded}
use Rattle.port_past.specs.declared.place_told.PlaceTold.{PlaceTold}
use Rattle.port_past.specs.declared.place_told.PlaceTold.TheVariants.{NotBegun, ResetBegun as ToldResetBegun, ResetLate as ToldResetLate, ResetEnded as ToldResetEnded, ResetFailed as ToldResetFailed, IdentAsked as ToldIdentAsked, IdentLate as ToldIdentLate, Mode as ToldMode}
use Rattle.port_past.specs.declared.task.Task.{Task}
use Rattle.port_past.specs.declared.task.Task.TheVariants.{Host, Reset, Revalidate}
use Rattle.port_rules.specs.Coming.{awaited_times, coming, phase_times, ready_time, waits_since}
use Rattle.port_rules.specs.Phase.{first_phase, host_phase, is_wanted, phase, place_phase, task_phase}
use Rattle.port_rules.specs.Time.{waits_for_drain}
use Rattle.port_stands.specs.Gate.{AreAll}
use Rattle.port_stands.specs.Timely.{IsTimely, longest_wait}

-- a time that is at most the longest wait away
abbrev IsSoon : ℕ → ℕ → Type 0
IsSoon now t = t ≤ now + longest_wait

-- ---- the least of such times

fold_soon : (now x : ℕ) (ts : List ℕ) → IsSoon now x → Each (IsSoon now) ts → IsSoon now (fold min x ts)
fold_soon now x [] is all = is
fold_soon now x (t ∷ ts) is all = fold_soon now (min x t) ts (omega (arith, is)) all.1

least_soon : (now t : ℕ) (ts : List ℕ) → reduce min ts ≡ Some t → Each (IsSoon now) ts → IsSoon now t
least_soon now t [] is all = absurd (cc)
least_soon now t (x ∷ xs) is all = let same : fold min x xs ≡ t = cc in subst (IsSoon now) same (fold_soon now x xs all.0 all.1)

-- ---- deadlines, and the end of the quiet

due_by : (now t : ℕ) (owned : Bool) (ts : List ℕ) → IsSoon now t → Each (IsSoon now) ts → Each (IsSoon now) (cons_option (if owned then None else Some t) ts)
due_by now t true ts is all = all
due_by now t false ts is all = (is, all)

due_soon :
    (now : ℕ) (slots : List (Option InFlight)) → AreAll (λ f. f.deadline.n ≤ now + longest_wait) slots
    → Each (IsSoon now) (filter_map deadline_in slots)
due_soon now [] all = tt
due_soon now (None ∷ slots) all = due_soon now slots (λ tag f here. all (suc tag) f here)
due_soon now (Some f ∷ slots) all =
    due_by now f.deadline.n f.owned (filter_map deadline_in slots) (all 0 f refl) (due_soon now slots (λ tag g here. all (suc tag) g here))

quiet_soon :
    (now since : ℕ) (waits : Bool) → since ≤ now
    → Each (IsSoon now) (option_to_list (option_map drain_time (if waits then Some since else None)))
quiet_soon now since true was = (omega (arith, was), tt)
quiet_soon now since false was = tt

-- ---- the phase of recovery

-- an open try of a phase is late within the longest try
abbrev IsNearPhase : ℕ → Phase → Type 0
IsNearPhase now (ResetOpen place attempt ident deadline) = deadline.n ≤ now + longest_try
IsNearPhase now (IdentOpen place attempt deadline) = deadline.n ≤ now + longest_try
IsNearPhase now _ = Unit {0}

abbrev IsNearSome : ℕ → Option Phase → Type 0
IsNearSome now None = Unit {0}
IsNearSome now (Some p) = IsNearPhase now p

if_near : (now : ℕ) (b : Bool) (p : Phase) → IsNearPhase now p → IsNearSome now (if b then Some p else None)
if_near now true p near = near
if_near now false p near = tt

place_near :
    (now place : ℕ) (first : Phase) (wanted : Bool) (lates : ℕ) (told : PlaceTold) → IsNearPhase now first → IsNear now told
    → IsNearSome now (place_phase place first wanted lates told)
place_near now place first wanted lates NotBegun owed near = owed
place_near now place first wanted lates (ToldResetBegun attempt deadline) owed near = near
place_near now place first wanted lates (ToldResetLate attempt) owed near = tt
place_near now place first wanted lates (ToldResetEnded true) owed near = if_near now wanted (IdentOwed place (lates + 1)) tt
place_near now place first wanted lates (ToldResetEnded false) owed near = tt
place_near now place first wanted lates ToldResetFailed owed near = tt
place_near now place first wanted lates (ToldIdentAsked deadline) owed near = near
place_near now place first wanted lates ToldIdentLate owed near = if_near now (nat_lt lates ident_tries) (ResetOwed place 1 (lates + 1)) tt
place_near now place first wanted lates ToldMode owed near = tt

host_near : (now : ℕ) (told : HostTold) → IsNearSome now (host_phase told)
host_near now HostNotBegun = tt
host_near now ToldHostBegun = tt
host_near now ToldHostEnded = tt

-- what was told of a place, and nothing past the last one
at_near : (now : ℕ) (told : List PlaceTold) (x : ℕ) → Each (IsNear now) told → IsNear now (slice_index_or told x NotBegun)
at_near now [] x all = tt
at_near now (t ∷ told) zero all = all.0
at_near now (t ∷ told) (suc x) all = at_near now told x all.1

or_near : (now : ℕ) (found : Option Phase) (other : Phase) → IsNearSome now found → IsNearPhase now other → IsNearPhase now (unwrap_or found other)
or_near now None other own later = later
or_near now (Some p) other own later = own

module _ (past : List Event) (told : Each (IsNear (clock past)) (place_told past)) where
  task_near : (task : Task) → IsNearSome (clock past) (task_phase past task)
  task_near Host = host_near (clock past) (host_told past)
  task_near (Reset place) =
      place_near (clock past) place (ResetOwed place 1 1) (is_wanted past place) (slice_index (ident_lates past) place)
      (slice_index_or (place_told past) place NotBegun) tt (at_near (clock past) (place_told past) place told)
  task_near (Revalidate place) =
      place_near (clock past) place (IdentOwed place 1) (is_wanted past place) (slice_index (ident_lates past) place)
      (slice_index_or (place_told past) place NotBegun) tt (at_near (clock past) (place_told past) place told)

  first_near : (tasks : List Task) → IsNearPhase (clock past) (first_phase past tasks)
  first_near [] = tt
  first_near (task ∷ rest) = or_near (clock past) (task_phase past task) (first_phase past rest) (task_near task) (first_near rest)

  phase_near_by : (running autopsied : Bool) (tasks : List Task) → IsNearPhase (clock past) (if running then (if autopsied then first_phase past tasks else Logs) else Idle)
  phase_near_by true true tasks = first_near tasks
  phase_near_by true false tasks = tt
  phase_near_by false autopsied tasks = tt

ready_by : (now : ℕ) (v : Option DriveView) → ((w : DriveView) → v ≡ Some w → IsReadySoon now w) → Each (IsSoon now) (ready_time v)
ready_by now None soon = tt
ready_by now (Some w) soon = (omega (arith, (soon w refl).soon), tt)

linked_soon :
    (now : ℕ) (views : List DriveView) (drive : Option ℕ) → Each (IsReadySoon now) views
    → Each (IsSoon now) (ready_time (option_and_then (slice_get views) drive))
linked_soon now views None all = tt
linked_soon now views (Some d) all = ready_by now (slice_get views d) (λ w is. every_at (IsReadySoon now) views d w all is)

times_soon : (head : PortHead) (past : List Event) → IsAllowed head past → (at : Phase) → IsNearPhase (clock past) at → Each (IsSoon (clock past)) (phase_times head past at)
times_soon head past h (ResetOpen place attempt ident deadline) near =
    (omega (arith, near), linked_soon (clock past) (drives head past) (linked_at (links head past) place) (ready_soon head past h))
times_soon head past h (IdentOpen place attempt deadline) near = (omega (arith, near), tt)
times_soon head past h at near = tt

-- so the time to which a port ticks is at most the longest wait away
pub coming_soon :
    (head : PortHead) (past : List Event) → IsAllowed head past → IsTimely longest_wait past → (t : ℕ) → coming head past ≡ Some t
    → t ≤ clock past + longest_wait
coming_soon head past h timely t is =
    let now : ℕ = clock past in
    least_soon now t (filter (nat_lt now) (awaited_times head past)) is
    (every_filter (IsSoon now) (nat_lt now) (awaited_times head past)
    (every_append (IsSoon now) (waited_times (waits_since head past) (slots past)) (phase_times head past (phase head past))
    (every_append (IsSoon now) (filter_map deadline_in (slots past)) (option_to_list (option_map drain_time (waits_since head past)))
    (due_soon now (slots past) timely.due) (quiet_soon now (quiet_since past) (waits_for_drain head past) timely.quiet_since))
    (times_soon head past h (phase head past) (phase_near_by past (told_near head past h) (is_running past) (is_autopsied past) (tasks head past)))))
