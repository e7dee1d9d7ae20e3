-- Which acts a recover step has, by the phase.
use Rattle.eh_flow.specs.Table.{deadline_of}
use Rattle.port_rules.proofs.RecoverByPhase.{recover_told, waiting_or_begun, log_or_autopsy, phase_acts, reset_acts, look_of}
use Rattle.std.proofs.Common.{◌≡◌, ◌∙◌, ℕ, ◌<◌, Bool, true, false, ◌||◌, List, [], ◌∷◌, ◌++◌, Option, None, Some, inl, inr, position, refl, sym, ap, subst}
use Rattle.std.specs.Prelude.{slice_index_or, slice_index}
use Rattle.std.specs.List.{list_all}
use Rattle.ata_base.specs.declared.err_mask.ErrMask.{ErrMask}
use Rattle.ata_base.specs.declared.ms.Ms.{Ms}
use Rattle.ata_script.specs.declared.port_head.PortHead.{PortHead}
use Rattle.ata_trace.specs.Event.{Event}
use Rattle.ata_trace.specs.declared.act.Act.{Act}
use Rattle.ata_trace.specs.declared.act.Act.TheVariants.{Condemned, Frozen, Thawed, Nothing, WaitingTag, Begun, Action, Autopsied, Ended, ResetBegun, ResetEndedHost, IdentAsked}
use Rattle.ata_base.specs.declared.link_action.LinkAction.{LinkAction}
use Rattle.eh_flow.specs.declared.phase.Phase.{Phase}
use Rattle.eh_flow.specs.declared.phase.Phase.TheVariants.{Idle, Logs, HostOwed, HostOpen, ResetOwed, ResetOpen, IdentOwed, IdentOpen, Through}
use Rattle.eh_reset.specs.ResetWaits.{reset_wait_of}
use Rattle.eh_reval.specs.IdentWaits.{ident_wait_of}
use Rattle.host_tags.specs.declared.in_flight.InFlight.{InFlight}
use Rattle.port_past.specs.Clock.{clock}
use Rattle.port_past.specs.Commands.{commands}
use Rattle.port_past.specs.Attachment.{detachments}
use Rattle.port_past.specs.Drain.{is_drained}
use Rattle.port_past.specs.Completions.{completions}
use Rattle.port_past.specs.PortState.{is_frozen, is_asked}
use Rattle.port_past.specs.Judged.{judged}
use Rattle.port_past.specs.Slots.{slots}
use Rattle.port_past.specs.declared.completion.Completion.{Completion}
use Rattle.port_past.specs.declared.place_told.PlaceTold.TheVariants.{NotBegun as NothingSeen}
use Rattle.port_past.specs.declared.task.Task.{Task}
use Rattle.port_past.specs.declared.task.Task.TheVariants.{Host, Reset, Revalidate}
use Rattle.port_rules.specs.Finish.{finishes}
use Rattle.port_rules.specs.Sorting.{ok_act, ok_answers, condemnations}
use Rattle.port_rules.specs.Logs.{log_owed}
use Rattle.port_rules.specs.Begin.{timed_out, with_freeze, is_awaited}
use Rattle.port_rules.specs.Told.{frozen_acts}
use Rattle.port_past.specs.Drives.{drive_at}
use Rattle.port_stands.proofs.Autopsies.{HasAutopsy, all_places}
use Rattle.port_stands.proofs.Blocks.{all_append}
use Rattle.port_stands.proofs.GuardFrames.{host_no_place}
use Rattle.port_stands.proofs.Lists.{HasFinish, all_if, all_more, all_answers, all_condemnations, all_with_freeze, all_finishes}
use Rattle.port_rules.specs.Phase.{phase}
use Rattle.port_rules.specs.Recover.{recover_acts}
use Rattle.port_stands.proofs.Phases.{phase_place, stand_place, own_or_later, same_place}
use Rattle.port_stands.proofs.Rows.{HasReset, HasIdentity, all_look, all_reset, all_open_ident}
use Rattle.port_stands.proofs.Steps.{HasLogs, all_logs}
use Rattle.ata_base.specs.Each.{Each}
use Rattle.port_stands.specs.Within.{IsTaskOf}
use Rattle.port_stands.specs.Words.{RecoveryView, task_stand, walk}

-- the place of a task at which recovery stands is one of the port
pub walk_within :
    (n : ℕ) (s : RecoveryView) (tasks : List Task) (at : Phase) (place : ℕ) → Each (IsTaskOf n) tasks → walk s tasks ≡ at
    → phase_place at ≡ Some place → place < n
walk_within n s [] at place each is there = absurd (cc (ap phase_place is))
walk_within n s (Host ∷ rest) at place each is there =
    elim (own_or_later (task_stand s Host) (walk s rest) at is) [
      | inl own ↦ absurd (host_no_place s.host place (ap stand_place own ∙ there))
      | inr more ↦ walk_within n s rest at place each.1 more.1 there
    ]
walk_within n s (Reset p ∷ rest) at place each is there =
    elim (own_or_later (task_stand s (Reset p)) (walk s rest) at is) [
      | inl own ↦ subst (λ i. i < n) (same_place p place (ResetOwed p 1 1) at (slice_index_or s.attached p false || slice_index_or s.hot p false) (slice_index s.lates p) (slice_index_or s.seen p NothingSeen) refl there own) each.0
      | inr more ↦ walk_within n s rest at place each.1 more.1 there
    ]
walk_within n s (Revalidate p ∷ rest) at place each is there =
    elim (own_or_later (task_stand s (Revalidate p)) (walk s rest) at is) [
      | inl own ↦ subst (λ i. i < n) (same_place p place (IdentOwed p 1) at (slice_index_or s.attached p false || slice_index_or s.hot p false) (slice_index s.lates p) (slice_index_or s.seen p NothingSeen) refl there own) each.0
      | inr more ↦ walk_within n s rest at place each.1 more.1 there
    ]

-- a kind of which each act of recovery is, at places of the port, but for the acts by which it begins and by which its
-- autopsy ends
pub record HasRecovery (kind : Act → Bool) (places : ℕ) : Type 0 where
  pub nothing : kind Nothing ≡ true
  pub waiting : (tag : ℕ) → kind (WaitingTag tag) ≡ true
  pub answered : (f : InFlight) (end : Completion) → kind (ok_act f end) ≡ true
  pub condemned : (f : InFlight) (kinds : ErrMask) → kind (Condemned f.number kinds) ≡ true
  pub frozen : kind Frozen ≡ true
  pub thawed : kind Thawed ≡ true
  pub logs : HasLogs kind
  pub autopsy : (place : ℕ) → place < places → HasAutopsy kind place
  pub action : (place : ℕ) (kinds : ErrMask) (chosen : LinkAction) → place < places → kind (Action place kinds chosen) ≡ true
  pub host_begun : (deadline : Ms) → kind (ResetBegun None 1 deadline) ≡ true
  pub host_ended : kind ResetEndedHost ≡ true
  pub begun : (place attempt : ℕ) (deadline : Ms) → kind (ResetBegun (Some place) attempt deadline) ≡ true
  pub reset : (place : ℕ) → place < places → HasReset kind place
  pub asked : (place attempt : ℕ) (deadline : Ms) → kind (IdentAsked place attempt deadline) ≡ true
  pub identity : (place : ℕ) → place < places → HasIdentity kind place
  pub finish : HasFinish kind
  pub ended : kind Ended ≡ true

module _ (kind : Act → Bool) (head : PortHead) (past : List Event) (has : HasRecovery kind head.places) where
  one : (act : Act) → kind act ≡ true → list_all kind (act ∷ []) ≡ true
  one act is = all_more kind act [] is refl

  -- what is told once recovery began
  pub all_taken : list_all kind (ok_answers (slots past) (completions head past) ++ with_freeze (is_frozen past) (condemnations (λ f. true) timed_out (slots past) (completions head past))) ≡ true
  all_taken =
      all_append kind (ok_answers (slots past) (completions head past)) (with_freeze (is_frozen past) (condemnations (λ f. true) timed_out (slots past) (completions head past)))
      (all_answers kind has.answered (slots past) (completions head past))
      (all_with_freeze kind (is_frozen past) (condemnations (λ f. true) timed_out (slots past) (completions head past)) has.frozen
      (all_condemnations kind (λ f. true) timed_out (λ f. has.condemned f timed_out) (slots past) (completions head past)))

  waiting_all : kind Begun ≡ true → (found : Option ℕ) → list_all kind (waiting_or_begun head past found) ≡ true
  waiting_all begun None = all_more kind Begun (ok_answers (slots past) (completions head past) ++ with_freeze (is_frozen past) (condemnations (λ f. true) timed_out (slots past) (completions head past))) begun all_taken
  waiting_all begun (Some tag) = one (WaitingTag tag) (has.waiting tag)

  log_all : kind Autopsied ≡ true → (found : Option ℕ) → list_all kind (log_or_autopsy head past found) ≡ true
  log_all autopsied (Some place) = all_logs kind has.logs head past place
  log_all autopsied None =
      all_append kind _ (Autopsied ∷ []) (all_places kind head past has.autopsy has.action) (one Autopsied autopsied)

  frozen_all : list_all kind (frozen_acts past) ≡ true
  frozen_all = all_if kind (is_frozen past) [] (Frozen ∷ []) refl (one Frozen has.frozen)

  -- the acts of a phase at whose start recovery runs and has its autopsy
  pub all_task :
      (at : Phase) → ((place : ℕ) → phase_place at ≡ Some place → place < head.places) → (at ≡ Idle → ⊥) → (at ≡ Logs → ⊥)
      → list_all kind (phase_acts head past at) ≡ true
  all_task Idle within idle logs = absurd (idle refl)
  all_task Logs within idle logs = absurd (logs refl)
  all_task HostOwed within idle logs =
      all_append kind (frozen_acts past) (ResetBegun None 1 (deadline_of (clock past) (reset_wait_of 1)) ∷ []) frozen_all
      (one (ResetBegun None 1 (deadline_of (clock past) (reset_wait_of 1))) (has.host_begun (deadline_of (clock past) (reset_wait_of 1))))
  all_task HostOpen within idle logs = all_more kind ResetEndedHost (Thawed ∷ []) has.host_ended (one Thawed has.thawed)
  all_task (ResetOwed place attempt ident) within idle logs = all_reset kind head past place attempt (λ d. has.begun place attempt d) (λ direct. has.frozen)
  all_task (ResetOpen place attempt ident deadline) within idle logs =
      all_look kind head past place attempt (drive_at head past place) (look_of (clock past) deadline.n (drive_at head past place))
      (has.reset place (within place refl)) (λ direct. has.thawed)
  all_task (IdentOwed place attempt) within idle logs =
      all_if kind (is_frozen past) (reset_acts head past place 1) (IdentAsked place attempt (deadline_of (clock past) (ident_wait_of attempt)) ∷ [])
      (all_reset kind head past place 1 (λ d. has.begun place 1 d) (λ direct. has.frozen))
      (one (IdentAsked place attempt (deadline_of (clock past) (ident_wait_of attempt))) (has.asked place attempt (deadline_of (clock past) (ident_wait_of attempt))))
  all_task (IdentOpen place attempt deadline) within idle logs =
      all_if kind (is_frozen past) (reset_acts head past place 1) _
      (all_reset kind head past place 1 (λ d. has.begun place 1 d) (λ direct. has.frozen))
      (all_open_ident kind head past place attempt deadline.n (drive_at head past place) (has.identity place (within place refl)))
  all_task Through within idle logs =
      all_append kind (finishes (commands past) (detachments past) (slots past) (judged past)) (Ended ∷ [])
      (all_finishes kind has.finish (commands past) (detachments past) (slots past) (judged past)) (one Ended has.ended)

  -- the acts of a phase
  pub all_phase :
      kind Begun ≡ true → kind Autopsied ≡ true → (at : Phase) → ((place : ℕ) → phase_place at ≡ Some place → place < head.places)
      → list_all kind (phase_acts head past at) ≡ true
  all_phase begun autopsied Idle within =
      all_if kind (is_asked past) (waiting_or_begun head past (position (is_awaited (clock past) (is_drained past)) (slots past))) (Nothing ∷ [])
      (waiting_all begun (position (is_awaited (clock past) (is_drained past)) (slots past))) (one Nothing has.nothing)
  all_phase begun autopsied Logs within = log_all autopsied (log_owed head past)
  all_phase begun autopsied HostOwed within = all_task HostOwed within (λ e. cc) (λ e. cc)
  all_phase begun autopsied HostOpen within = all_task HostOpen within (λ e. cc) (λ e. cc)
  all_phase begun autopsied (ResetOwed place attempt ident) within = all_task (ResetOwed place attempt ident) within (λ e. cc) (λ e. cc)
  all_phase begun autopsied (ResetOpen place attempt ident deadline) within = all_task (ResetOpen place attempt ident deadline) within (λ e. cc) (λ e. cc)
  all_phase begun autopsied (IdentOwed place attempt) within = all_task (IdentOwed place attempt) within (λ e. cc) (λ e. cc)
  all_phase begun autopsied (IdentOpen place attempt deadline) within = all_task (IdentOpen place attempt deadline) within (λ e. cc) (λ e. cc)
  all_phase begun autopsied Through within = all_task Through within (λ e. cc) (λ e. cc)

  -- the acts of a recover step
  pub all_recover :
      kind Begun ≡ true → kind Autopsied ≡ true → ((place : ℕ) → phase_place (phase head past) ≡ Some place → place < head.places)
      → list_all kind (recover_acts head past) ≡ true
  all_recover begun autopsied within =
      subst (λ acts. list_all kind acts ≡ true) (sym (recover_told head past)) (all_phase begun autopsied (phase head past) within)
