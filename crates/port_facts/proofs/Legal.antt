-- The events of a legal journal are allowed.
use Rattle.eh_flow.specs.Table.{deadline_of}
use Rattle.eh_flow.specs.declared.issue_finish.Finish.TheVariants.{NoDev, Retry, Fail}
use Rattle.eh_flow.specs.Finish.{is_retried}
use Rattle.port_rules.proofs.RecoverByPhase.{recover_told, waiting_or_begun, phase_acts, log_or_autopsy, look_of, reset_acts}
use Rattle.std.proofs.Common.{◌≡◌, ℕ, ◌+◌, ◌≤◌, nat_le, arith, ◌&&◌, ◌==◌, is_none, ◌++◌, Bool, true, false, List, [], ◌∷◌, Option, None, Some, position, refl, sym, subst, if◌then◌else◌, ◌<◌}
use Rattle.ata_script.specs.declared.port_head.PortHead.{PortHead}
use Rattle.ata_trace.specs.Entries.{EntryView, grown, past_from, past_of}
use Rattle.ata_trace.specs.Event.{Event, onto}
use Rattle.ata_trace.specs.Event.Event.{Entered}
use Rattle.ata_trace.specs.declared.act.Act.TheVariants.{Nothing, Now, Ended, ResetBegun, Frozen as FrozenAct}
use Rattle.ata_trace.specs.declared.step.Step.{Step}
use Rattle.ata_trace.specs.declared.step.Step.TheVariants.{Submit, Kick, Work, Irq, Drop, Stray, Tick, Expire, Recover, Plug, Unplug, Inject, Boot}
use Rattle.ata_trace.specs.declared.who.Who.{Who}
use Rattle.ata_trace.specs.declared.who.Who.TheVariants.{Boot as ByBoot}
use Rattle.eh_flow.specs.declared.phase.Phase.{Phase}
use Rattle.eh_flow.specs.declared.phase.Phase.TheVariants.{Idle, Logs, HostOwed, HostOpen, ResetOwed, ResetOpen, IdentOwed, IdentOpen, Through}
use Rattle.drive_model.specs.Holding.{picked}
use Rattle.drive_model.specs.View.{DriveView}
use Rattle.drive_model.specs.Work.{act_of}
use Rattle.drive_model.specs.declared.act.DriveAct.{DriveAct}
use Rattle.drive_model.specs.declared.act.DriveAct.TheVariants.{Finished, Idle as IdleDrive}
use Rattle.port_rules.specs.Work.{ended_acts, worked_acts}
use Rattle.port_rules.specs.Told.{raised_acts}
use Rattle.port_facts.proofs.Examined.{autopsy_judges}
use Rattle.port_facts.proofs.Placed.{IsPhaseOn, phase_on, flights_on, autopsied_judged, ident_allowed, ident_steady, boot_allowed, boot_steady}
use Rattle.port_facts.proofs.Interrupted.{irq_free, irq_mild}
use Rattle.port_facts.proofs.Finished.{finish_leaves_none}
use Rattle.ata_base.proofs.EachLemmas.{every_append}
use Rattle.host_tags.proofs.FlightLemmas.{each_weaker}
use Rattle.port_facts.proofs.Plain.{raised_plain, plain_allowed, ArePlain}
use Rattle.port_past.specs.Clock.{clock}
use Rattle.port_past.specs.Drain.{is_drained}
use Rattle.port_past.specs.PortState.{is_frozen, is_asked, is_running, is_autopsied}
use Rattle.port_past.specs.Slots.{slots}
use Rattle.port_past.specs.Tasks.{tasks}
use Rattle.port_rules.specs.Boot.{boot_acts, boot_entry}
use Rattle.port_rules.specs.Legal.{legal_acts, entry_after, AreLegal, HasLegalActs, IsLegal}
use Rattle.port_rules.specs.Logs.{log_owed}
use Rattle.port_rules.specs.Phase.{phase, first_phase}
use Rattle.port_rules.specs.Begin.{is_awaited, begin_acts}
use Rattle.port_past.specs.Drives.{drive_at}
use Rattle.port_facts.proofs.Autopsied.{autopsy_allowed, autopsy_steady}
use Rattle.port_facts.specs.Allowed.{IsAllowed, AreAllowed, MayReset}
use Rattle.port_facts.proofs.Tries.{reset_near, ident_near}
use Rattle.port_rules.specs.Time.{last_time}
use Rattle.port_facts.proofs.Allowed.{allowed_onto}
use Rattle.port_facts.proofs.Rows.{drop_plain, stray_plain, expire_plain, plug_plain, unplug_plain, inject_plain, log_plain, look_plain}
use Rattle.port_facts.proofs.Serving.{work_allowed, submit_allowed, kick_allowed, irq_allowed, begin_allowed, finish_allowed}
use Rattle.ata_base.specs.declared.cmd.Cmd.{Cmd}
use Rattle.ata_base.specs.declared.issue_no.IssueNo.{IssueNo}
use Rattle.ata_base.specs.declared.ms.Ms.{Ms}
use Rattle.ata_trace.specs.declared.act.Act.{Act}
use Rattle.ata_trace.specs.declared.refusal.Refusal.{Refusal}
use Rattle.eh_reset.specs.ResetWaits.{reset_wait_of}
use Rattle.ata_base.specs.declared.deferral.Deferral.{Deferral}
use Rattle.host_queue.specs.Waiting.{front_of}
use Rattle.host_tags.specs.Slots.{free_below}
use Rattle.host_tags.specs.declared.in_flight.InFlight.{InFlight}
use Rattle.port_facts.proofs.Owned.{AreSteady, append_steady, begin_owns, owns_onto, plain_steady, IsMild, steady_mild, frees_onto, begin_runs, recovers_not, if_steady}
use Rattle.port_facts.specs.Reached.{RunsOwned, IdleFree, IsReached, IsSettled}
use Rattle.ata_trace.proofs.Pasts.{onto_append}
use Rattle.host_tags.specs.EachFlight.{EachFlight}
use Rattle.port_past.specs.Commands.{commands, command_of, is_gone}
use Rattle.port_past.specs.Attachment.{detachments}
use Rattle.port_past.specs.Exclusive.{exclusive}
use Rattle.host_defer.specs.Obstacles.{deferral_of}
use Rattle.port_past.specs.Identities.{depth_at}
use Rattle.port_past.specs.Judged.{judged}
use Rattle.port_past.specs.Queues.{queues}
use Rattle.port_past.specs.declared.judgement.Judgement.{Judgement}
use Rattle.port_rules.specs.Finish.{told_finish, finishes, issue_finish, finish_acts}
use Rattle.port_rules.specs.Interrupt.{irq_acts}
use Rattle.port_rules.specs.Kick.{deferred_or_issued, front_acts, is_queued, view_of, is_for_port, issued_acts, tag_limit}
use Rattle.port_rules.specs.Submit.{refusal_of, refused_or_accepted}

-- a recovery that is anywhere runs
active_by : (runs : Bool) (some other : Phase) → (if runs then some else Idle) ≡ other → (Idle ≡ other → ⊥) → runs ≡ true
active_by true some other is apart = refl
active_by false some other is apart = absurd (apart is)

active : (head : PortHead) (past : List Event) (other : Phase) → phase head past ≡ other → (Idle ≡ other → ⊥) → is_running past ≡ true
active head past other is apart =
    active_by (is_running past) (if is_autopsied past then first_phase past (tasks head past) else Logs) other is apart

-- and one that is through has its autopsy
autopsied_by : (runs done : Bool) (p : Phase) → (if runs then (if done then p else Logs) else Idle) ≡ Through → done ≡ true
autopsied_by true true p is = refl
autopsied_by true false p is = absurd (cc)
autopsied_by false done p is = absurd (cc)

-- these acts are allowed after this past; and with them a running recovery owns each issue in flight, and a port that isn't
-- recovering none
pub record Goes (head : PortHead) (past : List Event) (acts : List Act) : Type 0 where
  pub allowed : AreAllowed head past acts
  pub owned : RunsOwned (onto past acts)
  pub free : IdleFree (onto past acts)

steadily :
    (head : PortHead) (past : List Event) (acts : List Act) → IsSettled past → AreAllowed head past acts → AreSteady acts
    → Goes head past acts
steadily head past acts owns allowed steady = record {
  allowed = allowed;
  owned = owns_onto head past acts (steady_mild acts steady) allowed owns.owned;
  free = frees_onto head past acts steady owns.free;
}

plainly : (head : PortHead) (past : List Event) (acts : List Act) → IsSettled past → ArePlain acts → Goes head past acts
plainly head past acts owns plain =
    steadily head past acts owns (plain_allowed head past acts plain) (plain_steady acts plain)

-- ---- which lists begin no recovery

refusal_steady : (id : ℕ) (why : Option Refusal) → AreSteady (refused_or_accepted id why)
refusal_steady id None = (tt, tt)
refusal_steady id (Some why) = (tt, tt)

tag_steady : (head : PortHead) (past : List Event) (cmd : Cmd) (queued : Bool) (tag : Option ℕ) → AreSteady (issued_acts head past cmd queued tag)
tag_steady head past cmd queued None = (tt, tt)
tag_steady head past cmd queued (Some tag) = (tt, tt)

deferral_steady : (head : PortHead) (past : List Event) (cmd : Cmd) (queued : Bool) (why : Option Deferral) → AreSteady (deferred_or_issued head past cmd queued why)
deferral_steady head past cmd queued None = tag_steady head past cmd queued (free_below (tag_limit past cmd.place queued) (slots past))
deferral_steady head past cmd queued (Some why) = (tt, if_steady (is_for_port why && is_none (exclusive past)) _ _ (tt, tt) tt)

end_steady : (past : List Event) (act : DriveAct) → AreSteady (ended_acts past act)
end_steady past IdleDrive = (tt, tt)
end_steady past (Finished number tag queued regs stamps) = (tt, plain_steady (raised_acts past) (raised_plain past))

worked_steady : (past : List Event) (pick : ℕ) (v : Option DriveView) → AreSteady (worked_acts past pick v)
worked_steady past pick None = (tt, tt)
worked_steady past pick (Some v) = end_steady past (act_of (picked pick v) v)

front_steady : (head : PortHead) (past : List Event) (front : Option Cmd) → AreSteady (front_acts head past front)
front_steady head past None = (tt, tt)
front_steady head past (Some cmd) =
    if_steady (is_gone cmd (detachments past)) _ _ (tt, tt) (deferral_steady head past cmd (is_queued past cmd.place cmd.op)
    (deferral_of (view_of head past) cmd.place (is_queued past cmd.place cmd.op) (depth_at past cmd.place)))

finish_act_steady : (gone again : Bool) (c : Cmd) (n : IssueNo) (j : Judgement)
    → AreSteady ((told_finish c n j (if gone then NoDev else if again then Retry (j.kinds.0 == 0) else Fail)) ∷ [])
finish_act_steady true again c n j = (tt, tt)
finish_act_steady false true c n j = (tt, tt)
finish_act_steady false false c n j = (tt, tt)

issue_steady : (parted : List ℕ) (n : IssueNo) (j : Judgement) (found : Option Cmd) → AreSteady (issue_finish parted n j found)
issue_steady parted n j None = tt
issue_steady parted n j (Some c) = finish_act_steady (is_gone c parted) (is_retried c j.kinds) c n j

finishes_steady : (known : List Cmd) (parted : List ℕ) (slots : List (Option InFlight)) (judged : List (Option Judgement)) → AreSteady (finishes known parted slots judged)
finishes_steady known parted [] judged = tt
finishes_steady known parted (None ∷ slots) [] = tt
finishes_steady known parted (Some f ∷ slots) [] = tt
finishes_steady known parted (None ∷ slots) (j ∷ judged) = finishes_steady known parted slots judged
finishes_steady known parted (Some f ∷ slots) (None ∷ judged) = finishes_steady known parted slots judged
finishes_steady known parted (Some f ∷ slots) (Some j ∷ judged) =
    append_steady _ _ (if_steady f.owned _ _ (issue_steady parted f.number j (command_of f.id known)) tt) (finishes_steady known parted slots judged)

-- ---- resets

reset_goes_by :
    (head : PortHead) (past : List Event) (pmp frozen : Bool) (place : Option ℕ) (attempt : ℕ) (deadline : Ms) → IsSettled past
    → MayReset deadline past → Goes head past ((if pmp then [] else (if frozen then [] else FrozenAct ∷ [])) ++ ResetBegun place attempt deadline ∷ [])
reset_goes_by head past true frozen place attempt deadline owns may = steadily head past _ owns (may, tt) (tt, tt)
reset_goes_by head past false true place attempt deadline owns may = steadily head past _ owns (may, tt) (tt, tt)
reset_goes_by head past false false place attempt deadline owns may =
    steadily head past _ owns (tt, (record { owned = may.owned; near = may.near }, tt)) (tt, (tt, tt))

-- ---- each step

module _ (head : PortHead) (past : List Event) (h : IsAllowed head past) (between : IsSettled past) (time : ℕ) (who : Who) (seq : ℕ) where
  waiting_goes : (step : Step) (tag : Option ℕ) → Goes head (Entered time who seq step ∷ past) (waiting_or_begun head past tag)
  waiting_goes step (Some tag) = plainly head _ _ (record { owned = between.owned; free = between.free }) (tt, tt)
  waiting_goes step None = record {
    allowed = begin_allowed head past h time who seq step;
    owned = λ runs. begin_owns head past (Entered time who seq step ∷ past) refl;
    free = λ idle.
        absurd (recovers_not (is_asked (onto (Entered time who seq step ∷ past) (begin_acts head past))) _ idle
        (begin_runs head past (Entered time who seq step ∷ past)));
  }

  idle_by :
      (step : Step) (asked : Bool) (tag : Option ℕ)
      → Goes head (Entered time who seq step ∷ past) (if asked then waiting_or_begun head past tag else Nothing ∷ [])
  idle_by step true tag = waiting_goes step tag
  idle_by step false tag = plainly head _ _ (record { owned = between.owned; free = between.free }) (tt, tt)

  reset_goes :
      (step : Step) (place attempt : ℕ) → is_running past ≡ true
      → Goes head (Entered time who seq step ∷ past) (reset_acts head past place attempt)
  reset_goes step place attempt runs =
      reset_goes_by head (Entered time who seq step ∷ past) head.pmp (is_frozen past) (Some place) attempt
      (deadline_of (clock past) (reset_wait_of attempt)) (record { owned = between.owned; free = between.free })
      (record { owned = between.owned runs; near = reset_near (clock past) attempt })

  frozen_or :
      (step : Step) (frozen : Bool) (place attempt : ℕ) (acts : List Act) → is_running past ≡ true
      → Goes head (Entered time who seq step ∷ past) acts
      → Goes head (Entered time who seq step ∷ past) (if frozen then reset_acts head past place attempt else acts)
  frozen_or step true place attempt acts runs goes = reset_goes step place attempt runs
  frozen_or step false place attempt acts runs goes = goes

  logs_go :
      (owed : Option ℕ) → is_running past ≡ true → Goes head (Entered time who seq Recover ∷ past) (log_or_autopsy head past owed)
  logs_go (Some place) runs = plainly head _ _ (record { owned = between.owned; free = between.free }) (log_plain head past place)
  logs_go None runs =
      steadily head _ _ (record { owned = between.owned; free = between.free })
      (autopsy_allowed head past (Entered time who seq Recover ∷ past) (λ x. refl)
      (autopsy_judges head past h (between.owned runs) (flights_on head past h) time who seq Recover))
      (autopsy_steady head past)

  recover_by :
      (now_at : Phase) → phase head past ≡ now_at
      → Goes head (Entered time who seq Recover ∷ past) (phase_acts head past now_at)
  recover_by Idle is =
      idle_by Recover (is_asked past) (position (is_awaited (clock past) (is_drained past)) (slots past))
  recover_by Logs is = logs_go (log_owed head past) (active head past Logs is (λ e. absurd (cc)))
  recover_by HostOwed is =
      reset_goes_by head (Entered time who seq Recover ∷ past) false (is_frozen past) None 1
      (deadline_of (clock past) (reset_wait_of 1)) (record { owned = between.owned; free = between.free })
      (record { owned = between.owned (active head past HostOwed is (λ e. absurd (cc))); near = reset_near (clock past) 1 })
  recover_by HostOpen is = plainly head _ _ (record { owned = between.owned; free = between.free }) (tt, (tt, tt))
  recover_by (ResetOwed place attempt ident) is =
      reset_goes Recover place attempt (active head past _ is (λ e. absurd (cc)))
  recover_by (ResetOpen place attempt ident deadline) is =
      plainly head _ _ (record { owned = between.owned; free = between.free }) (look_plain head past place attempt (drive_at head past place) (look_of (clock past) deadline.n (drive_at head past place)))
  recover_by (IdentOwed place attempt) is =
      frozen_or Recover (is_frozen past) place 1 _ (active head past _ is (λ e. absurd (cc)))
      (steadily head _ _ (record { owned = between.owned; free = between.free }) (ident_near (clock past) attempt, tt) (tt, tt))
  recover_by (IdentOpen place attempt deadline) is =
      let within : place < head.places = subst (IsPhaseOn head.places) is (phase_on head past h) in
      frozen_or Recover (is_frozen past) place 1 _ (active head past _ is (λ e. absurd (cc)))
      (steadily head _ _ (record { owned = between.owned; free = between.free })
      (ident_allowed head past (Entered time who seq Recover ∷ past) place attempt deadline.n (drive_at head past place) within)
      (ident_steady head past place attempt deadline.n (drive_at head past place)))
  recover_by Through is =
      let runs = active head past Through is (λ e. absurd (cc)) in
      let done = autopsied_by (is_running past) (is_autopsied past) (first_phase past (tasks head past)) is in
      let all = autopsied_judged head past h runs done in
      let p : List Event = Entered time who seq Recover ∷ past in
      let ending = finishes (commands past) (detachments past) (slots past) (judged past) in
      let allowed = finish_allowed head past h runs (between.owned runs) all time who seq Recover in
      record {
        allowed = allowed;
        owned = owns_onto head p (finish_acts past)
            (every_append IsMild ending (Ended ∷ [])
            (steady_mild ending (finishes_steady (commands past) (detachments past) (slots past) (judged past))) (tt, tt)) allowed between.owned;
        free = λ idle.
            subst (λ q. EachFlight (λ f. f.owned ≡ false) (slots q)) (sym (onto_append p ending (Ended ∷ [])))
            (each_weaker (λ f. ⊥) (λ f. f.owned ≡ false) (λ f never. absurd never) (slots (onto p ending))
            (finish_leaves_none head past h (between.owned runs) all time who seq Recover));
      }

  tick_goes : (ms : ℕ) (b : Bool) → Goes head (Entered time who seq (Tick ms) ∷ past) (if b then Now (record { n = clock past + ms }) ∷ [] else Nothing ∷ [])
  tick_goes ms true =
      let later : clock past ≤ clock past + ms = omega arith in
      steadily head _ _ (record { owned = between.owned; free = between.free }) (later, tt) (tt, tt)
  tick_goes ms false = plainly head _ _ (record { owned = between.owned; free = between.free }) (tt, tt)

  -- the acts of each step go
  acts_go : (step : Step) → Goes head (Entered time who seq step ∷ past) (legal_acts head past step)
  acts_go (Submit id place op allow wait) =
      steadily head _ _ (record { owned = between.owned; free = between.free }) (submit_allowed head past h time who seq id place op allow wait)
      (refusal_steady id (refusal_of past id place op))
  acts_go (Kick place) =
      steadily head _ _ (record { owned = between.owned; free = between.free }) (kick_allowed head past h time who seq place) (front_steady head past (front_of (queues past) place))
  acts_go (Work place pick) =
      steadily head _ _ (record { owned = between.owned; free = between.free }) (work_allowed head past h time who seq place pick) (worked_steady past pick (drive_at head past place))
  acts_go Irq =
      let p : List Event = Entered time who seq Irq ∷ past in
      let allowed = irq_allowed head past h time who seq in
      record {
        allowed = allowed;
        owned = owns_onto head p (irq_acts head past) (irq_mild head past) allowed between.owned;
        free = irq_free head past p refl between.free;
      }
  acts_go Drop = plainly head _ _ (record { owned = between.owned; free = between.free }) (drop_plain past)
  acts_go (Stray tag) = plainly head _ _ (record { owned = between.owned; free = between.free }) (stray_plain past)
  acts_go (Tick ms) = tick_goes ms (nat_le (clock past + ms) last_time)
  acts_go Expire = plainly head _ _ (record { owned = between.owned; free = between.free }) (expire_plain head past)
  acts_go Recover =
      subst (λ acts. Goes head (Entered time who seq Recover ∷ past) acts) (sym (recover_told head past)) (recover_by _ refl)
  acts_go (Plug place drive) = plainly head _ _ (record { owned = between.owned; free = between.free }) (plug_plain head past place drive)
  acts_go (Unplug place) = plainly head _ _ (record { owned = between.owned; free = between.free }) (unplug_plain head past place)
  acts_go (Inject place fault) = plainly head _ _ (record { owned = between.owned; free = between.free }) (inject_plain head past place fault)
  acts_go Boot = plainly head _ _ (record { owned = between.owned; free = between.free }) (tt, tt)

pub entry_reached :
    (head : PortHead) (past : List Event) (who : Who) (seq : ℕ) (step : Step) → IsReached head past
    → IsReached head (grown past (entry_after head past who seq step))
entry_reached head past who seq step h =
    let goes = acts_go head past h.allowed h.between (clock past) who seq step in
    record {
      allowed = allowed_onto head (Entered (clock past) who seq step ∷ past) (legal_acts head past step) (tt, h.allowed) goes.allowed;
      between = record { owned = goes.owned; free = goes.free };
    }

pub entries_reached :
    (head : PortHead) (past : List Event) (entries : List EntryView) → IsReached head past
    → AreLegal head past entries → IsReached head (past_from past entries)
entries_reached head past [] h legal = h
entries_reached head past (r ∷ rest) h legal =
    entries_reached head (grown past r) rest
    (subst (λ x. IsReached head (grown past x)) (sym legal.0) (entry_reached head past r.who r.seq r.step h))
    legal.1

acts_reached :
    (head : PortHead) (journal : List EntryView) → HasLegalActs head journal → IsReached head (past_of journal)
acts_reached head [] legal = absurd legal
acts_reached head (first ∷ rest) legal =
    let boot = steadily head (Entered 0 ByBoot 0 Boot ∷ []) (boot_acts head) (record { owned = λ runs. absurd (cc); free = λ idle. tt }) (boot_allowed head _) (boot_steady head) in
    let reached : IsReached head (grown [] (boot_entry head)) = record {
      allowed = allowed_onto head (Entered 0 ByBoot 0 Boot ∷ []) (boot_acts head) (tt, tt) boot.allowed;
      between = record { owned = boot.owned; free = boot.free };
    } in
    entries_reached head (grown [] first) rest (subst (λ x. IsReached head (grown [] x)) (sym legal.0) reached) legal.1

pub journal_reached :
    (head : PortHead) (journal : List EntryView) → IsLegal head journal → IsReached head (past_of journal)
journal_reached head journal legal = acts_reached head journal legal.acts

pub journal_allowed :
    (head : PortHead) (journal : List EntryView) → IsLegal head journal → IsAllowed head (past_of journal)
journal_allowed head journal legal = (journal_reached head journal legal).allowed
