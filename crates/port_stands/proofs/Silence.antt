-- An issue that was answered, or given back for another try, ends no more.
use Rattle.std.proofs.Common.{◌≡◌, ◌∙◌, ℕ, ◌+◌, ◌<◌, Bool, true, false, not, ◌&&◌, ◌||◌, List, [], ◌∷◌, ◌++◌, Option, None, Some, inl, inr, flat_map, slice_get, option_and_then, refl, sym, ap, subst, arith}
use Rattle.std.specs.List.{list_all}
use Rattle.ata_base.specs.declared.identity.Identity.{Identity}
use Rattle.ata_base.specs.declared.regs.Regs.{Regs}
use Rattle.ata_script.specs.declared.port_head.PortHead.{PortHead}
use Rattle.ata_trace.specs.Entries.{EntryView, grown, past_from, past_of}
use Rattle.ata_trace.specs.Event.{Event, onto}
use Rattle.ata_trace.specs.Event.Event.{Entered, Told}
use Rattle.ata_trace.specs.declared.act.Act.{Act}
use Rattle.ata_trace.specs.declared.act.Act.TheVariants.{Done, Nothing, WaitingTag, Deferred, Exclusive, Autopsied, Ended, Frozen, Requested, Identified, Attached, Mode, Retried, AnsweredOk, AnsweredFailed, AnsweredNodev}
use Rattle.ata_trace.specs.declared.step.Step.{Step}
use Rattle.ata_trace.specs.declared.step.Step.TheVariants.{Submit, Kick, Work, Irq, Drop, Stray, Tick, Expire, Recover, Plug, Unplug, Inject, Boot}
use Rattle.ata_trace.specs.declared.who.Who.{Who}
use Rattle.ata_trace.specs.declared.who.Who.TheVariants.{Boot as ByBoot}
use Rattle.drive_model.specs.Holding.{picked}
use Rattle.drive_model.specs.View.{DriveView}
use Rattle.drive_model.specs.Work.{cause_of, registers_of, act_of}
use Rattle.drive_model.specs.declared.held.Held.{Held}
use Rattle.host_tags.specs.declared.in_flight.InFlight.{InFlight}
use Rattle.port_past.specs.Causes.{tferr}
use Rattle.port_past.specs.Clock.{clock}
use Rattle.port_past.specs.Commands.{commands}
use Rattle.port_past.specs.Attachment.{detachments}
use Rattle.port_past.specs.Drives.{drives, drive_at}
use Rattle.port_past.specs.Completions.{completions}
use Rattle.port_past.specs.PortState.{is_frozen, is_asked}
use Rattle.port_past.specs.Heads.{places_of}
use Rattle.port_past.specs.Issues.{issue_count}
use Rattle.port_past.specs.Judged.{judged}
use Rattle.port_past.specs.Line.{is_irq_served}
use Rattle.port_past.specs.Links.{links, linked_at}
use Rattle.port_past.specs.Slots.{slots}
use Rattle.port_rules.specs.Autopsy.{examined_acts}
use Rattle.port_rules.specs.Boot.{found_at, boot_acts, boot_entry}
use Rattle.port_rules.specs.Finish.{finishes}
use Rattle.port_rules.specs.Sorting.{ok_answers, condemnations}
use Rattle.port_rules.specs.Interrupt.{served_acts, irq_acts, must_freeze, must_request, no_kinds, has_failed}
use Rattle.port_rules.specs.Kick.{kick_acts}
use Rattle.port_rules.specs.Legal.{legal_acts, entry_after, AreLegal, HasLegalActs, IsLegal}
use Rattle.port_rules.specs.Phase.{phase}
use Rattle.port_rules.specs.Begin.{timed_out, with_freeze, begin_acts}
use Rattle.port_rules.specs.Recover.{recover_acts}
use Rattle.port_rules.specs.AutopsyView.{autopsy_view}
use Rattle.port_rules.specs.Told.{told_if, or_nothing, raised_acts}
use Rattle.port_rules.specs.Work.{ended_acts, worked_acts, work_acts}
use Rattle.port_stands.proofs.All.{all_after, boot_all}
use Rattle.ata_base.proofs.Truth.{both}
use Rattle.port_stands.proofs.Blocks.{all_append, all_wider}
use Rattle.port_stands.proofs.DrivenEntries.{picked_is}
use Rattle.port_stands.proofs.DrivenEnd.{each_at}
use Rattle.port_stands.proofs.GuardAutopsy.{is_autopsy_act, autopsy_all}
use Rattle.port_stands.proofs.GuardFrames.{is_gate_row}
use Rattle.port_stands.proofs.Kicks.{is_wait, kick_does, wait_issues}
use Rattle.port_stands.proofs.Kicks.KickDoes.{Waits, Gone, Issues}
use Rattle.port_stands.proofs.Leaving.{AreOut, leaves_up_to, out_onto, answers_up_to, finishes_up_to}
use Rattle.port_stands.proofs.Lists.{all_condemnations, all_with_freeze, all_if, all_more, all_or_nothing, all_told}
use Rattle.port_stands.proofs.Numbers.{read_written, some_same}
use Rattle.port_stands.proofs.Phases.{phase_is}
use Rattle.port_stands.proofs.Recovering.{HasRecovery, all_recover}
use Rattle.port_stands.proofs.Recovers.{is_rest, RecoverDoes, recover_does}
use Rattle.port_stands.proofs.Recovers.RecoverDoes.{Rests, Begins, Reads, Examines, DoesRow, Identifies, Ends}
use Rattle.port_stands.proofs.StandingKinds.{all_irq, all_expire, issues_recovery}
use Rattle.port_stands.proofs.Standing.{all_booted, none_flying}
use Rattle.port_stands.proofs.StandingSteps.{place_within}
use Rattle.port_stands.proofs.Steps.{all_submit, all_work, all_raised, all_drop, all_stray, all_tick, all_plug, all_unplug, all_inject, all_logs}
use Rattle.port_stands.specs.All.{AllStands}
use Rattle.port_stands.specs.Driven.{IsHeld}
use Rattle.port_facts.specs.Moments.{AtEach}
use Rattle.port_stands.specs.Silence.{IsOut, IsSilentAfterAnswer, has_left}
use Rattle.port_stands.proofs.Heads.{HasOnePlace}
use Rattle.port_stands.specs.Words.{is_no_issue}

-- ---- acts by which no issue leaves, or none that wasn't numbered

-- an act that answers nothing, gives nothing back and issues nothing
abbrev pub leaves_none : Act → Bool
leaves_none (AnsweredOk id number status error lba count stamps) = false
leaves_none (AnsweredFailed id number kinds status error lba count) = false
leaves_none (AnsweredNodev id number) = false
leaves_none (Retried id number raised) = false
leaves_none act = true

none_up_to : (n : ℕ) (act : Act) → leaves_none act ≡ true → leaves_up_to n act ≡ true
none_up_to n (AnsweredOk id number status error lba count stamps) is = absurd (cc)
none_up_to n (AnsweredFailed id number kinds status error lba count) is = absurd (cc)
none_up_to n (AnsweredNodev id number) is = absurd (cc)
none_up_to n (Retried id number raised) is = absurd (cc)
none_up_to n act is = refl

wait_none : (act : Act) → is_wait act ≡ true → leaves_none act ≡ true
wait_none Nothing is = refl
wait_none (Deferred id why) is = refl
wait_none (Exclusive place) is = refl
wait_none act is = absurd (cc)

rest_none : (act : Act) → is_rest act ≡ true → leaves_none act ≡ true
rest_none Nothing is = refl
rest_none (WaitingTag tag) is = refl
rest_none act is = absurd (cc)

autopsy_none : (act : Act) → is_autopsy_act act ≡ true → leaves_none act ≡ true
autopsy_none (AnsweredOk id number status error lba count stamps) is = is
autopsy_none (AnsweredFailed id number kinds status error lba count) is = is
autopsy_none (AnsweredNodev id number) is = is
autopsy_none (Retried id number raised) is = is
autopsy_none act is = refl

row_none : (act : Act) → is_gate_row act ≡ true → leaves_none act ≡ true
row_none (AnsweredOk id number status error lba count stamps) is = is
row_none (AnsweredFailed id number kinds status error lba count) is = is
row_none (AnsweredNodev id number) is = is
row_none (Retried id number raised) is = is
row_none act is = refl

-- ---- acts by which no issue ends

-- an act that isn't an end
abbrev pub is_no_end : Act → Bool
is_no_end (Done number status error lba count) = false
is_no_end act = true

wait_ends : (act : Act) → is_wait act ≡ true → is_no_end act ≡ true
wait_ends (Done number status error lba count) is = is
wait_ends act is = refl

pub silent_onto : (p : List Event) (acts : List Act) → list_all is_no_end acts ≡ true → AtEach IsSilentAfterAnswer p → AtEach IsSilentAfterAnswer (onto p acts)
silent_onto p [] all was = was
silent_onto p (act ∷ rest) all was =
    let parts = both (is_no_end act) (list_all is_no_end rest) all in
    silent_onto (Told act ∷ p) rest parts.1 (one act parts.0, was)
  where
    one : (act : Act) → is_no_end act ≡ true → IsSilentAfterAnswer (Told act) p
    one (Done number status error lba count) is = absurd (cc)
    one act is = tt

ends_recovery : (n : ℕ) → HasRecovery is_no_end n
ends_recovery n = record {
  nothing = refl;
  waiting = λ t. refl;
  answered = λ f e. refl;
  condemned = λ f k. refl;
  frozen = refl;
  thawed = refl;
  logs = record { page = λ p t s e l c. refl; failed = λ p. refl; bad_sum = λ p. refl; not_queued = λ p. refl; aborted = λ n. refl };
  autopsy = λ p w. record { judged = λ n k. refl; recorded = λ i d k n s o e a. refl; cleared = refl; hot = λ g. refl };
  action = λ p k r w. refl;
  host_begun = λ d. refl;
  host_ended = refl;
  begun = λ p a d. refl;
  reset = λ p w. record { ended = λ g. refl; none = refl; late = refl; failed = refl; disabled = refl; detached = refl; waiting = refl };
  asked = λ p a d. refl;
  identity = λ p w. record { identified = λ i. refl; same = refl; attached = refl; detached = refl; disabled = refl; mode = λ u o d. refl; late = refl; waiting = refl };
  finish = record { nodev = λ i n. refl; retried = λ i n r. refl; failed = λ i n j. refl };
  ended = refl;
}

module _ (head : PortHead) (past : List Event) (time : ℕ) (who : Who) (seq : ℕ) (step : Step) (was : AllStands head past) (out : AreOut past) where
  begun_out : AreOut (Entered time who seq step ∷ past)
  begun_out = record { flying = out.flying; early = out.early }

  -- an entry of acts that issue nothing, by which only numbered issues leave
  out_entry : (acts : List Act) → list_all is_no_issue acts ≡ true → list_all (leaves_up_to (issue_count past)) acts ≡ true → AreOut (onto (Entered time who seq step ∷ past) acts)
  out_entry acts none up = out_onto (issue_count past) (Entered time who seq step ∷ past) acts refl none up begun_out

  none_all : (acts : List Act) → list_all leaves_none acts ≡ true → list_all (leaves_up_to (issue_count past)) acts ≡ true
  none_all acts all = all_wider leaves_none (leaves_up_to (issue_count past)) (none_up_to (issue_count past)) acts all

  -- ---- a kick

  not_left : (number : ℕ) (b : Bool) → has_left number past ≡ b → issue_count past < number → has_left number past ≡ false
  not_left number false e above = e
  not_left number true e above = absurd (omega (arith, above, out.early number e))

  kick_out : (place : ℕ) → AreOut (onto (Entered time who seq step ∷ past) (kick_acts head past place))
  kick_out place = elim (kick_does head past place) [
    | Waits all ↦ out_entry (kick_acts head past place) (all_wider is_wait is_no_issue wait_issues (kick_acts head past place) all)
        (none_all (kick_acts head past place) (all_wider is_wait leaves_none wait_none (kick_acts head past place) all))
    | Gone answer ↦ out_entry (kick_acts head past place) (subst (λ a. list_all is_no_issue a ≡ true) (sym answer.told) refl)
        (subst (λ a. list_all (leaves_up_to (issue_count past)) a ≡ true) (sym answer.told)
        (all_more (leaves_up_to (issue_count past)) (AnsweredNodev answer.cmd.id (record { n = 0 })) [] refl refl))
    | Issues issue ↦ subst (λ a. AreOut (onto (Entered time who seq step ∷ past) a)) (sym issue.told) (record {
      flying = λ tag f here. elim (read_written (slots past) issue.tag tag _ f here) [
        | inl new ↦ ap (λ (x : InFlight). has_left x.number.n past) (sym (some_same _ f new.1)) ∙ not_left (issue_count past + 1) (has_left (issue_count past + 1) past) refl (omega arith)
        | inr old ↦ out.flying tag f old.1
      ];
      early = λ number is. omega (arith, out.early number is);
    })
  ]

  -- ---- an interrupt

  irq_up_to : list_all (leaves_up_to (issue_count past)) (irq_acts head past) ≡ true
  irq_up_to =
      let kind : Act → Bool = leaves_up_to (issue_count past) in
      let told : List Act = ok_answers (slots past) (completions head past) in
      let marks : List Act = condemnations (λ f. must_freeze head past || has_failed (tferr past) f) no_kinds (slots past) (completions head past) in
      let freeze : List Act = told_if (must_freeze head past) Frozen in
      let request : List Act = told_if (must_request head past && not (is_asked past)) Requested in
      all_if kind (is_irq_served past) (or_nothing (served_acts head past)) (Nothing ∷ [])
      (all_or_nothing kind (served_acts head past) refl
      (all_append kind (told ++ marks ++ freeze) request
      (all_append kind (told ++ marks) freeze
      (all_append kind told marks (answers_up_to (issue_count past) (slots past) (completions head past) was.whole.stands.numbered.up_to)
      (all_condemnations kind (λ f. must_freeze head past || has_failed (tferr past) f) no_kinds (λ f. refl) (slots past) (completions head past)))
      (all_told kind (must_freeze head past) Frozen refl))
      (all_told kind (must_request head past && not (is_asked past)) Requested refl)))
      refl

  -- ---- a recover step

  begin_up_to : list_all (leaves_up_to (issue_count past)) (begin_acts head past) ≡ true
  begin_up_to =
      let kind : Act → Bool = leaves_up_to (issue_count past) in
      let marks : List Act = condemnations (λ f. true) timed_out (slots past) (completions head past) in
      all_append kind (ok_answers (slots past) (completions head past)) (with_freeze (is_frozen past) marks)
      (answers_up_to (issue_count past) (slots past) (completions head past) was.whole.stands.numbered.up_to)
      (all_with_freeze kind (is_frozen past) marks refl (all_condemnations kind (λ f. true) timed_out (λ f. refl) (slots past) (completions head past)))

  recover_up_to : list_all (leaves_up_to (issue_count past)) (recover_acts head past) ≡ true
  recover_up_to = by (recover_does head past)
    where
      by : {acts : List Act} → RecoverDoes head past acts → list_all (leaves_up_to (issue_count past)) acts ≡ true
      by {acts} (Rests idle all) = none_all acts (all_wider is_rest leaves_none rest_none acts all)
      by {acts} (Begins begin) = subst (λ a. list_all (leaves_up_to (issue_count past)) a ≡ true) (sym begin.told) begin_up_to
      by {acts} (Reads log) =
          subst (λ a. list_all (leaves_up_to (issue_count past)) a ≡ true) (sym log.told)
          (all_logs (leaves_up_to (issue_count past)) (record { page = λ p t s e l c. refl; failed = λ p. refl; bad_sum = λ p. refl; not_queued = λ p. refl; aborted = λ n. refl }) head past log.place)
      by {acts} (Examines autopsy) =
          subst (λ a. list_all (leaves_up_to (issue_count past)) a ≡ true) (sym autopsy.told)
          (all_append (leaves_up_to (issue_count past)) (flat_map (λ place. examined_acts (autopsy_view head past place)) (places_of head)) (Autopsied ∷ [])
          (none_all (flat_map (λ place. examined_acts (autopsy_view head past place)) (places_of head))
          (all_wider is_autopsy_act leaves_none autopsy_none (flat_map (λ place. examined_acts (autopsy_view head past place)) (places_of head)) (autopsy_all head past))) refl)
      by {acts} (DoesRow row modeless) = none_all acts (all_wider is_gate_row leaves_none row_none acts row.all)
      by {acts} (Identifies identity) = none_all acts (all_wider is_gate_row leaves_none row_none acts identity.row.all)
      by {acts} (Ends end) =
          subst (λ a. list_all (leaves_up_to (issue_count past)) a ≡ true) (sym end.told)
          (all_append (leaves_up_to (issue_count past)) (finishes (commands past) (detachments past) (slots past) (judged past)) (Ended ∷ [])
          (finishes_up_to (issue_count past) (commands past) (detachments past) (slots past) (judged past) was.whole.stands.numbered.up_to) refl)

  recover_issues : list_all is_no_issue (recover_acts head past) ≡ true
  recover_issues =
      all_recover is_no_issue head past (issues_recovery head.places) refl refl
      (place_within head past time who seq step was.whole.stands (phase head past) (sym (phase_is head past)))

  recover_ends : list_all is_no_end (recover_acts head past) ≡ true
  recover_ends =
      all_recover is_no_end head past (ends_recovery head.places) refl refl
      (place_within head past time who seq step was.whole.stands (phase head past) (sym (phase_is head past)))

  -- ---- work

  -- an issue that a drive holds is out
  held_out : (place : ℕ) (d : ℕ) (v : DriveView) (h : Held) (pick : ℕ) → slice_get (drives head past) d ≡ Some v → picked pick v ≡ Some h → IsOut h.number.n past
  held_out place d v h pick at is =
      let k = picked_is pick v h is in
      let held : IsHeld head past d h = each_at (IsHeld head past d) v.held k.index h k.holds (was.whole.driven.held d v at) in
      record {
        from_one = subst (λ n. 0 < n) held.number (was.whole.stands.numbered.from_one h.tag held.flight held.flies.here);
        stays = ap (λ n. has_left n past) (sym held.number) ∙ out.flying h.tag held.flight held.flies.here;
      }

  picked_silent :
      (place pick d : ℕ) (v : DriveView) (found : Option Held) → slice_get (drives head past) d ≡ Some v → picked pick v ≡ found
      → AtEach IsSilentAfterAnswer (Entered time who seq step ∷ past) → AtEach IsSilentAfterAnswer (onto (Entered time who seq step ∷ past) (ended_acts past (act_of found v)))
  picked_silent place pick d v None at is begun = (tt, begun)
  picked_silent place pick d v (Some h) at is begun =
      let r : Regs = registers_of (cause_of h v.bad) h.op in
      let o = held_out place d v h pick at is in
      silent_onto (Told (Done h.number r.status r.error r.lba r.count) ∷ Entered time who seq step ∷ past) (raised_acts past) (all_raised is_no_end past refl)
      (record { from_one = o.from_one; stays = o.stays }, begun)

  drive_silent :
      (place pick : ℕ) (d : Option ℕ) (found : Option DriveView) → linked_at (links head past) place ≡ d → option_and_then (slice_get (drives head past)) d ≡ found
      → AtEach IsSilentAfterAnswer (Entered time who seq step ∷ past) → AtEach IsSilentAfterAnswer (onto (Entered time who seq step ∷ past) (worked_acts past pick found))
  drive_silent place pick d None linked is begun = (tt, begun)
  drive_silent place pick None (Some v) linked is begun = absurd (cc)
  drive_silent place pick (Some d) (Some v) linked is begun = picked_silent place pick d v (picked pick v) is refl begun

-- what has left is out over each entry, and ends are silent
pub record IsQuiet (past : List Event) : Type 0 where
  pub out : AreOut past
  pub silent : AtEach IsSilentAfterAnswer past

module _ (head : PortHead) (past : List Event) (who : Who) (seq : ℕ) (was : AllStands head past) (quiet : IsQuiet past) where
  begun_silent : (step : Step) → AtEach IsSilentAfterAnswer (Entered (clock past) who seq step ∷ past)
  begun_silent step = (tt, quiet.silent)

  acts_quiet :
      (step : Step) → list_all is_no_issue (legal_acts head past step) ≡ true → list_all (leaves_up_to (issue_count past)) (legal_acts head past step) ≡ true
      → list_all is_no_end (legal_acts head past step) ≡ true → IsQuiet (grown past (entry_after head past who seq step))
  acts_quiet step none up completions = record {
    out = out_entry head past (clock past) who seq step was quiet.out (legal_acts head past step) none up;
    silent = silent_onto (Entered (clock past) who seq step ∷ past) (legal_acts head past step) completions (begun_silent step);
  }

  kick_ends : (place : ℕ) → list_all is_no_end (kick_acts head past place) ≡ true
  kick_ends place = elim (kick_does head past place) [
    | Waits all ↦ all_wider is_wait is_no_end wait_ends (kick_acts head past place) all
    | Gone answer ↦ subst (λ a. list_all is_no_end a ≡ true) (sym answer.told) refl
    | Issues issue ↦ subst (λ a. list_all is_no_end a ≡ true) (sym issue.told) refl
  ]

  pub quiet_after : (step : Step) → IsQuiet (grown past (entry_after head past who seq step))
  quiet_after (Submit id place op allow wait) =
      acts_quiet (Submit id place op allow wait) (all_submit is_no_issue head past id place op refl (λ r. refl)) (all_submit (leaves_up_to (issue_count past)) head past id place op refl (λ r. refl))
      (all_submit is_no_end head past id place op refl (λ r. refl))
  quiet_after (Kick place) = record {
    out = kick_out head past (clock past) who seq (Kick place) was quiet.out place;
    silent = silent_onto (Entered (clock past) who seq (Kick place) ∷ past) (kick_acts head past place) (kick_ends place) (begun_silent (Kick place));
  }
  quiet_after (Work place pick) = record {
    out = out_entry head past (clock past) who seq (Work place pick) was quiet.out (work_acts head past place pick)
        (all_work is_no_issue head past place pick refl refl (λ n s e l c. refl)) (all_work (leaves_up_to (issue_count past)) head past place pick refl refl (λ n s e l c. refl));
    silent = drive_silent head past (clock past) who seq (Work place pick) was quiet.out place pick (linked_at (links head past) place) (drive_at head past place) refl refl (begun_silent (Work place pick));
  }
  quiet_after Irq =
      acts_quiet Irq (all_irq is_no_issue head past (λ f e. refl) (λ f. refl) refl refl refl) (irq_up_to head past (clock past) who seq Irq was quiet.out)
      (all_irq is_no_end head past (λ f e. refl) (λ f. refl) refl refl refl)
  quiet_after Drop = acts_quiet Drop (all_drop is_no_issue past refl refl) (all_drop (leaves_up_to (issue_count past)) past refl refl) (all_drop is_no_end past refl refl)
  quiet_after (Stray tag) = acts_quiet (Stray tag) (all_stray is_no_issue past refl refl) (all_stray (leaves_up_to (issue_count past)) past refl refl) (all_stray is_no_end past refl refl)
  quiet_after (Tick ms) = acts_quiet (Tick ms) (all_tick is_no_issue past ms refl (λ t. refl)) (all_tick (leaves_up_to (issue_count past)) past ms refl (λ t. refl)) (all_tick is_no_end past ms refl (λ t. refl))
  quiet_after Expire =
      acts_quiet Expire (all_expire is_no_issue head past (λ f. refl) refl refl refl) (all_expire (leaves_up_to (issue_count past)) head past (λ f. refl) refl refl refl)
      (all_expire is_no_end head past (λ f. refl) refl refl refl)
  quiet_after Recover =
      acts_quiet Recover (recover_issues head past (clock past) who seq Recover was quiet.out) (recover_up_to head past (clock past) who seq Recover was quiet.out)
      (recover_ends head past (clock past) who seq Recover was quiet.out)
  quiet_after (Plug place drive) =
      acts_quiet (Plug place drive) (all_plug is_no_issue head past place drive refl refl refl) (all_plug (leaves_up_to (issue_count past)) head past place drive refl refl refl)
      (all_plug is_no_end head past place drive refl refl refl)
  quiet_after (Unplug place) =
      acts_quiet (Unplug place) (all_unplug is_no_issue head past place refl refl refl) (all_unplug (leaves_up_to (issue_count past)) head past place refl refl refl)
      (all_unplug is_no_end head past place refl refl refl)
  quiet_after (Inject place fault) =
      acts_quiet (Inject place fault) (all_inject is_no_issue head past place fault refl refl refl) (all_inject (leaves_up_to (issue_count past)) head past place fault refl refl refl)
      (all_inject is_no_end head past place fault refl refl refl)
  quiet_after Boot = acts_quiet Boot refl refl refl

-- ---- journals

module _ (head : PortHead) where
  abbrev found : List Act
  found = flat_map (found_at head) (places_of head)

  pub boot_kind :
      (kind : Act → Bool) → kind Nothing ≡ true → ((place : ℕ) (i : Identity) → kind (Identified place i.model i.serial i.sectors i.depth) ≡ true)
      → ((place : ℕ) → kind (Attached place) ≡ true) → ((place : ℕ) (on : Bool) → kind (Mode place 6 on true) ≡ true) → list_all kind (boot_acts head) ≡ true
  boot_kind kind none identified there mode = all_or_nothing kind found none (all_booted kind head identified (λ p w. there p) mode)

  boot_quiet : IsQuiet (grown [] (boot_entry head))
  boot_quiet = record {
    out = out_onto 0 (Entered 0 ByBoot 0 Boot ∷ []) (boot_acts head) refl (boot_kind is_no_issue refl (λ p i. refl) (λ p. refl) (λ p o. refl))
        (boot_kind (leaves_up_to 0) refl (λ p i. refl) (λ p. refl) (λ p o. refl))
        (record { flying = λ tag f here. absurd (none_flying 32 tag f here); early = λ number is. absurd (cc) });
    silent = silent_onto (Entered 0 ByBoot 0 Boot ∷ []) (boot_acts head) (boot_kind is_no_end refl (λ p i. refl) (λ p. refl) (λ p o. refl)) (tt, tt);
  }

  entries_silent : HasOnePlace head → (past : List Event) (entries : List EntryView) → AllStands head past → IsQuiet past → AreLegal head past entries → AtEach IsSilentAfterAnswer (past_from past entries)
  entries_silent fits past [] was quiet legal = quiet.silent
  entries_silent fits past (r ∷ rest) was quiet legal =
      entries_silent fits (grown past r) rest
      (subst (λ x. AllStands head (grown past x)) (sym legal.0) (all_after head fits past r.who r.seq r.step was))
      (subst (λ x. IsQuiet (grown past x)) (sym legal.0) (quiet_after head past r.who r.seq was quiet r.step)) legal.1

  -- at each end of a legal journal no answer and no retry has named the issue
  acts_silent : HasOnePlace head → (journal : List EntryView) → HasLegalActs head journal → AtEach IsSilentAfterAnswer (past_of journal)
  acts_silent fits [] legal = absurd legal
  acts_silent fits (first ∷ rest) legal =
      entries_silent fits (grown [] first) rest
      (subst (λ x. AllStands head (grown [] x)) (sym legal.0) (boot_all head))
      (subst (λ x. IsQuiet (grown [] x)) (sym legal.0) boot_quiet) legal.1

  pub journal_silent : HasOnePlace head → (journal : List EntryView) → IsLegal head journal → AtEach IsSilentAfterAnswer (past_of journal)
  journal_silent fits journal legal = acts_silent fits journal legal.acts
