-- All stands over the reading of a log, and where recovery ends.
use Rattle.drive_model.specs.Told.{log_read}
use Rattle.std.proofs.Common.{◌≡◌, ◌∙◌, ℕ, Bool, true, false, ◌&&◌, ◌||◌, List, [], ◌∷◌, Option, None, Some, inl, inr, slice_get, slice_set, refl, sym, ap, subst}
use Rattle.std.specs.Prelude.{slice_index_or}
use Rattle.std.specs.List.{list_all, list_any}
use Rattle.ata_base.specs.declared.issue_no.IssueNo.{IssueNo}
use Rattle.drive_model.specs.Work.{registers}
use Rattle.ata_script.specs.declared.port_head.PortHead.{PortHead}
use Rattle.ata_trace.specs.Event.{Event, onto}
use Rattle.ata_trace.specs.Event.Event.{Entered, Told}
use Rattle.ata_trace.specs.declared.act.Act.{Act}
use Rattle.ata_trace.specs.declared.act.Act.TheVariants.{Ended, Aborted, LogFailed, LogBadSum, LogNotQueued}
use Rattle.ata_trace.specs.declared.step.Step.TheVariants.{Recover}
use Rattle.ata_trace.specs.declared.who.Who.{Who}
use Rattle.drive_model.specs.Log.{log_fault_of}
use Rattle.drive_model.specs.View.{DriveView}
use Rattle.drive_model.specs.declared.held.Held.{Held}
use Rattle.drive_model.specs.declared.log_fault.LogFault.{LogFault}
use Rattle.drive_model.specs.declared.log_fault.LogFault.TheVariants.{Fail, Sum, NotQueued, Idle as IdleTag}
use Rattle.drive_model.specs.declared.queued_error.QueuedError.{QueuedError}
use Rattle.eh_flow.specs.declared.phase.Phase.TheVariants.{Through}
use Rattle.host_tags.specs.Slots.{flight_at, lowest_free}
use Rattle.host_tags.specs.declared.in_flight.InFlight.{InFlight}
use Rattle.port_past.specs.Causes.{tferr}
use Rattle.port_past.specs.Commands.{commands}
use Rattle.port_past.specs.Attachment.{detachments}
use Rattle.port_past.specs.Drives.{drives, drive_at}
use Rattle.port_past.specs.Completions.{completions}
use Rattle.port_past.specs.PortState.{is_frozen, is_running, is_autopsied}
use Rattle.port_past.specs.Judged.{judged}
use Rattle.port_past.specs.Links.{links, plugged_at, linked_at}
use Rattle.port_past.specs.Logs.{logs}
use Rattle.port_past.specs.Noted.{tferr_noted}
use Rattle.port_past.specs.Places.{changed_at_some}
use Rattle.port_past.specs.Slots.{slots}
use Rattle.eh_autopsy.specs.declared.failed_issue.FailedIssue.{FailedIssue}
use Rattle.drive_model.specs.declared.log_told.LogTold.{LogTold}
use Rattle.drive_model.specs.declared.log_told.LogTold.TheVariants.{Page, BadPage, NoPage}
use Rattle.port_past.specs.declared.task.Task.{Task}
use Rattle.port_rules.specs.Finish.{finishes, finish_acts}
use Rattle.port_rules.specs.Logs.{aborted_acts, page_act, log_read_acts, stopped_acts, drive_log_acts, log_acts}
use Rattle.ata_trace.proofs.Pasts.{onto_append}
use Rattle.port_stands.proofs.Blocks.{flight_onto, left_alone}
use Rattle.port_stands.proofs.Driven.{get_changed_if}
use Rattle.port_stands.proofs.DrivenActs.{driven_log}
use Rattle.port_stands.proofs.DrivenEntries.{is_free, free_onto, driven_began}
use Rattle.port_stands.proofs.GuardAutopsy.{finished}
use Rattle.port_stands.proofs.Handled.{handled_less, handled_ended}
use Rattle.port_stands.proofs.Likes.{Back, back, is_behind, back_left, like_log}
use Rattle.port_stands.proofs.Lists.{HasFinish, all_finishes}
use Rattle.port_stands.proofs.Marks.{was_there, is_no_mark}
use Rattle.port_stands.proofs.Phases.{IsTask, own_or_later, is_of_some, stand_of_task}
use Rattle.port_stands.proofs.Steps.{all_aborted}
use Rattle.port_stands.proofs.WholeQuiet.{is_frosty, frosty_step}
use Rattle.port_stands.proofs.Wholes.{unmixed_onto}
use Rattle.port_stands.proofs.WholeSteps.{IsMade, behind_handled}
use Rattle.port_stands.proofs.Within.{read_put}
use Rattle.drive_model.specs.Single.{AreSingle}
use Rattle.port_stands.specs.Driven.{IsHeld, AreDriven}
use Rattle.port_stands.specs.Handled.{IsIdle, AreSingleTasks, owes_reset, to_reset, handling, AreHandled}
use Rattle.ata_base.specs.Each.{Each}
use Rattle.port_stands.specs.Whole.{IsWhole}
use Rattle.port_stands.specs.Words.{RecoveryView, recovery, task_stand, walk, slot_onto, is_no_issue}

-- where recovery is through, nothing is to be reset
through_owes : (s : RecoveryView) (x : ℕ) (tasks : List Task) → walk s tasks ≡ Through → list_any (λ task. owes_reset x (task_stand s task)) tasks ≡ false
through_owes s x [] is = refl
through_owes s x (task ∷ rest) is =
    elim (own_or_later (task_stand s task) (walk s rest) Through is) [
      | inl own ↦ absurd (cc (stand_of_task s task, ap is_of_some own))
      | inr later ↦ through_later later.0 (through_owes s x rest later.1)
    ]
  where
    through_later : task_stand s task ≡ None → list_any (λ task. owes_reset x (task_stand s task)) rest ≡ false → list_any (λ task. owes_reset x (task_stand s task)) (task ∷ rest) ≡ false
    through_later own more = ap (λ p. owes_reset x p || list_any (λ task. owes_reset x (task_stand s task)) rest) own ∙ more

module _ (head : PortHead) (past : List Event) (time : ℕ) (who : Who) (seq : ℕ) (was : IsWhole head past) where
  -- ---- the end

  module _ (task : IsTask (recovery head past) Through) where
    owes_none : (x : ℕ) → to_reset (recovery head past) x ≡ false
    owes_none x = through_owes (recovery head past) x (recovery head past).tasks task.at

    held_none : (d : ℕ) (v : DriveView) → slice_get (drives head past) d ≡ Some v → (held : List Held) → v.held ≡ held → Each (IsHeld head past d) held → v.held ≡ []
    held_none d v at [] is each = is
    held_none d v at (h ∷ rest) is each =
        (was.handled.reset task.running task.autopsied each.0.flight.place d v each.0.flies.linked at (owes_none each.0.flight.place)).holds

    stopped_none : (d : ℕ) (v : DriveView) → slice_get (drives head past) d ≡ Some v → (stopped : Option QueuedError) → v.stopped ≡ stopped → v.stopped ≡ None
    stopped_none d v at None is = is
    stopped_none d v at (Some e) is =
        let s = was.driven.stopped d v e at is in
        (was.handled.reset task.running task.autopsied s.flight.place d v s.flies.linked at (owes_none s.flight.place)).stopped

    -- at the end nothing is held or stopped, and nothing failed
    pub all_idle : (d : ℕ) (v : DriveView) → slice_get (drives head past) d ≡ Some v → IsIdle v
    all_idle d v at = record { holds = held_none d v at v.held refl (was.driven.held d v at); stopped = stopped_none d v at v.stopped refl }

    pub none_failed : (x : ℕ) → slice_index_or (tferr past) x None ≡ None
    none_failed x = was.handled.struck task.running task.autopsied x (owes_none x)

    finish_is : (kind : Act → Bool) → HasFinish kind → list_all kind (finishes (commands past) (detachments past) (slots past) (judged past)) ≡ true
    finish_is kind has = all_finishes kind has (commands past) (detachments past) (slots past) (judged past)

    -- after the answers of the finish nothing flies
    pub finish_nobody :
        (tag : ℕ) (x : InFlight) → flight_at (slots (onto (Entered time who seq Recover ∷ past) (finishes (commands past) (detachments past) (slots past) (judged past)))) tag ≡ Some x → ⊥
    finish_nobody tag x here =
        let start : List Event = Entered time who seq Recover ∷ past in
        let told : List Act = finishes (commands past) (detachments past) (slots past) (judged past) in
        let none : list_all is_no_issue told ≡ true = finish_is is_no_issue (record { nodev = λ i n. refl; retried = λ i n r. refl; failed = λ i n j. refl }) in
        let e : slot_onto told (flight_at (slots past) tag) ≡ Some x = sym (flight_onto start told tag none) ∙ here in
        let a = was_there told (flight_at (slots past) tag) x e in
        let j = was.stands.judged.judged task.running task.autopsied tag a.0 a.1.0 in
        let k = was.stands.known.flying tag a.0 a.1.0 in
        let gone = finished (commands past) (detachments past) (slots past) (judged past) tag a.0 a.0 a.1.0
        (was.stands.guarded.owned task.running tag a.0 a.1.0)
        (record { judgement = j.judgement; told = j.told; cmd = k.cmd; known = k.found }) (was.stands.numbered.from_one tag a.0 a.1.0) refl in
        cc (gone, e, ap (slot_onto told) a.1.0)

    pub finish_made : IsMade head (onto (Entered time who seq Recover ∷ past) (finish_acts past))
    finish_made =
        let start : List Event = Entered time who seq Recover ∷ past in
        let told : List Act = finishes (commands past) (detachments past) (slots past) (judged past) in
        let base : List Event = onto start told in
        let same : back head base ≡ back head past = back_left head start told (finish_is is_behind (record { nodev = λ i n. refl; retried = λ i n r. refl; failed = λ i n j. refl })) in
        let nobody : (tag : ℕ) (x : InFlight) → flight_at (slots base) tag ≡ Some x → ⊥ = finish_nobody in
        let idle : (d : ℕ) (v : DriveView) → slice_get (drives head base) d ≡ Some v → IsIdle v =
        λ d v at. all_idle d v (ap (λ (b : Back). slice_get b.drives d) (sym same) ∙ at) in
        let clear : (x : ℕ) → slice_index_or (tferr base) x None ≡ None = λ x. ap (λ (b : Back). slice_index_or b.failures x None) same ∙ none_failed x in
        subst (IsMade head) (sym (onto_append start told (Ended ∷ [])))
        (record {
          unmixed = λ t u f g at_t at_u place apart. absurd (nobody t f at_t);
          driven = record {
            plugged = λ x y d at_x at_y. was.driven.plugged x y d
                (ap (λ (b : Back). plugged_at b.links x) (sym same) ∙ at_x) (ap (λ (b : Back). plugged_at b.links y) (sym same) ∙ at_y);
            single = λ d v at. subst AreSingle (sym (idle d v at).holds) tt;
            held = λ d v at. subst (λ hs. Each (IsHeld head (Told Ended ∷ base) d) hs) (sym (idle d v at).holds) tt;
            stopped = λ d v e at by. absurd (cc ((idle d v at).stopped, by));
            struck = λ x failure is. absurd (cc (is, clear x));
          };
          handled = handled_ended (handling head (Told Ended ∷ base)) refl nobody clear
              (subst AreSingleTasks (ap (λ (b : Back). b.recovery.tasks) (sym same)) was.handled.single);
        })

-- ---- a log

-- what is told of a reading of a log
pub record IsRead (head : PortHead) (p q : List Event) (place : ℕ) (told : LogTold) : Type 0 where
  pub same_links : links head q ≡ links head p
  pub same_slots : slots q ≡ slots p
  pub same_ends : completions head q ≡ completions head p
  pub same_failures : tferr q ≡ tferr p
  pub read : drives head q ≡ changed_at_some (linked_at (links head p) place) (log_read (lowest_free (slots p)) told) (drives head p)
  pub same_standing : recovery head q ≡ recovery head p
  pub same_frozen : is_frozen q ≡ is_frozen p
  pub same_noted : tferr_noted q ≡ tferr_noted p
  pub said : logs q ≡ slice_set (logs p) place (Some told)

some_told : (a b : LogTold) → Some a ≡ Some b → a ≡ b
some_told a b e = cc

-- the reading of a log of a place at which no failure stands
pub read_made :
    (head : PortHead) (p q : List Event) (place : ℕ) (told : LogTold) → IsRead head p q place told → slice_index_or (tferr p) place None ≡ None
    → AreDriven head p → AreHandled (handling head p) → AreDriven head q × AreHandled (handling head q)
read_made head p q place told r clear driven handled = (
  driven_log head p driven q place told r.same_links r.same_slots r.same_ends r.same_failures r.read clear,
  handled_less (handling head p) (handling head q) handled r.same_standing r.same_frozen r.same_noted
      (λ x d v linked at by old tag regs is.
      elim (read_put (logs p) place x (Some told) None) [
        | inl here ↦
            let page : told ≡ Page tag regs = some_told told (Page tag regs) (sym here.1 ∙ ap (λ l. slice_index_or l x None) (sym r.said) ∙ is) in
            let link : linked_at (links head p) place ≡ Some d =
            ap (linked_at (links head p)) (sym here.0) ∙ ap (λ l. linked_at l x) (sym r.same_links) ∙ linked in
            let w = get_changed_if (drives head p) (linked_at (links head p) place) (log_read (lowest_free (slots p)) told) d v
            (ap (λ l. slice_get l d) (sym r.read) ∙ at) in
            elim w.now [
              | inl now ↦ by (ap (λ (y : DriveView). y.stopped) now.1 ∙ ap (λ t. (log_read (lowest_free (slots p)) t w.x).stopped) page)
              | inr other ↦ other.0 link
            ]
        | inr there ↦ old tag regs (sym there ∙ ap (λ l. slice_index_or l x None) (sym r.said) ∙ is)
      ])
      (λ x f is. ap (λ l. slice_index_or l x None) (sym r.same_failures) ∙ is)
      (λ tag f here. record { flight = f; here = ap (λ s. flight_at s tag) (sym r.same_slots) ∙ here; n = refl; place = refl; owned = refl })
      (λ x d v linked at. like_log (handling head p) (lowest_free (slots p)) told (linked_at (links head p) place) x d v
      (ap (λ l. linked_at l x) (sym r.same_links) ∙ linked) (ap (λ l. slice_get l d) (sym r.read) ∙ at)),
)

module _ (head : PortHead) (past : List Event) (time : ℕ) (who : Who) (seq : ℕ) (was : IsWhole head past) (running : is_running past ≡ true) (early : is_autopsied past ≡ false) (cool : is_frozen past ≡ false) where
  -- before the autopsy nothing failed that isn't served, where the port isn't frozen
  pub none_failed_early : (x : ℕ) → slice_index_or (tferr past) x None ≡ None
  none_failed_early x = by (slice_index_or (tferr past) x None) refl
    where
      by : (found : Option FailedIssue) → slice_index_or (tferr past) x None ≡ found → slice_index_or (tferr past) x None ≡ None
      by None is = is
      by (Some failure) is =
          let s = was.driven.struck x failure is in
          let free = was.handled.cold (ap (λ b. b && is_autopsied past) running ∙ early) cool x failure is s.tag s.flight s.here s.number in
          absurd (cc (free, was.stands.guarded.owned running s.tag s.flight s.here))

  -- the reading, and what is aborted after it
  read_then :
      (place : ℕ) (act : Act) (told : LogTold) (rest : List Act) → is_no_issue act ≡ true
      → IsRead head (Entered time who seq Recover ∷ past) (Told act ∷ Entered time who seq Recover ∷ past) place told
      → list_all is_free rest ≡ true → list_all is_behind rest ≡ true → list_all is_no_issue rest ≡ true → list_all is_no_mark rest ≡ true → list_all is_frosty rest ≡ true
      → IsMade head (onto (Entered time who seq Recover ∷ past) (act ∷ rest))
  read_then place act told rest issue r free behind none mark frost =
      let start : List Event = Entered time who seq Recover ∷ past in
      let q : List Event = Told act ∷ start in
      let m = read_made head start q place told r (none_failed_early place) (driven_began head past time who seq Recover was.driven) was.handled in
      record {
        unmixed = unmixed_onto start (act ∷ rest) (rw issue none) was.unmixed;
        driven = free_onto head q rest free m.0;
        handled = behind_handled head q rest behind none mark (left_alone is_frosty is_frozen frosty_step q rest frost) m.1;
      }

  failed_made : (place : ℕ) → IsMade head (onto (Entered time who seq Recover ∷ past) (LogFailed place ∷ []))
  failed_made place =
      read_then place (LogFailed place) NoPage [] refl
      (record {
        same_links = refl;
        same_slots = refl;
        same_ends = refl;
        same_failures = refl;
        read = refl;
        same_standing = refl;
        same_frozen = refl;
        same_noted = refl;
        said = refl;
      }) refl refl refl refl refl

  aborts : (kind : Act → Bool) (holds : List Held) → ((number : IssueNo) → kind (Aborted number) ≡ true) → list_all kind (aborted_acts holds) ≡ true
  aborts kind holds is = all_aborted kind holds is

  fault_made :
      (place : ℕ) (v : DriveView) (e : QueuedError) (fault : Option LogFault)
      → IsMade head (onto (Entered time who seq Recover ∷ past) (log_read_acts place v.held e fault))
  fault_made place v e None =
      read_then place (page_act place e.tag e.regs) (Page e.tag (registers e.regs.status e.regs.error e.regs.lba e.regs.count)) (aborted_acts v.held) refl
      (record {
        same_links = refl;
        same_slots = refl;
        same_ends = refl;
        same_failures = refl;
        read = refl;
        same_standing = refl;
        same_frozen = refl;
        same_noted = refl;
        said = refl;
      }) (aborts is_free v.held (λ n. refl)) (aborts is_behind v.held (λ n. refl)) (aborts is_no_issue v.held (λ n. refl)) (aborts is_no_mark v.held (λ n. refl)) (aborts is_frosty v.held (λ n. refl))
  fault_made place v e (Some Fail) = failed_made place
  fault_made place v e (Some Sum) =
      read_then place (LogBadSum place) BadPage (aborted_acts v.held) refl
      (record {
        same_links = refl;
        same_slots = refl;
        same_ends = refl;
        same_failures = refl;
        read = refl;
        same_standing = refl;
        same_frozen = refl;
        same_noted = refl;
        said = refl;
      }) (aborts is_free v.held (λ n. refl)) (aborts is_behind v.held (λ n. refl)) (aborts is_no_issue v.held (λ n. refl)) (aborts is_no_mark v.held (λ n. refl)) (aborts is_frosty v.held (λ n. refl))
  fault_made place v e (Some NotQueued) =
      read_then place (LogNotQueued place) BadPage (aborted_acts v.held) refl
      (record {
        same_links = refl;
        same_slots = refl;
        same_ends = refl;
        same_failures = refl;
        read = refl;
        same_standing = refl;
        same_frozen = refl;
        same_noted = refl;
        said = refl;
      }) (aborts is_free v.held (λ n. refl)) (aborts is_behind v.held (λ n. refl)) (aborts is_no_issue v.held (λ n. refl)) (aborts is_no_mark v.held (λ n. refl)) (aborts is_frosty v.held (λ n. refl))
  fault_made place v e (Some (IdleTag t)) =
      read_then place (page_act place t e.regs) (Page t (registers e.regs.status e.regs.error e.regs.lba e.regs.count)) (aborted_acts v.held) refl
      (record {
        same_links = refl;
        same_slots = refl;
        same_ends = refl;
        same_failures = refl;
        read = refl;
        same_standing = refl;
        same_frozen = refl;
        same_noted = refl;
        said = refl;
      }) (aborts is_free v.held (λ n. refl)) (aborts is_behind v.held (λ n. refl)) (aborts is_no_issue v.held (λ n. refl)) (aborts is_no_mark v.held (λ n. refl)) (aborts is_frosty v.held (λ n. refl))

  stopped_made : (place : ℕ) (v : DriveView) (e : Option QueuedError) → IsMade head (onto (Entered time who seq Recover ∷ past) (stopped_acts place (lowest_free (slots past)) v e))
  stopped_made place v None = failed_made place
  stopped_made place v (Some e) = fault_made place v e (log_fault_of v.counts (lowest_free (slots past)))

  view_made : (place : ℕ) (v : Option DriveView) → IsMade head (onto (Entered time who seq Recover ∷ past) (drive_log_acts place (lowest_free (slots past)) v))
  view_made place None = failed_made place
  view_made place (Some v) = stopped_made place v v.stopped

  -- the reading of a log
  pub log_made : (place : ℕ) → IsMade head (onto (Entered time who seq Recover ∷ past) (log_acts head past place))
  log_made place = view_made place (drive_at head past place)
