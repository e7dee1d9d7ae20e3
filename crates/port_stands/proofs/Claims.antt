-- A place that has the port to itself has something to do there.
use Rattle.std.proofs.Common.{◌≡◌, ◌∙◌, ℕ, Bool, true, false, not, ◌&&◌, ◌||◌, List, [], ◌∷◌, ◌++◌, Option, None, Some, inl, inr, is_none, refl, sym, ap, subst, arith, if◌then◌else◌}
use Rattle.std.specs.List.{list_all}
use Rattle.std.specs.Option.{option_map_or}
use Rattle.std.specs.Prelude.{slice_index}
use Rattle.ata_base.specs.Reasons.{first_reason}
use Rattle.ata_base.specs.declared.cmd.Cmd.{Cmd}
use Rattle.ata_base.specs.declared.op.Op.{Op}
use Rattle.ata_script.specs.declared.port_head.PortHead.{PortHead}
use Rattle.ata_trace.specs.Entries.{EntryView, grown, past_from, past_of}
use Rattle.ata_trace.specs.Event.{Event, onto}
use Rattle.ata_trace.specs.Event.Event.{Entered, Told}
use Rattle.ata_trace.specs.declared.act.Act.{Act}
use Rattle.ata_trace.specs.declared.act.Act.TheVariants.{Accepted, Refused, AnsweredNodev, Condemned, Exclusive, Begun, Nothing, Deferred, WaitingTag, Frozen as FrozenAct, Requested}
use Rattle.ata_trace.specs.declared.refusal.Refusal.{Refusal}
use Rattle.ata_trace.specs.declared.step.Step.{Step}
use Rattle.ata_trace.specs.declared.step.Step.TheVariants.{Submit, Kick, Work, Irq, Drop, Stray, Tick, Expire, Recover, Plug, Unplug, Inject, Boot}
use Rattle.ata_trace.specs.declared.who.Who.{Who}
use Rattle.ata_trace.specs.declared.who.Who.TheVariants.{Boot as ByBoot}
use Rattle.host_defer.specs.Obstacles.{is_link_busy, is_port_busy as is_port_taken, has_no_tag}
use Rattle.ata_base.specs.declared.deferral.Deferral.{Deferral}
use Rattle.ata_base.specs.declared.deferral.Deferral.TheVariants.{Frozen, Recovering, LinkBusy, PortBusy, NoTag}
use Rattle.host_queue.specs.Waiting.{waiting_at, front_of}
use Rattle.host_tags.specs.Marks.{condemned}
use Rattle.host_tags.specs.Slots.{free_below}
use Rattle.host_tags.specs.declared.in_flight.InFlight.{InFlight}
use Rattle.port_past.specs.Causes.{tferr}
use Rattle.port_past.specs.Clock.{clock}
use Rattle.port_past.specs.Commands.{commands, place_of, is_gone}
use Rattle.port_past.specs.Attachment.{detachments}
use Rattle.port_past.specs.Completions.{completions}
use Rattle.port_past.specs.Exclusive.{exclusive}
use Rattle.port_past.specs.PortState.{is_frozen, is_asked, is_running, is_recovering}
use Rattle.port_past.specs.Identities.{depth_at}
use Rattle.port_past.specs.Line.{is_irq_served}
use Rattle.port_past.specs.Queues.{queues}
use Rattle.port_past.specs.Slots.{slots}
use Rattle.port_rules.specs.Boot.{boot_acts, boot_entry}
use Rattle.port_rules.specs.Sorting.{ok_answers, condemnations}
use Rattle.port_rules.specs.Interrupt.{served_acts, irq_acts, must_freeze, must_request, no_kinds, has_failed}
use Rattle.port_rules.specs.Kick.{is_for_port, is_queued, outline, view_of, tag_limit, issued_acts, deferred_or_issued, command_acts, front_acts, kick_acts}
use Rattle.port_rules.specs.Legal.{legal_acts, entry_after, AreLegal, HasLegalActs, IsLegal}
use Rattle.port_rules.specs.Phase.{phase}
use Rattle.port_rules.specs.Begin.{begin_acts}
use Rattle.port_rules.specs.Recover.{recover_acts}
use Rattle.port_rules.specs.Submit.{refusal_of, refused_or_accepted}
use Rattle.port_rules.specs.Told.{told_if, or_nothing}
use Rattle.port_stands.proofs.All.{all_after, boot_all}
use Rattle.port_stands.proofs.Blocks.{all_append, all_wider}
use Rattle.ata_base.proofs.EachLemmas.{every_front}
use Rattle.port_past.proofs.Sizes.{length_slots}
use Rattle.port_stands.proofs.Lists.{all_condemnations, all_told, all_answers}
use Rattle.port_stands.proofs.Phases.{phase_is}
use Rattle.port_stands.proofs.Recovering.{HasRecovery, all_recover}
use Rattle.port_stands.proofs.Recovers.{is_rest, RecoverDoes, recover_does}
use Rattle.port_stands.proofs.Recovers.RecoverDoes.{Rests, Begins, Reads, Examines, DoesRow, Identifies, Ends}
use Rattle.port_stands.proofs.Silence.{boot_kind}
use Rattle.port_stands.proofs.StandingKinds.{all_expire}
use Rattle.port_stands.proofs.StandingSteps.{place_within}
use Rattle.port_stands.proofs.Steps.{all_work, all_drop, all_stray, all_tick, all_plug, all_unplug, all_inject}
use Rattle.port_stands.proofs.Wholes.{given_free}
use Rattle.port_stands.specs.All.{AllStands}
use Rattle.port_stands.specs.Claims.{AreClaimed}
use Rattle.port_stands.specs.Known.{IsWaiting}
use Rattle.port_stands.proofs.Heads.{HasOnePlace}
use Rattle.port_stands.proofs.ClaimsLeft.{leaves_hold, moved, same_claimed, left_claimed, is_no_claim, nothing_onto, nothing_claimed, is_serving, serving_onto, front_joined, front_served, put_here, put_beside}

-- ---- entries

module _ (head : PortHead) (past : List Event) (time : ℕ) (who : Who) (seq : ℕ) (step : Step) (all : AllStands head past) (was : AreClaimed past) where
  abbrev start : List Event
  start = Entered time who seq step ∷ past

  begun_claimed : AreClaimed (Entered time who seq step ∷ past)
  begun_claimed = same_claimed past (Entered time who seq step ∷ past) refl was

  left_entry : (acts : List Act) → list_all leaves_hold acts ≡ true → AreClaimed (onto (Entered time who seq step ∷ past) acts)
  left_entry acts leaves = left_claimed (Entered time who seq step ∷ past) acts leaves begun_claimed

  serving_entry : (acts : List Act) → list_all is_serving acts ≡ true → AreClaimed (onto (Entered time who seq step ∷ past) acts)
  serving_entry acts kind = serving_onto (Entered time who seq step ∷ past) acts kind all.whole.stands.numbered.apart begun_claimed

  -- ---- a kick

  fact_place : (place : ℕ) (cmd : Cmd) → front_of (queues past) place ≡ Some cmd → (cmd.place ≡ place) × (place_of cmd.id (commands past) ≡ place)
  fact_place place cmd waiting =
      let w : IsWaiting (commands past) place cmd = every_front (IsWaiting (commands past) place) (waiting_at (queues past) place) cmd waiting (all.whole.stands.known.waiting place) in
      (w.there, ap (λ o. option_map_or (λ (c : Cmd). c.place) o 0) w.known.found ∙ w.known.there ∙ w.there)

  gone_claimed : (place : ℕ) (cmd : Cmd) → front_of (queues past) place ≡ Some cmd → is_gone cmd (detachments past) ≡ true → AreClaimed (onto (Entered time who seq step ∷ past) (AnsweredNodev cmd.id (record { n = 0 }) ∷ []))
  gone_claimed place cmd waiting gone =
      let q : List Event = Told (AnsweredNodev cmd.id (record { n = 0 })) ∷ Entered time who seq step ∷ past in
      moved past q (λ x is. (
        is,
        (
          λ idle. idle,
          (
            λ busy. inl (record {
              tag = busy.tag;
              flight = busy.flight;
              here = busy.here;
              there = busy.there;
            }),
            λ front. elim (front_served (queues past) (place_of cmd.id (commands past)) x front.cmd front.waiting) [
              | inl same ↦
                  let e : Some front.cmd ≡ Some cmd = sym front.waiting ∙ ap (front_of (queues past)) (same ∙ (fact_place place cmd waiting).1) ∙ waiting in
                  absurd (cc (gone, front.current, ap (λ (o : Option Cmd). option_map_or (λ c. is_gone c (detachments past)) o false) e))
              | inr stays ↦ inr (record { cmd = front.cmd; waiting = stays; current = front.current })
            ],
          ),
        ),
      )) was

  module _ (place : ℕ) (cmd : Cmd) (queued : Bool) (waiting : front_of (queues past) place ≡ Some cmd) (current : is_gone cmd (detachments past) ≡ false) where
    issue_claimed : (found : Option ℕ) → free_below (tag_limit past cmd.place queued) (slots past) ≡ found → AreClaimed (onto (Entered time who seq step ∷ past) (issued_acts head past cmd queued found))
    issue_claimed None free = left_entry (Nothing ∷ []) refl
    issue_claimed (Some tag) free =
        let g = given_free (tag_limit past cmd.place queued) tag past free in
        moved past (onto (Entered time who seq step ∷ past) (issued_acts head past cmd queued (Some tag))) (λ x is. (
          is,
          (
            λ idle. idle,
            (
              λ busy. inl (record {
                tag = busy.tag;
                flight = busy.flight;
                here = put_beside (slots past) tag busy.tag _ busy.flight g.1 busy.here;
                there = busy.there;
              }),
              λ front. elim (front_served (queues past) (place_of cmd.id (commands past)) x front.cmd front.waiting) [
                | inl same ↦ inl (record {
                  tag = tag;
                  flight = _;
                  here = put_here (slots past) tag _ (omega (arith, g.0, length_slots past));
                  there = sym same;
                })
                | inr stays ↦ inr (record { cmd = front.cmd; waiting = stays; current = front.current })
              ],
            ),
          ),
        )) was

    waits_claimed : (why : Deferral) → (is_for_port why ≡ true → is_running past ≡ false) → AreClaimed (onto (Entered time who seq step ∷ past) (deferred_or_issued head past cmd queued (Some why)))
    waits_claimed why idle = by (is_for_port why) (is_none (exclusive past)) refl
      where
        q : List Event
        q = Told (Deferred cmd.id why) ∷ Entered time who seq step ∷ past

        by : (b none : Bool) → is_for_port why ≡ b → AreClaimed (onto (Told (Deferred cmd.id why) ∷ Entered time who seq step ∷ past) (told_if (b && none) (Exclusive cmd.place)))
        by false none e = left_entry (Deferred cmd.id why ∷ []) refl
        by true false e = left_entry (Deferred cmd.id why ∷ []) refl
        by true true e = λ x is.
            let same : cmd.place ≡ x = cc (is) in
            record {
              idle = idle e;
              used = inr (record { cmd = cmd; waiting = ap (front_of (queues past)) (sym same ∙ (fact_place place cmd waiting).0) ∙ waiting; current = current });
            }

    or_none : (a b : Bool) → (a || b) ≡ false → b ≡ false
    or_none true b e = absurd (cc)
    or_none false b e = e

    never_busy : {A : Type 0} (why : Deferral) → is_for_port why ≡ false → is_for_port why ≡ true → A
    never_busy why isnt is = absurd (cc)

    command_claimed :
        (frozen recovering busy taken full : Bool) → is_recovering past ≡ recovering
        → AreClaimed (onto (Entered time who seq step ∷ past) (deferred_or_issued head past cmd queued
        (first_reason
        ((Frozen, frozen) ∷ (Recovering, recovering) ∷ (LinkBusy, busy) ∷ (PortBusy, taken) ∷ (NoTag, full) ∷ []))))
    command_claimed true recovering busy taken full r = waits_claimed Frozen (λ e. never_busy Frozen refl e)
    command_claimed false true busy taken full r = waits_claimed Recovering (λ e. never_busy Recovering refl e)
    command_claimed false false true taken full r = waits_claimed LinkBusy (λ e. never_busy LinkBusy refl e)
    command_claimed false false false true full r = waits_claimed PortBusy (λ e. or_none (is_asked past) (is_running past) r)
    command_claimed false false false false true r = waits_claimed NoTag (λ e. never_busy NoTag refl e)
    command_claimed false false false false false r = issue_claimed (free_below (tag_limit past cmd.place queued) (slots past)) refl

  cmd_claimed :
      (place : ℕ) (cmd : Cmd) (gone : Bool) → front_of (queues past) place ≡ Some cmd → is_gone cmd (detachments past) ≡ gone
      → AreClaimed (onto (Entered time who seq step ∷ past) (if gone then AnsweredNodev cmd.id (record { n = 0 }) ∷ [] else command_acts head past cmd (is_queued past cmd.place cmd.op)))
  cmd_claimed place cmd true waiting gone = gone_claimed place cmd waiting gone
  cmd_claimed place cmd false waiting gone =
      let queued : Bool = is_queued past cmd.place cmd.op in
      command_claimed place cmd queued waiting gone (is_frozen past) (is_recovering past)
      (is_link_busy (outline (slots past)) cmd.place queued) (is_port_taken (view_of head past) cmd.place)
      (has_no_tag (outline (slots past)) queued (depth_at past cmd.place)) refl

  front_claimed : (place : ℕ) (front : Option Cmd) → front_of (queues past) place ≡ front → AreClaimed (onto (Entered time who seq step ∷ past) (front_acts head past front))
  front_claimed place None waiting = left_entry (Nothing ∷ []) refl
  front_claimed place (Some cmd) waiting = cmd_claimed place cmd (is_gone cmd (detachments past)) waiting refl

  kick_claimed : (place : ℕ) → AreClaimed (onto (Entered time who seq step ∷ past) (kick_acts head past place))
  kick_claimed place = front_claimed place (front_of (queues past) place) refl

  -- ---- an interrupt and the timer

  irq_claimed : AreClaimed (onto (Entered time who seq step ∷ past) (irq_acts head past))
  irq_claimed = by (is_irq_served past)
    where
      told : List Act
      told = ok_answers (slots past) (completions head past)

      marks : List Act
      marks = condemnations (λ f. must_freeze head past || has_failed (tferr past) f) no_kinds (slots past) (completions head past)

      more : (kind : Act → Bool) → ((f : InFlight) → kind (Condemned f.number no_kinds) ≡ true) → kind FrozenAct ≡ true → kind Requested ≡ true
          → (list_all kind (condemnations (λ f. must_freeze head past || has_failed (tferr past) f) no_kinds (slots past) (completions head past)) ≡ true)
          × ((list_all kind (told_if (must_freeze head past) FrozenAct) ≡ true) × (list_all kind (told_if (must_request head past && not (is_asked past)) Requested) ≡ true))
      more kind condemned freezes asks = (
        all_condemnations kind (λ f. must_freeze head past || has_failed (tferr past) f) no_kinds condemned (slots past) (completions head past),
        (all_told kind (must_freeze head past) FrozenAct freezes, all_told kind (must_request head past && not (is_asked past)) Requested asks),
      )

      serving : list_all is_serving (served_acts head past) ≡ true
      serving =
          let k : Act → Bool = is_serving in
          let m = more k (λ f. refl) refl refl in
          all_append k (told ++ marks ++ told_if (must_freeze head past) FrozenAct) (told_if (must_request head past && not (is_asked past)) Requested)
          (all_append k (told ++ marks) (told_if (must_freeze head past) FrozenAct)
          (all_append k told marks (all_answers k (λ f e. refl) (slots past) (completions head past)) m.0) m.1.0) m.1.1

      or_nothing_claimed : (acts : List Act) → AreClaimed (onto (Entered time who seq step ∷ past) acts) → AreClaimed (onto (Entered time who seq step ∷ past) (or_nothing acts))
      or_nothing_claimed [] c = left_entry (Nothing ∷ []) refl
      or_nothing_claimed (act ∷ rest) c = c

      by : (b : Bool) → AreClaimed (onto (Entered time who seq step ∷ past) (if b then or_nothing (served_acts head past) else Nothing ∷ []))
      by true = or_nothing_claimed (served_acts head past) (serving_entry (served_acts head past) serving)
      by false = left_entry (Nothing ∷ []) refl

  -- ---- a recover step

  claims_recovery : (n : ℕ) → HasRecovery is_no_claim n
  claims_recovery n = record {
    nothing = refl;
    waiting = λ t. refl;
    answered = λ f e. refl;
    condemned = λ f k. refl;
    frozen = refl;
    thawed = refl;
    logs = record { page = λ p t s e l c. refl; failed = λ p. refl; bad_sum = λ p. refl; not_queued = λ p. refl; aborted = λ n. refl };
    autopsy = λ p w. record { judged = λ n k. refl; recorded = λ i d k n s o e a. refl; cleared = refl; hot = λ g. refl };
    action = λ p k r w. refl;
    host_begun = λ d. refl;
    host_ended = refl;
    begun = λ p a d. refl;
    reset = λ p w. record { ended = λ g. refl; none = refl; late = refl; failed = refl; disabled = refl; detached = refl; waiting = refl };
    asked = λ p a d. refl;
    identity = λ p w. record { identified = λ i. refl; same = refl; attached = refl; detached = refl; disabled = refl; mode = λ u o d. refl; late = refl; waiting = refl };
    finish = record { nodev = λ i n. refl; retried = λ i n r. refl; failed = λ i n j. refl };
    ended = refl;
  }

  recover_all : list_all is_no_claim (recover_acts head past) ≡ true
  recover_all =
      all_recover is_no_claim head past (claims_recovery head.places) refl refl
      (place_within head past time who seq step all.whole.stands (phase head past) (sym (phase_is head past)))

  -- while recovery runs nothing is exclusive
  running_none : is_running past ≡ true → exclusive past ≡ None
  running_none runs = by (exclusive past) refl
    where
      by : (o : Option ℕ) → exclusive past ≡ o → exclusive past ≡ None
      by None e = e
      by (Some x) e = absurd (cc (runs, (was x e).idle))

  running_claimed : is_running past ≡ true → AreClaimed (onto (Entered time who seq step ∷ past) (recover_acts head past))
  running_claimed runs =
      nothing_claimed (onto (Entered time who seq step ∷ past) (recover_acts head past))
      (nothing_onto (Entered time who seq step ∷ past) (recover_acts head past) recover_all (running_none runs))

  rest_holds : (act : Act) → is_rest act ≡ true → leaves_hold act ≡ true
  rest_holds Nothing is = refl
  rest_holds (WaitingTag tag) is = refl
  rest_holds act is = absurd (cc)

  recover_claimed : AreClaimed (onto (Entered time who seq step ∷ past) (recover_acts head past))
  recover_claimed = by (is_running past) refl
    where
      begun_tail : (acts : List Act) → acts ≡ begin_acts head past → list_all is_no_claim acts ≡ true → exclusive (onto (Entered time who seq step ∷ past) acts) ≡ None
      begun_tail [] is free = absurd (cc)
      begun_tail (Begun ∷ rest) is free = nothing_onto (Told Begun ∷ Entered time who seq step ∷ past) rest free refl
      begun_tail (act ∷ rest) is free = absurd (cc)

      idle_by : {acts : List Act} → is_running past ≡ false → list_all is_no_claim acts ≡ true → RecoverDoes head past acts → AreClaimed (onto (Entered time who seq step ∷ past) acts)
      idle_by {acts} idle free (Rests i rests) = left_entry acts (all_wider is_rest leaves_hold rest_holds acts rests)
      idle_by {acts} idle free (Begins begin) = nothing_claimed (onto (Entered time who seq step ∷ past) acts) (begun_tail acts begin.told free)
      idle_by {acts} idle free (Reads log) = absurd (cc (idle, log.running))
      idle_by {acts} idle free (Examines autopsy) = absurd (cc (idle, autopsy.running))
      idle_by {acts} idle free (DoesRow row modeless) = absurd (cc (idle, row.running))
      idle_by {acts} idle free (Identifies identity) = absurd (cc (idle, identity.row.running))
      idle_by {acts} idle free (Ends end) = absurd (cc (idle, end.task.running))

      by : (b : Bool) → is_running past ≡ b → AreClaimed (onto (Entered time who seq step ∷ past) (recover_acts head past))
      by true e = running_claimed e
      by false e = idle_by e recover_all (recover_does head past)

module _ (head : PortHead) (past : List Event) (who : Who) (seq : ℕ) (all : AllStands head past) (was : AreClaimed past) where
  submit_claimed :
      (id place : ℕ) (op : Op) (allow wait : ℕ) (why : Option Refusal) → AreClaimed (onto (Entered (clock past) who seq (Submit id place op allow wait) ∷ past) (refused_or_accepted id why))
  submit_claimed id place op allow wait (Some why) = left_entry head past (clock past) who seq (Submit id place op allow wait) all was (Refused id why ∷ []) refl
  submit_claimed id place op allow wait None =
      let c : Cmd = record {
        id = id;
        place = place;
        op = op;
        allow = allow;
        retries = 0;
        wait = record { n = wait };
        attachment = slice_index (detachments past) place;
      } in
      moved past (onto (Entered (clock past) who seq (Submit id place op allow wait) ∷ past) (Accepted id ∷ [])) (λ x is. (
        is,
        (
          λ idle. idle,
          (
            λ busy. inl (record { tag = busy.tag; flight = busy.flight; here = busy.here; there = busy.there }),
            λ front. inr (record { cmd = front.cmd; waiting = front_joined (queues past) c x front.cmd front.waiting; current = front.current }),
          ),
        ),
      )) was

  quiet_claimed : (step : Step) → list_all leaves_hold (legal_acts head past step) ≡ true → AreClaimed (grown past (entry_after head past who seq step))
  quiet_claimed step leaves = left_entry head past (clock past) who seq step all was (legal_acts head past step) leaves

  pub claimed_after : (step : Step) → AreClaimed (grown past (entry_after head past who seq step))
  claimed_after (Submit id place op allow wait) = submit_claimed id place op allow wait (refusal_of past id place op)
  claimed_after (Kick place) = kick_claimed head past (clock past) who seq (Kick place) all was place
  claimed_after (Work place pick) = quiet_claimed (Work place pick) (all_work leaves_hold head past place pick refl refl (λ n s e l c. refl))
  claimed_after Irq = irq_claimed head past (clock past) who seq Irq all was
  claimed_after Drop = quiet_claimed Drop (all_drop leaves_hold past refl refl)
  claimed_after (Stray tag) = quiet_claimed (Stray tag) (all_stray leaves_hold past refl refl)
  claimed_after (Tick ms) = quiet_claimed (Tick ms) (all_tick leaves_hold past ms refl (λ t. refl))
  claimed_after Expire =
      serving_entry head past (clock past) who seq Expire all was (legal_acts head past Expire)
      (all_expire is_serving head past (λ f. refl) refl refl refl)
  claimed_after Recover = recover_claimed head past (clock past) who seq Recover all was
  claimed_after (Plug place drive) = quiet_claimed (Plug place drive) (all_plug leaves_hold head past place drive refl refl refl)
  claimed_after (Unplug place) = quiet_claimed (Unplug place) (all_unplug leaves_hold head past place refl refl refl)
  claimed_after (Inject place fault) = quiet_claimed (Inject place fault) (all_inject leaves_hold head past place fault refl refl refl)
  claimed_after Boot = quiet_claimed Boot refl

module _ (head : PortHead) (fits : HasOnePlace head) where
  entries_claimed : (past : List Event) (entries : List EntryView) → AllStands head past → AreClaimed past → AreLegal head past entries → AreClaimed (past_from past entries)
  entries_claimed past [] all was legal = was
  entries_claimed past (r ∷ rest) all was legal =
      entries_claimed (grown past r) rest
      (subst (λ x. AllStands head (grown past x)) (sym legal.0) (all_after head fits past r.who r.seq r.step all))
      (subst (λ x. AreClaimed (grown past x)) (sym legal.0) (claimed_after head past r.who r.seq all was r.step)) legal.1

  acts_by : (journal : List EntryView) → HasLegalActs head journal → AreClaimed (past_of journal)
  acts_by [] legal = absurd legal
  acts_by (first ∷ rest) legal =
      entries_claimed (grown [] first) rest
      (subst (λ x. AllStands head (grown [] x)) (sym legal.0) (boot_all head))
      (subst (λ x. AreClaimed (grown [] x)) (sym legal.0)
      (nothing_claimed (grown [] (boot_entry head))
      (nothing_onto (Entered 0 ByBoot 0 Boot ∷ []) (boot_acts head) (boot_kind head is_no_claim refl (λ p i. refl) (λ p. refl) (λ p o. refl)) refl))) legal.1

  journal_by : (journal : List EntryView) → IsLegal head journal → AreClaimed (past_of journal)
  journal_by journal legal = acts_by journal legal.acts

-- between entries of a legal journal an exclusive place is claimed
pub journal_claimed : (head : PortHead) → HasOnePlace head → (journal : List EntryView) → IsLegal head journal → AreClaimed (past_of journal)
journal_claimed head fits journal legal = journal_by head fits journal legal
