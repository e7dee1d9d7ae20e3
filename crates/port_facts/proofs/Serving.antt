-- The acts of a submit, a kick and an interrupt are allowed, and those of a recovery that begins or finishes.
use Rattle.std.proofs.Common.{◌≡◌, ◌∙◌, ℕ, ◌&&◌, ◌||◌, ◌==◌, inl, Bool, true, false, not, List, [], ◌∷◌, ◌++◌, Option, None, Some, option_map, take, is_none, slice_index, refl, ap, arith, length-take, if◌then◌else◌, slice_get, option_and_then}
use Rattle.std.specs.List.{list_any, slice_index_or}
use Rattle.std.proofs.lemmas.Bool.{not-false}
use Rattle.std.proofs.lemmas.List.Quantifiers.{position-Some}
use Rattle.ata_base.specs.declared.cmd.Cmd.{Cmd}
use Rattle.ata_base.specs.declared.err_mask.ErrMask.{ErrMask}
use Rattle.ata_base.specs.declared.op.Op.{Op}
use Rattle.ata_script.specs.declared.port_head.PortHead.{PortHead}
use Rattle.ata_trace.specs.Event.{Event}
use Rattle.ata_trace.specs.Event.Event.{Entered, Told}
use Rattle.ata_trace.specs.declared.act.Act.{Act}
use Rattle.ata_trace.specs.declared.act.Act.TheVariants.{Begun, Condemned, AnsweredNodev, Nothing, Frozen as FrozenAct, Requested}
use Rattle.ata_trace.specs.declared.refusal.Refusal.TheVariants.{SameId, NoDevice, BadCount, BadRange}
use Rattle.ata_trace.specs.declared.step.Step.{Step}
use Rattle.ata_trace.specs.declared.step.Step.TheVariants.{Submit, Kick, Irq, Work}
use Rattle.ata_trace.specs.declared.who.Who.{Who}
use Rattle.host_defer.specs.Obstacles.{is_link_busy, is_port_busy, is_elsewhere, is_taken, has_no_tag}
use Rattle.ata_base.specs.declared.deferral.Deferral.TheVariants.{Frozen, Recovering, LinkBusy, PortBusy, NoTag}
use Rattle.host_queue.specs.Waiting.{front_of}
use Rattle.host_tags.proofs.SlotLemmas.{free_below_free}
use Rattle.host_tags.specs.Slots.{free_below}
use Rattle.host_tags.specs.declared.in_flight.InFlight.{InFlight}
use Rattle.port_past.specs.Causes.{tferr}
use Rattle.port_past.specs.Commands.{commands, command_of, is_accepted, is_gone}
use Rattle.port_past.specs.Attachment.{attached, detachments}
use Rattle.port_past.specs.Completions.{completions}
use Rattle.port_past.specs.Exclusive.{exclusive}
use Rattle.port_past.specs.PortState.{is_frozen, is_asked, is_recovering, is_running}
use Rattle.port_past.specs.Identities.{sectors_at, depth_at}
use Rattle.port_past.specs.Line.{is_irq_served}
use Rattle.port_past.specs.Queues.{queues}
use Rattle.port_past.specs.Slots.{slots}
use Rattle.port_past.specs.declared.completion.Completion.{Completion}
use Rattle.port_rules.specs.Finish.{finish_acts, finishes}
use Rattle.port_rules.specs.Sorting.{ok_answers, condemnations}
use Rattle.port_rules.specs.Interrupt.{served_acts, irq_acts, no_kinds, has_failed, must_freeze, must_request}
use Rattle.port_rules.specs.Kick.{is_queued, outline, view_of, tag_limit, frame_port, issued_acts, deferred_or_issued, command_acts, front_acts, kick_acts}
use Rattle.port_rules.specs.Begin.{begin_acts, with_freeze, timed_out}
use Rattle.port_rules.specs.Submit.{has_count, is_on_device, refused_or_accepted, submit_acts}
use Rattle.port_rules.specs.Told.{or_nothing, told_if}
use Rattle.ata_base.specs.Reasons.{first_reason}
use Rattle.port_facts.specs.Open.{IsOpen}
use Rattle.port_facts.specs.Allowed.{IsFront, IsAllowed, AreAllowed}
use Rattle.port_facts.proofs.Allowed.{allowed_append, or_nothing_allowed}
use Rattle.drive_model.specs.Holding.{picked}
use Rattle.drive_model.specs.View.{DriveView}
use Rattle.drive_model.specs.Work.{act_of}
use Rattle.drive_model.specs.declared.held.Held.{Held}
use Rattle.port_past.specs.Drives.{drives}
use Rattle.port_past.specs.Links.{links, linked_at}
use Rattle.port_rules.specs.Work.{ended_acts, worked_acts, work_acts}
use Rattle.drive_model.proofs.Picked.{picked_found}
use Rattle.port_facts.proofs.Kept.{KeepsAll, kept_all}
use Rattle.port_past.proofs.EachAt.{at_get}
use Rattle.port_past.specs.Judged.{judged}
use Rattle.port_facts.proofs.Finished.{finish_leaves_none}
use Rattle.host_tags.specs.EachFlight.{AreOwned}
use Rattle.port_past.specs.JudgedSlots.{AreJudged}
use Rattle.port_facts.proofs.Known.{front_known}
use Rattle.port_facts.proofs.Numbered.{are_numbered, are_some}
use Rattle.port_facts.proofs.Once.{once_or_live}
use Rattle.port_facts.proofs.Plain.{plain_allowed, told_if_plain, raised_plain}
use Rattle.port_past.proofs.Sizes.{length_slots, attached_within}
use Rattle.port_facts.proofs.Walks.{answers_allowed, finishes_allowed, have_own}
use Rattle.port_rules.proofs.Frames.{frame_tells, queued_data}

-- ---- submit

module _ (head : PortHead) (past : List Event) (h : IsAllowed head past) (time : ℕ) (who : Who) (seq : ℕ) where
  submit_by :
      (id place : ℕ) (op : Op) (allow wait : ℕ) (same none bad_count bad_range : Bool)
      → is_accepted id (commands past) ≡ same → not (slice_index_or (attached past) place false) ≡ none
      → AreAllowed head (Entered time who seq (Submit id place op allow wait) ∷ past)
      (refused_or_accepted id (first_reason ((SameId, same) ∷ (NoDevice, none) ∷ (BadCount, bad_count) ∷ (BadRange, bad_range) ∷ [])))
  submit_by id place op allow wait true none bad_count bad_range fresh there = (tt, tt)
  submit_by id place op allow wait false true bad_count bad_range fresh there = (tt, tt)
  submit_by id place op allow wait false false true bad_range fresh there = (tt, tt)
  submit_by id place op allow wait false false false true fresh there = (tt, tt)
  submit_by id place op allow wait false false false false fresh there = (
    record {
      place = place;
      op = op;
      allow = allow;
      wait = wait;
      asked = refl;
      fresh = fresh;
      within = attached_within past place (not-false _ there);
      there = not-false _ there;
    },
    tt,
  )

  pub submit_allowed :
      (id place : ℕ) (op : Op) (allow wait : ℕ)
      → AreAllowed head (Entered time who seq (Submit id place op allow wait) ∷ past) (submit_acts past id place op)
  submit_allowed id place op allow wait =
      submit_by id place op allow wait _ _ (not (has_count op)) (not (is_on_device op (sectors_at past place))) refl refl

-- a multiplier that doesn't switch by frames has no issue elsewhere
none_elsewhere :
    (pmp fbs elsewhere taken : Bool) → (pmp && not fbs && (elsewhere || taken)) ≡ false → pmp ≡ true → fbs ≡ false
    → elsewhere ≡ false
none_elsewhere true false true taken is pmp fbs = absurd (cc)
none_elsewhere true false false taken is pmp fbs = refl
none_elsewhere true true elsewhere taken is pmp fbs = absurd (cc)
none_elsewhere false fbs elsewhere taken is pmp fbs_off = absurd (cc)

abbrev stand : Cmd → ℕ × ℕ
stand c = (c.place, c.attachment)

gone_alike : (c d : Cmd) (parted : List ℕ) → stand c ≡ stand d → is_gone c parted ≡ is_gone d parted
gone_alike c d parted same = ap (λ (s : ℕ × ℕ). not (slice_index parted s.0 == s.1)) same

loses_found :
    (id : ℕ) (past : List Event) (front : Cmd) (found : Option Cmd) → command_of id (commands past) ≡ found
    → option_map stand found ≡ Some (stand front) → is_gone front (detachments past) ≡ true
    → (c : Cmd) × ((command_of id (commands past) ≡ Some c) × (is_gone c (detachments past) ≡ true))
loses_found id past front None is same gone = absurd (cc)
loses_found id past front (Some c) is same gone =
    let alike : stand c ≡ stand front = cc in
    (c, (is, gone_alike c front (detachments past) alike ∙ gone))

module _ (head : PortHead) (past : List Event) (h : IsAllowed head past) (time : ℕ) (who : Who) (seq : ℕ) (place : ℕ) where
  abbrev is_front : (front : Cmd) → front_of (queues past) place ≡ Some front → IsFront front.id (Entered time who seq (Kick place) ∷ past)
  is_front front waiting =
      let known = front_known head past h place front waiting in
      record {
        front = front;
        same = refl;
        waiting = ap (front_of (queues past)) known.0 ∙ waiting;
        stands = known.1;
      }

  issue_allowed :
      (front : Cmd) (queued : Bool) (found : Option ℕ)
      → front_of (queues past) place ≡ Some front → is_queued past front.place front.op ≡ queued
      → is_link_busy (outline (slots past)) front.place queued ≡ false
      → is_port_busy (view_of head past) front.place ≡ false → IsOpen past
      → free_below (tag_limit past front.place queued) (slots past) ≡ found
      → AreAllowed head (Entered time who seq (Kick place) ∷ past) (issued_acts head past front queued found)
  issue_allowed front queued None waiting kind alone alone_port open_gate free = (tt, tt)
  issue_allowed front queued (Some tag) waiting kind alone alone_port open_gate free =
      let limit = tag_limit past front.place queued in
      let below = (position-Some is_none (take limit (slots past)) tag None free).0 in (
        record {
          is_front = is_front front waiting;
          queued = queued;
          next = refl;
          within = omega (arith, below, length-take limit (slots past), length_slots past);
          free = free_below_free limit tag (slots past) free;
          kind = frame_tells front.op queued tag (frame_port head front.place) (queued_data _ _ queued kind);
          alone = alone;
          one_link = none_elsewhere head.pmp head.fbs (list_any (is_elsewhere front.place) (outline (slots past)))
              (is_taken (exclusive past) front.place) alone_port;
          open_gate = record { thawed = open_gate.thawed; settled = open_gate.settled };
        },
        tt,
      )

  kick_by :
      (front : Cmd) (queued frozen recovering busy other full : Bool)
      → front_of (queues past) place ≡ Some front → is_queued past front.place front.op ≡ queued
      → is_frozen past ≡ frozen → is_recovering past ≡ recovering
      → is_link_busy (outline (slots past)) front.place queued ≡ busy → is_port_busy (view_of head past) front.place ≡ other
      → AreAllowed head (Entered time who seq (Kick place) ∷ past)
      (deferred_or_issued head past front queued
      (first_reason
      ((Frozen, frozen) ∷ (Recovering, recovering) ∷ (LinkBusy, busy) ∷ (PortBusy, other) ∷ (NoTag, full) ∷ [])))
  kick_by front queued true recovering busy other full waiting kind thawed settled alone alone_port = (tt, tt)
  kick_by front queued false true busy other full waiting kind thawed settled alone alone_port = (tt, tt)
  kick_by front queued false false true other full waiting kind thawed settled alone alone_port = (tt, tt)
  kick_by front queued false false false true full waiting kind thawed settled alone alone_port =
      (tt, plain_allowed head _ _ (told_if_plain _ _ tt))
  kick_by front queued false false false false true waiting kind thawed settled alone alone_port = (tt, tt)
  kick_by front queued false false false false false waiting kind thawed settled alone alone_port =
      issue_allowed front queued _ waiting kind alone alone_port (record { thawed = thawed; settled = settled }) refl

  gone_by :
      (front : Cmd) (gone : Bool) → front_of (queues past) place ≡ Some front → is_gone front (detachments past) ≡ gone
      → AreAllowed head (Entered time who seq (Kick place) ∷ past)
      (if gone then AnsweredNodev front.id (record { n = 0 }) ∷ []
      else command_acts head past front (is_queued past front.place front.op))
  gone_by front true waiting gone =
      let it = is_front front waiting in
      let lost = loses_found front.id past front _ refl it.stands gone in (
        record { command = lost.0; known = lost.1.0; gone = lost.1.1; here = inl (record { is_front = it; none = refl }) },
        tt,
      )
  gone_by front false waiting gone =
      let queued : Bool = is_queued past front.place front.op in
      kick_by front queued _ _ _ _ (has_no_tag (outline (slots past)) queued (depth_at past front.place)) waiting refl refl refl refl refl

  front_allowed :
      (front : Option Cmd) → front_of (queues past) place ≡ front
      → AreAllowed head (Entered time who seq (Kick place) ∷ past) (front_acts head past front)
  front_allowed None waiting = (tt, tt)
  front_allowed (Some front) waiting = gone_by front _ waiting refl

  pub kick_allowed : AreAllowed head (Entered time who seq (Kick place) ∷ past) (kick_acts head past place)
  kick_allowed = front_allowed _ refl

-- ---- work

module _ (head : PortHead) (past : List Event) (h : IsAllowed head past) (time : ℕ) (who : Who) (seq : ℕ) (place pick : ℕ) where
  picked_by :
      (w : ℕ) (v : DriveView) (found : Option Held) → linked_at (links head past) place ≡ Some w → slice_get (drives head past) w ≡ Some v
      → picked pick v ≡ found → AreAllowed head (Entered time who seq (Work place pick) ∷ past) (ended_acts past (act_of found v))
  picked_by w v None works is_view is = (tt, tt)
  picked_by w v (Some held) works is_view is =
      let kept = at_get (KeepsAll head past) (drives head past) w v (kept_all head past h) is_view in (
        record {
          drive = w;
          view = v;
          held = held;
          works = works;
          is_view = is_view;
          holds = picked_found pick v held kept.apart is;
          registers = record { status_same = refl; error_same = refl; lba_same = refl; count_same = refl };
        },
        plain_allowed head _ _ (raised_plain past),
      )

  viewed_by :
      (w : ℕ) (v : Option DriveView) → linked_at (links head past) place ≡ Some w → slice_get (drives head past) w ≡ v
      → AreAllowed head (Entered time who seq (Work place pick) ∷ past) (worked_acts past pick v)
  viewed_by w None works is_view = (tt, tt)
  viewed_by w (Some v) works is_view = picked_by w v (picked pick v) works is_view refl

  linked_by :
      (w : Option ℕ) → linked_at (links head past) place ≡ w
      → AreAllowed head (Entered time who seq (Work place pick) ∷ past) (worked_acts past pick (option_and_then (slice_get (drives head past)) w))
  linked_by None works = (tt, tt)
  linked_by (Some w) works = viewed_by w (slice_get (drives head past) w) works refl

  pub work_allowed : AreAllowed head (Entered time who seq (Work place pick) ∷ past) (work_acts head past place pick)
  work_allowed = linked_by (linked_at (links head past) place) refl

-- ---- interrupt

condemned_by :
    (head : PortHead) (p : List Event) (b : Bool) (f : InFlight) (kinds : ErrMask) (more : List Act) → ((q : List Event) → AreAllowed head q more)
    → AreAllowed head p (if b then Condemned f.number kinds ∷ more else more)
condemned_by head p true f kinds more allowed = (tt, allowed (Told (Condemned f.number kinds) ∷ p))
condemned_by head p false f kinds more allowed = allowed p

condemnations_allowed :
    (head : PortHead) (test : InFlight → Bool) (kinds : ErrMask) (slots : List (Option InFlight)) (completions : List (Option Completion)) (p : List Event)
    → AreAllowed head p (condemnations test kinds slots completions)
condemnations_allowed head test kinds [] completions p = tt
condemnations_allowed head test kinds (None ∷ slots) [] p = tt
condemnations_allowed head test kinds (Some f ∷ slots) [] p = tt
condemnations_allowed head test kinds (None ∷ slots) (e ∷ completions) p = condemnations_allowed head test kinds slots completions p
condemnations_allowed head test kinds (Some f ∷ slots) (None ∷ completions) p =
    condemned_by head p (not f.owned && test f) f kinds (condemnations test kinds slots completions) (condemnations_allowed head test kinds slots completions)
condemnations_allowed head test kinds (Some f ∷ slots) (Some e ∷ completions) p = condemnations_allowed head test kinds slots completions p

irq_by :
    (head : PortHead) (past p : List Event) (served : Bool) → AreAllowed head p (served_acts head past)
    → AreAllowed head p (if served then or_nothing (served_acts head past) else Nothing ∷ [])
irq_by head past p true allowed = or_nothing_allowed head p (served_acts head past) allowed
irq_by head past p false allowed = (tt, tt)

pub irq_allowed :
    (head : PortHead) (past : List Event) → IsAllowed head past → (time : ℕ) (who : Who) (seq : ℕ)
    → AreAllowed head (Entered time who seq Irq ∷ past) (irq_acts head past)
irq_allowed head past h time who seq =
    let p : List Event = Entered time who seq Irq ∷ past in
    let told = ok_answers (slots past) (completions head past) in
    let blamed = condemnations (λ f. must_freeze head past || has_failed (tferr past) f) no_kinds (slots past) (completions head past) in
    irq_by head past p (is_irq_served past)
    (allowed_append head p (told ++ blamed ++ told_if (must_freeze head past) FrozenAct) _
    (allowed_append head p (told ++ blamed) _
    (allowed_append head p told _
    (answers_allowed head 0 (slots past) (completions head past) p (are_numbered head past h).apart refl refl)
    (condemnations_allowed head (λ f. must_freeze head past || has_failed (tferr past) f) no_kinds (slots past) (completions head past) _))
    (plain_allowed head _ _ (told_if_plain (must_freeze head past) FrozenAct tt)))
    (plain_allowed head _ _ (told_if_plain (must_request head past && not (is_asked past)) Requested tt)))

-- ---- a recovery begins, and finishes

freeze_allowed : (head : PortHead) (p : List Event) (frozen : Bool) (acts : List Act) → AreAllowed head p acts → AreAllowed head p (with_freeze frozen acts)
freeze_allowed head p frozen [] allowed = tt
freeze_allowed head p frozen (act ∷ rest) allowed =
    (allowed.0, allowed_append head (Told act ∷ p) rest _ allowed.1 (plain_allowed head _ _ (told_if_plain (not frozen) FrozenAct tt)))

pub begin_allowed :
    (head : PortHead) (past : List Event) → IsAllowed head past → (time : ℕ) (who : Who) (seq : ℕ) (step : Step)
    → AreAllowed head (Entered time who seq step ∷ past) (begin_acts head past)
begin_allowed head past h time who seq step = (
  tt,
  allowed_append head (Told Begun ∷ Entered time who seq step ∷ past) (ok_answers (slots past) (completions head past)) _
      (answers_allowed head 0 (slots past) (completions head past) (Told Begun ∷ Entered time who seq step ∷ past)
      (are_numbered head past h).apart refl refl)
      (freeze_allowed head _ (is_frozen past) _ (condemnations_allowed head (λ f. true) timed_out (slots past) (completions head past) _)),
)

pub finish_allowed :
    (head : PortHead) (past : List Event) → IsAllowed head past → is_running past ≡ true → AreOwned (slots past)
    → AreJudged (slots past) (judged past) → (time : ℕ) (who : Who) (seq : ℕ) (step : Step)
    → AreAllowed head (Entered time who seq step ∷ past) (finish_acts past)
finish_allowed head past h runs owned all time who seq step =
    allowed_append head (Entered time who seq step ∷ past) (finishes (commands past) (detachments past) (slots past) (judged past)) _
    (finishes_allowed head (Entered time who seq step ∷ past) (are_numbered head past h).apart
    (have_own (slots past) (λ id. (once_or_live head past h id).one_issue)) (are_some head past h) runs)
    (finish_leaves_none head past h owned all time who seq step, tt)
