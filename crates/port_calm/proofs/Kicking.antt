-- A kick step.
use Rattle.std.proofs.Common.{◌⊎◌, inl, inr, ◌≡◌, ◌≢◌, ◌∙◌, ℕ, ◌+◌, ◌<◌, ◌&&◌, ◌||◌, Bool, true, false, not, if◌then◌else◌, List, [], ◌∷◌, Option, None, Some, is_none, length, slice_index_or, refl, sym, ap, subst, arith}
use Rattle.ata_base.specs.Operations.{is_data}
use Rattle.ata_base.specs.declared.cmd.Cmd.{Cmd}
use Rattle.ata_script.specs.declared.port_head.PortHead.{PortHead}
use Rattle.ata_tf.specs.CommandCodes.{command_frame}
use Rattle.ata_trace.specs.Event.Event.{Entered}
use Rattle.ata_trace.specs.Event.{Event, onto}
use Rattle.ata_trace.specs.declared.act.Act.TheVariants.{AnsweredNodev, Exclusive, Deferred}
use Rattle.ata_trace.specs.declared.step.Step.TheVariants.{Kick}
use Rattle.ata_trace.specs.declared.who.Who.{Who}
use Rattle.host_defer.specs.Obstacles.{is_at, is_unqueued_at, is_elsewhere, is_taken, is_link_busy, is_port_busy, has_no_tag}
use Rattle.ata_base.specs.Reasons.{first_reason}
use Rattle.ata_base.specs.declared.deferral.Deferral.TheVariants.{Frozen, Recovering, LinkBusy, PortBusy, NoTag}
use Rattle.host_queue.specs.Waiting.{waiting_at, front_of}
use Rattle.host_tags.specs.Slots.{flight_at, free_below}
use Rattle.host_tags.specs.declared.in_flight.InFlight.{InFlight}
use Rattle.port_calm.proofs.Issuing.{issue_told, claim_calm}
use Rattle.ata_base.proofs.EachLemmas.{every_at}
use Rattle.port_calm.proofs.Sight.{Sight, sight, IsWaiting, FliesAny, WaitsAt}
use Rattle.host_tags.proofs.SlotLemmas.{free_below_free, free_below_within}
use Rattle.port_calm.proofs.Slots.{first_free, none_seen}
use Rattle.port_calm.proofs.Standing.{Stands, Goes, same_goes}
use Rattle.port_past.specs.Clock.{clock}
use Rattle.port_past.specs.Commands.{commands, is_gone}
use Rattle.port_past.specs.Attachment.{detachments, attached}
use Rattle.port_past.specs.Exclusive.{exclusive}
use Rattle.port_past.specs.PortState.{is_frozen, is_recovering, is_running}
use Rattle.port_past.specs.Issues.{issue_count}
use Rattle.port_past.specs.Identities.{depth_at}
use Rattle.port_past.specs.Queues.{queues}
use Rattle.port_past.specs.Slots.{slots}
use Rattle.port_rules.specs.Kick.{is_queued, outline, view_of, tag_limit, tag_named, frame_port, issued_acts, deferred_or_issued, command_acts, front_acts, kick_acts}
use Rattle.port_rules.specs.Told.{told_if}
use Rattle.ata_base.proofs.Truth.{and_second}

-- nothing is in flight, and the command that waits at a place doesn't wait for the port
pub record Ready (head : PortHead) (queues : List (List Cmd)) (exclusive : Option ℕ) (slots : List (Option InFlight)) (x : ℕ) : Type 0 where
  pub waits : WaitsAt queues x
  pub free : (head.pmp && not head.fbs && is_taken exclusive x) ≡ false
  pub empty : (t : ℕ) (f : InFlight) → flight_at slots t ≡ Some f → ⊥

-- what a kick of a place leaves
pub record Kicked (head : PortHead) (past later : List Event) (y : ℕ) : Type 0 where
  pub goes : Goes head past later
  pub keeps : FliesAny (slots past) → FliesAny (slots later)
  pub hope :
      (x : ℕ) → Ready head (queues past) (exclusive past) (slots past) x
      → FliesAny (slots later) ⊎ (Ready head (queues later) (exclusive later) (slots later) x × (x ≢ y))

none_here :
    (slots : List (Option InFlight)) (slot : Option InFlight) → ((t : ℕ) (f : InFlight) → flight_at slots t ≡ Some f → ⊥)
    → flight_at slots 0 ≡ slot → flight_at slots 0 ≡ None
none_here slots None empty is = is
none_here slots (Some f) empty is = absurd (empty 0 f is)

none_busy :
    (slots : List (Option InFlight)) (x : ℕ) (queued : Bool) → ((t : ℕ) (f : InFlight) → flight_at slots t ≡ Some f → ⊥)
    → is_link_busy (outline slots) x queued ≡ false
none_busy slots x true empty = none_seen (is_unqueued_at x) slots refl empty
none_busy slots x false empty = none_seen (is_at x) slots refl empty

none_taken : (exclusive : Option ℕ) (x : ℕ) → is_none exclusive ≡ true → is_taken exclusive x ≡ false
none_taken None x is = refl
none_taken (Some y) x is = absurd (cc)

module _ (head : PortHead) (past : List Event) (h : Stands head past) (time : ℕ) (who : Who) (seq place : ℕ) where
  -- a kick that finds nothing ready does nothing
  idle :
      (later : List Event) → sight head later ≡ sight head past → Goes head past later
      → ((x : ℕ) → Ready head (queues past) (exclusive past) (slots past) x → x ≢ place) → Kicked head past later place
  idle later same goes other = record {
    goes = goes;
    keeps = subst (λ (s : Sight). FliesAny (slots past) → FliesAny s.slots) (sym same) (λ f. f);
    hope = λ x r. inr (
      subst (λ (s : Sight). Ready head s.queues s.exclusive s.slots x) (sym same) r,
      other x r,
    );
  }

  module _ (c : Cmd) (front : front_of (queues past) place ≡ Some c) (queued : Bool) (kind : is_queued past c.place c.op ≡ queued) where
    waiting : IsWaiting (attached past) (detachments past) (commands past) place c
    waiting = every_at (IsWaiting (attached past) (detachments past) (commands past) place) (waiting_at (queues past) place) 0 c (h.calm.waits place) front

    front_here : front_of (queues past) c.place ≡ Some c
    front_here = subst (λ x. front_of (queues past) x ≡ Some c) (sym waiting.place) front

    limit_by : (on : Bool) → is_queued past c.place c.op ≡ on → 0 < (if on then depth_at past c.place else 32)
    limit_by true is =
        (h.calm.still.homes c.place (subst (λ x. slice_index_or (attached past) x false ≡ true) (sym waiting.place) waiting.home)).tagged
        (and_second (is_data c.op) _ is)
    limit_by false is = omega arith

    -- where nothing is in flight, a tag is free
    has_tag :
        ((t : ℕ) (f : InFlight) → flight_at (slots past) t ≡ Some f → ⊥)
        → (free_below (tag_limit past c.place queued) (slots past) ≡ Some 0)
        × (free_below (tag_limit past c.place queued) (outline (slots past)) ≡ Some 0)
    has_tag empty =
        first_free (tag_limit past c.place queued) (slots past) (limit_by queued kind)
        (omega (arith, h.calm.long_slots)) (none_here (slots past) _ empty refl)

    issued : (found : Option ℕ) → free_below (tag_limit past c.place queued) (slots past) ≡ found
        → Kicked head past (onto (Entered time who seq (Kick place) ∷ past) (issued_acts head past c queued found)) place
    issued None free =
        idle _ refl (same_goes head past _ h refl refl (tt, h.clean))
        (λ x r. let tag = (has_tag r.empty).0 in absurd (cc))
    issued (Some tag) free =
        let below : tag < length (slots past) = free_below_within (tag_limit past c.place queued) tag (slots past) free in
        let unused : flight_at (slots past) tag ≡ None = free_below_free (tag_limit past c.place queued) tag (slots past) free in
        let home = h.calm.still.homes c.place (subst (λ x. slice_index_or (attached past) x false ≡ true) (sym waiting.place) waiting.home) in
        let within : tag < 32 = omega (arith, below, h.calm.long_slots) in
        let later : 0 < clock past + c.wait.n = omega (arith, waiting.wait) in
        let fis = command_frame c.op (tag_named queued tag) (frame_port head c.place) in
        let done = issue_told head (sight head past) c (record { n = issue_count past + 1 }) tag (record { n = clock past + c.wait.n }) fis home.drive h.calm front_here within unused refl later home.linked in
        record {
          goes = record {
            stands = record {
              calm = done.calm;
              line = λ t f e is ended. let was = done.before t f e is ended in h.line t f e was.0 was.1;
              clean = (tt, h.clean);
            };
            same = refl;
            fewer = done.fewer;
          };
          keeps = λ f. done.flies;
          hope = λ x r. inl done.flies;
        }

    busy_never :
        (x : ℕ) (r : Ready head (queues past) (exclusive past) (slots past) x) (port : Bool)
        → is_port_busy (view_of head past) c.place ≡ port → port ≡ true → is_taken (exclusive past) c.place ≡ false → ⊥
    busy_never x r port is busy taken =
        let none = none_seen (is_elsewhere c.place) (slots past) refl r.empty in
        let free : (head.pmp && not head.fbs && (false || false)) ≡ true =
        subst (λ b. (head.pmp && not head.fbs && (false || b)) ≡ true) taken
        (subst (λ b. (head.pmp && not head.fbs && (b || is_taken (exclusive past) c.place)) ≡ true) none (is ∙ busy)) in
        never head.pmp (not head.fbs) free where
          never : (a b : Bool) → (a && b && (false || false)) ≡ true → ⊥
          never true true e = cc
          never true false e = cc
          never false b e = cc

    -- another place is ready, where this one waits for the port
    busy_other :
        (x : ℕ) → Ready head (queues past) (exclusive past) (slots past) x
        → is_port_busy (view_of head past) c.place ≡ true → x ≢ place
    busy_other x r is same =
        let none = none_seen (is_elsewhere c.place) (slots past) refl r.empty in
        let here : x ≡ c.place = same ∙ sym waiting.place in
        let taken : (head.pmp && not head.fbs && (false || is_taken (exclusive past) c.place)) ≡ true =
        subst (λ b. (head.pmp && not head.fbs && (b || is_taken (exclusive past) c.place)) ≡ true) none is in
        let free = subst (λ y. (head.pmp && not head.fbs && is_taken (exclusive past) y) ≡ false) here r.free in
        cc

    port_busy :
        (none : Bool) → is_none (exclusive past) ≡ none → is_port_busy (view_of head past) c.place ≡ true
        → Kicked head past (onto (Entered time who seq (Kick place) ∷ past)
        (Deferred c.id PortBusy
        ∷ told_if none (Exclusive c.place))) place
    port_busy false exclusive is =
        idle _ refl (same_goes head past _ h refl refl (tt, h.clean)) (λ x r. busy_other x r is)
    port_busy true none is = record {
      goes = record {
        stands = record {
          calm = claim_calm head (sight head past) c.place h.calm (record { front = c; is = front_here });
          line = h.line;
          clean = (tt, (tt, h.clean));
        };
        same = refl;
        fewer = omega arith;
      };
      keeps = λ f. f;
      hope = λ x r. absurd (busy_never x r true is refl (none_taken (exclusive past) c.place none));
    }

    kick_by :
        (frozen recovering busy port full : Bool)
        → is_frozen past ≡ frozen → is_recovering past ≡ recovering
        → is_link_busy (outline (slots past)) c.place queued ≡ busy
        → is_port_busy (view_of head past) c.place ≡ port
        → has_no_tag (outline (slots past)) queued (depth_at past c.place) ≡ full
        → Kicked head past (onto (Entered time who seq (Kick place) ∷ past)
        (deferred_or_issued head past c queued
        (first_reason
        ((Frozen, frozen) ∷ (Recovering, recovering) ∷ (LinkBusy, busy) ∷ (PortBusy, port) ∷ (NoTag, full) ∷ [])))) place
    kick_by true recovering busy port full frozen is link is_port is_full =
        idle _ refl (same_goes head past _ h refl refl (tt, h.clean))
        (λ x r. let thawed : is_frozen past ≡ false = h.calm.still.thawed in absurd (cc))
    kick_by false true busy port full frozen is link is_port is_full =
        idle _ refl (same_goes head past _ h refl refl (tt, h.clean))
        (λ x r.
        let unasked : is_recovering past ≡ is_running past = ap (λ b. b || is_running past) h.calm.still.unasked in
        let resting : is_running past ≡ false = h.calm.still.resting in absurd (cc))
    kick_by false false true port full frozen is link is_port is_full =
        idle _ refl (same_goes head past _ h refl refl (tt, h.clean))
        (λ x r. let none = none_busy (slots past) c.place queued r.empty in absurd (cc))
    kick_by false false false true full frozen is link is_port is_full = port_busy _ refl is_port
    kick_by false false false false true frozen is link is_port is_full =
        idle _ refl (same_goes head past _ h refl refl (tt, h.clean))
        (λ x r. let tag = ap is_none (has_tag r.empty).1 in absurd (cc))
    kick_by false false false false false frozen is link is_port is_full = issued _ refl

    current_by :
        (gone : Bool) → is_gone c (detachments past) ≡ gone
        → Kicked head past (onto (Entered time who seq (Kick place) ∷ past)
        (if gone then AnsweredNodev c.id (record { n = 0 }) ∷ [] else command_acts head past c queued)) place
    current_by true is = absurd (let current = waiting.current in cc)
    current_by false is = kick_by _ _ _ _ _ refl refl refl refl refl

  front_by :
      (front : Option Cmd) → front_of (queues past) place ≡ front
      → Kicked head past (onto (Entered time who seq (Kick place) ∷ past) (front_acts head past front)) place
  front_by None front =
      idle _ refl (same_goes head past _ h refl refl (tt, h.clean))
      (λ x r same. let there = subst (λ y. front_of (queues past) y ≡ Some r.waits.front) same r.waits.is in absurd (cc))
  front_by (Some c) front = current_by c front (is_queued past c.place c.op) refl _ refl

  pub kicked : Kicked head past (onto (Entered time who seq (Kick place) ∷ past) (kick_acts head past place)) place
  kicked = front_by _ refl
