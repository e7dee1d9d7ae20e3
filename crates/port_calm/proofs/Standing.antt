-- A calm port between its entries, and a submit step.
use Rattle.std.proofs.Common.{◌≡◌, ℕ, ◌+◌, ◌<◌, ◌≤◌, Bool, true, false, not, List, [], ◌∷◌, Some, refl, sym, ap, subst, le_refl}
use Rattle.std.proofs.lemmas.Bool.{eq-eqb, not-false}
use Rattle.std.specs.Prelude.{slice_index, slice_index_or}
use Rattle.ata_base.specs.declared.cmd.Cmd.{Cmd}
use Rattle.ata_base.specs.declared.op.Op.{Op}
use Rattle.ata_script.specs.declared.port_head.PortHead.{PortHead}
use Rattle.ata_trace.specs.Event.Event.{Entered}
use Rattle.ata_trace.specs.Event.{Event, onto}
use Rattle.ata_trace.specs.declared.refusal.Refusal.TheVariants.{SameId, NoDevice, BadCount, BadRange}
use Rattle.ata_trace.specs.declared.step.Step.TheVariants.{Submit}
use Rattle.ata_trace.specs.declared.who.Who.{Who}
use Rattle.host_tags.specs.Slots.{flight_at}
use Rattle.host_tags.specs.declared.in_flight.InFlight.{InFlight}
use Rattle.port_calm.proofs.Accepting.{accept_calm}
use Rattle.port_calm.proofs.Sight.{Sight, sight, IsCalm, end_at, waits_total, flights_total}
use Rattle.port_calm.specs.Calm.{HasCalmActs}
use Rattle.port_past.specs.Commands.{commands, is_accepted}
use Rattle.port_past.specs.Attachment.{attached, detachments}
use Rattle.port_past.specs.Completions.{completions}
use Rattle.port_past.specs.Identities.{sectors_at}
use Rattle.port_past.specs.Line.{is_line_up}
use Rattle.port_past.specs.Queues.{queues}
use Rattle.port_past.specs.Slots.{slots}
use Rattle.port_past.specs.declared.completion.Completion.{Completion}
use Rattle.port_rules.specs.Submit.{has_count, is_on_device, refused_or_accepted, submit_acts}
use Rattle.ata_base.specs.Reasons.{first_reason}

-- the line is up where an issue is completed, and all acts are those of a calm port
pub record Stands (head : PortHead) (past : List Event) : Type 0 where
  pub calm : IsCalm head (sight head past)
  pub line :
      (t : ℕ) (f : InFlight) (e : Completion) → flight_at (slots past) t ≡ Some f → end_at (completions head past) t ≡ Some e
      → is_line_up past ≡ true
  pub clean : HasCalmActs past

-- how many commands wait or are in flight
abbrev pub total : List Event → ℕ
total past = waits_total (queues past) + flights_total (slots past)

-- one entry on: no command more is accepted, and no more of them are open
pub record Goes (head : PortHead) (past later : List Event) : Type 0 where
  pub stands : Stands head later
  pub same : commands later ≡ commands past
  pub fewer : total later ≤ total past

-- where nothing that counts has changed
pub same_goes :
    (head : PortHead) (past later : List Event) → Stands head past → sight head later ≡ sight head past
    → is_line_up later ≡ is_line_up past → HasCalmActs later → Goes head past later
same_goes head past later h same line clean = record {
  stands = record {
    calm = subst (IsCalm head) (sym same) h.calm;
    line = subst (λ (x : Sight × Bool). (t : ℕ) (f : InFlight) (e : Completion) → flight_at x.0.slots t ≡ Some f → end_at x.0.ends t ≡ Some e → x.1 ≡ true)
        (sym (both same line)) h.line;
    clean = clean;
  };
  same = ap (λ (x : Sight). x.commands) same;
  fewer = subst (λ (x : Sight). waits_total x.queues + flights_total x.slots ≤ total past) (sym same) (le_refl (total past));
} where
  both : sight head later ≡ sight head past → is_line_up later ≡ is_line_up past → (λ (x y : Sight × Bool). x ≡ y) (sight head later, is_line_up later) (sight head past, is_line_up past)
  both a b = cc

module _ (head : PortHead) (past : List Event) (h : Stands head past) (time : ℕ) (who : Who) (seq : ℕ) where
  submit_by :
      (id place : ℕ) (op : Op) (allow wait : ℕ) (same none bad_count bad_range : Bool) → 0 < wait
      → is_accepted id (commands past) ≡ same → not (slice_index_or (attached past) place false) ≡ none
      → Stands head (onto (Entered time who seq (Submit id place op allow wait) ∷ past)
      (refused_or_accepted id (first_reason ((SameId, same) ∷ (NoDevice, none) ∷ (BadCount, bad_count) ∷ (BadRange, bad_range) ∷ []))))
  submit_by id place op allow wait true none bad_count bad_range some fresh there = (same_goes head past _ h refl refl (tt, h.clean)).stands
  submit_by id place op allow wait false true bad_count bad_range some fresh there = (same_goes head past _ h refl refl (tt, h.clean)).stands
  submit_by id place op allow wait false false true bad_range some fresh there = (same_goes head past _ h refl refl (tt, h.clean)).stands
  submit_by id place op allow wait false false false true some fresh there = (same_goes head past _ h refl refl (tt, h.clean)).stands
  submit_by id place op allow wait false false false false some fresh there =
      let c : Cmd = record {
        id = id;
        place = place;
        op = op;
        allow = allow;
        retries = 0;
        wait = record { n = wait };
        attachment = slice_index (detachments past) place;
      } in
      record {
        calm = accept_calm head (sight head past) c h.calm fresh (not-false _ there)
            (ap not (eq-eqb (slice_index (detachments past) place) (slice_index (detachments past) place) refl))
            some;
        line = h.line;
        clean = (tt, h.clean);
      }

  pub submit_stands :
      (id place : ℕ) (op : Op) (allow wait : ℕ) → 0 < wait
      → Stands head (onto (Entered time who seq (Submit id place op allow wait) ∷ past) (submit_acts past id place op))
  submit_stands id place op allow wait some =
      submit_by id place op allow wait _ _ (not (has_count op)) (not (is_on_device op (sectors_at past place))) some refl refl
