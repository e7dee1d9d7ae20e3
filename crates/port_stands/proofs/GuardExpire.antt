-- The gate of a port stays guarded over an expiry.
use Rattle.std.proofs.Common.{◌≡◌, ◌∙◌, ℕ, Bool, true, false, not, ◌||◌, List, [], ◌∷◌, ◌++◌, Option, Some, inl, inr, refl, sym, ap, subst}
use Rattle.std.specs.List.{list_all}
use Rattle.ata_script.specs.declared.port_head.PortHead.{PortHead}
use Rattle.ata_trace.specs.Event.{Event, onto}
use Rattle.ata_trace.specs.Event.Event.{Entered}
use Rattle.ata_trace.specs.declared.act.Act.{Act}
use Rattle.ata_trace.specs.declared.act.Act.TheVariants.{Drained, Requested}
use Rattle.ata_trace.specs.declared.step.Step.{Step}
use Rattle.ata_trace.specs.declared.who.Who.{Who}
use Rattle.host_tags.specs.Slots.{flight_at}
use Rattle.host_tags.specs.declared.in_flight.InFlight.{InFlight}
use Rattle.port_past.specs.Clock.{clock}
use Rattle.port_past.specs.Drain.{is_drained}
use Rattle.port_past.specs.PortState.{is_frozen, is_asked}
use Rattle.port_past.specs.Slots.{slots}
use Rattle.port_rules.specs.Time.{has_drain_come, expiries, with_request, expire_acts}
use Rattle.port_rules.specs.Told.{told_if}
use Rattle.ata_trace.proofs.Pasts.{onto_append}
use Rattle.port_stands.proofs.Blocks.{flight_onto}
use Rattle.port_stands.proofs.GuardIrq.{Shell, shell, shell_left, nothing_told}
use Rattle.port_stands.proofs.Lists.{all_expiries}
use Rattle.port_stands.proofs.Marks.{IsSame, was_there, stays, is_no_leave}
use Rattle.port_stands.specs.Gate.{Gate, gate, IsGuarded, IsSomeone}
use Rattle.port_stands.specs.Words.{recovery, slot_onto, is_no_issue, is_slot_act}

-- a gate at which recovery is asked for
pub asked_guarded :
    (pmp : Bool) (g : Gate) (slots : List (Option InFlight)) → IsGuarded pmp g
    → ((tag : ℕ) (x : InFlight) → flight_at slots tag ≡ Some x
    → (f : InFlight) × ((flight_at g.slots tag ≡ Some f) × IsSame f x))
    → (IsSomeone g.slots → IsSomeone slots)
    → IsGuarded pmp (record { recovery = g.recovery; frozen = g.frozen; asked = true; slots = slots })
asked_guarded pmp g slots was came someone = record {
  owned = λ running tag x here.
      let a = came tag x here in
      a.1.1.owned (was.owned running tag a.0 a.1.0);
  recovering = λ tag x here own. refl;
  expired = λ tag x here free told. refl;
  direct = λ is frozen. refl;
  multiplier = λ is frozen. elim (was.multiplier is frozen) [
    | inl turn ↦ inl turn
    | inr logs ↦ inr (logs.0, someone logs.1)
  ];
  new = was.new;
  home = was.home;
}

asked_now :
    (head : PortHead) (past : List Event) (asked : Bool) → is_asked past ≡ asked
    → gate head (onto past (told_if (not asked) Requested))
    ≡ record { recovery = recovery head past; frozen = is_frozen past; asked = true; slots = slots past }
asked_now head past true is = ap (λ a. record { recovery = recovery head past; frozen = is_frozen past; asked = a; slots = slots past }) is
asked_now head past false is = refl

drained_first : (head : PortHead) (past : List Event) (b : Bool) → gate head (onto past (told_if b Drained)) ≡ gate head past
drained_first head past true = refl
drained_first head past false = refl

module _ (head : PortHead) (past : List Event) (time : ℕ) (who : Who) (seq : ℕ) (step : Step) where
  expired_by :
      (drained : Bool) (told : List Act) → list_all is_slot_act told ≡ true → list_all is_no_issue told ≡ true
      → list_all is_no_leave told ≡ true → IsGuarded head.pmp (gate head past)
      → IsGuarded head.pmp (gate head (onto (onto (Entered time who seq step ∷ past) (told_if drained Drained)) (with_request (is_asked past) told)))
  expired_by drained [] of_slots none stay was =
      subst (IsGuarded head.pmp) (sym (drained_first head (Entered time who seq step ∷ past) drained)) was
  expired_by drained (act ∷ rest) of_slots none stay was =
      let start : List Event = onto (Entered time who seq step ∷ past) (told_if drained Drained) in
      let begun : gate head start ≡ gate head past = drained_first head (Entered time who seq step ∷ past) drained in
      let acts : List Act = act ∷ rest in
      let base : List Event = onto start acts in
      let first : shell head start ≡ shell head past =
      ap (λ (g : Gate). record { recovery = g.recovery; frozen = g.frozen; asked = g.asked }) begun in
      let same : shell head base ≡ shell head past = shell_left head start acts of_slots ∙ first in
      let after : gate head (onto base (told_if (not (is_asked past)) Requested))
      ≡ record { recovery = recovery head past; frozen = is_frozen past; asked = true; slots = slots base } =
      asked_now head base (is_asked past) (ap (λ (s : Shell). s.asked) same)
      ∙ ap (λ (s : Shell). record { recovery = s.recovery; frozen = s.frozen; asked = true; slots = slots base }) same in
      subst (IsGuarded head.pmp) (sym (ap (gate head) (onto_append start acts (told_if (not (is_asked past)) Requested)) ∙ after))
      (asked_guarded head.pmp (gate head past) (slots base) was
      (λ tag x here.
      let e : slot_onto acts (flight_at (slots past) tag) ≡ Some x =
      ap (λ (g : Gate). slot_onto acts (flight_at g.slots tag)) (sym begun) ∙ sym (flight_onto start acts tag none) ∙ here in
      was_there acts (flight_at (slots past) tag) x e)
      (λ someone.
      let s = stays acts someone.flight stay in
      record {
        tag = someone.tag;
        flight = s.0;
        here = flight_onto start acts someone.tag none
            ∙ ap (λ (g : Gate). slot_onto acts (flight_at g.slots someone.tag)) begun
            ∙ ap (slot_onto acts) someone.here ∙ s.1;
      }))

  pub expire_guarded :
      IsGuarded head.pmp (gate head past)
      → IsGuarded head.pmp (gate head (onto (Entered time who seq step ∷ past) (expire_acts head past)))
  expire_guarded was =
      let drained : Bool = has_drain_come head past || is_drained past in
      let told : List Act = expiries (clock past) drained (slots past) in
      let start : List Event = Entered time who seq step ∷ past in
      let first : List Act = told_if (has_drain_come head past) Drained in
      subst (IsGuarded head.pmp)
      (sym (nothing_told head start (first ++ with_request (is_asked past) told)
      ∙ ap (gate head) (onto_append start first (with_request (is_asked past) told))))
      (expired_by (has_drain_come head past) told
      (all_expiries is_slot_act (clock past) drained (λ f. refl) (slots past))
      (all_expiries is_no_issue (clock past) drained (λ f. refl) (slots past))
      (all_expiries is_no_leave (clock past) drained (λ f. refl) (slots past)) was)
