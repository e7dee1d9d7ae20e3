-- Steps that do nothing at a calm port.
use Rattle.port_rules.proofs.RecoverByPhase.{recover_told, phase_acts, waiting_or_begun}
use Rattle.std.proofs.Common.{◌≡◌, ◌∙◌, ℕ, ◌<◌, ◌&&◌, ◌||◌, Bool, true, false, not, cond, List, [], ◌∷◌, ◌++◌, Option, None, Some, suc, refl, sym, ap, subst, arith}
use Rattle.std.proofs.lemmas.Bool.{leb-true}
use Rattle.std.specs.List.{list_any}
use Rattle.std.specs.Prelude.{nat_le, position}
use Rattle.ata_script.specs.declared.port_head.PortHead.{PortHead}
use Rattle.ata_trace.specs.Event.Event.{Entered}
use Rattle.ata_trace.specs.Event.{Event, onto}
use Rattle.ata_trace.specs.declared.act.Act.TheVariants.{Nothing, Drained, Expired}
use Rattle.ata_trace.specs.declared.act.Act.{Act}
use Rattle.ata_trace.specs.declared.step.Step.TheVariants.{Expire, Recover, Boot}
use Rattle.ata_trace.specs.declared.who.Who.{Who}
use Rattle.eh_flow.specs.declared.phase.Phase.TheVariants.{Idle, Logs}
use Rattle.host_tags.specs.Slots.{flight_at, is_unowned}
use Rattle.host_tags.specs.declared.in_flight.InFlight.{InFlight}
use Rattle.host_timer.specs.Due.{drain_time}
use Rattle.port_calm.proofs.Standing.{Stands, Goes, same_goes}
use Rattle.port_past.specs.Clock.{clock}
use Rattle.port_past.specs.Drain.{drained_since, is_drained, quiet_since}
use Rattle.port_past.specs.PortState.{is_asked, is_autopsied}
use Rattle.port_past.specs.Slots.{slots}
use Rattle.port_past.specs.Tasks.{tasks}
use Rattle.port_rules.specs.Phase.{phase, first_phase}
use Rattle.port_rules.specs.Recover.{recover_acts}
use Rattle.port_rules.specs.Begin.{is_awaited}
use Rattle.port_rules.specs.Time.{expiry, expiries, has_drain_come, with_request, expire_acts}
use Rattle.port_rules.specs.Told.{or_nothing, told_if}

not_due : (deadline : ℕ) → 0 < deadline → (b : Bool) → nat_le deadline 0 ≡ b → b ≡ false
not_due deadline later true is = absurd (omega (arith, leb-true deadline 0 is, later))
not_due deadline later false is = refl

no_expiry : (f : InFlight) → 0 < f.deadline.n → expiry 0 false (Some f) ≡ None
no_expiry f later =
    ap (λ b. cond ((not f.owned && (b || false)) && not f.expired) (Some (Expired f.id f.number)) None) (not_due f.deadline.n later _ refl)
    ∙ never (not f.owned) (not f.expired) _ where
      never : (a b : Bool) (x : Act) → cond ((a && false) && b) (Some x) None ≡ None
      never true b x = refl
      never false b x = refl

-- at time 0 no issue is due
no_expiries :
    (slots : List (Option InFlight)) → ((t : ℕ) (f : InFlight) → flight_at slots t ≡ Some f → 0 < f.deadline.n)
    → expiries 0 false slots ≡ []
no_expiries [] later = refl
no_expiries (None ∷ slots) later = no_expiries slots (λ t f is. later (suc t) f is)
no_expiries (Some f ∷ slots) later =
    rw (no_expiry f (later 0 f refl)) (no_expiries slots (λ t g is. later (suc t) g is))

module _ (head : PortHead) (past : List Event) (h : Stands head past) where
  unasked : is_asked past ≡ false
  unasked = h.calm.still.unasked

  no_drain : has_drain_come head past ≡ false
  no_drain =
      ap (λ b. (head.drain && b && list_any is_unowned (slots past) && not (drained_since past)) && nat_le (drain_time (quiet_since past)) (clock past)) unasked
      ∙ never head.drain where
        never : (b : Bool) → ((b && false && list_any is_unowned (slots past) && not (drained_since past)) && nat_le (drain_time (quiet_since past)) (clock past)) ≡ false
        never true = refl
        never false = refl

  not_drained : is_drained past ≡ false
  not_drained = ap (λ b. b && drained_since past) unasked

  none_expire : expiries (clock past) (has_drain_come head past || is_drained past) (slots past) ≡ []
  none_expire =
      ap (λ b. expiries (clock past) (b || is_drained past) (slots past)) no_drain
      ∙ ap (λ b. expiries (clock past) b (slots past)) not_drained
      ∙ ap (λ n. expiries n false (slots past)) h.calm.still.early
      ∙ no_expiries (slots past) (λ t f is. (h.calm.flies t f is).later)

  nothing_expires : expire_acts head past ≡ Nothing ∷ []
  nothing_expires =
      ap (λ b. or_nothing (told_if b Drained ++ with_request (is_asked past) (expiries (clock past) (has_drain_come head past || is_drained past) (slots past)))) no_drain
      ∙ ap (λ acts. or_nothing (with_request (is_asked past) acts)) none_expire

  rests : phase head past ≡ Idle
  rests = ap (λ b. cond b (cond (is_autopsied past) (first_phase past (tasks head past)) Logs) Idle) h.calm.still.resting

  nothing_recovers : recover_acts head past ≡ Nothing ∷ []
  nothing_recovers =
      recover_told head past ∙ ap (phase_acts head past) rests
      ∙ ap (λ b. cond b (waiting_or_begun head past (position (is_awaited (clock past) (is_drained past)) (slots past))) (Nothing ∷ [])) unasked

  pub expire_goes :
      (time : ℕ) (who : Who) (seq : ℕ) → Goes head past (onto (Entered time who seq Expire ∷ past) (expire_acts head past))
  expire_goes time who seq =
      subst (λ acts. Goes head past (onto (Entered time who seq Expire ∷ past) acts)) (sym nothing_expires)
      (same_goes head past _ h refl refl (tt, h.clean))

  pub recover_goes :
      (time : ℕ) (who : Who) (seq : ℕ) → Goes head past (onto (Entered time who seq Recover ∷ past) (recover_acts head past))
  recover_goes time who seq =
      subst (λ acts. Goes head past (onto (Entered time who seq Recover ∷ past) acts)) (sym nothing_recovers)
      (same_goes head past _ h refl refl (tt, h.clean))

  pub boot_stands :
      (time : ℕ) (who : Who) (seq : ℕ) → Stands head (onto (Entered time who seq Boot ∷ past) (Nothing ∷ []))
  boot_stands time who seq = (same_goes head past _ h refl refl (tt, h.clean)).stands
