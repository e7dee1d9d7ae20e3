-- The gate of a port stays guarded over a kick.
use Rattle.std.proofs.Common.{◌≡◌, ℕ, Bool, true, false, List, ◌∷◌, Some, inl, inr, refl, sym, subst}
use Rattle.ata_script.specs.declared.port_head.PortHead.{PortHead}
use Rattle.ata_trace.specs.Event.{Event, onto}
use Rattle.ata_trace.specs.Event.Event.{Entered}
use Rattle.ata_trace.specs.declared.act.Act.{Act}
use Rattle.ata_trace.specs.declared.act.Act.TheVariants.{Deferred, Exclusive, Nothing}
use Rattle.ata_trace.specs.declared.step.Step.{Step}
use Rattle.ata_trace.specs.declared.who.Who.{Who}
use Rattle.host_tags.specs.Slots.{put}
use Rattle.host_tags.specs.declared.in_flight.InFlight.{InFlight}
use Rattle.port_past.specs.PortState.{is_asked, is_running}
use Rattle.port_rules.specs.Kick.{kick_acts}
use Rattle.port_stands.proofs.Blocks.{all_wider}
use Rattle.port_stands.proofs.Guard.{leaves_gate, guarded_left}
use Rattle.port_stands.proofs.Kicks.{is_wait, IsGoneAnswer, IsIssue, kick_does}
use Rattle.port_stands.proofs.Kicks.KickDoes.{Waits, Gone, Issues}
use Rattle.port_stands.proofs.Numbers.{read_written}
use Rattle.port_stands.specs.Gate.{Gate, gate, IsGuarded}
use Rattle.ata_base.proofs.Truth.{neither}

wait_leaves : (act : Act) → is_wait act ≡ true → leaves_gate act ≡ true
wait_leaves Nothing is = refl
wait_leaves (Deferred id why) is = refl
wait_leaves (Exclusive place) is = refl
wait_leaves act is = absurd (cc)

-- an issue comes in at an open gate
came_in :
    (pmp : Bool) (g : Gate) (tag : ℕ) (new : InFlight) → IsGuarded pmp g → g.frozen ≡ false
    → g.recovery.running ≡ false → new.owned ≡ false → new.expired ≡ false
    → IsGuarded pmp (record g { slots = put tag new g.slots })
came_in pmp g tag new was thawed settled free unexpired = record {
  owned = λ running u f here. absurd (cc);
  recovering = λ u f here.
      elim (read_written g.slots tag u (Some new) f here) [
        | inl at ↦ λ owned. absurd (free_owned f at.1 owned)
        | inr at ↦ was.recovering u f at.1
      ];
  expired = λ u f here.
      elim (read_written g.slots tag u (Some new) f here) [
        | inl at ↦ λ free told. absurd (new_expired f at.1 told)
        | inr at ↦ was.expired u f at.1
      ];
  direct = λ direct frozen. absurd (cc);
  multiplier = λ fan frozen. absurd (cc);
  new = λ running early. absurd (cc);
  home = was.home;
}
  where
    free_owned : (f : InFlight) → Some new ≡ Some f → f.owned ≡ true → ⊥
    free_owned f same owned = cc (free)

    new_expired : (f : InFlight) → Some new ≡ Some f → f.expired ≡ true → ⊥
    new_expired f same told = cc (unexpired)

module _ (head : PortHead) (past : List Event) (time : ℕ) (who : Who) (seq : ℕ) (step : Step) where
  gone_guarded :
      (place : ℕ) (acts : List Act) → IsGoneAnswer past place acts → IsGuarded head.pmp (gate head past)
      → IsGuarded head.pmp (gate head (onto (Entered time who seq step ∷ past) acts))
  gone_guarded place acts answer was =
      subst (λ x. IsGuarded head.pmp (gate head (onto (Entered time who seq step ∷ past) x))) (sym answer.told) was

  issue_guarded :
      (place : ℕ) (acts : List Act) → IsIssue head past place acts
      → IsGuarded head.pmp (gate head past) → IsGuarded head.pmp (gate head (onto (Entered time who seq step ∷ past) acts))
  issue_guarded place acts issue was =
      subst (λ x. IsGuarded head.pmp (gate head (onto (Entered time who seq step ∷ past) x))) (sym issue.told)
      (came_in head.pmp (gate head past) issue.tag _ was issue.thawed (neither (is_asked past) (is_running past) issue.settled).1 refl refl)

  pub kick_guarded :
      (place : ℕ) → IsGuarded head.pmp (gate head past)
      → IsGuarded head.pmp (gate head (onto (Entered time who seq step ∷ past) (kick_acts head past place)))
  kick_guarded place was =
      elim (kick_does head past place) [
        | Waits all ↦ guarded_left head past time who seq step (kick_acts head past place)
            (all_wider is_wait leaves_gate wait_leaves (kick_acts head past place) all) was
        | Gone answer ↦ gone_guarded place (kick_acts head past place) answer was
        | Issues issue ↦ issue_guarded place (kick_acts head past place) issue was
      ]
