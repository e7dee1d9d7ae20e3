-- The entry of a step whose acts go by the past before it.
use Rattle.std.proofs.Common.{◌≡◌, ◌∙◌, ℕ, List, ◌∷◌, refl, sym, ap}
use Rattle.ata_script.specs.declared.port_head.PortHead.{PortHead}
use Rattle.ata_trace.specs.Entries.{grown}
use Rattle.ata_trace.specs.Event.{Event, onto}
use Rattle.ata_trace.specs.Event.Event.{Entered}
use Rattle.ata_trace.specs.declared.act.Act.{Act}
use Rattle.ata_trace.specs.declared.step.Step.{Step}
use Rattle.ata_trace.specs.declared.step.Step.TheVariants.{Expire, Recover}
use Rattle.ata_trace.specs.declared.who.Who.{Who}
use Rattle.port_ledger.specs.LedgerView.{Begins, LedgerView, past}
use Rattle.port_past.specs.Clock.{clock}
use Rattle.port_rules.specs.Legal.{entry_after, legal_acts}
use Rattle.port_rules.specs.Recover.{recover_acts}
use Rattle.port_rules.specs.Time.{expire_acts}
use Rattle.port_telling.specs.Adds.{Adds}

-- acts that go by a rule, to which the beginning of the entry tells nothing
entry_told :
    {first begun last : LedgerView} {who : Who} {seq : ℕ} {step : Step} (taken : Step)
    (rule : PortHead → List Event → List Act) → step ≡ taken
    → ((head : PortHead) (p : List Event) → rule head p ≡ legal_acts head p taken)
    → ((head : PortHead) (p : List Event) (at : ℕ) → rule head (Entered at who seq taken ∷ p) ≡ rule head p)
    → Begins first begun (Entered (clock (past first)) who seq step ∷ past first)
    → Adds begun last (rule begun.head (past begun))
    → past last ≡ grown (past first) (entry_after first.head (past first) who seq step)
entry_told {first} {begun} {last} {who} {seq} {step} taken rule is legal stays goes adds =
    let start : List Event = Entered (clock (past first)) who seq taken ∷ past first in
    adds.past
    ∙ ap (λ p. onto p (rule begun.head p)) goes.past
    ∙ ap (λ s. onto (Entered (clock (past first)) who seq s ∷ past first) (rule begun.head (Entered (clock (past first)) who seq s ∷ past first))) is
    ∙ ap (λ head. onto start (rule head start)) goes.head
    ∙ ap (onto start) (stays first.head (past first) (clock (past first)))
    ∙ ap (onto start) (legal first.head (past first))
    ∙ ap (λ s. grown (past first) (entry_after first.head (past first) who seq s)) (sym is)

-- the timer's
pub expire_told :
    {first begun last : LedgerView} {who : Who} {seq : ℕ} {step : Step} → step ≡ Expire
    → Begins first begun (Entered (clock (past first)) who seq step ∷ past first)
    → Adds begun last (expire_acts begun.head (past begun))
    → past last ≡ grown (past first) (entry_after first.head (past first) who seq step)
expire_told is goes adds = entry_told Expire expire_acts is (λ head p. refl) (λ head p at. refl) goes adds

-- recovery's
pub recover_told :
    {first begun last : LedgerView} {who : Who} {seq : ℕ} {step : Step} → step ≡ Recover
    → Begins first begun (Entered (clock (past first)) who seq step ∷ past first)
    → Adds begun last (recover_acts begun.head (past begun))
    → past last ≡ grown (past first) (entry_after first.head (past first) who seq step)
recover_told is goes adds = entry_told Recover recover_acts is (λ head p. refl) (λ head p at. refl) goes adds
