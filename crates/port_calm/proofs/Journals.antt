-- A calm journal leaves the port standing.
use Rattle.std.proofs.Common.{◌≡◌, ℕ, true, List, [], ◌∷◌, sym, subst, arith}
use Rattle.std.proofs.lemmas.List.Elements.{All-head, All-tail}
use Rattle.std.specs.List.{All}
use Rattle.ata_script.specs.declared.port_head.PortHead.{PortHead}
use Rattle.ata_trace.specs.Entries.{EntryView, grown, past_from, past_of}
use Rattle.ata_trace.specs.Event.{Event}
use Rattle.ata_trace.specs.declared.step.Step.TheVariants.{Submit, Kick, Work, Irq, Drop, Stray, Tick, Expire, Recover, Plug, Unplug, Inject, Boot}
use Rattle.ata_trace.specs.declared.step.Step.{Step}
use Rattle.ata_trace.specs.declared.who.Who.{Who}
use Rattle.port_calm.proofs.Booting.{boot_stands_at}
use Rattle.port_calm.proofs.Kicking.{kicked}
use Rattle.port_calm.proofs.Resting.{expire_goes, recover_goes, boot_stands}
use Rattle.port_calm.proofs.Serving.{served}
use Rattle.port_calm.proofs.Standing.{Stands, submit_stands}
use Rattle.port_calm.proofs.Working.{worked}
use Rattle.port_calm.specs.Calm.{is_calm_step, AreCalm, IsCalmJournal}
use Rattle.port_past.specs.Clock.{clock}
use Rattle.port_rules.specs.Legal.{entry_after, AreLegal, HasLegalActs, IsLegal}
use Rattle.port_rules.specs.Ranges.{IsScriptStep}

-- each step of these entries is one that a script can have
abbrev AreInRange : List EntryView → Type 0
AreInRange entries = All (λ (e : EntryView). IsScriptStep e.step) entries

-- a step that disturbs nothing
step_stands :
    (head : PortHead) (past : List Event) (who : Who) (seq : ℕ) (step : Step) → IsScriptStep step → is_calm_step step ≡ true
    → Stands head past → Stands head (grown past (entry_after head past who seq step))
step_stands head past who seq (Submit id place op allow wait) range calm h =
    submit_stands head past h (clock past) who seq id place op allow wait (omega (arith, range.0.4.low))
step_stands head past who seq (Kick place) range calm h = (kicked head past h (clock past) who seq place).goes.stands
step_stands head past who seq (Work place pick) range calm h = (worked head past h (clock past) who seq place pick).goes.stands
step_stands head past who seq Irq range calm h = (served head past h (clock past) who seq).goes.stands
step_stands head past who seq Drop range calm h = absurd (cc)
step_stands head past who seq (Stray tag) range calm h = absurd (cc)
step_stands head past who seq (Tick ms) range calm h = absurd (cc)
step_stands head past who seq Expire range calm h = (expire_goes head past h (clock past) who seq).stands
step_stands head past who seq Recover range calm h = (recover_goes head past h (clock past) who seq).stands
step_stands head past who seq (Plug place drive) range calm h = absurd (cc)
step_stands head past who seq (Unplug place) range calm h = absurd (cc)
step_stands head past who seq (Inject place fault) range calm h = absurd (cc)
step_stands head past who seq Boot range calm h = boot_stands head past h (clock past) who seq

entries_stand :
    (head : PortHead) (past : List Event) (entries : List EntryView) → AreLegal head past entries → AreInRange entries → AreCalm entries
    → Stands head past → Stands head (past_from past entries)
entries_stand head past [] legal ranges calm h = h
entries_stand head past (r ∷ rest) legal ranges calm h =
    entries_stand head (grown past r) rest legal.1 (All-tail (λ (e : EntryView). IsScriptStep e.step) r rest ranges) calm.1
    (subst (λ x. Stands head (grown past x)) (sym legal.0)
    (step_stands head past r.who r.seq r.step (All-head (λ (e : EntryView). IsScriptStep e.step) r rest ranges) calm.0 h))

acts_stand :
    (head : PortHead) (journal : List EntryView) → HasLegalActs head journal → AreInRange journal → IsCalmJournal journal
    → Stands head (past_of journal)
acts_stand head [] legal ranges calm = absurd legal
acts_stand head (first ∷ rest) legal ranges calm =
    entries_stand head (grown [] first) rest legal.1 (All-tail (λ (e : EntryView). IsScriptStep e.step) first rest ranges) calm
    (subst (λ x. Stands head (grown [] x)) (sym legal.0) (boot_stands_at head))

pub journal_stands :
    (head : PortHead) (journal : List EntryView) → IsLegal head journal → IsCalmJournal journal → Stands head (past_of journal)
journal_stands head journal legal calm = acts_stand head journal legal.acts legal.ranges calm
