-- The entry of an interrupt.
use Rattle.std.proofs.Common.{◌≡◌, ◌∙◌, ℕ, ◌&&◌, ◌||◌, not, Bool, true, false, List, [], ◌∷◌, ◌++◌, Option, Some, None, suc, zero, is_some, refl, sym, ap, if◌then◌else◌}
use Rattle.std.proofs.lemmas.List.{append-nil}
use Rattle.std.specs.List.{list_any, slice_index_or}
use Rattle.ata_base.proofs.Truth.{neither}
use Rattle.ata_base.specs.declared.err_mask.ErrMask.{ErrMask}
use Rattle.ata_trace.specs.Entries.{grown}
use Rattle.ata_trace.specs.Event.{onto}
use Rattle.ata_trace.specs.Event.Event.{Entered}
use Rattle.ata_trace.specs.declared.act.Act.{Act}
use Rattle.ata_trace.specs.declared.act.Act.TheVariants.{Frozen, Nothing, Requested}
use Rattle.ata_trace.specs.declared.step.Step.TheVariants.{Irq}
use Rattle.ata_trace.specs.declared.who.Who.{Who}
use Rattle.eh_autopsy.specs.declared.failed_issue.FailedIssue.{FailedIssue}
use Rattle.host_tags.specs.declared.in_flight.InFlight.{InFlight}
use Rattle.port_ledger.specs.LedgerView.{Begins, LedgerView, past}
use Rattle.port_past.specs.Causes.{tferr, has_notify}
use Rattle.port_past.specs.Clock.{clock}
use Rattle.port_past.specs.Completions.{completions}
use Rattle.port_past.specs.Line.{is_irq_served}
use Rattle.port_past.specs.PortState.{is_asked}
use Rattle.port_past.specs.Slots.{slots}
use Rattle.port_past.specs.declared.completion.Completion.{Completion}
use Rattle.port_rules.specs.Interrupt.{is_struck, must_freeze, must_request, no_kinds, served_from}
use Rattle.port_rules.specs.Legal.{entry_after}
use Rattle.port_rules.specs.Sorting.{condemnations, ok_answers}
use Rattle.port_rules.specs.Told.{or_nothing, told_if}
use Rattle.port_telling.proofs.AddLemmas.{adds_same}
use Rattle.port_telling.specs.Adds.{Adds}
use Rattle.port_steps.specs.Taken.{asks}
use Rattle.port_telling.specs.Walks.{slots_in, completions_in}
use Rattle.port_steps.specs.declared.taken.Taken.{Taken}

-- ---- without a cause no issue is condemned

none_there :
    (failing : List (Option FailedIssue)) (place : ℕ) → list_any is_some failing ≡ false
    → is_some (slice_index_or failing place None) ≡ false
none_there [] place none = refl
none_there (x ∷ rest) zero none = (neither (is_some x) (list_any is_some rest) none).0
none_there (x ∷ rest) (suc place) none = none_there rest place (neither (is_some x) (list_any is_some rest) none).1

none_here :
    (owned tested : Bool) (act : Act) (rest : List Act) → tested ≡ false → rest ≡ []
    → (if not owned && tested then act ∷ rest else rest) ≡ []
none_here true tested act rest fails none = none
none_here false tested act rest fails none = rw fails none

none_passes :
    (test : InFlight → Bool) (kinds : ErrMask) → ((f : InFlight) → test f ≡ false)
    → (flights : List (Option InFlight)) (done : List (Option Completion)) → condemnations test kinds flights done ≡ []
none_passes test kinds fails [] done = refl
none_passes test kinds fails (None ∷ flights) [] = refl
none_passes test kinds fails (Some f ∷ flights) [] = refl
none_passes test kinds fails (None ∷ flights) (e ∷ done) = none_passes test kinds fails flights done
none_passes test kinds fails (Some f ∷ flights) (Some it ∷ done) = none_passes test kinds fails flights done
none_passes test kinds fails (Some f ∷ flights) (None ∷ done) =
    none_here f.owned (test f) _ (condemnations test kinds flights done) (fails f)
    (none_passes test kinds fails flights done)

not_struck :
    (freeze : Bool) (failing : List (Option FailedIssue)) (f : InFlight) → list_any is_some failing ≡ false
    → freeze ≡ false → is_struck freeze failing f ≡ false
not_struck freeze failing f none calm = rw calm (none_there failing f.place none)

pub none_struck :
    (taken : Taken) (kinds : ErrMask) (flights : List (Option InFlight)) (done : List (Option Completion))
    → asks taken ≡ false
    → condemnations (is_struck taken.freeze taken.failing) kinds flights done ≡ []
none_struck taken kinds flights done calm =
    let first = neither (list_any is_some taken.failing || taken.freeze) taken.notify calm in
    let both = neither (list_any is_some taken.failing) taken.freeze first.0 in
    let fails : (f : InFlight) → is_struck taken.freeze taken.failing f ≡ false =
    λ f. not_struck taken.freeze taken.failing f both.0 both.1 in
    none_passes (is_struck taken.freeze taken.failing) kinds fails flights done

-- ---- what the rule asks of the past before the entry is as the entry's beginning leaves it, but for the causes, which
-- were asked before

same_acts :
    {flights flights_was : List (Option InFlight)} {done done_was : List (Option Completion)}
    {failing failing_was : List (Option FailedIssue)} {freeze freeze_was notify notify_was asked asked_was : Bool}
    → flights ≡ flights_was → done ≡ done_was → failing ≡ failing_was → freeze ≡ freeze_was
    → notify ≡ notify_was → asked ≡ asked_was
    → served_from flights done failing freeze (list_any is_some failing || freeze || notify) asked
    ≡ served_from flights_was done_was failing_was freeze_was (list_any is_some failing_was || freeze_was || notify_was)
    asked_was
same_acts a b c d e g = rw (a, b, c, d, e, g) refl

-- what is told of what was taken
abbrev pub acts_of : Taken → LedgerView → List Act
acts_of taken ledger = served_from
    (slots_in ledger)
    (completions_in ledger)
    taken.failing
    taken.freeze
    (asks taken)
    (is_asked (past ledger))

pub served_told :
    {first begun last : LedgerView} {seq : ℕ} {who : Who} {taken : Taken}
    → is_irq_served (past first) ≡ true
    → taken.failing ≡ tferr (past first) → taken.freeze ≡ must_freeze first.head (past first)
    → taken.notify ≡ has_notify first.head (past first)
    → Begins first begun (Entered (clock (past first)) who seq Irq ∷ past first)
    → Adds begun last (or_nothing (acts_of taken begun))
    → past last ≡ grown (past first) (entry_after first.head (past first) who seq Irq)
served_told {first} {begun} {last} {seq} {who} {taken} served failing freeze notify goes adds =
    let head : List _ = Entered (clock (past first)) who seq Irq ∷ past first in
    let flights : slots_in begun ≡ slots_in first = ap slots goes.past in
    let done : completions_in begun ≡ completions_in first =
    ap (λ h. completions h (past begun)) goes.head ∙ ap (completions first.head) goes.past in
    let asked : is_asked (past begun) ≡ is_asked (past first) = ap is_asked goes.past in
    adds.past
    ∙ ap (λ p. onto p (or_nothing (acts_of taken begun))) goes.past
    ∙ ap (λ acts. onto head (or_nothing acts)) (same_acts flights done failing freeze notify asked)
    ∙ rw served refl

-- an interrupt that isn't served
pub unserved_told :
    {first begun last : LedgerView} {seq : ℕ} {who : Who}
    → is_irq_served (past first) ≡ false
    → Begins first begun (Entered (clock (past first)) who seq Irq ∷ past first)
    → Adds begun last (Nothing ∷ [])
    → past last ≡ grown (past first) (entry_after first.head (past first) who seq Irq)
unserved_told {first = first} {seq = seq} {who = who} served goes adds =
    adds.past ∙ ap (λ p. onto p (Nothing ∷ [])) goes.past ∙ rw served refl

-- where no cause stands, the completed issues are answered, and nothing else is told
calm_acts :
    (taken : Taken) (ledger : LedgerView) → asks taken ≡ false
    → acts_of taken ledger ≡ ok_answers (slots_in ledger) (completions_in ledger)
calm_acts taken ledger calm =
    let answers : List Act = ok_answers (slots_in ledger) (completions_in ledger) in
    let first = neither (list_any is_some taken.failing || taken.freeze) taken.notify calm in
    let freezes : taken.freeze ≡ false = (neither (list_any is_some taken.failing) taken.freeze first.0).1 in
    ap (λ acts. answers ++ acts ++ told_if taken.freeze Frozen ++ told_if (asks taken && not (is_asked (past ledger))) Requested)
    (none_struck taken no_kinds (slots_in ledger) (completions_in ledger) calm)
    ∙ ap (λ freeze. answers ++ [] ++ told_if freeze Frozen ++ told_if (asks taken && not (is_asked (past ledger))) Requested) freezes
    ∙ ap (λ request. answers ++ [] ++ [] ++ told_if (request && not (is_asked (past ledger))) Requested) calm
    ∙ append-nil (answers ++ [] ++ []) ∙ append-nil (answers ++ []) ∙ append-nil answers

pub calm_told :
    {first begun last : LedgerView} {seq : ℕ} {who : Who}
    → is_irq_served (past first) ≡ true → must_request first.head (past first) ≡ false
    → Begins first begun (Entered (clock (past first)) who seq Irq ∷ past first)
    → Adds begun last (or_nothing (ok_answers (slots_in begun) (completions_in begun)))
    → past last ≡ grown (past first) (entry_after first.head (past first) who seq Irq)
calm_told {first} {begun} {last} {seq} {who} served calm goes adds =
    let taken : Taken = record {
      failing = tferr (past first);
      freeze = must_freeze first.head (past first);
      notify = has_notify first.head (past first);
    } in
    served_told {taken = taken} served refl refl refl goes
    (adds_same (ap or_nothing (sym (calm_acts taken begun calm))) adds)
