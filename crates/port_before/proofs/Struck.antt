-- Where one place at a time has the port, what fails at it takes all that flies.
use Rattle.std.proofs.Common.{◌≡◌, ◌∙◌, ℕ, ◌<◌, Bool, true, false, not, ◌&&◌, ◌||◌, List, [], ◌∷◌, ◌++◌, Option, None, Some, is_some, suc, zero, slice_index_or, refl, sym, ap, arith, if◌then◌else◌}
use Rattle.std.specs.List.{list_any}
use Rattle.ata_base.proofs.Truth.{or_true}
use Rattle.ata_base.specs.Reasons.{first_reason}
use Rattle.ata_base.specs.declared.cmd.Cmd.{Cmd}
use Rattle.ata_base.specs.declared.deferral.Deferral.TheVariants.{Frozen as IsFrozen, Recovering, LinkBusy, PortBusy, NoTag}
use Rattle.ata_base.specs.declared.err_mask.ErrMask.{ErrMask}
use Rattle.ata_script.specs.declared.port_head.PortHead.{PortHead}
use Rattle.ata_trace.specs.Entries.{EntryView, past_of}
use Rattle.ata_trace.specs.Event.{Event}
use Rattle.ata_trace.specs.declared.act.Act.{Act}
use Rattle.ata_trace.specs.declared.act.Act.TheVariants.{AnsweredNodev, Condemned, Frozen, Requested, Nothing}
use Rattle.ata_trace.specs.declared.step.Step.{Step}
use Rattle.ata_trace.specs.declared.step.Step.TheVariants.{Kick, Irq}
use Rattle.ata_trace.specs.declared.who.Who.{Who}
use Rattle.eh_autopsy.specs.declared.failed_issue.FailedIssue.{FailedIssue}
use Rattle.host_defer.specs.Obstacles.{deferral_of, is_elsewhere, is_link_busy, is_taken, has_no_tag}
use Rattle.host_queue.specs.Waiting.{front_of}
use Rattle.host_tags.proofs.FlightLemmas.{each_at}
use Rattle.host_tags.specs.declared.in_flight.InFlight.{InFlight}
use Rattle.port_before.specs.BeforeSwitching.{acts_before_switching, deferral_before_switching, entry_before_switching, front_acts_before_switching, irq_acts_before_switching, served_acts_before_switching}
use Rattle.port_facts.proofs.Legal.{journal_allowed}
use Rattle.port_facts.proofs.Placed.{flights_on}
use Rattle.port_facts.specs.Moments.{AtEach}
use Rattle.port_laws.proofs.Links.{links_are_one}
use Rattle.port_laws.specs.Links.{AreTogether, IsOneLink}
use Rattle.port_past.specs.Attachment.{detachments}
use Rattle.port_past.specs.Causes.{tferr}
use Rattle.port_past.specs.Clock.{clock}
use Rattle.port_past.specs.Commands.{is_gone}
use Rattle.port_past.specs.Completions.{completions}
use Rattle.port_past.specs.Exclusive.{exclusive}
use Rattle.port_past.specs.Identities.{depth_at}
use Rattle.port_past.specs.Line.{is_irq_served}
use Rattle.port_past.specs.PortState.{is_asked, is_frozen, is_recovering}
use Rattle.port_past.specs.Queues.{queues}
use Rattle.port_past.specs.Slots.{slots}
use Rattle.port_past.specs.declared.completion.Completion.{Completion}
use Rattle.port_rules.specs.Interrupt.{has_failed, irq_acts, is_struck, must_freeze, must_request, no_kinds, served_acts}
use Rattle.port_rules.specs.Kick.{deferred_or_issued, front_acts, is_queued, outline, view_of}
use Rattle.port_rules.specs.Legal.{IsLegal, entry_after, legal_acts}
use Rattle.port_rules.specs.Sorting.{condemnations, ok_answers}
use Rattle.port_rules.specs.Told.{or_nothing, told_if}
use Rattle.port_stands.proofs.Failing.{journal_failed}
use Rattle.port_stands.proofs.Heads.{HasOnePlace, one_place}
use Rattle.port_stands.proofs.Standing.{none_flying}
use Rattle.port_stands.specs.Failing.{FailedFly}
use Rattle.port_stands.specs.Gate.{AreAll}

-- ---- kicks

unswitched : (pmp rest : Bool) → (pmp && not false && rest) ≡ (pmp && rest)
unswitched true rest = refl
unswitched false rest = refl

module _ (head : PortHead) (fbs : head.fbs ≡ false) (past : List Event) where
  -- another place defers a command of a multiplier
  deferral_same : (place : ℕ) (queued : Bool) → deferral_of (view_of head past) place queued (depth_at past place) ≡ deferral_before_switching head past place queued
  deferral_same place queued =
      let elsewhere : Bool = list_any (is_elsewhere place) (outline (slots past)) || is_taken (exclusive past) place in
      ap (λ taken. first_reason (
      (IsFrozen, is_frozen past)
      ∷ (Recovering, is_recovering past)
      ∷ (LinkBusy, is_link_busy (outline (slots past)) place queued)
      ∷ (PortBusy, taken)
      ∷ (NoTag, has_no_tag (outline (slots past)) queued (depth_at past place))
      ∷ []))
      (ap (λ b. head.pmp && not b && elsewhere) fbs ∙ unswitched head.pmp elsewhere)

  front_same : (front : Option Cmd) → front_acts head past front ≡ front_acts_before_switching head past front
  front_same None = refl
  front_same (Some cmd) =
      ap (λ why. if is_gone cmd (detachments past) then AnsweredNodev cmd.id (record { n = 0 }) ∷ []
      else deferred_or_issued head past cmd (is_queued past cmd.place cmd.op) why)
      (deferral_same cmd.place (is_queued past cmd.place cmd.op))

-- ---- the issues in flight are at one place

at_last : (past : List Event) → AtEach IsOneLink past → AreTogether (slots past)
at_last [] each = λ tag other f g here there. absurd (none_flying 32 tag f here)
at_last (event ∷ past) each = each.0

-- of a direct port, and of a multiplier that doesn't switch by frames
together_by :
    (head : PortHead) → head.fbs ≡ false → (journal : List EntryView) → IsLegal head journal
    → (pmp : Bool) → head.pmp ≡ pmp → AreTogether (slots (past_of journal))
together_by head fbs journal legal true pmp = at_last (past_of journal) (links_are_one head pmp fbs journal legal)
together_by head fbs journal legal false direct = λ tag other f g here there.
    let flown = flights_on head (past_of journal) (journal_allowed head journal legal) in
    let fits : HasOnePlace head = one_place head in
    omega (
      arith,
      fits.one_place direct,
      each_at (λ f. f.place < head.places) (slots (past_of journal)) tag f flown here,
      each_at (λ f. f.place < head.places) (slots (past_of journal)) other g flown there,
    )

-- ---- what failed takes all of them

-- TFERR of a place stands
record StandsAt (failing : List (Option FailedIssue)) : Type 0 where
  place : ℕ
  failure : FailedIssue
  here : slice_index_or failing place None ≡ Some failure

stands_at : (failing : List (Option FailedIssue)) → list_any is_some failing ≡ true → StandsAt failing
stands_at [] is = absurd (cc)
stands_at (None ∷ failing) is =
    let rest = stands_at failing is in
    record { place = suc rest.place; failure = rest.failure; here = rest.here }
stands_at (Some failure ∷ failing) is = record { place = 0; failure = failure; here = refl }

stands_nowhere : (failing : List (Option FailedIssue)) (place : ℕ) → list_any is_some failing ≡ false → is_some (slice_index_or failing place None) ≡ false
stands_nowhere [] place none = refl
stands_nowhere (Some failure ∷ failing) place none = absurd (cc)
stands_nowhere (None ∷ failing) zero none = refl
stands_nowhere (None ∷ failing) (suc place) none = stands_nowhere failing place none

all_failed :
    (past : List Event) → FailedFly past → AreTogether (slots past) → list_any is_some (tferr past) ≡ true
    → AreAll (λ f. has_failed (tferr past) f ≡ true) (slots past)
all_failed past failed together some tag f here =
    let s = stands_at (tferr past) some in
    let fly = failed s.place s.failure s.here in
    let there : f.place ≡ s.place = together tag fly.tag f fly.flight here fly.here ∙ fly.there in
    ap (λ x. is_some (slice_index_or (tferr past) x None)) there ∙ ap is_some s.here

-- ---- who is condemned

left_out : (b : Bool) (xs ys : List Act) → (if b && false then xs else ys) ≡ ys
left_out true xs ys = refl
left_out false xs ys = refl

-- none, where none passes the test
none_condemned :
    (test : InFlight → Bool) (kinds : ErrMask) → ((f : InFlight) → test f ≡ false)
    → (flights : List (Option InFlight)) (done : List (Option Completion)) → condemnations test kinds flights done ≡ []
none_condemned test kinds fails [] done = refl
none_condemned test kinds fails (None ∷ flights) [] = refl
none_condemned test kinds fails (Some f ∷ flights) [] = refl
none_condemned test kinds fails (None ∷ flights) (end ∷ done) = none_condemned test kinds fails flights done
none_condemned test kinds fails (Some f ∷ flights) (Some end ∷ done) = none_condemned test kinds fails flights done
none_condemned test kinds fails (Some f ∷ flights) (None ∷ done) =
    let rest : List Act = condemnations test kinds flights done in
    ap (λ b. if not f.owned && b then Condemned f.number kinds ∷ rest else rest) (fails f)
    ∙ left_out (not f.owned) (Condemned f.number kinds ∷ rest) rest
    ∙ none_condemned test kinds fails flights done

-- all, where all pass it
all_condemned :
    (test : InFlight → Bool) (kinds : ErrMask) (flights : List (Option InFlight)) (done : List (Option Completion))
    → AreAll (λ f. test f ≡ true) flights
    → condemnations test kinds flights done ≡ condemnations (λ f. true) kinds flights done
all_condemned test kinds [] done pass = refl
all_condemned test kinds (None ∷ flights) [] pass = refl
all_condemned test kinds (Some f ∷ flights) [] pass = refl
all_condemned test kinds (None ∷ flights) (end ∷ done) pass = all_condemned test kinds flights done (λ tag g here. pass (suc tag) g here)
all_condemned test kinds (Some f ∷ flights) (Some end ∷ done) pass = all_condemned test kinds flights done (λ tag g here. pass (suc tag) g here)
all_condemned test kinds (Some f ∷ flights) (None ∷ done) pass =
    let rest : List Act = condemnations test kinds flights done in
    ap (λ b. if not f.owned && b then Condemned f.number kinds ∷ rest else rest) (pass 0 f refl)
    ∙ ap (λ more. if not f.owned && true then Condemned f.number kinds ∷ more else more)
    (all_condemned test kinds flights done (λ tag g here. pass (suc tag) g here))

-- where a cause condemns, all; else none
condemned_by :
    (freeze any : Bool) (failing : List (Option FailedIssue)) (flights : List (Option InFlight)) (done : List (Option Completion))
    → list_any is_some failing ≡ any → (any ≡ true → AreAll (λ f. has_failed failing f ≡ true) flights)
    → condemnations (is_struck freeze failing) no_kinds flights done
    ≡ (if any || freeze then condemnations (λ f. true) no_kinds flights done else [])
condemned_by true any failing flights done is all =
    ap (λ (b : Bool). if b then condemnations (λ f. true) no_kinds flights done else []) (sym (or_true any))
condemned_by false true failing flights done is all = all_condemned (has_failed failing) no_kinds flights done (all refl)
condemned_by false false failing flights done is all = none_condemned (has_failed failing) no_kinds (λ f. stands_nowhere failing f.place is) flights done

-- ---- interrupts

module _ (head : PortHead) (past : List Event) (failed : FailedFly past) (together : AreTogether (slots past)) where
  served_same : served_acts head past ≡ served_acts_before_switching head past
  served_same =
      ap (λ condemned.
      ok_answers (slots past) (completions head past)
      ++ condemned
      ++ told_if (must_freeze head past) Frozen
      ++ told_if (must_request head past && not (is_asked past)) Requested)
      (condemned_by (must_freeze head past) (list_any is_some (tferr past)) (tferr past) (slots past) (completions head past) refl
      (all_failed past failed together))

  irq_same : irq_acts head past ≡ irq_acts_before_switching head past
  irq_same = ap (λ acts. if is_irq_served past then or_nothing acts else Nothing ∷ []) served_same

  -- ---- steps

  acts_same : head.fbs ≡ false → (step : Step) → legal_acts head past step ≡ acts_before_switching head past step
  acts_same fbs (Kick place) = front_same head fbs past (front_of (queues past) place)
  acts_same fbs Irq = irq_same
  acts_same fbs step = refl

-- each entry is the one of the rules before
pub entry_switched :
    (head : PortHead) → head.fbs ≡ false → (journal : List EntryView) → IsLegal head journal → (who : Who) (seq : ℕ) (step : Step)
    → entry_after head (past_of journal) who seq step ≡ entry_before_switching head (past_of journal) who seq step
entry_switched head fbs journal legal who seq step =
    let past : List Event = past_of journal in
    ap (λ (acts : List Act). record { at = clock past; who = who; seq = seq; step = step; acts = acts })
    (acts_same head past (journal_failed head (one_place head) journal legal) (together_by head fbs journal legal head.pmp refl) fbs step)
