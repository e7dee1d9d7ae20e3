-- A port that doesn't give up waiting never did.
use Rattle.std.proofs.Common.{◌≡◌, ◌∙◌, ℕ, Bool, true, false, not, ◌&&◌, List, [], ◌∷◌, Option, None, Some, refl, sym, ap, subst, if◌then◌else◌}
use Rattle.std.specs.List.{list_all, cons_option}
use Rattle.ata_base.proofs.Truth.{both}
use Rattle.ata_script.specs.declared.port_head.PortHead.{PortHead}
use Rattle.ata_trace.specs.Entries.{EntryView, grown, past_from, past_of}
use Rattle.ata_trace.specs.Event.{Event, onto}
use Rattle.ata_trace.specs.Event.Event.{Entered, Told}
use Rattle.ata_trace.specs.declared.act.Act.{Act}
use Rattle.ata_trace.specs.declared.act.Act.TheVariants.{Drained, Expired, Requested}
use Rattle.ata_trace.specs.declared.step.Step.{Step}
use Rattle.ata_trace.specs.declared.step.Step.TheVariants.{Submit, Kick, Work, Irq, Drop, Stray, Tick, Expire, Recover, Plug, Unplug, Inject, Boot}
use Rattle.ata_trace.specs.declared.who.Who.{Who}
use Rattle.ata_trace.specs.declared.who.Who.TheVariants.{Boot as ByBoot}
use Rattle.host_tags.specs.declared.in_flight.InFlight.{InFlight}
use Rattle.port_before.proofs.Due.{expire_same, recover_same}
use Rattle.port_before.specs.BeforeDrain.{acts_before_drain, entry_before_drain, is_overdue, overdue_acts}
use Rattle.port_past.specs.Clock.{clock}
use Rattle.port_past.specs.Drain.{drained_since, is_drained}
use Rattle.port_past.specs.PortState.{is_asked}
use Rattle.port_past.specs.Slots.{slots}
use Rattle.port_rules.specs.Boot.{boot_acts, boot_entry}
use Rattle.port_rules.specs.Legal.{AreLegal, HasLegalActs, IsLegal, entry_after, legal_acts}
use Rattle.port_rules.specs.Phase.{phase}
use Rattle.port_rules.specs.Time.{with_request}
use Rattle.port_stands.proofs.EachStep.{HasKick, all_kick}
use Rattle.port_stands.proofs.Heads.{one_place}
use Rattle.port_stands.proofs.Lists.{all_or_nothing, all_with_request}
use Rattle.port_stands.proofs.Phases.{phase_is}
use Rattle.port_stands.proofs.Recovering.{HasRecovery, all_recover}
use Rattle.port_stands.proofs.Silence.{boot_kind}
use Rattle.port_stands.proofs.Standing.{boot_stands, stays}
use Rattle.port_stands.proofs.StandingKinds.{all_irq}
use Rattle.port_stands.proofs.StandingSteps.{place_within}
use Rattle.port_stands.proofs.Steps.{all_submit, all_work, all_drop, all_stray, all_tick, all_plug, all_unplug, all_inject}
use Rattle.port_stands.specs.Stands.{Stands}

-- an act that doesn't tell that the port gave up
abbrev is_undrained : Act → Bool
is_undrained Drained = false
is_undrained act = true

-- after such an act it has still not given up
undrained_step : (past : List Event) (act : Act) → is_undrained act ≡ true → drained_since past ≡ false → drained_since (Told act ∷ past) ≡ false
undrained_step past Requested is was = refl
undrained_step past Drained is was = absurd (cc)
undrained_step past act is was = was

undrained_onto : (past : List Event) (acts : List Act) → list_all is_undrained acts ≡ true → drained_since past ≡ false → drained_since (onto past acts) ≡ false
undrained_onto past [] all was = was
undrained_onto past (act ∷ rest) all was =
    let parts = both (is_undrained act) (list_all is_undrained rest) all in
    undrained_onto (Told act ∷ past) rest parts.1 (undrained_step past act parts.0 was)

-- ---- the acts of each step are such

undrained_kick : HasKick is_undrained
undrained_kick = record { nothing = refl; deferred = λ i w. refl; exclusive = λ p. refl; gone = λ i. refl; issued = λ i n t d f. refl }

undrained_recovery : (n : ℕ) → HasRecovery is_undrained n
undrained_recovery n = record {
  nothing = refl;
  waiting = λ t. refl;
  answered = λ f e. refl;
  condemned = λ f k. refl;
  frozen = refl;
  thawed = refl;
  logs = record { page = λ p t s e l c. refl; failed = λ p. refl; bad_sum = λ p. refl; not_queued = λ p. refl; aborted = λ n. refl };
  autopsy = λ p w. record { judged = λ n k. refl; recorded = λ i d k n s o e a. refl; cleared = refl; hot = λ g. refl };
  action = λ p k r w. refl;
  host_begun = λ d. refl;
  host_ended = refl;
  begun = λ p a d. refl;
  reset = λ p w. record { ended = λ g. refl; none = refl; late = refl; failed = refl; disabled = refl; detached = refl; waiting = refl };
  asked = λ p a d. refl;
  identity = λ p w. record { identified = λ i. refl; same = refl; attached = refl; detached = refl; disabled = refl; mode = λ u o d. refl; late = refl; waiting = refl };
  finish = record { nodev = λ i n. refl; retried = λ i n r. refl; failed = λ i n j. refl };
  ended = refl;
}

overdue_more : (b : Bool) (f : InFlight) (rest : List Act) → list_all is_undrained rest ≡ true → list_all is_undrained (cons_option (if b then Some (Expired f.id f.number) else None) rest) ≡ true
overdue_more true f rest all = all
overdue_more false f rest all = all

overdue_all : (now : ℕ) (flights : List (Option InFlight)) → list_all is_undrained (overdue_acts now flights) ≡ true
overdue_all now [] = refl
overdue_all now (None ∷ flights) = overdue_all now flights
overdue_all now (Some f ∷ flights) = overdue_more (is_overdue now f && not f.expired) f (overdue_acts now flights) (overdue_all now flights)

never_and : (b : Bool) → (b && false) ≡ false
never_and true = refl
never_and false = refl

-- a port that never gave up isn't drained
not_drained : (past : List Event) → drained_since past ≡ false → is_drained past ≡ false
not_drained past was = ap (λ b. is_asked past && b) was ∙ never_and (is_asked past)

module _ (head : PortHead) (drain : head.drain ≡ false) where
  undrained_acts : (past : List Event) (who : Who) (seq : ℕ) → Stands head past → drained_since past ≡ false → (step : Step) → list_all is_undrained (legal_acts head past step) ≡ true
  undrained_acts past who seq stands was (Submit id place op allow wait) = all_submit is_undrained head past id place op refl (λ r. refl)
  undrained_acts past who seq stands was (Kick place) = all_kick is_undrained undrained_kick head past place
  undrained_acts past who seq stands was (Work place pick) = all_work is_undrained head past place pick refl refl (λ n s e l c. refl)
  undrained_acts past who seq stands was Irq = all_irq is_undrained head past (λ f e. refl) (λ f. refl) refl refl refl
  undrained_acts past who seq stands was Drop = all_drop is_undrained past refl refl
  undrained_acts past who seq stands was (Stray tag) = all_stray is_undrained past refl refl
  undrained_acts past who seq stands was (Tick ms) = all_tick is_undrained past ms refl (λ t. refl)
  undrained_acts past who seq stands was Expire =
      let told : List Act = overdue_acts (clock past) (slots past) in
      subst (λ acts. list_all is_undrained acts ≡ true) (sym (expire_same head drain past (not_drained past was)))
      (all_or_nothing is_undrained (with_request (is_asked past) told) refl
      (all_with_request is_undrained (is_asked past) told refl (overdue_all (clock past) (slots past))))
  undrained_acts past who seq stands was Recover =
      all_recover is_undrained head past (undrained_recovery head.places) refl refl
      (place_within head past (clock past) who seq Recover stands (phase head past) (sym (phase_is head past)))
  undrained_acts past who seq stands was (Plug place drive) = all_plug is_undrained head past place drive refl refl refl
  undrained_acts past who seq stands was (Unplug place) = all_unplug is_undrained head past place refl refl refl
  undrained_acts past who seq stands was (Inject place fault) = all_inject is_undrained head past place fault refl refl refl
  undrained_acts past who seq stands was Boot = refl

  undrained_entry :
      (past : List Event) (who : Who) (seq : ℕ) (step : Step) → Stands head past → drained_since past ≡ false
      → drained_since (grown past (entry_after head past who seq step)) ≡ false
  undrained_entry past who seq step stands was =
      undrained_onto (Entered (clock past) who seq step ∷ past) (legal_acts head past step) (undrained_acts past who seq stands was step) was

  entries_undrained :
      (past : List Event) (entries : List EntryView) → Stands head past → drained_since past ≡ false → AreLegal head past entries
      → drained_since (past_from past entries) ≡ false
  entries_undrained past [] stands was legal = was
  entries_undrained past (r ∷ rest) stands was legal =
      entries_undrained (grown past r) rest
      (subst (λ x. Stands head (grown past x)) (sym legal.0) (stays head (one_place head) past r.who r.seq r.step stands))
      (subst (λ x. drained_since (grown past x) ≡ false) (sym legal.0) (undrained_entry past r.who r.seq r.step stands was)) legal.1

  boot_undrained : drained_since (grown [] (boot_entry head)) ≡ false
  boot_undrained = undrained_onto (Entered 0 ByBoot 0 Boot ∷ []) (boot_acts head) (boot_kind head is_undrained refl (λ p i. refl) (λ p. refl) (λ p o. refl)) refl

  acts_undrained : (journal : List EntryView) → HasLegalActs head journal → drained_since (past_of journal) ≡ false
  acts_undrained [] legal = absurd legal
  acts_undrained (first ∷ rest) legal =
      entries_undrained (grown [] first) rest
      (subst (λ x. Stands head (grown [] x)) (sym legal.0) (boot_stands head))
      (subst (λ x. drained_since (grown [] x) ≡ false) (sym legal.0) boot_undrained) legal.1

  acts_same : (past : List Event) → is_drained past ≡ false → (step : Step) → legal_acts head past step ≡ acts_before_drain head past step
  acts_same past never Expire = expire_same head drain past never
  acts_same past never Recover = recover_same head past never
  acts_same past never step = refl

-- each entry is the one of the rules before
pub entry_undrained :
    (head : PortHead) → head.drain ≡ false → (journal : List EntryView) → IsLegal head journal → (who : Who) (seq : ℕ) (step : Step)
    → entry_after head (past_of journal) who seq step ≡ entry_before_drain head (past_of journal) who seq step
entry_undrained head drain journal legal who seq step =
    let past : List Event = past_of journal in
    ap (λ (acts : List Act). record { at = clock past; who = who; seq = seq; step = step; acts = acts })
    (acts_same head drain past (not_drained past (acts_undrained head drain journal legal.acts)) step)
