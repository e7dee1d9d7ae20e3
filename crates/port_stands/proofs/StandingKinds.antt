-- Of which kinds all acts of a recovery, of an interrupt and of the timer are.
use Rattle.std.proofs.Common.{◌≡◌, ℕ, Bool, true, not, ◌&&◌, ◌||◌, List, [], ◌∷◌, ◌++◌, refl}
use Rattle.std.specs.List.{list_all}
use Rattle.std.proofs.lemmas.Bool.{lt-ltb}
use Rattle.ata_script.specs.declared.port_head.PortHead.{PortHead}
use Rattle.ata_trace.specs.Event.{Event}
use Rattle.ata_trace.specs.declared.act.Act.{Act}
use Rattle.ata_trace.specs.declared.act.Act.TheVariants.{Condemned, Frozen, Requested, Expired, Drained, Nothing}
use Rattle.host_tags.specs.declared.in_flight.InFlight.{InFlight}
use Rattle.port_past.specs.Clock.{clock}
use Rattle.port_past.specs.Drain.{is_drained}
use Rattle.port_past.specs.Causes.{tferr}
use Rattle.port_past.specs.Completions.{completions}
use Rattle.port_past.specs.Line.{is_irq_served}
use Rattle.port_past.specs.declared.completion.Completion.{Completion}
use Rattle.port_past.specs.PortState.{is_asked}
use Rattle.port_past.specs.Slots.{slots}
use Rattle.port_rules.specs.Sorting.{ok_act, ok_answers, condemnations}
use Rattle.port_rules.specs.Interrupt.{served_acts, irq_acts, must_freeze, must_request, no_kinds, has_failed}
use Rattle.port_rules.specs.Time.{has_drain_come, expiries, with_request, expire_acts}
use Rattle.port_rules.specs.Told.{told_if, or_nothing}
use Rattle.port_stands.proofs.Blocks.{all_append}
use Rattle.port_stands.proofs.Judgements.{is_no_turn}
use Rattle.port_stands.proofs.Known.{is_no_start}
use Rattle.port_stands.proofs.Lists.{all_answers, all_condemnations, all_expiries, all_if, all_more, all_or_nothing, all_told, all_with_request}
use Rattle.port_stands.proofs.Recovering.{HasRecovery}
use Rattle.port_stands.proofs.Within.{is_fit}
use Rattle.port_stands.specs.Words.{is_no_issue}

-- ---- kinds of which all acts of recovery are

pub issues_recovery : (n : ℕ) → HasRecovery is_no_issue n
issues_recovery n = record {
  nothing = refl;
  waiting = λ t. refl;
  answered = λ f e. refl;
  condemned = λ f k. refl;
  frozen = refl;
  thawed = refl;
  logs = record { page = λ p t s e l c. refl; failed = λ p. refl; bad_sum = λ p. refl; not_queued = λ p. refl; aborted = λ n. refl };
  autopsy = λ p w. record { judged = λ n k. refl; recorded = λ i d k n s o e a. refl; cleared = refl; hot = λ g. refl };
  action = λ p k r w. refl;
  host_begun = λ d. refl;
  host_ended = refl;
  begun = λ p a d. refl;
  reset = λ p w. record { ended = λ g. refl; none = refl; late = refl; failed = refl; disabled = refl; detached = refl; waiting = refl };
  asked = λ p a d. refl;
  identity = λ p w. record { identified = λ i. refl; same = refl; attached = refl; detached = refl; disabled = refl; mode = λ u o d. refl; late = refl; waiting = refl };
  finish = record { nodev = λ i n. refl; retried = λ i n r. refl; failed = λ i n j. refl };
  ended = refl;
}

pub starts_recovery : (n : ℕ) → HasRecovery is_no_start n
starts_recovery n = record {
  nothing = refl;
  waiting = λ t. refl;
  answered = λ f e. refl;
  condemned = λ f k. refl;
  frozen = refl;
  thawed = refl;
  logs = record { page = λ p t s e l c. refl; failed = λ p. refl; bad_sum = λ p. refl; not_queued = λ p. refl; aborted = λ n. refl };
  autopsy = λ p w. record { judged = λ n k. refl; recorded = λ i d k n s o e a. refl; cleared = refl; hot = λ g. refl };
  action = λ p k r w. refl;
  host_begun = λ d. refl;
  host_ended = refl;
  begun = λ p a d. refl;
  reset = λ p w. record { ended = λ g. refl; none = refl; late = refl; failed = refl; disabled = refl; detached = refl; waiting = refl };
  asked = λ p a d. refl;
  identity = λ p w. record { identified = λ i. refl; same = refl; attached = refl; detached = refl; disabled = refl; mode = λ u o d. refl; late = refl; waiting = refl };
  finish = record { nodev = λ i n. refl; retried = λ i n r. refl; failed = λ i n j. refl };
  ended = refl;
}

pub turns_recovery : (n : ℕ) → HasRecovery is_no_turn n
turns_recovery n = record {
  nothing = refl;
  waiting = λ t. refl;
  answered = λ f e. refl;
  condemned = λ f k. refl;
  frozen = refl;
  thawed = refl;
  logs = record { page = λ p t s e l c. refl; failed = λ p. refl; bad_sum = λ p. refl; not_queued = λ p. refl; aborted = λ n. refl };
  autopsy = λ p w. record { judged = λ n k. refl; recorded = λ i d k n s o e a. refl; cleared = refl; hot = λ g. refl };
  action = λ p k r w. refl;
  host_begun = λ d. refl;
  host_ended = refl;
  begun = λ p a d. refl;
  reset = λ p w. record { ended = λ g. refl; none = refl; late = refl; failed = refl; disabled = refl; detached = refl; waiting = refl };
  asked = λ p a d. refl;
  identity = λ p w. record { identified = λ i. refl; same = refl; attached = refl; detached = refl; disabled = refl; mode = λ u o d. refl; late = refl; waiting = refl };
  finish = record { nodev = λ i n. refl; retried = λ i n r. refl; failed = λ i n j. refl };
  ended = refl;
}

pub fit_recovery : (n : ℕ) → HasRecovery (is_fit n) n
fit_recovery n = record {
  nothing = refl;
  waiting = λ t. refl;
  answered = λ f e. refl;
  condemned = λ f k. refl;
  frozen = refl;
  thawed = refl;
  logs = record { page = λ p t s e l c. refl; failed = λ p. refl; bad_sum = λ p. refl; not_queued = λ p. refl; aborted = λ n. refl };
  autopsy = λ p w. record { judged = λ n k. refl; recorded = λ i d k n s o e a. refl; cleared = refl; hot = λ g. lt-ltb p n w };
  action = λ p k r w. lt-ltb p n w;
  host_begun = λ d. refl;
  host_ended = refl;
  begun = λ p a d. refl;
  reset = λ p w. record { ended = λ g. refl; none = refl; late = refl; failed = refl; disabled = refl; detached = refl; waiting = refl };
  asked = λ p a d. refl;
  identity = λ p w. record { identified = λ i. refl; same = refl; attached = lt-ltb p n w; detached = refl; disabled = refl; mode = λ u o d. refl; late = refl; waiting = refl };
  finish = record { nodev = λ i n. refl; retried = λ i n r. refl; failed = λ i n j. refl };
  ended = refl;
}

-- ---- the acts of an interrupt and of the timer

pub all_irq :
    (kind : Act → Bool) (head : PortHead) (past : List Event)
    → ((f : InFlight) (end : Completion) → kind (ok_act f end) ≡ true) → ((f : InFlight) → kind (Condemned f.number no_kinds) ≡ true)
    → kind Frozen ≡ true → kind Requested ≡ true → kind Nothing ≡ true
    → list_all kind (irq_acts head past) ≡ true
all_irq kind head past answered condemned frozen requested none =
    let told : List Act = ok_answers (slots past) (completions head past) in
    let marks : List Act = condemnations (λ f. must_freeze head past || has_failed (tferr past) f) no_kinds (slots past) (completions head past) in
    let freeze : List Act = told_if (must_freeze head past) Frozen in
    let request : List Act = told_if (must_request head past && not (is_asked past)) Requested in
    all_if kind (is_irq_served past) (or_nothing (served_acts head past)) (Nothing ∷ [])
    (all_or_nothing kind (served_acts head past) none
    (all_append kind (told ++ marks ++ freeze) request
    (all_append kind (told ++ marks) freeze
    (all_append kind told marks (all_answers kind answered (slots past) (completions head past))
    (all_condemnations kind (λ f. must_freeze head past || has_failed (tferr past) f) no_kinds condemned (slots past) (completions head past)))
    (all_told kind (must_freeze head past) Frozen frozen))
    (all_told kind (must_request head past && not (is_asked past)) Requested requested)))
    (all_more kind Nothing [] none refl)

pub all_expire :
    (kind : Act → Bool) (head : PortHead) (past : List Event) → ((f : InFlight) → kind (Expired f.id f.number) ≡ true)
    → kind Drained ≡ true → kind Requested ≡ true → kind Nothing ≡ true
    → list_all kind (expire_acts head past) ≡ true
all_expire kind head past expired drained requested none =
    let told : List Act = expiries (clock past) (has_drain_come head past || is_drained past) (slots past) in
    all_or_nothing kind (told_if (has_drain_come head past) Drained ++ with_request (is_asked past) told) none
    (all_append kind (told_if (has_drain_come head past) Drained) (with_request (is_asked past) told)
    (all_told kind (has_drain_come head past) Drained drained)
    (all_with_request kind (is_asked past) told requested
    (all_expiries kind (clock past) (has_drain_come head past || is_drained past) expired (slots past))))
