-- An interrupt.
use Rattle.std.proofs.Common.{◌⊎◌, inl, inr, ◌≡◌, ◌≢◌, ◌∙◌, ℕ, ◌+◌, ◌-◌, ◌<◌, ◌≤◌, ◌&&◌, ◌||◌, Bool, true, false, not, cond, is_some, if◌then◌else◌, List, [], ◌∷◌, ◌++◌, Option, None, Some, length, suc, zero, slice_index_or, replicate, refl, sym, ap, subst, arith, append-nil, le_refl}
use Rattle.std.proofs.lemmas.Bool.{cases_lt}
use Rattle.std.specs.List.{list_any, list_all}
use Rattle.ata_base.specs.declared.err_mask.ErrMask.{ErrMask}
use Rattle.ata_script.specs.declared.port_head.PortHead.{PortHead}
use Rattle.ata_trace.specs.Event.Event.{Entered, Told}
use Rattle.ata_trace.specs.Event.{Event, onto}
use Rattle.ata_trace.specs.declared.act.Act.TheVariants.{Frozen, Requested, Nothing, Condemned}
use Rattle.ata_trace.specs.declared.act.Act.{Act}
use Rattle.ata_trace.specs.declared.step.Step.TheVariants.{Irq}
use Rattle.ata_trace.specs.declared.who.Who.{Who}
use Rattle.host_tags.specs.Numbers.{is_issue}
use Rattle.host_tags.specs.Slots.{flight_at}
use Rattle.host_tags.specs.declared.in_flight.InFlight.{InFlight}
use Rattle.port_calm.proofs.Answering.{answer_calm, answer_less, left_at, stays, end_stays}
use Rattle.port_calm.proofs.Sight.{sight, IsCalm, end_at}
use Rattle.port_calm.proofs.Slots.{same_or_not, without_at, where_at, not_same}
use Rattle.port_calm.proofs.Standing.{Stands, Goes, total}
use Rattle.port_calm.proofs.Working.{DoneAny}
use Rattle.port_calm.specs.Calm.{HasCalmActs}
use Rattle.port_past.specs.ByTag.{set_where}
use Rattle.port_past.specs.Causes.{tferr, has_iferr, has_connect, has_notify}
use Rattle.port_past.specs.Commands.{commands}
use Rattle.port_past.specs.Completions.{completions}
use Rattle.port_past.specs.PortState.{is_frozen, is_asked}
use Rattle.port_past.specs.Line.{is_line_up, is_irq_served}
use Rattle.port_past.specs.Places.{nowhere}
use Rattle.port_past.specs.Slots.{slots}
use Rattle.port_past.specs.declared.completion.Completion.{Completion}
use Rattle.eh_autopsy.specs.declared.failed_issue.FailedIssue.{FailedIssue}
use Rattle.port_rules.specs.Sorting.{ok_act, ok_answers, condemnations}
use Rattle.port_rules.specs.Interrupt.{no_kinds, has_failed, must_freeze, must_request, served_acts, irq_acts}
use Rattle.port_rules.specs.Settle.{is_idle_act}
use Rattle.port_rules.specs.Told.{or_nothing, told_if}

-- ---- nothing is condemned

none_condemned :
    (test : InFlight → Bool) (kinds : ErrMask) (slots : List (Option InFlight)) (completions : List (Option Completion))
    → ((f : InFlight) → test f ≡ false) → condemnations test kinds slots completions ≡ []
none_condemned test kinds [] [] never = refl
none_condemned test kinds [] (end ∷ completions) never = refl
none_condemned test kinds (None ∷ slots) [] never = refl
none_condemned test kinds (Some f ∷ slots) [] never = refl
none_condemned test kinds (None ∷ slots) (None ∷ completions) never = none_condemned test kinds slots completions never
none_condemned test kinds (None ∷ slots) (Some e ∷ completions) never = none_condemned test kinds slots completions never
none_condemned test kinds (Some f ∷ slots) (Some e ∷ completions) never = none_condemned test kinds slots completions never
none_condemned test kinds (Some f ∷ slots) (None ∷ completions) never =
    rw (never f) (by (not f.owned) (none_condemned test kinds slots completions never)) where
      by :
          (b : Bool) → condemnations test kinds slots completions ≡ []
          → cond (b && false) (Condemned f.number kinds ∷ condemnations test kinds slots completions) (condemnations test kinds slots completions) ≡ []
      by true later = later
      by false later = later

abbrev nothing : ℕ → List (Option FailedIssue)
nothing n = replicate n None

none_in : (n x : ℕ) → is_some (slice_index_or (nothing n) x None) ≡ false
none_in zero x = refl
none_in (suc n) zero = refl
none_in (suc n) (suc x) = none_in n x

module _ (head : PortHead) (past : List Event) (h : Stands head past) where
  no_freeze : must_freeze head past ≡ false
  no_freeze = ap (λ b. b || has_connect head past) h.calm.still.no_iferr ∙ h.calm.still.no_connect

  no_failure : list_any is_some (tferr past) ≡ false
  no_failure = ap (list_any is_some) h.calm.still.unfailed

  no_request : must_request head past ≡ false
  no_request =
      ap (λ b. b || must_freeze head past || has_notify head past) no_failure
      ∙ ap (λ b. b || has_notify head past) no_freeze ∙ h.calm.still.no_notify

  none_failed : (f : InFlight) → (must_freeze head past || has_failed (tferr past) f) ≡ false
  none_failed f =
      ap (λ b. b || has_failed (tferr past) f) no_freeze
      ∙ ap (λ xs. has_failed xs f) h.calm.still.unfailed ∙ none_in 15 f.place

  -- a served interrupt answers
  served_are : served_acts head past ≡ ok_answers (slots past) (completions head past)
  served_are =
      ap (λ xs. ok_answers (slots past) (completions head past) ++ xs ++ told_if (must_freeze head past) Frozen ++ told_if (must_request head past && not (is_asked past)) Requested)
      (none_condemned (λ f. must_freeze head past || has_failed (tferr past) f) no_kinds (slots past) (completions head past) none_failed)
      ∙ ap (λ b. ok_answers (slots past) (completions head past) ++ [] ++ told_if b Frozen ++ told_if (must_request head past && not (is_asked past)) Requested) no_freeze
      ∙ ap (λ b. ok_answers (slots past) (completions head past) ++ [] ++ [] ++ told_if (b && not (is_asked past)) Requested) no_request
      ∙ append-nil _ ∙ append-nil _ ∙ append-nil _

-- ---- the answers, one after another

-- how a walk over the slots stands: so many tags are behind, where no issue is completed, and the rest is as it was
record Walks (head : PortHead) (past : List Event) (k : ℕ) (slots_left : List (Option InFlight)) (ends_left : List (Option Completion)) : Type 0 where
  pub calm : IsCalm head (sight head past)
  pub clean : HasCalmActs past
  pub before : (t : ℕ) (f : InFlight) → t < k → flight_at (slots past) t ≡ Some f → end_at (completions head past) t ≡ None
  pub flights : (t : ℕ) → flight_at (slots past) (k + t) ≡ flight_at slots_left t
  pub completed : (t : ℕ) → end_at (completions head past) (k + t) ≡ end_at ends_left t

-- how it ends: no issue in flight is completed
record Walked (head : PortHead) (past later : List Event) (answered : Bool) : Type 0 where
  pub calm : IsCalm head (sight head later)
  pub clean : HasCalmActs later
  pub none : (t : ℕ) (f : InFlight) → flight_at (slots later) t ≡ Some f → end_at (completions head later) t ≡ None
  pub same : commands later ≡ commands past
  pub fewer : total later ≤ total past
  pub less : answered ≡ true → total later + 1 ≤ total past

-- whether one of these issues is completed
abbrev pub some_done : List (Option InFlight) → List (Option Completion) → Bool
some_done (Some f ∷ slots) (Some e ∷ completions) = true
some_done (slot ∷ slots) (end ∷ completions) = some_done slots completions
some_done _ _ = false

next_tag : {A : Type 0} (at : ℕ → A) (k t : ℕ) (x : A) → at (k + suc t) ≡ x → at (suc k + t) ≡ x
next_tag at k t x is = let e : suc k + t ≡ k + suc t = omega arith in ap at e ∙ is

this_tag : {A : Type 0} (at : ℕ → A) (k : ℕ) (x : A) → at (k + 0) ≡ x → at k ≡ x
this_tag at k x is = let e : k ≡ k + 0 = omega arith in ap at e ∙ is

-- over a tag with no completed issue
passes :
    (head : PortHead) (past : List Event) (k : ℕ) (slot : Option InFlight) (end : Option Completion)
    (slots_left : List (Option InFlight)) (ends_left : List (Option Completion))
    → Walks head past k (slot ∷ slots_left) (end ∷ ends_left) → ((f : InFlight) → slot ≡ Some f → end ≡ None)
    → Walks head past (suc k) slots_left ends_left
passes head past k slot end slots_left ends_left w none = record {
  calm = w.calm;
  clean = w.clean;
  before = λ t f below here. by t f below here (same_or_not t k);
  flights = λ t. next_tag (λ i. flight_at (slots past) i) k t (flight_at slots_left t) (w.flights (suc t));
  completed = λ t. next_tag (λ i. end_at (completions head past) i) k t (end_at ends_left t) (w.completed (suc t));
} where
  by : (t : ℕ) (f : InFlight) → t < suc k → flight_at (slots past) t ≡ Some f → ((t ≡ k) ⊎ (t ≢ k)) → end_at (completions head past) t ≡ None
  by t f below here (inl same) =
      let at = subst (λ i. flight_at (slots past) i ≡ Some f) same here in
      let there = this_tag (λ i. flight_at (slots past) i) k slot (w.flights 0) in
      subst (λ i. end_at (completions head past) i ≡ None) (sym same)
      (this_tag (λ i. end_at (completions head past) i) k end (w.completed 0) ∙ none f (sym there ∙ at))
  by t f below here (inr other) = w.before t f (omega (arith, other)) here

-- over a completed one
answers_one :
    (head : PortHead) (past : List Event) (k : ℕ) (f : InFlight) (e : Completion)
    (slots_left : List (Option InFlight)) (ends_left : List (Option Completion))
    → Walks head past k (Some f ∷ slots_left) (Some e ∷ ends_left)
    → Walks head (Told (ok_act f e) ∷ past) (suc k) slots_left ends_left
answers_one head past k f e slots_left ends_left w =
    let s = sight head past in
    let here = this_tag (λ i. flight_at (slots past) i) k (Some f) (w.flights 0) in
    let done = this_tag (λ i. end_at (completions head past) i) k (Some e) (w.completed 0) in
    record {
      calm = answer_calm head s k f e w.calm here done;
      clean = (tt, w.clean);
      before = λ t g below there.
          let was = left_at head s k f e w.calm here done t g there in
          end_stays head s k f e w.calm here done t g was.0 was.1 ∙ w.before t g (omega (arith, was.1)) was.0;
      flights = λ t.
          without_at f.number.n (slots past) (suc k + t)
          ∙ kept t (flight_at slots_left t) refl;
      completed = λ t. ended t (flight_at slots_left t) refl;
    } where
      kept :
          (t : ℕ) (slot : Option InFlight) → flight_at slots_left t ≡ slot
          → cond (is_issue f.number.n (flight_at (slots past) (suc k + t))) None (flight_at (slots past) (suc k + t)) ≡ flight_at slots_left t
      kept t None is =
          let at = next_tag (λ i. flight_at (slots past) i) k t (flight_at slots_left t) (w.flights (suc t)) ∙ is in
          ap (λ slot. cond (is_issue f.number.n slot) None slot) at ∙ sym is
      kept t (Some g) is =
          let at = next_tag (λ i. flight_at (slots past) i) k t (flight_at slots_left t) (w.flights (suc t)) ∙ is in
          let s = sight head past in
          let here = this_tag (λ i. flight_at (slots past) i) k (Some f) (w.flights 0) in
          let done = this_tag (λ i. end_at (completions head past) i) k (Some e) (w.completed 0) in
          sym (without_at f.number.n (slots past) (suc k + t))
          ∙ stays head s k f e w.calm here done (suc k + t) g at (λ x. omega (arith, x)) ∙ sym is

      ended : (t : ℕ) (slot : Option InFlight) → flight_at slots_left t ≡ slot
          → end_at (set_where (is_issue f.number.n) None (slots past) (completions head past)) (suc k + t) ≡ end_at ends_left t
      ended t slot is =
          let at = next_tag (λ i. flight_at (slots past) i) k t (flight_at slots_left t) (w.flights (suc t)) ∙ is in
          let was = next_tag (λ i. end_at (completions head past) i) k t (end_at ends_left t) (w.completed (suc t)) in
          where_at (is_issue f.number.n) None None (slots past) (completions head past) (suc k + t)
          (w.calm.long_slots ∙ sym w.calm.long_ends) refl
          ∙ ap (λ x. cond (is_issue f.number.n x) None (end_at (completions head past) (suc k + t))) at
          ∙ unless slot is at ∙ was where
            unless : (slot : Option InFlight) → flight_at slots_left t ≡ slot → flight_at (slots past) (suc k + t) ≡ slot
                → cond (is_issue f.number.n slot) None (end_at (completions head past) (suc k + t)) ≡ end_at (completions head past) (suc k + t)
            unless None is at = refl
            unless (Some g) is at =
                let here = this_tag (λ i. flight_at (slots past) i) k (Some f) (w.flights 0) in
                ap (λ b. cond b None (end_at (completions head past) (suc k + t)))
                (not_same g.number.n f.number.n (λ x. let same = w.calm.apart (suc k + t) k g f at here x in omega (arith, same)))

unowned_at :
    (head : PortHead) (past : List Event) (k : ℕ) (f : InFlight) (slots_left : List (Option InFlight)) (ends_left : List (Option Completion))
    → Walks head past k (Some f ∷ slots_left) ends_left → f.owned ≡ false
unowned_at head past k f slots_left ends_left w =
    (w.calm.flies k f (this_tag (λ i. flight_at (slots past) i) k (Some f) (w.flights 0))).unowned

walk_end : (head : PortHead) (past : List Event) (k : ℕ) → Walks head past k [] [] → Walked head past past false
walk_end head past k w = record {
  calm = w.calm;
  clean = w.clean;
  none = λ t f here. by t f here (below_or t k);
  same = refl;
  fewer = le_refl (total past);
  less = λ e. absurd (cc);
} where
  below_or : (t k : ℕ) → (t < k) ⊎ (k ≤ t)
  below_or t k = cases_lt t k

  by : (t : ℕ) (f : InFlight) → flight_at (slots past) t ≡ Some f → ((t < k) ⊎ (k ≤ t)) → end_at (completions head past) t ≡ None
  by t f here (inl below) = w.before t f below here
  by t f here (inr above) =
      let e : t ≡ k + (t - k) = omega (arith, above) in
      let none = w.flights (t - k) in
      let at = subst (λ i. flight_at (slots past) i ≡ Some f) e here in
      absurd (cc)

walk_on : (head : PortHead) (past later : List Event) (f : InFlight) (e : Completion) (b : Bool)
    → total (Told (ok_act f e) ∷ past) + 1 ≤ total past
    → Walked head (Told (ok_act f e) ∷ past) later b → Walked head past later true
walk_on head past later f e b less w = record {
  calm = w.calm;
  clean = w.clean;
  none = w.none;
  same = w.same;
  fewer = omega (arith, w.fewer, less);
  less = λ x. omega (arith, w.fewer, less);
}

-- the walk
walk :
    (head : PortHead) (past : List Event) (k : ℕ) (slots_left : List (Option InFlight)) (ends_left : List (Option Completion))
    → length slots_left ≡ length ends_left → Walks head past k slots_left ends_left
    → Walked head past (onto past (ok_answers slots_left ends_left)) (some_done slots_left ends_left)
walk head past k [] [] long w = walk_end head past k w
walk head past k [] (end ∷ ends_left) long w = absurd (omega (arith, long))
walk head past k (slot ∷ slots_left) [] long w = absurd (omega (arith, long))
walk head past k (None ∷ slots_left) (None ∷ ends_left) long w =
    walk head past (suc k) slots_left ends_left (omega (arith, long)) (passes head past k None None slots_left ends_left w (λ f e. refl))
walk head past k (None ∷ slots_left) (Some e ∷ ends_left) long w =
    walk head past (suc k) slots_left ends_left (omega (arith, long)) (passes head past k None (Some e) slots_left ends_left w (λ f x. absurd (cc)))
walk head past k (Some f ∷ slots_left) (None ∷ ends_left) long w =
    walk head past (suc k) slots_left ends_left (omega (arith, long)) (passes head past k (Some f) None slots_left ends_left w (λ g e. refl))
walk head past k (Some f ∷ slots_left) (Some e ∷ ends_left) long w =
    let less = answer_less head (sight head past) k f e w.calm
    (this_tag (λ i. flight_at (slots past) i) k (Some f) (w.flights 0))
    (this_tag (λ i. end_at (completions head past) i) k (Some e) (w.completed 0)) in
    let on = walk head (Told (ok_act f e) ∷ past) (suc k) slots_left ends_left (omega (arith, long))
    (answers_one head past k f e slots_left ends_left w) in
    subst (λ b. Walked head past (onto past (if b then ok_answers slots_left ends_left else ok_act f e ∷ ok_answers slots_left ends_left)) true)
    (sym (unowned_at head past k f slots_left (Some e ∷ ends_left) w))
    (walk_on head past _ f e (some_done slots_left ends_left) (omega (arith, less)) on)

-- ---- the whole interrupt

done_some :
    (slots : List (Option InFlight)) (completions : List (Option Completion)) (t : ℕ) (f : InFlight) (e : Completion)
    → flight_at slots t ≡ Some f → end_at completions t ≡ Some e → some_done slots completions ≡ true
done_some [] completions t f e here done = absurd (cc)
done_some (slot ∷ slots) [] t f e here done = absurd (cc)
done_some (None ∷ slots) (None ∷ completions) zero f e here done = absurd (cc)
done_some (None ∷ slots) (Some x ∷ completions) zero f e here done = absurd (cc)
done_some (Some g ∷ slots) (None ∷ completions) zero f e here done = absurd (cc)
done_some (Some g ∷ slots) (Some x ∷ completions) zero f e here done = refl
done_some (None ∷ slots) (None ∷ completions) (suc t) f e here done = done_some slots completions t f e here done
done_some (None ∷ slots) (Some x ∷ completions) (suc t) f e here done = done_some slots completions t f e here done
done_some (Some g ∷ slots) (None ∷ completions) (suc t) f e here done = done_some slots completions t f e here done
done_some (Some g ∷ slots) (Some x ∷ completions) (suc t) f e here done = refl

busy_answers :
    (slots : List (Option InFlight)) (completions : List (Option Completion))
    → ((t : ℕ) (f : InFlight) → flight_at slots t ≡ Some f → f.owned ≡ false) → some_done slots completions ≡ true
    → list_all is_idle_act (or_nothing (ok_answers slots completions)) ≡ false
busy_answers [] completions free some = absurd (cc)
busy_answers (None ∷ slots) [] free some = absurd (cc)
busy_answers (Some f ∷ slots) [] free some = absurd (cc)
busy_answers (None ∷ slots) (None ∷ completions) free some = busy_answers slots completions (λ t f is. free (suc t) f is) some
busy_answers (None ∷ slots) (Some e ∷ completions) free some = busy_answers slots completions (λ t f is. free (suc t) f is) some
busy_answers (Some f ∷ slots) (None ∷ completions) free some = busy_answers slots completions (λ t f is. free (suc t) f is) some
busy_answers (Some f ∷ slots) (Some e ∷ completions) free some = rw (free 0 f refl) refl

-- what an interrupt leaves: where an issue was completed, fewer commands are open, and the interrupt did something
pub record Served (head : PortHead) (past later : List Event) (acts : List Act) : Type 0 where
  pub goes : Goes head past later
  pub less : DoneAny (slots past) (completions head past) → total later + 1 ≤ total past
  pub busy : DoneAny (slots past) (completions head past) → list_all is_idle_act acts ≡ false

module _ (head : PortHead) (past : List Event) (h : Stands head past) (time : ℕ) (who : Who) (seq : ℕ) where
  begun_by :
      (served : Bool)
      → IsCalm head (record (sight head past) {
        still = record (sight head past).still {
          failures = if served then nowhere else tferr past;
          iferr = if served then false else has_iferr head past;
          connect = if served then false else has_connect head past;
          notify = if served then false else has_notify head past;
        };
      })
  begun_by false = h.calm
  begun_by true = record {
    still = record {
      early = h.calm.still.early;
      thawed = h.calm.still.thawed;
      unasked = h.calm.still.unasked;
      resting = h.calm.still.resting;
      unfailed = refl;
      no_iferr = refl;
      no_connect = refl;
      no_notify = refl;
      homes = h.calm.still.homes;
    };
    long_queues = h.calm.long_queues;
    long_slots = h.calm.long_slots;
    long_ends = h.calm.long_ends;
    long_drives = h.calm.long_drives;
    waits = h.calm.waits;
    flies = h.calm.flies;
    apart = h.calm.apart;
    held = h.calm.held;
    sound = h.calm.sound;
    flown = h.calm.flown;
    claimed = h.calm.claimed;
    here = h.calm.here;
    told = h.calm.told;
    few = h.calm.few;
    once = h.calm.once;
    known = h.calm.known;
    least = h.calm.least;
  }

  begun : IsCalm head (sight head (Entered time who seq Irq ∷ past))
  begun = begun_by (is_irq_served past)

  begins : Walks head (Entered time who seq Irq ∷ past) 0 (slots past) (completions head past)
  begins = record {
    calm = begun;
    clean = h.clean;
    before = λ t f below. absurd (omega (arith, below));
    flights = λ t. let e : 0 + t ≡ t = omega arith in ap (flight_at (slots past)) e;
    completed = λ t. let e : 0 + t ≡ t = omega arith in ap (end_at (completions head past)) e;
  }

  or_walked :
      (acts : List Act) (b : Bool) → Walked head (Entered time who seq Irq ∷ past) (onto (Entered time who seq Irq ∷ past) acts) b
      → Walked head (Entered time who seq Irq ∷ past) (onto (Entered time who seq Irq ∷ past) (or_nothing acts)) b
  or_walked [] b w = record { calm = w.calm; clean = (tt, w.clean); none = w.none; same = w.same; fewer = w.fewer; less = w.less }
  or_walked (act ∷ acts) b w = w

  served_by :
      (served : Bool) → is_irq_served past ≡ served
      → Served head past
      (onto (Entered time who seq Irq ∷ past) (if served then or_nothing (ok_answers (slots past) (completions head past)) else Nothing ∷ []))
      (if served then or_nothing (ok_answers (slots past) (completions head past)) else Nothing ∷ [])
  served_by true is =
      let w = or_walked (ok_answers (slots past) (completions head past)) _
      (walk head (Entered time who seq Irq ∷ past) 0 (slots past) (completions head past) (h.calm.long_slots ∙ sym h.calm.long_ends) begins) in
      record {
        goes = record {
          stands = record {
            calm = w.calm;
            line = λ t f e here done. let none = w.none t f here in absurd (cc);
            clean = w.clean;
          };
          same = w.same;
          fewer = w.fewer;
        };
        less = λ d. w.less (done_some (slots past) (completions head past) d.tag d.flight d.end d.here d.done);
        busy = λ d. busy_answers (slots past) (completions head past) (λ t f here. (h.calm.flies t f here).unowned)
            (done_some (slots past) (completions head past) d.tag d.flight d.end d.here d.done);
      }
  served_by false is = record {
    goes = record {
      stands = record {
        calm = begun;
        line = λ t f e here done. absurd (never (h.line t f e here done));
        clean = (tt, h.clean);
      };
      same = refl;
      fewer = omega arith;
    };
    less = λ d. absurd (never (h.line d.tag d.flight d.end d.here d.done));
    busy = λ d. absurd (never (h.line d.tag d.flight d.end d.here d.done));
  } where
    never : is_line_up past ≡ true → ⊥
    never up =
        let thawed : is_frozen past ≡ false = h.calm.still.thawed in
        let on : is_irq_served past ≡ true = ap (λ b. not b && is_line_up past) thawed ∙ up in
        cc

  pub served : Served head past (onto (Entered time who seq Irq ∷ past) (irq_acts head past)) (irq_acts head past)
  served =
      subst (λ acts. Served head past
      (onto (Entered time who seq Irq ∷ past) (if is_irq_served past then or_nothing acts else Nothing ∷ []))
      (if is_irq_served past then or_nothing acts else Nothing ∷ []))
      (sym (served_are head past h)) (served_by (is_irq_served past) refl)
