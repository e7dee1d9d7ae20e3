-- The gate of a port stays guarded over an interrupt.
use Rattle.std.proofs.Common.{◌≡◌, ◌∙◌, ℕ, Bool, true, false, not, ◌&&◌, ◌||◌, ◌==◌, List, [], ◌∷◌, ◌++◌, Option, None, Some, suc, zero, is_some, refl, sym, ap, subst, if◌then◌else◌}
use Rattle.std.specs.Prelude.{slice_index_or}
use Rattle.std.specs.List.{list_all, list_any}
use Rattle.ata_base.specs.declared.err_mask.ErrMask.{ErrMask}
use Rattle.ata_script.specs.declared.port_head.PortHead.{PortHead}
use Rattle.ata_trace.specs.Event.{Event, onto}
use Rattle.ata_trace.specs.Event.Event.{Entered, Told}
use Rattle.ata_trace.specs.declared.act.Act.{Act}
use Rattle.ata_trace.specs.declared.act.Act.TheVariants.{Plugged, Unplugged, Injected, AnsweredOk, AnsweredFailed, AnsweredNodev, Retried, Condemned, Frozen, Requested, Nothing, ResetBegun, Expired}
use Rattle.ata_trace.specs.declared.step.Step.{Step}
use Rattle.ata_trace.specs.declared.who.Who.{Who}
use Rattle.host_tags.specs.Slots.{flight_at}
use Rattle.host_tags.specs.declared.in_flight.InFlight.{InFlight}
use Rattle.port_past.specs.Causes.{tferr, has_iferr, has_connect, has_notify, takes_causes, cause_begun}
use Rattle.port_past.specs.Completions.{completions}
use Rattle.port_past.specs.PortState.{is_frozen, is_asked}
use Rattle.port_past.specs.Line.{is_irq_served, is_line_up}
use Rattle.port_past.specs.Slots.{slots}
use Rattle.port_past.specs.declared.completion.Completion.{Completion}
use Rattle.eh_autopsy.specs.declared.failed_issue.FailedIssue.{FailedIssue}
use Rattle.port_rules.specs.Sorting.{ok_answers, condemnations}
use Rattle.port_rules.specs.Interrupt.{no_kinds, has_failed, must_freeze, must_request, served_acts, irq_acts}
use Rattle.port_rules.specs.Told.{told_if, or_nothing}
use Rattle.ata_trace.proofs.Pasts.{onto_append}
use Rattle.port_stands.proofs.Blocks.{left_alone, flight_onto, all_append}
use Rattle.ata_base.proofs.Truth.{both, neither}
use Rattle.port_stands.proofs.Lists.{all_answers, all_condemnations}
use Rattle.port_stands.proofs.Marks.{IsSame, carried, was_there, slot_append}
use Rattle.port_stands.specs.Gate.{Gate, gate, IsGuarded}
use Rattle.port_stands.specs.Words.{RecoveryView, recovery, slot_onto, slot_after, is_no_issue, is_slot_act, is_answer, left_by}
use Rattle.port_past.specs.Answers.{issue_told, left_issue}

-- ---- on a multiplier no cause freezes the port

or_false : (a b : Bool) → a ≡ false → b ≡ false → (a || b) ≡ false
or_false false false x y = refl
or_false true b x y = absurd (cc)
or_false false true x y = absurd (cc)

begun_never : (step : Step) (served was : Bool) → was ≡ false → cause_begun step served was ≡ false
begun_never step served was never = begun_by (takes_causes step served) was never
  where
    begun_by : (b was : Bool) → was ≡ false → (if b then false else was) ≡ false
    begun_by true was never = refl
    begun_by false was never = never

and_not : (pmp b : Bool) → pmp ≡ true → (not pmp && b) ≡ false
and_not true b fan = refl
and_not false b fan = absurd (cc)

not_fan : (pmp : Bool) → pmp ≡ true → not pmp ≡ false
not_fan true fan = refl
not_fan false fan = absurd (cc)

pub iferr_never : (head : PortHead) (past : List Event) → head.pmp ≡ true → has_iferr head past ≡ false
iferr_never head [] fan = refl
iferr_never head (Entered at who seq step ∷ past) fan = begun_never step (is_irq_served past) (has_iferr head past) (iferr_never head past fan)
iferr_never head (Told (ResetBegun None attempt deadline) ∷ past) fan = iferr_never head past fan
iferr_never head (Told (ResetBegun (Some place) attempt deadline) ∷ past) fan = rw (iferr_never head past fan) (and_false head.pmp)
  where
    and_false : (b : Bool) → (b && false) ≡ false
    and_false true = refl
    and_false false = refl
iferr_never head (Told (Injected place) ∷ past) fan =
    or_false (has_iferr head past) _ (iferr_never head past fan) (and_not head.pmp _ fan)
iferr_never head (Told act ∷ past) fan = iferr_never head past fan

pub connect_never : (head : PortHead) (past : List Event) → head.pmp ≡ true → has_connect head past ≡ false
connect_never head [] fan = refl
connect_never head (Entered at who seq step ∷ past) fan = begun_never step (is_irq_served past) (has_connect head past) (connect_never head past fan)
connect_never head (Told (Plugged place drive) ∷ past) fan =
    or_false (has_connect head past) _ (connect_never head past fan) (not_fan head.pmp fan)
connect_never head (Told (Unplugged place) ∷ past) fan =
    or_false (has_connect head past) _ (connect_never head past fan) (not_fan head.pmp fan)
connect_never head (Told (Injected place) ∷ past) fan =
    or_false (has_connect head past) _ (connect_never head past fan) (and_not head.pmp _ fan)
connect_never head (Told act ∷ past) fan = connect_never head past fan

-- ---- what is read of a gate but the slots

pub record Shell : Type 0 where
  pub recovery : RecoveryView
  pub frozen : Bool
  pub asked : Bool

abbrev pub shell : PortHead → List Event → Shell
shell head past = record { recovery = recovery head past; frozen = is_frozen past; asked = is_asked past }

shell_step : (head : PortHead) (past : List Event) (act : Act) → is_slot_act act ≡ true → shell head (Told act ∷ past) ≡ shell head past
shell_step head past (Condemned number kinds) is = refl
shell_step head past (Expired id number) is = refl
shell_step head past (Retried id number raised) is = refl
shell_step head past (AnsweredOk id number status error lba count stamps) is = refl
shell_step head past (AnsweredFailed id number kinds status error lba count) is = refl
shell_step head past (AnsweredNodev id number) is = refl
shell_step head past act is = absurd (cc)

-- acts on slots leave all else of the gate
pub shell_left :
    (head : PortHead) (past : List Event) (acts : List Act) → list_all is_slot_act acts ≡ true
    → shell head (onto past acts) ≡ shell head past
shell_left head past acts all = left_alone is_slot_act (shell head) (shell_step head) past acts all

-- ---- an issue's marks

-- an act that tells nothing of the timer
abbrev pub is_no_expiry : Act → Bool
is_no_expiry (Expired id number) = false
is_no_expiry act = true

expired_if : (b : Bool) (f h g : InFlight) → h.expired ≡ f.expired → (if b then Some h else Some f) ≡ Some g → g.expired ≡ f.expired
expired_if true f h g same e = ap (λ (x : Option InFlight). expiry_of x) (sym e) ∙ same
  where
    expiry_of : Option InFlight → Bool
    expiry_of None = false
    expiry_of (Some x) = x.expired
expired_if false f h g same e = cc

left_same : (b : Bool) (f g : InFlight) → (if b then None else Some f) ≡ Some g → f ≡ g
left_same true f g e = absurd (cc)
left_same false f g e = cc

answer_same : (left : Option ℕ) (f g : InFlight) → left_by left (Some f) ≡ Some g → f ≡ g
answer_same None f g e = cc
answer_same (Some number) f g e = left_same (f.number.n == number) f g e

expired_step : (act : Act) (f g : InFlight) → is_no_expiry act ≡ true → slot_after act (Some f) ≡ Some g → g.expired ≡ f.expired
expired_step (Condemned number kinds) f g is e = expired_if (f.number.n == number.n) f _ g refl e
expired_step (Expired id number) f g is e = absurd (cc)
expired_step act f g is e = ap (λ x. x.expired) (sym (answer_same (left_issue act) f g e))

-- acts that tell nothing of the timer leave it untold
pub unexpired :
    (acts : List Act) (f g : InFlight) → list_all is_no_expiry acts ≡ true → slot_onto acts (Some f) ≡ Some g
    → g.expired ≡ f.expired
unexpired acts f g all e =
    carried (λ x y. y.expired ≡ x.expired) (λ x. refl) (λ x y z a b. b ∙ a) is_no_expiry expired_step acts f g all e

answer_step : (act : Act) (f g : InFlight) → is_answer act ≡ true → slot_after act (Some f) ≡ Some g → f ≡ g
answer_step (AnsweredOk id number status error lba count stamps) f g is e = left_same (f.number.n == number.n) f g e
answer_step (AnsweredFailed id number kinds status error lba count) f g is e = left_same (f.number.n == number.n) f g e
answer_step (AnsweredNodev id number) f g is e = answer_same (issue_told number.n) f g e
answer_step act f g is e = absurd (cc)

-- answers leave each issue that stays as it is
pub unmarked : (acts : List Act) (f g : InFlight) → list_all is_answer acts ≡ true → slot_onto acts (Some f) ≡ Some g → f ≡ g
unmarked acts f g all e = carried (λ x y. x ≡ y) (λ x. refl) (λ x y z a b. a ∙ b) is_answer answer_step acts f g all e

-- nothing is condemned where no issue passes the test
pub none_condemned :
    (test : InFlight → Bool) (kinds : ErrMask) → ((f : InFlight) → test f ≡ false)
    → (slots : List (Option InFlight)) (completions : List (Option Completion)) → condemnations test kinds slots completions ≡ []
none_condemned test kinds never [] completions = refl
none_condemned test kinds never (None ∷ slots) [] = refl
none_condemned test kinds never (Some f ∷ slots) [] = refl
none_condemned test kinds never (None ∷ slots) (end ∷ completions) = none_condemned test kinds never slots completions
none_condemned test kinds never (Some f ∷ slots) (Some end ∷ completions) = none_condemned test kinds never slots completions
none_condemned test kinds never (Some f ∷ slots) (None ∷ completions) =
    rw (never f) (rw (and_false (not f.owned)) (none_condemned test kinds never slots completions))
  where
    and_false : (b : Bool) → (b && false) ≡ false
    and_false true = refl
    and_false false = refl

-- ---- the entry

-- a gate after answers, condemnations, a freeze and a request
pub served_guarded :
    (pmp : Bool) (g : Gate) (slots : List (Option InFlight)) (freezes asked : Bool) → IsGuarded pmp g
    → g.frozen ≡ false → (pmp ≡ true → freezes ≡ false) → (freezes ≡ true → asked ≡ true) → (g.asked ≡ true → asked ≡ true)
    → ((tag : ℕ) (x : InFlight) → flight_at slots tag ≡ Some x
    → (f : InFlight) × ((flight_at g.slots tag ≡ Some f) × (IsSame f x × ((x.expired ≡ f.expired) × (f.owned ≡ false → x.owned ≡ true → asked ≡ true)))))
    → IsGuarded pmp (record { recovery = g.recovery; frozen = freezes || g.frozen; asked = asked; slots = slots })
served_guarded pmp g slots freezes asked was thawed fan reason more came = record {
  owned = λ running tag x here.
      let a = came tag x here in
      a.1.1.0.owned (was.owned running tag a.0 a.1.0);
  recovering = λ tag x here own.
      let a = came tag x here in
      by_owner asked g.recovery.running a.0.owned (a.1.1.1.1) own (λ o. was.recovering tag a.0 a.1.0 o) more;
  expired = λ tag x here free told.
      let a = came tag x here in
      more (was.expired tag a.0 a.1.0 (not_owned a.0.owned x.owned a.1.1.0.owned free) (sym a.1.1.1.0 ∙ told));
  direct = λ is frozen. rw (reason (thaw freezes g.frozen thawed frozen));
  multiplier = λ is frozen. absurd (cc (fan is, thaw freezes g.frozen thawed frozen));
  new = was.new;
  home = was.home;
}
  where
    thaw : (a b : Bool) → b ≡ false → (a || b) ≡ true → a ≡ true
    thaw true b e x = refl
    thaw false b e x = absurd (cc)

    not_owned : (a b : Bool) → (a ≡ true → b ≡ true) → b ≡ false → a ≡ false
    not_owned true b up e = absurd (cc (up refl))
    not_owned false b up e = refl

    by_owner :
        (asked running own : Bool) {x : Bool} → (own ≡ false → x ≡ true → asked ≡ true) → x ≡ true
        → (own ≡ true → (g.asked || running) ≡ true) → (g.asked ≡ true → asked ≡ true) → (asked || running) ≡ true
    by_owner true running own asks is was more = refl
    by_owner false true own asks is was more = refl
    by_owner false false true asks is was more = absurd (cc (more (or_none g.asked (was refl))))
      where
        or_none : (a : Bool) → (a || false) ≡ true → a ≡ true
        or_none true e = refl
        or_none false e = absurd (cc)
    by_owner false false false asks is was more = absurd (cc (asks refl is))

-- what a freeze and a request do
tail_told :
    (head : PortHead) (past : List Event) (freezes requests : Bool)
    → gate head (onto (onto past (told_if freezes Frozen)) (told_if requests Requested))
    ≡ record { recovery = recovery head past; frozen = freezes || is_frozen past; asked = requests || is_asked past; slots = slots past }
tail_told head past true true = refl
tail_told head past true false = refl
tail_told head past false true = refl
tail_told head past false false = refl

pub nothing_told : (head : PortHead) (past : List Event) (acts : List Act) → gate head (onto past (or_nothing acts)) ≡ gate head (onto past acts)
nothing_told head past [] = refl
nothing_told head past (act ∷ rest) = refl

asks : (must asked : Bool) → must ≡ true → ((must && not asked) || asked) ≡ true
asks true true is = refl
asks true false is = refl
asks false asked is = absurd (cc)

stays_asked : (must asked : Bool) → asked ≡ true → ((must && not asked) || asked) ≡ true
stays_asked true true is = refl
stays_asked false true is = refl
stays_asked must false is = absurd (cc)

none_at :
    (tferr : List (Option FailedIssue)) (place : ℕ) → list_any is_some tferr ≡ false
    → is_some (slice_index_or tferr place None) ≡ false
none_at [] place none = refl
none_at (f ∷ tferr) zero none = (neither (is_some f) (list_any is_some tferr) none).0
none_at (f ∷ tferr) (suc place) none = none_at tferr place (neither (is_some f) (list_any is_some tferr) none).1

-- the issues that a served interrupt condemns, if it asks for nothing
none_marked :
    (head : PortHead) (past : List Event) → must_request head past ≡ false
    → condemnations (λ f. must_freeze head past || has_failed (tferr past) f) no_kinds (slots past) (completions head past) ≡ []
none_marked head past none =
    let a = neither (list_any is_some (tferr past) || must_freeze head past) (has_notify head past) none in
    let b = neither (list_any is_some (tferr past)) (must_freeze head past) a.0 in
    none_condemned (λ f. must_freeze head past || has_failed (tferr past) f) no_kinds
    (λ f. or_false (must_freeze head past) (has_failed (tferr past) f) b.1 (none_at (tferr past) f.place b.0))
    (slots past) (completions head past)

-- an issue that is owned after a served interrupt and wasn't before: recovery is asked for
marked_asks :
    (head : PortHead) (past : List Event) (must : Bool) → must_request head past ≡ must → (f x : InFlight)
    → slot_onto (ok_answers (slots past) (completions head past)
    ++ condemnations (λ f. must_freeze head past || has_failed (tferr past) f) no_kinds (slots past) (completions head past)) (Some f) ≡ Some x
    → f.owned ≡ false → x.owned ≡ true → must ≡ true
marked_asks head past true is f x e free own = refl
marked_asks head past false is f x e free own =
    let only : slot_onto (ok_answers (slots past) (completions head past)) (Some f) ≡ Some x =
    sym (ap (λ m. slot_onto m (slot_onto (ok_answers (slots past) (completions head past)) (Some f))) (none_marked head past is))
    ∙ sym (slot_append (ok_answers (slots past) (completions head past)) _ (Some f)) ∙ e in
    let same = unmarked (ok_answers (slots past) (completions head past)) f x (all_answers is_answer (λ f end. refl) (slots past) (completions head past)) only in
    absurd (cc (same))

must_ask : (head : PortHead) (past : List Event) → must_freeze head past ≡ true → must_request head past ≡ true
must_ask head past is = or_both (list_any is_some (tferr past)) (must_freeze head past) (has_notify head past) is
  where
    or_both : (a b c : Bool) → b ≡ true → (a || b || c) ≡ true
    or_both true b c is = refl
    or_both false true c is = refl
    or_both false false c is = absurd (cc)

module _ (head : PortHead) (past : List Event) (time : ℕ) (who : Who) (seq : ℕ) (step : Step) where
  served_by :
      (told marks : List Act) → ok_answers (slots past) (completions head past) ≡ told
      → condemnations (λ f. must_freeze head past || has_failed (tferr past) f) no_kinds (slots past) (completions head past) ≡ marks
      → is_frozen past ≡ false → IsGuarded head.pmp (gate head past)
      → IsGuarded head.pmp (gate head (onto (Entered time who seq step ∷ past)
      (told ++ marks ++ told_if (must_freeze head past) Frozen ++ told_if (must_request head past && not (is_asked past)) Requested)))
  served_by told marks is_told is_marks thawed was =
      let start : List Event = Entered time who seq step ∷ past in
      let acts : List Act = told ++ marks in
      let base : List Event = onto (onto start told) marks in
      let freeze : List Act = told_if (must_freeze head past) Frozen in
      let request : List Act = told_if (must_request head past && not (is_asked past)) Requested in
      let parts : onto start (told ++ marks ++ freeze ++ request) ≡ onto (onto base freeze) request =
      onto_append start (told ++ marks ++ freeze) request
      ∙ ap (λ p. onto p request) (onto_append start (told ++ marks) freeze)
      ∙ ap (λ p. onto (onto p freeze) request) (onto_append start told marks) in
      let one : onto start acts ≡ base = onto_append start told marks in
      let of_slots : list_all is_slot_act acts ≡ true =
      all_append is_slot_act told marks
      (subst (λ l. list_all is_slot_act l ≡ true) is_told (all_answers is_slot_act (λ f end. refl) (slots past) (completions head past)))
      (subst (λ l. list_all is_slot_act l ≡ true) is_marks (all_condemnations is_slot_act _ no_kinds (λ f. refl) (slots past) (completions head past))) in
      let none : list_all is_no_issue acts ≡ true =
      all_append is_no_issue told marks
      (subst (λ l. list_all is_no_issue l ≡ true) is_told (all_answers is_no_issue (λ f end. refl) (slots past) (completions head past)))
      (subst (λ l. list_all is_no_issue l ≡ true) is_marks (all_condemnations is_no_issue _ no_kinds (λ f. refl) (slots past) (completions head past))) in
      let untold : list_all is_no_expiry acts ≡ true =
      all_append is_no_expiry told marks
      (subst (λ l. list_all is_no_expiry l ≡ true) is_told (all_answers is_no_expiry (λ f end. refl) (slots past) (completions head past)))
      (subst (λ l. list_all is_no_expiry l ≡ true) is_marks (all_condemnations is_no_expiry _ no_kinds (λ f. refl) (slots past) (completions head past))) in
      let same : shell head base ≡ shell head past = ap (shell head) (sym one) ∙ shell_left head start acts of_slots in
      let asked : Bool = (must_request head past && not (is_asked past)) || is_asked past in
      let after : gate head (onto (onto base freeze) request)
      ≡ record { recovery = recovery head past; frozen = must_freeze head past || is_frozen past; asked = asked; slots = slots base } =
      tail_told head base (must_freeze head past) (must_request head past && not (is_asked past))
      ∙ ap (λ (s : Shell). record { recovery = s.recovery; frozen = must_freeze head past || s.frozen; asked = (must_request head past && not (is_asked past)) || s.asked; slots = slots base }) same in
      subst (IsGuarded head.pmp) (sym (ap (gate head) parts ∙ after))
      (served_guarded head.pmp (gate head past) (slots base) (must_freeze head past) asked was thawed
      (λ fan. or_false (has_iferr head past) (has_connect head past) (iferr_never head past fan) (connect_never head past fan))
      (λ must. asks (must_request head past) (is_asked past) (must_ask head past must))
      (λ is. stays_asked (must_request head past) (is_asked past) is)
      (λ tag x here.
      let e : slot_onto acts (flight_at (slots past) tag) ≡ Some x =
      sym (flight_onto start acts tag none) ∙ ap (λ p. flight_at (slots p) tag) one ∙ here in
      let a = was_there acts (flight_at (slots past) tag) x e in
      let at : slot_onto acts (Some a.0) ≡ Some x = ap (slot_onto acts) (sym a.1.0) ∙ e in (
        a.0,
        (
          a.1.0,
          (
            a.1.1,
            (
              unexpired acts a.0 x untold at,
              λ free own. asks (must_request head past) (is_asked past)
                  (marked_asks head past (must_request head past) refl a.0 x
                  (ap (λ l. slot_onto (l ++ condemnations (λ f. must_freeze head past || has_failed (tferr past) f) no_kinds (slots past) (completions head past)) (Some a.0)) is_told
                  ∙ ap (λ m. slot_onto (told ++ m) (Some a.0)) is_marks ∙ at) free own),
            ),
          ),
        ),
      )))

  irq_by :
      (served : Bool) → is_irq_served past ≡ served → IsGuarded head.pmp (gate head past)
      → IsGuarded head.pmp (gate head (onto (Entered time who seq step ∷ past)
      (if served then or_nothing (served_acts head past) else Nothing ∷ [])))
  irq_by true is was =
      subst (IsGuarded head.pmp) (sym (nothing_told head (Entered time who seq step ∷ past) (served_acts head past)))
      (served_by (ok_answers (slots past) (completions head past)) _ refl refl (not_true (is_frozen past) (both (not (is_frozen past)) (is_line_up past) is).0) was)
    where
      not_true : (b : Bool) → not b ≡ true → b ≡ false
      not_true true e = absurd (cc)
      not_true false e = refl
  irq_by false is was = was

  pub irq_guarded :
      IsGuarded head.pmp (gate head past)
      → IsGuarded head.pmp (gate head (onto (Entered time who seq step ∷ past) (irq_acts head past)))
  irq_guarded was = irq_by (is_irq_served past) refl was
