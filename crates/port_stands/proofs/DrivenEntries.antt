-- What the drives hold still flies after each entry.
use Rattle.std.proofs.Common.{◌≡◌, ◌≢◌, ◌∙◌, ℕ, ◌%◌, Bool, true, false, not, ◌&&◌, ◌==◌, nat_lt, cond, List, [], ◌∷◌, Option, None, Some, suc, zero, length, filter, is_none, slice_get, option_and_then, refl, sym, ap, if◌then◌else◌}
use Rattle.std.specs.Prelude.{slice_index_or}
use Rattle.std.specs.List.{list_all}
use Rattle.std.specs.Option.{option_map_or}
use Rattle.std.proofs.lemmas.Bool.{eqb-true, eq-eqb}
use Rattle.ata_base.specs.declared.issue_no.IssueNo.{IssueNo}
use Rattle.ata_base.specs.declared.regs.Regs.{Regs}
use Rattle.ata_script.specs.declared.port_head.PortHead.{PortHead}
use Rattle.ata_trace.specs.Event.{Event, onto}
use Rattle.ata_trace.specs.Event.Event.{Entered, Told}
use Rattle.ata_trace.specs.declared.act.Act.{Act}
use Rattle.ata_trace.specs.declared.act.Act.TheVariants.{Issued, Done, Condemned, Expired, Retried, AnsweredOk, AnsweredFailed, AnsweredNodev, ResetBegun, Unplugged, Plugged, Injected, Hot, Recorded, Autopsied, IdentAsked, Log, LogFailed, LogBadSum, LogNotQueued, Nothing, Raised}
use Rattle.ata_trace.specs.declared.step.Step.{Step}
use Rattle.ata_trace.specs.declared.step.Step.TheVariants.{Work}
use Rattle.ata_trace.specs.declared.who.Who.{Who}
use Rattle.drive_model.specs.Holding.{is_hung, workable, picked_of, picked}
use Rattle.drive_model.specs.View.{DriveView}
use Rattle.drive_model.specs.Work.{act_of, cause_of, registers_of}
use Rattle.drive_model.specs.declared.held.Held.{Held}
use Rattle.drive_model.specs.declared.queued_error.QueuedError.{QueuedError}
use Rattle.host_tags.specs.Numbers.{is_issue}
use Rattle.host_tags.specs.Slots.{flight_at}
use Rattle.host_tags.specs.declared.in_flight.InFlight.{InFlight}
use Rattle.port_past.specs.Causes.{tferr, takes_causes}
use Rattle.port_past.specs.Commands.{commands}
use Rattle.port_past.specs.Drives.{drives, drive_at}
use Rattle.port_past.specs.Completions.{completions}
use Rattle.port_past.specs.Issues.{issue_count}
use Rattle.port_past.specs.Line.{is_irq_served, is_line_up}
use Rattle.port_past.specs.Places.{nowhere}
use Rattle.port_past.specs.Links.{links, plugged_at, linked_at}
use Rattle.port_past.specs.Slots.{slots}
use Rattle.port_past.specs.declared.completion.Completion.{Completion}
use Rattle.eh_autopsy.specs.declared.failed_issue.FailedIssue.{FailedIssue}
use Rattle.link_model.specs.LinkView.{LinkView}
use Rattle.port_rules.specs.Sorting.{ok_act, ok_answers}
use Rattle.port_rules.specs.Plug.{is_plugged, can_plug, plug_acts}
use Rattle.port_rules.specs.Told.{raised_acts}
use Rattle.port_rules.specs.Work.{worked_acts, ended_acts, work_acts}
use Rattle.ata_base.proofs.Truth.{neither, both}
use Rattle.port_stands.proofs.Blocks.{flight_step}
use Rattle.port_stands.proofs.Driven.{driven_lessens, lessens_slots}
use Rattle.port_stands.proofs.DrivenActs.{driven_injected, driven_hot, driven_recorded, driven_autopsied, driven_asked, driven_condemned, driven_expired, driven_answered, driven_reset, driven_host_reset, driven_unplugged, driven_plugged}
use Rattle.port_stands.proofs.DrivenEnd.{driven_done}
use Rattle.port_stands.proofs.DrivenIssue.{other_end}
use Rattle.ata_base.proofs.EachLemmas.{every_weaker}
use Rattle.port_stands.proofs.Marks.{same_self}
use Rattle.port_stands.proofs.Within.{read_same}
use Rattle.port_stands.specs.Driven.{end_at, IsHeld, IsStruck, AreDriven}
use Rattle.port_stands.specs.Gate.{AreNumbered}
use Rattle.ata_base.specs.Each.{Each}

-- an act after which all still flies, whatever was before it
abbrev pub is_free : Act → Bool
is_free (Issued id number tag deadline fis) = false
is_free (Done number status error lba count) = false
is_free (Retried id number raised) = false
is_free (AnsweredOk id number status error lba count stamps) = false
is_free (AnsweredFailed id number kinds status error lba count) = false
is_free (AnsweredNodev id number) = false
is_free (Plugged place drive) = false
is_free (Log place tag status error lba count) = false
is_free (LogFailed place) = false
is_free (LogBadSum place) = false
is_free (LogNotQueued place) = false
is_free act = true

copied : (head : PortHead) (p q : List Event) → links head q ≡ links head p → drives head q ≡ drives head p → slots q ≡ slots p
    → completions head q ≡ completions head p → tferr q ≡ tferr p → AreDriven head p → AreDriven head q
copied head p q l d s e f was =
    driven_lessens head p q was
    (lessens_slots head p q was l d f
    (λ tag x here none. record { flight = x; here = ap (λ y. flight_at y tag) s ∙ here; same = same_self x; unended = ap (λ y. end_at y tag) e ∙ none }))

free_step : (head : PortHead) (p : List Event) (act : Act) → is_free act ≡ true → AreDriven head p → AreDriven head (Told act ∷ p)
free_step head p (Issued id number tag deadline fis) is was = absurd (cc)
free_step head p (Done number status error lba count) is was = absurd (cc)
free_step head p (Retried id number raised) is was = absurd (cc)
free_step head p (AnsweredOk id number status error lba count stamps) is was = absurd (cc)
free_step head p (AnsweredFailed id number kinds status error lba count) is was = absurd (cc)
free_step head p (AnsweredNodev id number) is was = absurd (cc)
free_step head p (Plugged place drive) is was = absurd (cc)
free_step head p (Log place tag status error lba count) is was = absurd (cc)
free_step head p (LogFailed place) is was = absurd (cc)
free_step head p (LogBadSum place) is was = absurd (cc)
free_step head p (LogNotQueued place) is was = absurd (cc)
free_step head p (Condemned number kinds) is was = driven_condemned head p was number kinds
free_step head p (Expired id number) is was = driven_expired head p was id number
free_step head p (ResetBegun (Some place) attempt deadline) is was = driven_reset head p was place attempt deadline
free_step head p (ResetBegun None attempt deadline) is was = driven_host_reset head p was attempt deadline
free_step head p (Unplugged place) is was = driven_unplugged head p was place
free_step head p (Injected place) is was = driven_injected head p was place
free_step head p (Hot place generation) is was = driven_hot head p was place generation
free_step head p (Recorded place io dubious kinds ncq_off speed_down pio keep action) is was =
    driven_recorded head p was place io dubious kinds ncq_off speed_down pio keep action
free_step head p Autopsied is was = driven_autopsied head p was
free_step head p (IdentAsked place attempt deadline) is was = driven_asked head p was place attempt deadline
free_step head p act is was = copied head p (Told act ∷ p) refl refl refl refl refl was

pub free_onto : (head : PortHead) (p : List Event) (acts : List Act) → list_all is_free acts ≡ true → AreDriven head p → AreDriven head (onto p acts)
free_onto head p [] all was = was
free_onto head p (act ∷ rest) all was =
    let parts = both (is_free act) (list_all is_free rest) all in
    free_onto head (Told act ∷ p) rest parts.1 (free_step head p act parts.0 was)

-- a head: an interrupt may take what failed
pub driven_began : (head : PortHead) (p : List Event) (time : ℕ) (who : Who) (seq : ℕ) (step : Step) → AreDriven head p → AreDriven head (Entered time who seq step ∷ p)
driven_began head p time who seq step was = record {
  plugged = was.plugged;
  single = was.single;
  held = λ d v is. each_held d v.held (was.held d v is);
  stopped = λ d v e is by.
      let s = was.stopped d v e is by in
      record { flight = s.flight; flies = record { here = s.flies.here; linked = s.flies.linked; unended = s.flies.unended }; queued = s.queued };
  struck = λ x failure is. struck_by (takes_causes step (is_irq_served p)) x failure is;
}
  where
    q : List Event
    q = Entered time who seq step ∷ p

    each_held : (d : ℕ) (hs : List Held) → Each (IsHeld head p d) hs → Each (IsHeld head (Entered time who seq step ∷ p) d) hs
    each_held d hs each = every_weaker (IsHeld head p d) (IsHeld head (Entered time who seq step ∷ p) d)
        (λ h k. record {
          flight = k.flight;
          flies = record { here = k.flies.here; linked = k.flies.linked; unended = k.flies.unended };
          number = k.number;
          queued = k.queued;
        }) hs each

    struck_by : (b : Bool) (x : ℕ) (failure : FailedIssue) → slice_index_or (if b then nowhere else tferr p) x None ≡ Some failure → IsStruck head (Entered time who seq step ∷ p) x failure
    struck_by true x failure is = absurd (cc (is, read_same {A = Option FailedIssue} 15 x None))
    struck_by false x failure is =
        let s = was.struck x failure is in
        record { tag = s.tag; flight = s.flight; here = s.here; number = s.number; there = s.there; unended = s.unended; unheld = s.unheld; stops = s.stops }

-- ---- answers

-- no issue of this number is without an end
pub IsEndedNumber : PortHead → List Event → ℕ → Type 0
IsEndedNumber head p n = (tag : ℕ) (f : InFlight) → flight_at (slots p) tag ≡ Some f → end_at (completions head p) tag ≡ None → (f.number.n == n) ≡ false

-- an act is an answer of a completed issue
abbrev pub IsAnswerOf : PortHead → List Event → Act → Type 0
IsAnswerOf head p (AnsweredOk id number status error lba count stamps) = (tag : ℕ) (f : InFlight) → flight_at (slots p) tag ≡ Some f → end_at (completions head p) tag ≡ None → (f.number.n == number.n) ≡ false
IsAnswerOf head p act = ⊥

left_flight : (b : Bool) (slot : Option InFlight) (f : InFlight) → (if b then None else slot) ≡ Some f → (b ≡ false) × (slot ≡ Some f)
left_flight true slot f e = absurd (cc)
left_flight false slot f e = (refl, e)

answer_later :
    (head : PortHead) (p : List Event) (id : ℕ) (number : IssueNo) (status error lba count : ℕ) (stamps : List ℕ) (act : Act)
    → IsAnswerOf head p act → IsAnswerOf head (Told (AnsweredOk id number status error lba count stamps) ∷ p) act
answer_later head p id number status error lba count stamps (AnsweredOk id' number' status' error' lba' count' stamps') is = λ tag f here none.
    let step = flight_step (AnsweredOk id number status error lba count stamps) (commands p) (slots p) tag refl in
    let old = left_flight (is_issue number.n (flight_at (slots p) tag)) (flight_at (slots p) tag) f (sym step ∙ here) in
    is tag f old.1 (sym (other_end (is_issue number.n) None (slots p) (completions head p) tag old.0) ∙ none)
answer_later head p id number status error lba count stamps act is = absurd is

answers_later :
    (head : PortHead) (p : List Event) (id : ℕ) (number : IssueNo) (status error lba count : ℕ) (stamps : List ℕ) (acts : List Act)
    → Each (IsAnswerOf head p) acts → Each (IsAnswerOf head (Told (AnsweredOk id number status error lba count stamps) ∷ p)) acts
answers_later head p id number status error lba count stamps [] each = tt
answers_later head p id number status error lba count stamps (act ∷ rest) each =
    (answer_later head p id number status error lba count stamps act each.0, answers_later head p id number status error lba count stamps rest each.1)

pub driven_answers : (head : PortHead) (p : List Event) (acts : List Act) → Each (IsAnswerOf head p) acts → AreDriven head p → AreDriven head (onto p acts)
driven_answers head p [] each was = was
driven_answers head p (AnsweredOk id number status error lba count stamps ∷ rest) each was =
    driven_answers head (Told (AnsweredOk id number status error lba count stamps) ∷ p) rest
    (answers_later head p id number status error lba count stamps rest each.1)
    (driven_answered head p was id number status error lba count stamps each.0)
driven_answers head p (act ∷ rest) each was = absurd each.0

each_answer :
    (P : Act → Type 0) (slots : List (Option InFlight)) (completions : List (Option Completion))
    → ((tag : ℕ) (f : InFlight) (end : Completion) → flight_at slots tag ≡ Some f → end_at completions tag ≡ Some end → P (ok_act f end))
    → Each P (ok_answers slots completions)
each_answer P [] completions is = tt
each_answer P (None ∷ slots) [] is = tt
each_answer P (Some f ∷ slots) [] is = tt
each_answer P (None ∷ slots) (end ∷ completions) is = each_answer P slots completions (λ tag f e here at. is (suc tag) f e here at)
each_answer P (Some f ∷ slots) (None ∷ completions) is = each_answer P slots completions (λ tag f e here at. is (suc tag) f e here at)
each_answer P (Some f ∷ slots) (Some end ∷ completions) is = by f.owned (each_answer P slots completions (λ tag f e here at. is (suc tag) f e here at))
  where
    by : (b : Bool) → Each P (ok_answers slots completions) → Each P (if b then ok_answers slots completions else ok_act f end ∷ ok_answers slots completions)
    by true rest = rest
    by false rest = (is 0 f end refl refl, rest)

-- the answers of an interrupt and of a beginning are of completed issues
pub answers_ended :
    (head : PortHead) (p : List Event) → AreNumbered (issue_count p) (slots p) → Each (IsAnswerOf head p) (ok_answers (slots p) (completions head p))
answers_ended head p numbered =
    each_answer (IsAnswerOf head p) (slots p) (completions head p)
    (λ tag f end here at u x there none. is_other (x.number.n == f.number.n)
    (λ e. cc (ap (end_at (completions head p)) (numbered.apart u tag x f there here (eqb-true x.number.n f.number.n e)), at, none)))
  where
    is_other : (b : Bool) → (b ≡ true → ⊥) → b ≡ false
    is_other true never = absurd (never refl)
    is_other false never = refl

-- an answer that names no issue
pub driven_nodev :
    (head : PortHead) (p : List Event) (id : ℕ) → AreDriven head p
    → AreDriven head (Told (AnsweredNodev id (record { n = 0 })) ∷ p)
driven_nodev head p id was =
    let act : Act = AnsweredNodev id (record { n = 0 }) in
    driven_lessens head p (Told act ∷ p) was
    (lessens_slots head p (Told act ∷ p) was refl refl refl
    (λ tag f here none. record {
      flight = f;
      here = here;
      same = same_self f;
      unended = none;
    }))

-- ---- work

held_of_workable : (hs : List Held) (k : ℕ) (h : Held) → slice_get (filter (λ h. not (is_hung h.assigned)) hs) k ≡ Some h → (i : ℕ) × (slice_get hs i ≡ Some h)
held_of_workable [] k h is = absurd (cc)
held_of_workable (g ∷ hs) k h is = by (not (is_hung g.assigned)) k is (λ j at. held_of_workable hs j h at)
  where
    by : (b : Bool) (k : ℕ) → slice_get (cond b (g ∷ filter (λ h. not (is_hung h.assigned)) hs) (filter (λ h. not (is_hung h.assigned)) hs)) k ≡ Some h
        → ((j : ℕ) → slice_get (filter (λ h. not (is_hung h.assigned)) hs) j ≡ Some h → (i : ℕ) × (slice_get hs i ≡ Some h))
        → (i : ℕ) × (slice_get (g ∷ hs) i ≡ Some h)
    by true zero is later = (0, is)
    by true (suc k) is later = let r = later k is in (suc r.0, r.1)
    by false k is later = let r = later k is in (suc r.0, r.1)

pub record IsPicked (v : DriveView) (h : Held) : Type 0 where
  pub runs : v.stopped ≡ None
  pub index : ℕ
  pub holds : slice_get v.held index ≡ Some h

picked_by : (pick : ℕ) (v : DriveView) (h : Held) (stopped : Option QueuedError) → v.stopped ≡ stopped → picked_of pick (workable stopped v.held) ≡ Some h → IsPicked v h
picked_by pick v h (Some e) at is = absurd (cc)
picked_by pick v h None at is = of_list (filter (λ h. not (is_hung h.assigned)) v.held) refl is
  where
    of_list : (xs : List Held) → filter (λ h. not (is_hung h.assigned)) v.held ≡ xs → picked_of pick xs ≡ Some h → IsPicked v h
    of_list [] e is = absurd (cc)
    of_list (x ∷ xs) e is =
        let r = held_of_workable v.held (pick % length (x ∷ xs)) h (ap (λ l. slice_get l (pick % length (x ∷ xs))) e ∙ is) in
        record { runs = at; index = r.0; holds = r.1 }

pub picked_is : (pick : ℕ) (v : DriveView) (h : Held) → picked pick v ≡ Some h → IsPicked v h
picked_is pick v h is = picked_by pick v h v.stopped refl is

module _ (head : PortHead) (p : List Event) (time : ℕ) (who : Who) (seq : ℕ) (was : AreDriven head p) (numbered : AreNumbered (issue_count p) (slots p)) where
  worked_driven :
      (place pick drive : ℕ) (v : DriveView) (found : Option Held) → linked_at (links head p) place ≡ Some drive
      → slice_get (drives head p) drive ≡ Some v → picked pick v ≡ found
      → AreDriven head (onto (Entered time who seq (Work place pick) ∷ p) (ended_acts p (act_of found v)))
  worked_driven place pick drive v None linked view is = free_onto head (Entered time who seq (Work place pick) ∷ p) (Nothing ∷ []) refl (driven_began head p time who seq (Work place pick) was)
  worked_driven place pick drive v (Some h) linked view is =
      let k = picked_is pick v h is in
      let r : Regs = registers_of (cause_of h v.bad) h.op in
      let start : List Event = Entered time who seq (Work place pick) ∷ p in
      let begun = driven_began head p time who seq (Work place pick) was in
      free_onto head (Told (Done h.number r.status r.error r.lba r.count) ∷ start) (raised_acts p) (raised_free (is_line_up p))
      (driven_done head start begun (record { apart = numbered.apart; from_one = numbered.from_one; up_to = numbered.up_to }) h r
      (record {
        place = place;
        pick = pick;
        drive = drive;
        view = v;
        asked = refl;
        linked = linked;
        was = view;
        runs = k.runs;
        index = k.index;
        holds = k.holds;
      }))
    where
      raised_free : (up : Bool) → list_all is_free (if up then [] else Raised ∷ []) ≡ true
      raised_free true = refl
      raised_free false = refl

  drive_driven :
      (place pick : ℕ) (drive : Option ℕ) (found : Option DriveView) → linked_at (links head p) place ≡ drive
      → option_and_then (slice_get (drives head p)) drive ≡ found
      → AreDriven head (onto (Entered time who seq (Work place pick) ∷ p) (worked_acts p pick found))
  drive_driven place pick drive None linked is = free_onto head (Entered time who seq (Work place pick) ∷ p) (Nothing ∷ []) refl (driven_began head p time who seq (Work place pick) was)
  drive_driven place pick None (Some v) linked is = absurd (cc)
  drive_driven place pick (Some d) (Some v) linked is = worked_driven place pick d v (picked pick v) linked is refl

  pub work_driven : (place pick : ℕ) → AreDriven head (onto (Entered time who seq (Work place pick) ∷ p) (work_acts head p place pick))
  work_driven place pick = drive_driven place pick (linked_at (links head p) place) (drive_at head p place) refl refl

  -- ---- a plug

  none_plugged : (drive : ℕ) (ls : List LinkView) → is_plugged drive ls ≡ false → (x : ℕ) → plugged_at ls x ≢ Some drive
  none_plugged drive [] none x is = cc
  none_plugged drive (l ∷ ls) none zero is = plugged_by (neither (option_map_or (λ d. d == drive) l.plugged false) (is_plugged drive ls) none).0 l.plugged is
    where
      plugged_by : option_map_or (λ d. d == drive) l.plugged false ≡ false → (o : Option ℕ) → l.plugged ≡ Some drive → ⊥
      plugged_by no_one o is = cc (ap (λ o. option_map_or (λ d. d == drive) o false) is, no_one, eq-eqb drive drive refl)
  none_plugged drive (l ∷ ls) none (suc x) is = none_plugged drive ls (neither (option_map_or (λ d. d == drive) l.plugged false) (is_plugged drive ls) none).1 x is

  plug_fits : (a b c d : Bool) → (a && b && c && not d) ≡ true → (c ≡ true) × (d ≡ false)
  plug_fits true true true false e = (refl, refl)
  plug_fits true true true true e = absurd (cc)
  plug_fits true true false d e = absurd (cc)
  plug_fits true false c d e = absurd (cc)
  plug_fits false b c d e = absurd (cc)

  empty_at : (o : Option ℕ) → is_none o ≡ true → o ≡ None
  empty_at None e = refl
  empty_at (Some x) e = absurd (cc)

  plug_by :
      (step : Step) (place drive : ℕ) (b : Bool) → can_plug head (links head p) place drive ≡ b
      → AreDriven head (onto (Entered time who seq step ∷ p) (if b then Plugged place drive ∷ raised_acts p else Nothing ∷ []))
  plug_by step place drive false e = free_onto head (Entered time who seq step ∷ p) (Nothing ∷ []) refl (driven_began head p time who seq step was)
  plug_by step place drive true e =
      let fits = plug_fits (nat_lt place head.places) (nat_lt drive (length head.drives)) (is_none (plugged_at (links head p) place)) (is_plugged drive (links head p)) e in
      let start : List Event = Entered time who seq step ∷ p in
      free_onto head (Told (Plugged place drive) ∷ start) (raised_acts p) (raised_free (is_line_up p))
      (driven_plugged head start (driven_began head p time who seq step was) place drive (empty_at (plugged_at (links head p) place) fits.0)
      (none_plugged drive (links head p) fits.1))
    where
      raised_free : (up : Bool) → list_all is_free (if up then [] else Raised ∷ []) ≡ true
      raised_free true = refl
      raised_free false = refl

  pub plug_driven : (step : Step) (place drive : ℕ) → AreDriven head (onto (Entered time who seq step ∷ p) (plug_acts head p place drive))
  plug_driven step place drive = plug_by step place drive (can_plug head (links head p) place drive) refl
