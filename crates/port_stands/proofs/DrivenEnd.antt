-- The end of an issue leaves what the drives hold in flight.
use Rattle.std.proofs.Common.{◌≡◌, ◌≢◌, ◌∙◌, ℕ, Bool, true, false, not, ◌&&◌, ◌==◌, cond, List, [], ◌∷◌, Option, None, Some, ◌⊎◌, inl, inr, suc, zero, filter, slice_get, slice_set, refl, sym, ap, subst, if◌then◌else◌}
use Rattle.std.specs.Prelude.{slice_index_or}
use Rattle.std.proofs.lemmas.Bool.{eqb-true, eq-eqb}
use Rattle.ata_base.specs.declared.regs.Regs.{Regs}
use Rattle.ata_script.specs.declared.port_head.PortHead.{PortHead}
use Rattle.ata_trace.specs.Event.{Event}
use Rattle.ata_trace.specs.Event.Event.{Told}
use Rattle.ata_trace.specs.declared.act.Act.TheVariants.{Done}
use Rattle.ata_trace.specs.declared.step.Step.TheVariants.{Work}
use Rattle.drive_model.specs.Holding.{issue_of, without_issue}
use Rattle.drive_model.specs.View.{DriveView}
use Rattle.drive_model.specs.Work.{registers}
use Rattle.drive_model.specs.declared.held.Held.{Held}
use Rattle.drive_model.specs.declared.queued_error.QueuedError.{QueuedError}
use Rattle.host_tags.specs.Numbers.{is_issue}
use Rattle.host_tags.specs.Slots.{flight_at}
use Rattle.host_tags.specs.declared.in_flight.InFlight.{InFlight}
use Rattle.port_past.specs.Causes.{tferr, with_tferr}
use Rattle.port_past.specs.Drives.{drives}
use Rattle.port_past.specs.Completions.{completions, with_completion as with_end_told}
use Rattle.drive_model.specs.Told.{is_good_end, stopped_by, done_with, ended_with, with_done}
use Rattle.port_past.specs.Issues.{issue_count}
use Rattle.port_past.specs.Links.{links, link_at, linked_at, worker}
use Rattle.port_past.specs.Places.{changed_at_some}
use Rattle.port_past.specs.Slots.{slots}
use Rattle.port_past.specs.Steps.{last_step}
use Rattle.port_past.specs.declared.completion.Completion.{Completion}
use Rattle.eh_autopsy.specs.declared.failed_issue.FailedIssue.{FailedIssue}
use Rattle.port_stands.proofs.Driven.{some_one, get_changed_if, linked_plugged}
use Rattle.ata_base.proofs.EachLemmas.{every_weaker}
use Rattle.port_stands.proofs.Within.{read_written_at}
use Rattle.drive_model.specs.Single.{AreSingle}
use Rattle.port_stands.specs.Driven.{end_at, IsFlying, IsHeld, IsStruck, AreDriven}
use Rattle.port_stands.specs.Gate.{AreNumbered}
use Rattle.ata_base.specs.Each.{Each}
use Rattle.port_stands.proofs.DrivenIssue.{other_end}
use Rattle.drive_model.proofs.Picked.{apart_filter}

-- ---- an end

-- what a drive ends: an issue that it holds, while it isn't stopped
pub record IsEnd (head : PortHead) (p : List Event) (h : Held) (r : Regs) : Type 0 where
  pub place : ℕ
  pub pick : ℕ
  pub drive : ℕ
  pub view : DriveView
  pub asked : last_step p ≡ Work place pick
  pub linked : linked_at (links head p) place ≡ Some drive
  pub was : slice_get (drives head p) drive ≡ Some view
  pub runs : view.stopped ≡ None
  pub index : ℕ
  pub holds : slice_get view.held index ≡ Some h

pub each_at : (P : Held → Type 0) (hs : List Held) (i : ℕ) (h : Held) → slice_get hs i ≡ Some h → Each P hs → P h
each_at P [] i h is each = absurd (cc)
each_at P (g ∷ hs) zero h is each = let same : g ≡ h = cc in subst P same each.0
each_at P (g ∷ hs) (suc i) h is each = each_at P hs i h is each.1

differ_false : (a b : ℕ) → a ≢ b → (a == b) ≡ false
differ_false a b other = by (a == b) refl
  where
    by : (c : Bool) → (a == b) ≡ c → (a == b) ≡ false
    by true e = absurd (other (eqb-true a b e))
    by false e = e

-- a held issue is found by its number
found_held : (hs : List Held) (i : ℕ) (h : Held) → slice_get hs i ≡ Some h → AreSingle hs → issue_of h.number.n hs ≡ Some h
found_held [] i h is single = absurd (cc)
found_held (g ∷ hs) zero h is single =
    let same : g ≡ h = cc in
    ap (λ b. cond b (Some g) (issue_of h.number.n hs)) (eq-eqb g.number.n h.number.n (ap (λ x. x.number.n) same)) ∙ ap Some same
found_held (g ∷ hs) (suc i) h is single =
    ap (λ b. cond b (Some g) (issue_of h.number.n hs))
    (differ_false g.number.n h.number.n (λ e. each_at (λ x. x.number.n ≢ g.number.n) hs i h is single.0 (sym e)))
    ∙ found_held hs i h is single.1

each_filter : (P : Held → Type 0) (test : Held → Bool) (hs : List Held) → Each P hs → Each P (filter test hs)
each_filter P test [] each = tt
each_filter P test (h ∷ hs) each = by (test h) (each_filter P test hs each.1)
  where
    by : (b : Bool) → Each P (filter test hs) → Each P (cond b (h ∷ filter test hs) (filter test hs))
    by true rest = (each.0, rest)
    by false rest = rest

each_without : (n : ℕ) (hs : List Held) → Each (λ h. h.number.n ≢ n) (without_issue n hs)
each_without n [] = tt
each_without n (h ∷ hs) = by (h.number.n == n) refl (each_without n hs)
  where
    by : (b : Bool) → (h.number.n == n) ≡ b → Each (λ h. h.number.n ≢ n) (without_issue n hs) → Each (λ h. h.number.n ≢ n) (cond (not b) (h ∷ without_issue n hs) (without_issue n hs))
    by true e rest = rest
    by false e rest = ((λ same. cc (e, eq-eqb h.number.n n same)), rest)

each_both : (P Q : Held → Type 0) (hs : List Held) → Each P hs → Each Q hs → Each (λ h. P h × Q h) hs
each_both P Q [] a b = tt
each_both P Q (h ∷ hs) a b = ((a.0, b.0), each_both P Q hs a.1 b.1)

module _ (head : PortHead) (p : List Event) (was : AreDriven head p) (numbered : AreNumbered (issue_count p) (slots p)) (h : Held) (r : Regs) (end : IsEnd head p h r) where
  pub own : IsHeld head p end.drive h
  own = each_at (IsHeld head p end.drive) end.view.held end.index h end.holds (was.held end.drive end.view end.was)

  -- an issue in flight with the number is the one that is held
  pub same_flight : (t : ℕ) (x : InFlight) → flight_at (slots p) t ≡ Some x → x.number.n ≡ h.number.n → (t ≡ h.tag) × (x ≡ own.flight)
  same_flight t x here number =
      let tag : t ≡ h.tag = numbered.apart t h.tag x own.flight here own.flies.here (number ∙ sym own.number) in
      (tag, some_flight x own.flight (sym here ∙ ap (flight_at (slots p)) tag ∙ own.flies.here))
    where
      some_flight : (a b : InFlight) → Some a ≡ Some b → a ≡ b
      some_flight a b e = cc

  same_drive : (d t : ℕ) (x : InFlight) → IsFlying head p d t x → x.number.n ≡ h.number.n → d ≡ end.drive
  same_drive d t x flies number =
      let same = (same_flight t x flies.here number).1 in
      some_one d end.drive (sym flies.linked ∙ ap (λ (y : InFlight). linked_at (links head p) y.place) same ∙ own.flies.linked)

  ends_kept :
      (good : Bool) (told : Completion) (t : ℕ) (x : InFlight) → flight_at (slots p) t ≡ Some x → (x.number.n ≡ h.number.n → good ≡ false)
      → end_at (completions head p) t ≡ None → end_at (with_end_told h.number.n good told (slots p) (completions head p)) t ≡ None
  ends_kept false told t x here other none = none
  ends_kept true told t x here other none =
      other_end (is_issue h.number.n) (Some told) (slots p) (completions head p) t
      (ap (is_issue h.number.n) here ∙ differ_false x.number.n h.number.n (λ e. cc (other e))) ∙ none

  -- what is told of the end
  abbrev pub told : Regs
  told = registers r.status r.error r.lba r.count

  abbrev pub well : Bool
  well = is_good_end r.status r.error r.lba

  worked_is : with_done h.number.n told end.view ≡ done_with well told h end.view
  worked_is = ap (λ o. ended_with told o end.view) (found_held end.view.held end.index h end.holds (was.single end.drive end.view end.was))

  view_is : (v : DriveView) → slice_get (drives head p) end.drive ≡ Some v → v ≡ end.view
  view_is v is = some_view v end.view (sym is ∙ end.was)
    where
      some_view : (a b : DriveView) → Some a ≡ Some b → a ≡ b
      some_view a b e = cc

  stop_new : (good : Bool) (e : QueuedError) → stopped_by h told good None ≡ Some e → (e.tag ≡ h.tag) × ((h.queued ≡ true) × (good ≡ false))
  stop_new good e is = by h.queued good refl refl is
    where
      tag_of : Option QueuedError → ℕ
      tag_of None = 0
      tag_of (Some x) = x.tag

      by : (queued b : Bool) → h.queued ≡ queued → good ≡ b
          → (if queued && not b then Some (record { tag = h.tag; regs = told }) else None) ≡ Some e
          → (e.tag ≡ h.tag) × ((h.queued ≡ true) × (good ≡ false))
      by true false q g is = (ap tag_of (sym is), (q, g))
      by true true q g is = absurd (cc)
      by false b q g is = absurd (cc)

  stop_some : (good : Bool) → h.queued ≡ true → good ≡ false → stopped_by h told good None ≢ None
  stop_some good queued bad none = by h.queued good queued bad none
    where
      error : QueuedError
      error = record { tag = h.tag; regs = told }

      by : (q g : Bool) → q ≡ true → g ≡ false → (if q && not g then Some error else None) ≡ None → ⊥
      by true false a b e = cc
      by true true a b e = cc
      by false g a b e = cc

  -- what a drive is after the end
  pub views :
      (d : ℕ) (v : DriveView) → slice_get (changed_at_some (worker (last_step p) (links head p)) (with_done h.number.n told) (drives head p)) d ≡ Some v
      → ((d ≡ end.drive) × (v ≡ done_with well told h end.view)) ⊎ ((d ≢ end.drive) × (slice_get (drives head p) d ≡ Some v))
  views d v is =
      let at : worker (last_step p) (links head p) ≡ Some end.drive = ap (λ s. worker s (links head p)) end.asked ∙ end.linked in
      let w = get_changed_if (drives head p) (Some end.drive) (with_done h.number.n told) d v (ap (λ o. slice_get (changed_at_some o (with_done h.number.n told) (drives head p)) d) (sym at) ∙ is) in
      elim w.now [
        | inl here ↦
            let same : d ≡ end.drive = sym (some_one end.drive d here.0) in
            let x : w.x ≡ end.view = view_is w.x (subst (λ i. slice_get (drives head p) i ≡ Some w.x) same w.was) in
            inl (same, here.1 ∙ ap (with_done h.number.n told) x ∙ worked_is)
        | inr other ↦ inr ((λ e. other.0 (ap Some (sym e))), w.was ∙ ap Some (sym other.1))
      ]

  abbrev failure : FailedIssue
  failure = record { number = h.number; regs = registers r.status r.error r.lba r.count }

  -- what failed before is still struck, but at the place where another fails
  struck_old :
      (x : ℕ) (f : FailedIssue) → slice_index_or (tferr p) x None ≡ Some f → (x ≡ end.place → is_good_end r.status r.error r.lba ≡ true)
      → IsStruck head (Told (Done h.number r.status r.error r.lba r.count) ∷ p) x f
  struck_old x f old apart =
      let s = was.struck x f old in
      let other : s.flight.number.n ≢ h.number.n =
      λ e. each_at (λ g. g.number.n ≢ f.number.n) end.view.held end.index h end.holds (s.unheld end.drive end.view end.was) (sym e ∙ s.number) in
      record {
        tag = s.tag;
        flight = s.flight;
        here = s.here;
        number = s.number;
        there = s.there;
        unended = ends_kept (is_good_end r.status r.error r.lba) _ s.tag s.flight s.here (λ e. absurd (other e)) s.unended;
        unheld = λ d v is. elim (views d v is) [
          | inl here ↦ subst (λ (y : DriveView). Each (λ g. g.number.n ≢ f.number.n) y.held) (sym here.1)
              (each_filter (λ g. g.number.n ≢ f.number.n) (λ g. not (g.number.n == h.number.n)) end.view.held (s.unheld end.drive end.view end.was))
          | inr same ↦ s.unheld d v same.1
        ];
        stops = λ queued d v linked at none. elim (views d v at) [
          | inl here ↦
              let at_drive : linked_at (links head p) x ≡ Some end.drive = linked ∙ ap Some here.0 in
              absurd (s.stops queued end.drive end.view at_drive end.was end.runs)
          | inr same ↦ s.stops queued d v linked same.1 none
        ];
      }

  -- the issue that failed is struck
  struck_new : is_good_end r.status r.error r.lba ≡ false → IsStruck head (Told (Done h.number r.status r.error r.lba r.count) ∷ p) end.place failure
  struck_new bad = record {
    tag = h.tag;
    flight = own.flight;
    here = own.flies.here;
    number = own.number;
    there = was.plugged own.flight.place end.place end.drive
        (linked_plugged (link_at (links head p) own.flight.place) end.drive own.flies.linked)
        (linked_plugged (link_at (links head p) end.place) end.drive end.linked);
    unended = ends_kept (is_good_end r.status r.error r.lba) _ h.tag own.flight own.flies.here (λ same. bad) own.flies.unended;
    unheld = λ d v is. elim (views d v is) [
      | inl here ↦ subst (λ (y : DriveView). Each (λ g. g.number.n ≢ h.number.n) y.held) (sym here.1) (each_without h.number.n end.view.held)
      | inr other ↦ every_weaker (IsHeld head p d) (λ g. g.number.n ≢ h.number.n)
          (λ g held e. other.0 (same_drive d g.tag held.flight held.flies (held.number ∙ e))) v.held (was.held d v other.1)
    ];
    stops = λ queued d v linked at none. elim (views d v at) [
      | inl here ↦ stop_some well (sym own.queued ∙ queued) bad
          (ap (λ w. stopped_by h told well w) (sym end.runs) ∙ ap (λ (y : DriveView). y.stopped) (sym here.1) ∙ none)
      | inr other ↦ absurd (other.0 (some_one d end.drive (sym linked ∙ end.linked)))
    ];
  }

  some_failure : (a b : FailedIssue) → Some a ≡ Some b → a ≡ b
  some_failure a b e = cc

  struck_by :
      (b : Bool) → is_good_end r.status r.error r.lba ≡ b → (x : ℕ) (f : FailedIssue)
      → slice_index_or (if b then tferr p else with_tferr (last_step p) failure (tferr p)) x None ≡ Some f
      → IsStruck head (Told (Done h.number r.status r.error r.lba r.count) ∷ p) x f
  struck_by true e x f is = struck_old x f is (λ same. e)
  struck_by false e x f is =
      let now : slice_index_or (slice_set (tferr p) end.place (Some failure)) x None ≡ Some f =
      ap (λ s. slice_index_or (with_tferr s failure (tferr p)) x None) (sym end.asked) ∙ is in
      elim (read_written_at (tferr p) end.place x (Some failure) None) [
        | inl here ↦
            subst (λ y. IsStruck head (Told (Done h.number r.status r.error r.lba r.count) ∷ p) y f) (sym here.0)
            (subst (IsStruck head (Told (Done h.number r.status r.error r.lba r.count) ∷ p) end.place) (some_failure failure f (sym here.1 ∙ now)) (struck_new e))
        | inr there ↦ struck_old x f (sym there.0 ∙ now) (λ eq. absurd (cc (there.0, there.1 eq, now)))
      ]

  -- the end of a held issue
  pub driven_done : AreDriven head (Told (Done h.number r.status r.error r.lba r.count) ∷ p)
  driven_done =
      let q : List Event = Told (Done h.number r.status r.error r.lba r.count) ∷ p in
      let good : Bool = is_good_end r.status r.error r.lba in
      let still : (d t : ℕ) (x : InFlight) → (x.number.n ≡ h.number.n → good ≡ false) → IsFlying head p d t x → IsFlying head q d t x =
      λ d t x other flies. record {
        here = flies.here;
        linked = flies.linked;
        unended = ends_kept good _ t x flies.here other flies.unended;
      } in
      let still_held : (d : ℕ) (g : Held) → g.number.n ≢ h.number.n → IsHeld head p d g → IsHeld head q d g =
      λ d g other held. record {
        flight = held.flight;
        flies = still d g.tag held.flight (λ e. absurd (other (sym held.number ∙ e))) held.flies;
        number = held.number;
        queued = held.queued;
      } in
      let elsewhere : (d : ℕ) (v : DriveView) → d ≢ end.drive → slice_get (drives head p) d ≡ Some v → Each (λ g. g.number.n ≢ h.number.n) v.held =
      λ d v apart is. every_weaker (IsHeld head p d) (λ g. g.number.n ≢ h.number.n)
      (λ g held e. apart (same_drive d g.tag held.flight held.flies (held.number ∙ e))) v.held (was.held d v is) in
      record {
        plugged = was.plugged;
        single = λ d v is. elim (views d v is) [
          | inl here ↦ subst (λ (y : DriveView). AreSingle y.held) (sym here.1) (apart_filter (λ g. not (g.number.n == h.number.n)) end.view.held (was.single end.drive end.view end.was))
          | inr other ↦ was.single d v other.1
        ];
        held = λ d v is. elim (views d v is) [
          | inl here ↦ subst (λ (y : DriveView). Each (IsHeld head q d) y.held) (sym here.1)
              (subst (λ i. Each (IsHeld head q i) (without_issue h.number.n end.view.held)) (sym here.0)
              (every_weaker (λ g. IsHeld head p end.drive g × (g.number.n ≢ h.number.n)) (IsHeld head q end.drive) (λ g both. still_held end.drive g both.1 both.0)
              (without_issue h.number.n end.view.held)
              (each_both (IsHeld head p end.drive) (λ g. g.number.n ≢ h.number.n) (without_issue h.number.n end.view.held)
              (each_filter (IsHeld head p end.drive) (λ g. not (g.number.n == h.number.n)) end.view.held (was.held end.drive end.view end.was))
              (each_without h.number.n end.view.held))))
          | inr other ↦
              every_weaker (λ g. IsHeld head p d g × (g.number.n ≢ h.number.n)) (IsHeld head q d) (λ g both. still_held d g both.1 both.0) v.held
              (each_both (IsHeld head p d) (λ g. g.number.n ≢ h.number.n) v.held (was.held d v other.1) (elsewhere d v other.0 other.1))
        ];
        stopped = λ d v e is by. elim (views d v is) [
          | inl here ↦
              let s = stop_new good e (ap (λ w. stopped_by h told good w) (sym end.runs) ∙ ap (λ (y : DriveView). y.stopped) (sym here.1) ∙ by) in
              record {
                flight = own.flight;
                flies = subst (λ t. IsFlying head q d t own.flight) (sym s.0)
                    (subst (λ i. IsFlying head q i h.tag own.flight) (sym here.0)
                    (still end.drive h.tag own.flight (λ same. s.1.1) own.flies));
                queued = own.queued ∙ s.1.0;
              }
          | inr other ↦
              let s = was.stopped d v e other.1 by in
              record {
                flight = s.flight;
                flies = still d e.tag s.flight (λ same. absurd (other.0 (same_drive d e.tag s.flight s.flies same))) s.flies;
                queued = s.queued;
              }
        ];
        struck = λ x failure is. struck_by good refl x failure is;
      }
