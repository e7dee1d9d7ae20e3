-- How what the drives hold moves with each act.
use Rattle.std.proofs.Common.{◌≡◌, ◌≢◌, ◌∙◌, ℕ, Bool, true, false, List, [], ◌∷◌, Option, None, Some, option_map, ◌⊎◌, inl, inr, suc, zero, slice_get, slice_set, refl, sym, ap, subst, arith, if◌then◌else◌}
use Rattle.std.specs.Prelude.{slice_index_or}
use Rattle.ata_script.specs.declared.port_head.PortHead.{PortHead}
use Rattle.ata_trace.specs.Event.{Event}
use Rattle.drive_model.specs.View.{DriveView}
use Rattle.drive_model.specs.declared.held.Held.{Held}
use Rattle.drive_model.specs.declared.queued_error.QueuedError.{QueuedError}
use Rattle.host_tags.specs.Slots.{flight_at}
use Rattle.host_tags.specs.declared.in_flight.InFlight.{InFlight}
use Rattle.link_model.specs.LinkView.{LinkView, linked_drive}
use Rattle.port_past.specs.Causes.{tferr}
use Rattle.port_past.specs.Drives.{drives}
use Rattle.port_past.specs.Completions.{completions}
use Rattle.port_past.specs.Links.{links, plugged_at, linked_at}
use Rattle.port_past.specs.ByTag.{set_where}
use Rattle.port_past.specs.declared.completion.Completion.{Completion}
use Rattle.port_past.specs.Places.{changed_at, changed_at_some}
use Rattle.port_past.specs.Slots.{slots}
use Rattle.eh_autopsy.specs.declared.failed_issue.FailedIssue.{FailedIssue}
use Rattle.ata_base.proofs.EachLemmas.{every_weaker}
use Rattle.port_stands.proofs.Marks.{IsSame, same_self}
use Rattle.drive_model.specs.Single.{AreSingle}
use Rattle.port_stands.specs.Driven.{end_at, IsFlying, IsHeld, IsStopped, AreDriven}
use Rattle.port_stands.specs.Handled.{IsIdle}
use Rattle.ata_base.specs.Each.{Each}

-- ---- lists in which one is changed

-- what stands in a list in which one was changed
pub record WasAt {A : Type 0} (xs : List A) (at : Option ℕ) (g : A → A) (j : ℕ) (y : A) : Type 0 where
  pub x : A
  pub was : slice_get xs j ≡ Some x
  pub now : ((at ≡ Some j) × (y ≡ g x)) ⊎ ((at ≢ Some j) × (y ≡ x))

pub some_one : (i j : ℕ) → Some i ≡ Some j → i ≡ j
some_one i j e = cc

later_at : {A : Type 0} (x : A) (xs : List A) (i : ℕ) (g : A → A) (j : ℕ) (y : A) → WasAt xs (Some i) g j y → WasAt (x ∷ xs) (Some (suc i)) g (suc j) y
later_at x xs i g j y w = record {
  x = w.x;
  was = w.was;
  now = elim w.now [
    | inl here ↦ inl (ap (λ o. option_map suc o) here.0, here.1)
    | inr other ↦ inr (λ e. other.0 (ap Some (same_suc i j (some_one (suc i) (suc j) e))), other.1)
  ];
}
  where
    same_suc : (i j : ℕ) → suc i ≡ suc j → i ≡ j
    same_suc i j e = omega (arith, e)

pub get_changed : {A : Type 0} (xs : List A) (i : ℕ) (g : A → A) (j : ℕ) (y : A) → slice_get (changed_at i g xs) j ≡ Some y → WasAt xs (Some i) g j y
get_changed [] i g j y is = absurd (cc)
get_changed (x ∷ xs) zero g zero y is = record { x = x; was = refl; now = inl (refl, cc) }
get_changed (x ∷ xs) zero g (suc j) y is = record { x = y; was = is; now = inr (λ e. apart j (some_one 0 (suc j) e), refl) }
  where
    apart : (j : ℕ) → 0 ≡ suc j → ⊥
    apart j e = omega (arith, e)
get_changed (x ∷ xs) (suc i) g zero y is = record { x = x; was = refl; now = inr (λ e. apart i (some_one (suc i) 0 e), cc) }
  where
    apart : (j : ℕ) → suc j ≡ 0 → ⊥
    apart j e = omega (arith, e)
get_changed (x ∷ xs) (suc i) g (suc j) y is = later_at x xs i g j y (get_changed xs i g j y is)

pub get_changed_if : {A : Type 0} (xs : List A) (at : Option ℕ) (g : A → A) (j : ℕ) (y : A) → slice_get (changed_at_some at g xs) j ≡ Some y → WasAt xs at g j y
get_changed_if xs None g j y is = record { x = y; was = is; now = inr (λ e. cc, refl) }
get_changed_if xs (Some i) g j y is = get_changed xs i g j y is

-- what is read of a list in which one was changed: that one, changed; or what was read, which is the default where the
-- list has no such position
pub read_change : {A : Type 0} (xs : List A) (i j : ℕ) (g : A → A) (d : A)
    → ((j ≡ i) × (slice_index_or (changed_at i g xs) j d ≡ g (slice_index_or xs j d)))
    ⊎ ((slice_index_or (changed_at i g xs) j d ≡ slice_index_or xs j d) × (j ≡ i → slice_index_or xs j d ≡ d))
read_change [] i j g d = inr (refl, λ e. refl)
read_change (x ∷ xs) zero zero g d = inl (refl, refl)
read_change (x ∷ xs) zero (suc j) g d = inr (refl, λ e. absurd (cc))
read_change (x ∷ xs) (suc i) zero g d = inr (refl, λ e. absurd (cc))
read_change (x ∷ xs) (suc i) (suc j) g d =
    elim (read_change xs i j g d) [
      | inl here ↦ inl (ap suc here.0, here.1)
      | inr there ↦ inr (there.0, λ e. there.1 (omega (arith, e)))
    ]

pub read_cleared : {A : Type 0} (xs : List A) (i : ℕ) (d : A) → slice_index_or (slice_set xs i d) i d ≡ d
read_cleared [] i d = refl
read_cleared (x ∷ xs) zero d = refl
read_cleared (x ∷ xs) (suc i) d = read_cleared xs i d

-- what is linked is plugged
pub linked_plugged : (link : LinkView) (d : ℕ) → linked_drive link ≡ Some d → link.plugged ≡ Some d
linked_plugged link d is = plugged_by link.linked is
  where
    plugged_by : (b : Bool) → (if b then link.plugged else None) ≡ Some d → link.plugged ≡ Some d
    plugged_by true is = is
    plugged_by false is = absurd (cc)

-- ---- an act that only lessens

-- a drive after an act: it holds at most what it held, and isn't stopped by anything new
pub record IsLess (head : PortHead) (p : List Event) (d : ℕ) (v : DriveView) : Type 0 where
  pub view : DriveView
  pub was : slice_get (drives head p) d ≡ Some view
  pub held : (v.held ≡ view.held) ⊎ (v.held ≡ [])
  pub stopped : (e : QueuedError) → v.stopped ≡ Some e → view.stopped ≡ Some e

pub less_each : (P : Held → Type 0) (was now : List Held) → ((now ≡ was) ⊎ (now ≡ [])) → Each P was → Each P now
less_each P was now (inl same) each = subst (Each P) (sym same) each
less_each P was now (inr none) each = subst (Each P) (sym none) tt

less_single : (was now : List Held) → ((now ≡ was) ⊎ (now ≡ [])) → AreSingle was → AreSingle now
less_single was now (inl same) each = subst AreSingle (sym same) each
less_single was now (inr none) each = subst AreSingle (sym none) tt

-- an issue that stays in its slot, without an end
pub record IsStaying (head : PortHead) (q : List Event) (tag : ℕ) (f : InFlight) : Type 0 where
  pub flight : InFlight
  pub here : flight_at (slots q) tag ≡ Some flight
  pub same : IsSame f flight
  pub unended : end_at (completions head q) tag ≡ None

-- from one past to another nothing is taken, nothing stops and nothing fails; what flies at a drive that does
-- something stays, and so does what failed
pub record Lessens (head : PortHead) (p q : List Event) : Type 0 where
  pub plugged : (x y d : ℕ) → plugged_at (links head q) x ≡ Some d → plugged_at (links head q) y ≡ Some d → x ≡ y
  pub views : (d : ℕ) (v : DriveView) → slice_get (drives head q) d ≡ Some v → IsLess head p d v
  pub flies : (d : ℕ) (v : DriveView) → slice_get (drives head q) d ≡ Some v
      → IsIdle v ⊎ ((tag : ℕ) (f : InFlight) → IsFlying head p d tag f
      → (linked_at (links head q) f.place ≡ Some d) × IsStaying head q tag f)
  pub struck : (x : ℕ) (failure : FailedIssue) → slice_index_or (tferr q) x None ≡ Some failure → slice_index_or (tferr p) x None ≡ Some failure
  pub stays : (x : ℕ) (failure : FailedIssue) → slice_index_or (tferr q) x None ≡ Some failure
      → (tag : ℕ) (f : InFlight) → flight_at (slots p) tag ≡ Some f → end_at (completions head p) tag ≡ None → IsStaying head q tag f
  pub stops : (x : ℕ) (failure : FailedIssue) → slice_index_or (tferr q) x None ≡ Some failure
      → (d : ℕ) (v : DriveView) → linked_at (links head q) x ≡ Some d → slice_get (drives head q) d ≡ Some v
      → (linked_at (links head p) x ≡ Some d) × ((w : DriveView) × ((slice_get (drives head p) d ≡ Some w) × (v.stopped ≡ None → w.stopped ≡ None)))

module _ (head : PortHead) (p q : List Event) (was : AreDriven head p) (less : Lessens head p q) where
  flying_still :
      (d tag : ℕ) (f : InFlight) → (linked_at (links head q) f.place ≡ Some d) × IsStaying head q tag f
      → (g : InFlight) × (IsFlying head q d tag g × IsSame f g)
  flying_still d tag f s =
      let st = s.1 in
      (st.flight, (record { here = st.here; linked = ap (linked_at (links head q)) st.same.place ∙ s.0; unended = st.unended }, st.same))

  still_held :
      (d : ℕ) (h : Held) → ((tag : ℕ) (f : InFlight) → IsFlying head p d tag f → (linked_at (links head q) f.place ≡ Some d) × IsStaying head q tag f)
      → IsHeld head p d h → IsHeld head q d h
  still_held d h flies held =
      let s = flying_still d h.tag held.flight (flies h.tag held.flight held.flies) in
      record { flight = s.0; flies = s.1.0; number = ap (λ x. x.n) s.1.1.n ∙ held.number; queued = s.1.1.queued ∙ held.queued }

  still_stopped :
      (d : ℕ) (e : QueuedError) → ((tag : ℕ) (f : InFlight) → IsFlying head p d tag f → (linked_at (links head q) f.place ≡ Some d) × IsStaying head q tag f)
      → IsStopped head p d e → IsStopped head q d e
  still_stopped d e flies stopped =
      let s = flying_still d e.tag stopped.flight (flies e.tag stopped.flight stopped.flies) in
      record { flight = s.0; flies = s.1.0; queued = s.1.1.queued ∙ stopped.queued }

  pub driven_lessens : AreDriven head q
  driven_lessens = record {
    plugged = less.plugged;
    single = λ d v is. let l = less.views d v is in less_single l.view.held v.held l.held (was.single d l.view l.was);
    held = λ d v is.
        let l = less.views d v is in
        elim (less.flies d v is) [
          | inl idle ↦ subst (λ hs. Each (IsHeld head q d) hs) (sym idle.holds) tt
          | inr flies ↦ every_weaker (IsHeld head p d) (IsHeld head q d) (λ h held. still_held d h flies held) v.held (less_each (IsHeld head p d) l.view.held v.held l.held (was.held d l.view l.was))
        ];
    stopped = λ d v e is by.
        let l = less.views d v is in
        elim (less.flies d v is) [
          | inl idle ↦ absurd (cc (idle.stopped, by))
          | inr flies ↦ still_stopped d e flies (was.stopped d l.view e l.was (l.stopped e by))
        ];
    struck = λ x failure is.
        let s = was.struck x failure (less.struck x failure is) in
        let st = less.stays x failure is s.tag s.flight s.here s.unended in
        record {
          tag = s.tag;
          flight = st.flight;
          here = st.here;
          number = ap (λ n. n.n) st.same.n ∙ s.number;
          there = st.same.place ∙ s.there;
          unended = st.unended;
          unheld = λ d v at. let l = less.views d v at in less_each (λ h. h.number.n ≢ failure.number.n) l.view.held v.held l.held (s.unheld d l.view l.was);
          stops = λ queued d v linked at none.
              let w = less.stops x failure is d v linked at in
              s.stops (sym st.same.queued ∙ queued) d w.1.0 w.0 w.1.1.0 (w.1.1.1 none);
        };
  }

-- ---- acts on slots

pub ended_stays : (test : Option InFlight → Bool) (slots : List (Option InFlight)) (was : List (Option Completion)) (tag : ℕ) → end_at was tag ≡ None → end_at (set_where test None slots was) tag ≡ None
ended_stays test [] was tag is = is
ended_stays test (slot ∷ slots) [] tag is = refl
ended_stays test (slot ∷ slots) (x ∷ was) zero is = none_by (test slot) is
  where
    none_by : (b : Bool) → x ≡ None → (if b then None else x) ≡ None
    none_by true is = refl
    none_by false is = is
ended_stays test (slot ∷ slots) (x ∷ was) (suc tag) is = ended_stays test slots was tag is

-- links, drives and failures stay, and what isn't completed stays in flight
module _ (head : PortHead) (p q : List Event) (was : AreDriven head p) where
  pub lessens_slots :
      links head q ≡ links head p → drives head q ≡ drives head p → tferr q ≡ tferr p
      → ((tag : ℕ) (f : InFlight) → flight_at (slots p) tag ≡ Some f → end_at (completions head p) tag ≡ None → IsStaying head q tag f)
      → Lessens head p q
  lessens_slots l d f stay = record {
    plugged = λ x y n at_x at_y. was.plugged x y n (ap (λ ls. plugged_at ls x) (sym l) ∙ at_x) (ap (λ ls. plugged_at ls y) (sym l) ∙ at_y);
    views = λ n v is. record { view = v; was = ap (λ ds. slice_get ds n) (sym d) ∙ is; held = inl refl; stopped = λ e by. by };
    flies = λ n v is. inr (λ tag g flies. (ap (λ ls. linked_at ls g.place) l ∙ flies.linked, stay tag g flies.here flies.unended));
    struck = λ x failure is. ap (λ fs. slice_index_or fs x None) (sym f) ∙ is;
    stays = λ x failure is tag g here none. stay tag g here none;
    stops = λ x failure is n v linked at.
        (ap (λ ls. linked_at ls x) (sym l) ∙ linked, (v, (ap (λ ds. slice_get ds n) (sym d) ∙ at, λ none. none)));
  }

  -- slots and ends and failures stay; links keep what is plugged and linked; drives keep what they hold and what stops them
  pub lessens_views :
      slots q ≡ slots p → completions head q ≡ completions head p → tferr q ≡ tferr p
      → ((x : ℕ) → plugged_at (links head q) x ≡ plugged_at (links head p) x)
      → ((x : ℕ) → linked_at (links head q) x ≡ linked_at (links head p) x)
      → ((d : ℕ) (v : DriveView) → slice_get (drives head q) d ≡ Some v
      → (w : DriveView) × ((slice_get (drives head p) d ≡ Some w) × ((v.held ≡ w.held) × (v.stopped ≡ w.stopped))))
      → Lessens head p q
  lessens_views s e f plugs linked views = record {
    plugged = λ x y n at_x at_y. was.plugged x y n (sym (plugs x) ∙ at_x) (sym (plugs y) ∙ at_y);
    views = λ n v is.
        let w = views n v is in
        record { view = w.0; was = w.1.0; held = inl w.1.1.0; stopped = λ by at. sym w.1.1.1 ∙ at };
    flies = λ n v is. inr (λ tag g flies. (linked g.place ∙ flies.linked, stay tag g flies.here flies.unended));
    struck = λ x failure is. ap (λ fs. slice_index_or fs x None) (sym f) ∙ is;
    stays = λ x failure is tag g here none. stay tag g here none;
    stops = λ x failure is n v link at.
        let w = views n v at in
        (sym (linked x) ∙ link, (w.0, (w.1.0, λ none. sym w.1.1.1 ∙ none)));
  }
    where
      stay : (tag : ℕ) (g : InFlight) → flight_at (slots p) tag ≡ Some g → end_at (completions head p) tag ≡ None → IsStaying head q tag g
      stay tag g here none = record {
        flight = g;
        here = ap (λ x. flight_at x tag) s ∙ here;
        same = same_self g;
        unended = ap (λ x. end_at x tag) e ∙ none;
      }
