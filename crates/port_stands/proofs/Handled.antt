-- What recovery has noted and still has to reset, over the entries that lessen.
use Rattle.std.proofs.Common.{◌≡◌, ◌≢◌, ◌∙◌, ℕ, Bool, true, false, ◌&&◌, List, [], Option, None, Some, ◌⊎◌, inl, inr, is_some, slice_get, refl, sym, ap, subst}
use Rattle.std.specs.Prelude.{slice_index_or}
use Rattle.drive_model.specs.View.{DriveView}
use Rattle.drive_model.specs.declared.held.Held.{Held}
use Rattle.host_tags.specs.Slots.{flight_at, put}
use Rattle.host_tags.specs.declared.in_flight.InFlight.{InFlight}
use Rattle.port_past.specs.Links.{linked_at}
use Rattle.ata_base.specs.declared.regs.Regs.{Regs}
use Rattle.drive_model.specs.declared.log_told.LogTold.TheVariants.{Page}
use Rattle.eh_autopsy.specs.declared.failed_issue.FailedIssue.{FailedIssue}
use Rattle.port_stands.proofs.Numbers.{read_written}
use Rattle.port_stands.specs.Gate.{AreAll}
use Rattle.port_stands.specs.Words.{RecoveryView}
use Rattle.port_stands.specs.Handled.{IsIdle, to_reset, AreSingleTasks, HandlingView, AreHandled}

-- a drive that is linked was linked, and is idle or as it was
pub record IsLike (s : HandlingView) (x d : ℕ) (v : DriveView) : Type 0 where
  pub view : DriveView
  pub linked : linked_at s.links x ≡ Some d
  pub was : slice_get s.drives d ≡ Some view
  pub now : (IsIdle v) ⊎ ((v.held ≡ view.held) × (v.stopped ≡ view.stopped))

-- an issue in flight was in flight, as much owned
pub record WasFlying (s : HandlingView) (tag : ℕ) (f : InFlight) : Type 0 where
  pub flight : InFlight
  pub here : flight_at s.slots tag ≡ Some flight
  pub n : f.number.n ≡ flight.number.n
  pub place : f.place ≡ flight.place
  pub owned : f.owned ≡ flight.owned

like_held : (v w : DriveView) → (IsIdle v) ⊎ ((v.held ≡ w.held) × (v.stopped ≡ w.stopped)) → v.stopped ≡ None → (w.stopped ≡ None → w.held ≡ []) → v.held ≡ []
like_held v w (inl idle) none was = idle.holds
like_held v w (inr same) none was = same.0 ∙ was (sym same.1 ∙ none)

like_stopped : (v w : DriveView) → (IsIdle v) ⊎ ((v.held ≡ w.held) × (v.stopped ≡ w.stopped)) → v.stopped ≢ None → w.stopped ≢ None
like_stopped v w (inl idle) by none = by idle.stopped
like_stopped v w (inr same) by none = by (same.1 ∙ none)

pub like_idle : (v w : DriveView) → (IsIdle v) ⊎ ((v.held ≡ w.held) × (v.stopped ≡ w.stopped)) → IsIdle w → IsIdle v
like_idle v w (inl idle) was = idle
like_idle v w (inr same) was = record { holds = same.0 ∙ was.holds; stopped = same.1 ∙ was.stopped }

-- where recovery stands as it stood, what flies flew, what is linked is as it was or idle, and nothing more failed
pub handled_less :
    (s t : HandlingView) → AreHandled s → t.recovery ≡ s.recovery → t.frozen ≡ s.frozen → t.noted ≡ s.noted
    → ((x d : ℕ) (v : DriveView) → linked_at t.links x ≡ Some d → slice_get t.drives d ≡ Some v → v.stopped ≢ None
    → ((tag : ℕ) (regs : Regs) → slice_index_or s.logs x None ≢ Some (Page tag regs)) → (tag : ℕ) (regs : Regs) → slice_index_or t.logs x None ≢ Some (Page tag regs))
    → ((x : ℕ) (failure : FailedIssue) → slice_index_or t.failures x None ≡ Some failure → slice_index_or s.failures x None ≡ Some failure)
    → ((tag : ℕ) (f : InFlight) → flight_at t.slots tag ≡ Some f → WasFlying s tag f)
    → ((x d : ℕ) (v : DriveView) → linked_at t.links x ≡ Some d → slice_get t.drives d ≡ Some v → IsLike s x d v)
    → AreHandled t
handled_less s t was recovery frozen noted logs failures flew like = record {
  noted = λ runs cold tag f here own.
      let w = flew tag f here in
      ap is_some (ap (λ n. slice_index_or n f.place None) noted ∙ ap (λ p. slice_index_or s.noted p None) w.place)
      ∙ was.noted (run_is runs) (sym frozen ∙ cold) tag w.flight w.here (sym w.owned ∙ own);
  halted = λ runs cold tag f here own d v linked at none.
      let w = flew tag f here in
      let l = like f.place d v linked at in
      like_held v l.view l.now none
      (was.halted (run_is runs) (sym frozen ∙ cold) tag w.flight w.here (sym w.owned ∙ own) d l.view (ap (linked_at s.links) (sym w.place) ∙ l.linked) l.was);
  logs_halted = λ runs early cold x d v linked at none.
      let l = like x d v linked at in
      like_held v l.view l.now none (was.logs_halted (run_is runs) (done_is early) (sym frozen ∙ cold) x d l.view l.linked l.was);
  logs_noted = λ runs early cold x d v linked at by.
      let l = like x d v linked at in
      let n = was.logs_noted (run_is runs) (done_is early) (sym frozen ∙ cold) x d l.view l.linked l.was (like_stopped v l.view l.now by) in
      (ap is_some (ap (λ y. slice_index_or y x None) noted) ∙ n.0, logs x d v linked at by n.1);
  reset = λ runs done x d v linked at none.
      let l = like x d v linked at in
      like_idle v l.view l.now (was.reset (run_is runs) (done_is done) x d l.view l.linked l.was (ap (λ y. to_reset y x) (sym recovery) ∙ none));
  cold = λ early cold x failure is tag f here number.
      let w = flew tag f here in
      w.owned ∙ was.cold (ap (λ y. y.running && y.autopsied) (sym recovery) ∙ early) (sym frozen ∙ cold) x failure (failures x failure is) tag w.flight w.here (sym w.n ∙ number);
  struck = λ runs done x none. no_more x (slice_index_or t.failures x None) refl (was.struck (run_is runs) (done_is done) x (ap (λ y. to_reset y x) (sym recovery) ∙ none));
  single = subst (λ y. AreSingleTasks y.tasks) (sym recovery) was.single;
}
  where
    run_is : {b : Bool} → t.recovery.running ≡ b → s.recovery.running ≡ b
    run_is is = ap (λ y. y.running) (sym recovery) ∙ is

    done_is : {b : Bool} → t.recovery.autopsied ≡ b → s.recovery.autopsied ≡ b
    done_is is = ap (λ y. y.autopsied) (sym recovery) ∙ is

    no_more : (x : ℕ) (found : Option FailedIssue) → slice_index_or t.failures x None ≡ found → slice_index_or s.failures x None ≡ None → found ≡ None
    no_more x None is none = refl
    no_more x (Some failure) is none = absurd (cc (failures x failure is, none))

-- an issue comes in where recovery is neither asked for nor runs, and none is owned
pub handled_issued :
    (s : HandlingView) (tag : ℕ) (new : InFlight) (drives : List DriveView) → AreHandled s → s.recovery.running ≡ false → new.owned ≡ false
    → AreAll (λ f. f.owned ≡ false) s.slots → AreHandled (record s { slots = put tag new s.slots; drives = drives })
handled_issued s tag new drives was idle free none = record {
  noted = λ runs cold t f here own. absurd (cc (unowned t f here, own));
  halted = λ runs cold t f here own d v linked at by. absurd (cc (unowned t f here, own));
  logs_halted = λ runs early cold x d v linked at by. absurd (cc);
  logs_noted = λ runs early cold x d v linked at by. absurd (cc);
  reset = λ runs done x d v linked at by. absurd (cc);
  cold = λ early cold x failure is t f here number. unowned t f here;
  struck = λ runs done x by. absurd (cc);
  single = was.single;
}
  where
    unowned : (t : ℕ) (f : InFlight) → flight_at (put tag new s.slots) t ≡ Some f → f.owned ≡ false
    unowned t f here = elim (read_written s.slots tag t (Some new) f here) [
      | inl at ↦ let same : new ≡ f = cc (at.1) in ap (λ x. x.owned) (sym same) ∙ free
      | inr at ↦ none t f at.1
    ]

-- ---- a drive ends an issue

-- what a drive ends, by what it is seen by
pub record IsEnding (s t : HandlingView) : Type 0 where
  pub place : ℕ
  pub drive : ℕ
  pub view : DriveView
  pub held : Held
  pub number : ℕ
  pub linked : linked_at s.links place ≡ Some drive
  pub was : slice_get s.drives drive ≡ Some view
  pub runs : view.stopped ≡ None
  pub holds : view.held ≢ []
  pub recovery : t.recovery ≡ s.recovery
  pub frozen : t.frozen ≡ s.frozen
  pub slots : t.slots ≡ s.slots
  pub links : t.links ≡ s.links
  pub noted : t.noted ≡ s.noted
  pub logs : t.logs ≡ s.logs
  pub views : (d : ℕ) (v : DriveView) → slice_get t.drives d ≡ Some v → (d ≡ drive) ⊎ (slice_get s.drives d ≡ Some v)
  pub failed : (x : ℕ) (failure : FailedIssue) → slice_index_or t.failures x None ≡ Some failure
      → ((x ≡ place) × (failure.number.n ≡ number)) ⊎ (slice_index_or s.failures x None ≡ Some failure)
  pub own : (tag : ℕ) (f : InFlight) → flight_at s.slots tag ≡ Some f → f.number.n ≡ number → linked_at s.links f.place ≡ Some drive

module _ (s t : HandlingView) (was : AreHandled s) (e : IsEnding s t) where
  standing_is : {A : Type 0} (g : RecoveryView → A) {x : A} → g t.recovery ≡ x → g s.recovery ≡ x
  standing_is g is = ap g (sym e.recovery) ∙ is

  here_is : (tag : ℕ) (f : InFlight) → flight_at t.slots tag ≡ Some f → flight_at s.slots tag ≡ Some f
  here_is tag f here = ap (λ x. flight_at x tag) (sym e.slots) ∙ here

  linked_is : (x d : ℕ) → linked_at t.links x ≡ Some d → linked_at s.links x ≡ Some d
  linked_is x d is = ap (λ l. linked_at l x) (sym e.links) ∙ is

  own_free : (early : (s.recovery.running && s.recovery.autopsied) ≡ false) → s.frozen ≡ false → (tag : ℕ) (f : InFlight) → flight_at s.slots tag ≡ Some f → f.number.n ≡ e.number → f.owned ≡ true → ⊥
  own_free early cold tag f here number own = by s.recovery.running s.recovery.autopsied refl refl early
    where
      by : (r a : Bool) → s.recovery.running ≡ r → s.recovery.autopsied ≡ a → (r && a) ≡ false → ⊥
      by false a runs done no_one = e.holds (was.halted runs cold tag f here own e.drive e.view (e.own tag f here number) e.was e.runs)
      by true false runs done no_one = e.holds (was.logs_halted runs done cold e.place e.drive e.view e.linked e.was e.runs)
      by true true runs done no_one = cc

  false_by : (b : Bool) → (b ≡ true → ⊥) → b ≡ false
  false_by true never = absurd (never refl)
  false_by false never = refl

  pub handled_done : AreHandled t
  handled_done = record {
    noted = λ runs cold tag f here own.
        ap is_some (ap (λ n. slice_index_or n f.place None) e.noted)
        ∙ was.noted (standing_is (λ y. y.running) runs) (sym e.frozen ∙ cold) tag f (here_is tag f here) own;
    halted = λ runs cold tag f here own d v linked at none.
        let old = was.halted (standing_is (λ y. y.running) runs) (sym e.frozen ∙ cold) tag f (here_is tag f here) own in
        elim (e.views d v at) [
          | inl same ↦ absurd (e.holds (old e.drive e.view (linked_is f.place d linked ∙ ap Some same) e.was e.runs))
          | inr same ↦ old d v (linked_is f.place d linked) same none
        ];
    logs_halted = λ runs early cold x d v linked at none.
        let old = was.logs_halted (standing_is (λ y. y.running) runs) (standing_is (λ y. y.autopsied) early) (sym e.frozen ∙ cold) in
        elim (e.views d v at) [
          | inl same ↦ absurd (e.holds (old x e.drive e.view (linked_is x d linked ∙ ap Some same) e.was e.runs))
          | inr same ↦ old x d v (linked_is x d linked) same none
        ];
    logs_noted = λ runs early cold x d v linked at by.
        let r = standing_is (λ y. y.running) runs in
        let a = standing_is (λ y. y.autopsied) early in
        let c : s.frozen ≡ false = sym e.frozen ∙ cold in
        elim (e.views d v at) [
          | inl same ↦ absurd (e.holds (was.logs_halted r a c x e.drive e.view (linked_is x d linked ∙ ap Some same) e.was e.runs))
          | inr same ↦
              let n = was.logs_noted r a c x d v (linked_is x d linked) same by in
              (ap is_some (ap (λ y. slice_index_or y x None) e.noted) ∙ n.0, λ tag regs is. n.1 tag regs (ap (λ y. slice_index_or y x None) (sym e.logs) ∙ is))
        ];
    reset = λ runs done x d v linked at none.
        let old = was.reset (standing_is (λ y. y.running) runs) (standing_is (λ y. y.autopsied) done) x in
        let owed = standing_is (λ y. to_reset y x) none in
        elim (e.views d v at) [
          | inl same ↦ absurd (e.holds (old e.drive e.view (linked_is x d linked ∙ ap Some same) e.was owed).holds)
          | inr same ↦ old d v (linked_is x d linked) same owed
        ];
    cold = λ early cold x failure is tag f here number.
        let a = standing_is (λ y. y.running && y.autopsied) early in
        let c : s.frozen ≡ false = sym e.frozen ∙ cold in
        elim (e.failed x failure is) [
          | inl new ↦ false_by f.owned (own_free a c tag f (here_is tag f here) (number ∙ new.1))
          | inr old ↦ was.cold a c x failure old tag f (here_is tag f here) number
        ];
    struck = λ runs done x none. struck_by x (standing_is (λ y. y.running) runs) (standing_is (λ y. y.autopsied) done) (standing_is (λ y. to_reset y x) none) (slice_index_or t.failures x None) refl;
    single = subst (λ y. AreSingleTasks y.tasks) (sym e.recovery) was.single;
  }
    where
      struck_by : (x : ℕ) → s.recovery.running ≡ true → s.recovery.autopsied ≡ true → to_reset s.recovery x ≡ false → (found : Option FailedIssue) → slice_index_or t.failures x None ≡ found → found ≡ None
      struck_by x runs done none None is = refl
      struck_by x runs done none (Some failure) is = elim (e.failed x failure is) [
        | inl new ↦ absurd (e.holds (was.reset runs done e.place e.drive e.view e.linked e.was (subst (λ y. to_reset s.recovery y ≡ false) new.0 none)).holds)
        | inr old ↦ absurd (cc (old, was.struck runs done x none))
      ]

-- ---- an interrupt

-- what a served interrupt makes of what is seen
pub record IsServing (s t : HandlingView) : Type 0 where
  pub recovery : t.recovery ≡ s.recovery
  pub thawed : s.frozen ≡ false
  pub links : t.links ≡ s.links
  pub drives : t.drives ≡ s.drives
  pub logs : t.logs ≡ s.logs
  pub none : (x : ℕ) → slice_index_or t.failures x None ≡ None
  pub kept : (x : ℕ) → is_some (slice_index_or s.noted x None) ≡ true → is_some (slice_index_or t.noted x None) ≡ true
  pub taken : (x : ℕ) → is_some (slice_index_or s.failures x None) ≡ true → is_some (slice_index_or t.noted x None) ≡ true
  pub flew : (tag : ℕ) (f : InFlight) → flight_at t.slots tag ≡ Some f
      → (g : InFlight) × ((flight_at s.slots tag ≡ Some g) × ((f.place ≡ g.place) × (t.frozen ≡ false → f.owned ≡ true
      → (g.owned ≡ true) ⊎ (is_some (slice_index_or s.failures g.place None) ≡ true))))
  pub stops : (x d : ℕ) (v : DriveView) → is_some (slice_index_or s.failures x None) ≡ true → linked_at s.links x ≡ Some d
      → slice_get s.drives d ≡ Some v → v.stopped ≡ None → v.held ≡ []

pub handled_served : (s t : HandlingView) → AreHandled s → IsServing s t → AreHandled t
handled_served s t was e = record {
  noted = λ runs cold tag f here own.
      let w = e.flew tag f here in
      ap (λ x. is_some (slice_index_or t.noted x None)) w.1.1.0
      ∙ elim (w.1.1.1 cold own) [
        | inl old ↦ e.kept w.0.place (was.noted (standing_is (λ y. y.running) runs) e.thawed tag w.0 w.1.0 old)
        | inr new ↦ e.taken w.0.place new
      ];
  halted = λ runs cold tag f here own d v linked at none.
      let w = e.flew tag f here in
      let l : linked_at s.links w.0.place ≡ Some d = ap (linked_at s.links) (sym w.1.1.0) ∙ linked_is f.place d linked in
      elim (w.1.1.1 cold own) [
        | inl old ↦ was.halted (standing_is (λ y. y.running) runs) e.thawed tag w.0 w.1.0 old d v l (view_is d v at) none
        | inr new ↦ e.stops w.0.place d v new l (view_is d v at) none
      ];
  logs_halted = λ runs early cold x d v linked at none.
      was.logs_halted (standing_is (λ y. y.running) runs) (standing_is (λ y. y.autopsied) early) e.thawed x d v (linked_is x d linked) (view_is d v at) none;
  logs_noted = λ runs early cold x d v linked at by.
      let n = was.logs_noted (standing_is (λ y. y.running) runs) (standing_is (λ y. y.autopsied) early) e.thawed x d v (linked_is x d linked) (view_is d v at) by in
      (e.kept x n.0, λ tag regs is. n.1 tag regs (ap (λ y. slice_index_or y x None) (sym e.logs) ∙ is));
  reset = λ runs done x d v linked at none.
      was.reset (standing_is (λ y. y.running) runs) (standing_is (λ y. y.autopsied) done) x d v (linked_is x d linked) (view_is d v at) (standing_is (λ y. to_reset y x) none);
  cold = λ early cold x failure is tag f here number. absurd (cc (is, e.none x));
  struck = λ runs done x none. e.none x;
  single = subst (λ y. AreSingleTasks y.tasks) (sym e.recovery) was.single;
}
  where
    standing_is : {A : Type 0} (g : RecoveryView → A) {x : A} → g t.recovery ≡ x → g s.recovery ≡ x
    standing_is g is = ap g (sym e.recovery) ∙ is

    linked_is : (x d : ℕ) → linked_at t.links x ≡ Some d → linked_at s.links x ≡ Some d
    linked_is x d is = ap (λ l. linked_at l x) (sym e.links) ∙ is

    view_is : (d : ℕ) (v : DriveView) → slice_get t.drives d ≡ Some v → slice_get s.drives d ≡ Some v
    view_is d v is = ap (λ l. slice_get l d) (sym e.drives) ∙ is

-- ---- recovery begins, ends, and goes on

-- what a beginning makes of what is seen: where the port isn't frozen, all that still flies was owned
pub record IsBeginning (s t : HandlingView) : Type 0 where
  pub idle : s.recovery.running ≡ false
  pub running : t.recovery.running ≡ true
  pub early : t.recovery.autopsied ≡ false
  pub no_tasks : t.recovery.tasks ≡ []
  pub links : t.links ≡ s.links
  pub drives : t.drives ≡ s.drives
  pub failures : t.failures ≡ s.failures
  pub noted : t.noted ≡ s.noted
  pub logs : (x : ℕ) → slice_index_or t.logs x None ≡ None
  pub owned : t.frozen ≡ false → (s.frozen ≡ false) × ((tag : ℕ) (f : InFlight) → flight_at t.slots tag ≡ Some f
      → (g : InFlight) × ((flight_at s.slots tag ≡ Some g) × ((f.place ≡ g.place) × ((f.number.n ≡ g.number.n) × (g.owned ≡ true)))))
  pub held : (x d : ℕ) (v : DriveView) → linked_at t.links x ≡ Some d → slice_get t.drives d ≡ Some v → (v.held ≡ []) ⊎ ((tag : ℕ) × ((f : InFlight) × ((flight_at t.slots tag ≡ Some f) × (f.place ≡ x))))
  pub stopped : (x d : ℕ) (v : DriveView) → linked_at t.links x ≡ Some d → slice_get t.drives d ≡ Some v → v.stopped ≢ None → (tag : ℕ) × ((f : InFlight) × ((flight_at t.slots tag ≡ Some f) × (f.place ≡ x)))

pub handled_begun : (s t : HandlingView) → AreHandled s → IsBeginning s t → AreHandled t
handled_begun s t was e = record {
  noted = λ runs cold tag f here own. absurd (cc (runs, e.running));
  halted = λ runs cold tag f here own d v linked at none. absurd (cc (runs, e.running));
  logs_halted = λ runs early cold x d v linked at none.
      elim (e.held x d v linked at) [
        | inl empty ↦ empty
        | inr fly ↦
            let o = e.owned cold in
            let w = o.1 fly.0 fly.1.0 fly.1.1.0 in
            was.halted e.idle o.0 fly.0 w.0 w.1.0 w.1.1.1.1 d v
            (ap (linked_at s.links) (sym w.1.1.0 ∙ fly.1.1.1) ∙ linked_is x d linked) (view_is d v at) none
      ];
  logs_noted = λ runs early cold x d v linked at by.
      let fly = e.stopped x d v linked at by in
      let o = e.owned cold in
      let w = o.1 fly.0 fly.1.0 fly.1.1.0 in (
        ap is_some (ap (λ n. slice_index_or n x None) e.noted ∙ ap (λ y. slice_index_or s.noted y None) (sym (sym w.1.1.0 ∙ fly.1.1.1)))
            ∙ was.noted e.idle o.0 fly.0 w.0 w.1.0 w.1.1.1.1,
        λ tag regs is. cc (is, e.logs x),
      );
  reset = λ runs done x d v linked at none. absurd (cc (done, e.early));
  cold = λ early cold x failure is tag f here number.
      let o = e.owned cold in
      let w = o.1 tag f here in
      let free = was.cold (ap (λ b. b && s.recovery.autopsied) e.idle) o.0 x failure (ap (λ y. slice_index_or y x None) (sym e.failures) ∙ is) tag w.0 w.1.0 (sym w.1.1.1.0 ∙ number) in
      absurd (cc (free, w.1.1.1.1));
  struck = λ runs done x none. absurd (cc (done, e.early));
  single = subst AreSingleTasks (sym e.no_tasks) tt;
}
  where
    linked_is : (x d : ℕ) → linked_at t.links x ≡ Some d → linked_at s.links x ≡ Some d
    linked_is x d is = ap (λ l. linked_at l x) (sym e.links) ∙ is

    view_is : (d : ℕ) (v : DriveView) → slice_get t.drives d ≡ Some v → slice_get s.drives d ≡ Some v
    view_is d v is = ap (λ l. slice_get l d) (sym e.drives) ∙ is

-- recovery ends: nothing flies and nothing failed
pub handled_ended :
    (t : HandlingView) → t.recovery.running ≡ false → ((tag : ℕ) (f : InFlight) → flight_at t.slots tag ≡ Some f → ⊥)
    → ((x : ℕ) → slice_index_or t.failures x None ≡ None) → AreSingleTasks t.recovery.tasks → AreHandled t
handled_ended t idle nobody none single = record {
  noted = λ runs cold tag f here own. absurd (nobody tag f here);
  halted = λ runs cold tag f here own d v linked at by. absurd (nobody tag f here);
  logs_halted = λ runs early cold x d v linked at by. absurd (cc (runs, idle));
  logs_noted = λ runs early cold x d v linked at by. absurd (cc (runs, idle));
  reset = λ runs done x d v linked at by. absurd (cc (runs, idle));
  cold = λ early cold x failure is tag f here number. absurd (nobody tag f here);
  struck = λ runs done x by. none x;
  single = single;
}

-- recovery runs and has its autopsy
pub handled_task :
    (t : HandlingView) → t.recovery.running ≡ true → t.recovery.autopsied ≡ true
    → ((x d : ℕ) (v : DriveView) → linked_at t.links x ≡ Some d → slice_get t.drives d ≡ Some v → to_reset t.recovery x ≡ false → IsIdle v)
    → ((x : ℕ) → to_reset t.recovery x ≡ false → slice_index_or t.failures x None ≡ None)
    → AreSingleTasks t.recovery.tasks → AreHandled t
handled_task t running autopsied reset struck single = record {
  noted = λ runs cold tag f here own. absurd (cc (runs, running));
  halted = λ runs cold tag f here own d v linked at by. absurd (cc (runs, running));
  logs_halted = λ runs early cold x d v linked at by. absurd (cc (early, autopsied));
  logs_noted = λ runs early cold x d v linked at by. absurd (cc (early, autopsied));
  reset = λ runs done x d v linked at none. reset x d v linked at none;
  cold = λ early cold x failure is tag f here number. absurd (cc (early, running, autopsied, ap (λ b. b && t.recovery.autopsied) running));
  struck = λ runs done x none. struck x none;
  single = single;
}
