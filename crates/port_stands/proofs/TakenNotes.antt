-- What is noted of failed issues, and what isn't condemned.
use Rattle.std.proofs.Common.{◌≡◌, ◌≢◌, ◌∙◌, ℕ, Bool, true, false, not, ◌&&◌, ◌==◌, List, [], ◌∷◌, Option, None, Some, suc, zero, length, is_some, slice_get, refl, sym, ap, arith, if◌then◌else◌}
use Rattle.std.specs.Prelude.{slice_index_or}
use Rattle.std.proofs.lemmas.Bool.{eqb-true}
use Rattle.ata_base.specs.declared.err_mask.ErrMask.{ErrMask}
use Rattle.ata_script.specs.declared.port_head.PortHead.{PortHead}
use Rattle.ata_trace.specs.Event.{Event}
use Rattle.ata_trace.specs.declared.act.Act.{Act}
use Rattle.ata_trace.specs.declared.act.Act.TheVariants.{Condemned}
use Rattle.drive_model.specs.View.{DriveView}
use Rattle.drive_model.specs.declared.held.Held.{Held}
use Rattle.host_tags.specs.Marks.{condemned}
use Rattle.host_tags.specs.Slots.{flight_at}
use Rattle.host_tags.specs.declared.in_flight.InFlight.{InFlight}
use Rattle.port_past.specs.Causes.{tferr}
use Rattle.port_past.specs.Drives.{drives}
use Rattle.port_past.specs.Completions.{completions}
use Rattle.port_past.specs.Links.{links, link_at, linked_at}
use Rattle.port_past.specs.Noted.{with_later}
use Rattle.port_past.specs.Slots.{slots}
use Rattle.port_past.specs.declared.completion.Completion.{Completion}
use Rattle.eh_autopsy.specs.declared.failed_issue.FailedIssue.{FailedIssue}
use Rattle.port_rules.specs.Sorting.{condemnations}
use Rattle.port_stands.proofs.Driven.{linked_plugged}
use Rattle.ata_base.proofs.Truth.{not_true, and_second}
use Rattle.port_stands.specs.Driven.{IsHeld, IsStruck, AreDriven}
use Rattle.ata_base.specs.Each.{Each}
use Rattle.port_stands.specs.Whole.{AreUnmixed}
use Rattle.port_stands.specs.Words.{slot_onto}
use Rattle.port_stands.proofs.Numbers.{some_same}

-- ---- an issue that isn't condemned

spared_by :
    (b : Bool) (h g : InFlight) (kinds : ErrMask) (rest : List Act) → (b ≡ true → (g.number.n == h.number.n) ≡ false)
    → slot_onto rest (Some g) ≡ Some g → slot_onto (if b then Condemned h.number kinds ∷ rest else rest) (Some g) ≡ Some g
spared_by true h g kinds rest other later = ap (λ c. slot_onto rest (if c then Some (condemned kinds g) else Some g)) (other refl) ∙ later
spared_by false h g kinds rest other later = later

-- an issue whose number doesn't pass the test isn't condemned
pub spared :
    (test : InFlight → Bool) (kinds : ErrMask) (slots : List (Option InFlight)) (completions : List (Option Completion)) (g : InFlight)
    → ((u : ℕ) (h : InFlight) → flight_at slots u ≡ Some h → h.number.n ≡ g.number.n → test h ≡ false)
    → slot_onto (condemnations test kinds slots completions) (Some g) ≡ Some g
spared test kinds [] completions g none = refl
spared test kinds (None ∷ slots) [] g none = refl
spared test kinds (Some h ∷ slots) [] g none = refl
spared test kinds (None ∷ slots) (end ∷ completions) g none = spared test kinds slots completions g (λ u h at same. none (suc u) h at same)
spared test kinds (Some h ∷ slots) (Some end ∷ completions) g none = spared test kinds slots completions g (λ u x at same. none (suc u) x at same)
spared test kinds (Some h ∷ slots) (None ∷ completions) g none =
    spared_by (not h.owned && test h) h g kinds (condemnations test kinds slots completions)
    (λ passes. not_true (g.number.n == h.number.n) (λ e. cc (none 0 h refl (sym (eqb-true g.number.n h.number.n e)), and_second (not h.owned) (test h) passes)))
    (spared test kinds slots completions g (λ u x at same. none (suc u) x at same))

-- ---- what is noted

pub kept_later : (later was : List (Option FailedIssue)) (x : ℕ) → is_some (slice_index_or was x None) ≡ true → is_some (slice_index_or (with_later later was) x None) ≡ true
kept_later [] was x is = is
kept_later (None ∷ later) [] x is = is
kept_later (Some y ∷ later) [] x is = is
kept_later (None ∷ later) (w ∷ was) zero is = is
kept_later (Some y ∷ later) (w ∷ was) zero is = refl
kept_later (None ∷ later) (w ∷ was) (suc x) is = kept_later later was x is
kept_later (Some y ∷ later) (w ∷ was) (suc x) is = kept_later later was x is

pub taken_later :
    (later was : List (Option FailedIssue)) (x : ℕ) → length later ≡ length was → is_some (slice_index_or later x None) ≡ true
    → is_some (slice_index_or (with_later later was) x None) ≡ true
taken_later [] was x same is = absurd (cc)
taken_later (None ∷ later) [] x same is = absurd (omega (arith, same))
taken_later (Some y ∷ later) [] x same is = absurd (omega (arith, same))
taken_later (None ∷ later) (w ∷ was) zero same is = absurd (cc)
taken_later (Some y ∷ later) (w ∷ was) zero same is = refl
taken_later (None ∷ later) (w ∷ was) (suc x) same is = taken_later later was x (omega (arith, same)) is
taken_later (Some y ∷ later) (w ∷ was) (suc x) same is = taken_later later was x (omega (arith, same)) is

pub so_false : (b : Bool) → not b ≡ true → b ≡ false
so_false true e = absurd (cc)
so_false false e = refl

struck_holds :
    (head : PortHead) (p : List Event) → AreDriven head p → AreUnmixed (slots p) → (x d : ℕ) (v : DriveView) (failure : FailedIssue)
    → IsStruck head p x failure → linked_at (links head p) x ≡ Some d → slice_get (drives head p) d ≡ Some v
    → v.stopped ≡ None → (held : List Held) → Each (IsHeld head p d) held → Each (λ h. h.number.n ≢ failure.number.n) held → held ≡ []
struck_holds head p was unmixed x d v failure s linked at none [] each other = refl
struck_holds head p was unmixed x d v failure s linked at none (h ∷ rest) each other =
    let k = each.0 in
    let there : k.flight.place ≡ x =
    was.plugged k.flight.place x d (linked_plugged (link_at (links head p) k.flight.place) d k.flies.linked) (linked_plugged (link_at (links head p) x) d linked) in
    let apart : s.tag ≢ h.tag =
    λ e. other.0 (sym k.number
    ∙ ap (λ (f : InFlight). f.number.n) (some_same k.flight s.flight (sym k.flies.here ∙ ap (flight_at (slots p)) (sym e) ∙ s.here))
    ∙ s.number) in
    absurd (s.stops (unmixed s.tag h.tag s.flight k.flight s.here k.flies.here (s.there ∙ sym there) apart) d v linked at none)

-- a drive at a place with a failure holds nothing unless it is stopped
pub failed_stops :
    (head : PortHead) (p : List Event) → AreDriven head p → AreUnmixed (slots p) → (x d : ℕ) (v : DriveView)
    → is_some (slice_index_or (tferr p) x None) ≡ true → linked_at (links head p) x ≡ Some d → slice_get (drives head p) d ≡ Some v
    → v.stopped ≡ None → v.held ≡ []
failed_stops head p was unmixed x d v is linked at none = by (slice_index_or (tferr p) x None) refl is
  where
    by : (found : Option FailedIssue) → slice_index_or (tferr p) x None ≡ found → is_some found ≡ true → v.held ≡ []
    by None e is = absurd (cc)
    by (Some failure) e is =
        let s = was.struck x failure e in
        struck_holds head p was unmixed x d v failure s linked at none v.held (was.held d v at) (s.unheld d v at)
