-- What the drives hold flies after an issue, and after a drive ended one.
use Rattle.std.proofs.Common.{◌≡◌, ◌≢◌, ◌∙◌, ℕ, ◌<◌, Bool, false, List, [], ◌∷◌, ◌++◌, Option, None, Some, inl, inr, suc, zero, length, slice_get, slice_set, refl, sym, ap, subst, arith, if◌then◌else◌}
use Rattle.std.specs.Option.{option_map_or}
use Rattle.ata_base.specs.declared.cmd.Cmd.{Cmd}
use Rattle.ata_base.specs.declared.issue_no.IssueNo.{IssueNo}
use Rattle.ata_base.specs.declared.ms.Ms.{Ms}
use Rattle.ata_script.specs.declared.port_head.PortHead.{PortHead}
use Rattle.ata_trace.specs.Event.{Event}
use Rattle.ata_trace.specs.Event.Event.{Told}
use Rattle.ata_trace.specs.declared.act.Act.TheVariants.{Issued}
use Rattle.drive_model.specs.Holding.{taken}
use Rattle.drive_model.specs.View.{DriveView}
use Rattle.drive_model.specs.declared.held.Held.{Held}
use Rattle.host_tags.specs.Slots.{flight_at, put}
use Rattle.host_tags.specs.declared.in_flight.InFlight.{InFlight}
use Rattle.port_past.specs.ByTag.{set_where}
use Rattle.port_past.specs.Commands.{commands, command_of, place_of}
use Rattle.port_past.specs.Drives.{drives, with_issue}
use Rattle.port_past.specs.Completions.{completions}
use Rattle.port_past.specs.Links.{links, linked_at}
use Rattle.port_past.specs.Slots.{slots, fresh_flight, is_queued_frame}
use Rattle.port_past.specs.declared.completion.Completion.{Completion}
use Rattle.port_stands.proofs.Driven.{WasAt, get_changed_if}
use Rattle.ata_base.proofs.EachLemmas.{every_weaker, every_append}
use Rattle.port_past.proofs.Sizes.{length_slots}
use Rattle.drive_model.specs.Single.{AreSingle}
use Rattle.port_stands.specs.Driven.{end_at, IsFlying, IsHeld, AreDriven}
use Rattle.port_stands.specs.Gate.{AreAll}
use Rattle.ata_base.specs.Each.{Each}

-- ---- slots and ends that are written

pub put_same : (slots : List (Option InFlight)) (tag : ℕ) (f : InFlight) → tag < length slots → flight_at (put tag f slots) tag ≡ Some f
put_same [] tag f within = absurd (omega arith)
put_same (s ∷ slots) zero f within = refl
put_same (s ∷ slots) (suc tag) f within = put_same slots tag f (omega arith)

pub put_other : (slots : List (Option InFlight)) (tag u : ℕ) (f g : InFlight) → flight_at slots tag ≡ None → flight_at slots u ≡ Some g → flight_at (put tag f slots) u ≡ Some g
put_other [] tag u f g free here = absurd (cc)
put_other (s ∷ slots) zero zero f g free here = absurd (cc)
put_other (s ∷ slots) zero (suc u) f g free here = here
put_other (s ∷ slots) (suc tag) zero f g free here = here
put_other (s ∷ slots) (suc tag) (suc u) f g free here = put_other slots tag u f g free here

pub none_kept : (completions : List (Option Completion)) (tag u : ℕ) → end_at completions u ≡ None → end_at (slice_set completions tag None) u ≡ None
none_kept [] tag u is = is
none_kept (e ∷ completions) zero zero is = refl
none_kept (e ∷ completions) zero (suc u) is = is
none_kept (e ∷ completions) (suc tag) zero is = is
none_kept (e ∷ completions) (suc tag) (suc u) is = none_kept completions tag u is

pub none_set : (completions : List (Option Completion)) (tag : ℕ) → end_at (slice_set completions tag None) tag ≡ None
none_set [] tag = refl
none_set (e ∷ completions) zero = refl
none_set (e ∷ completions) (suc tag) = none_set completions tag

pub other_end :
    (test : Option InFlight → Bool) (value : Option Completion) (slots : List (Option InFlight)) (was : List (Option Completion)) (tag : ℕ)
    → test (flight_at slots tag) ≡ false → end_at (set_where test value slots was) tag ≡ end_at was tag
other_end test value [] was tag none = refl
other_end test value (slot ∷ slots) [] tag none = refl
other_end test value (slot ∷ slots) (x ∷ was) zero none = ap (λ b. if b then value else x) none
other_end test value (slot ∷ slots) (x ∷ was) (suc tag) none = other_end test value slots was tag none

-- ---- an issue

single_more : (hs : List Held) (h : Held) → AreSingle hs → Each (λ g. g.number.n ≢ h.number.n) hs → AreSingle (hs ++ h ∷ [])
single_more [] h single other = (tt, tt)
single_more (g ∷ hs) h single other = (
  every_append (λ (x : Held). x.number.n ≢ g.number.n) hs (h ∷ []) single.0 ((λ e. other.0 (sym e)), tt),
  single_more hs h single.1 other.1,
)

module _ (head : PortHead) (p : List Event) (was : AreDriven head p) (id : ℕ) (number : IssueNo) (tag : ℕ) (deadline : Ms) (fis : List ℕ) where
  -- an issue under a free tag is taken by the drive at its place
  pub driven_issued :
      (c : Cmd) → command_of id (commands p) ≡ Some c → flight_at (slots p) tag ≡ None → tag < 32
      → AreAll (λ f. f.number.n ≢ number.n) (slots p) → AreDriven head (Told (Issued id number tag deadline fis) ∷ p)
  driven_issued c known free within new =
      let q : List Event = Told (Issued id number tag deadline fis) ∷ p in
      let f : InFlight = fresh_flight id number (place_of id (commands p)) deadline fis in
      let g : DriveView → DriveView = taken number tag c.op (is_queued_frame fis) in
      let at : Option ℕ = linked_at (links head p) c.place in
      let there : place_of id (commands p) ≡ c.place = ap (λ o. option_map_or (λ x. x.place) o 0) known in
      let views : (d : ℕ) (v : DriveView) → slice_get (drives head q) d ≡ Some v → WasAt (drives head p) at g d v =
      λ d v is. get_changed_if (drives head p) at g d v (sym (ap (λ o. slice_get (with_issue o number tag fis (links head p) (drives head p)) d) known) ∙ is) in
      let still : (d t : ℕ) (x : InFlight) → IsFlying head p d t x → IsFlying head q d t x =
      λ d t x flies. record {
        here = put_other (slots p) tag t f x free flies.here;
        linked = flies.linked;
        unended = none_kept (completions head p) tag t flies.unended;
      } in
      let still_held : (d : ℕ) (h : Held) → IsHeld head p d h → IsHeld head q d h =
      λ d h held. record { flight = held.flight; flies = still d h.tag held.flight held.flies; number = held.number; queued = held.queued } in
      let fresh : (d : ℕ) (w : DriveView) → slice_get (drives head p) d ≡ Some w → Each (λ h. h.number.n ≢ number.n) w.held =
      λ d w is. every_weaker (IsHeld head p d) (λ h. h.number.n ≢ number.n)
      (λ h held e. new h.tag held.flight held.flies.here (held.number ∙ e)) w.held (was.held d w is) in
      record {
        plugged = was.plugged;
        single = λ d v is.
            let w = views d v is in
            elim w.now [
              | inl here ↦ subst (λ (y : DriveView). AreSingle y.held) (sym here.1) (single_more w.x.held _ (was.single d w.x w.was) (fresh d w.x w.was))
              | inr other ↦ subst (λ (y : DriveView). AreSingle y.held) (sym other.1) (was.single d w.x w.was)
            ];
        held = λ d v is.
            let w = views d v is in
            let old = every_weaker (IsHeld head p d) (IsHeld head q d) (still_held d) w.x.held (was.held d w.x w.was) in
            elim w.now [
              | inl here ↦ subst (λ (y : DriveView). Each (IsHeld head q d) y.held) (sym here.1)
                  (every_append (IsHeld head q d) w.x.held _ old (
                    record {
                      flight = f;
                      flies = record {
                        here = put_same (slots p) tag f (omega (arith, within, length_slots p));
                        linked = ap (linked_at (links head p)) there ∙ here.0;
                        unended = none_set (completions head p) tag;
                      };
                      number = refl;
                      queued = refl;
                    },
                    tt,
                  ))
              | inr other ↦ subst (λ (y : DriveView). Each (IsHeld head q d) y.held) (sym other.1) old
            ];
        stopped = λ d v e is by.
            let w = views d v is in
            let same : v.stopped ≡ w.x.stopped = elim w.now [
              | inl here ↦ ap (λ (y : DriveView). y.stopped) here.1
              | inr other ↦ ap (λ (y : DriveView). y.stopped) other.1
            ] in
            let s = was.stopped d w.x e w.was (sym same ∙ by) in
            record { flight = s.flight; flies = still d e.tag s.flight s.flies; queued = s.queued };
        struck = λ x failure is.
            let s = was.struck x failure is in
            record {
              tag = s.tag;
              flight = s.flight;
              here = put_other (slots p) tag s.tag f s.flight free s.here;
              number = s.number;
              there = s.there;
              unended = none_kept (completions head p) tag s.tag s.unended;
              unheld = λ d v at_d.
                  let w = views d v at_d in
                  let old = s.unheld d w.x w.was in
                  elim w.now [
                    | inl here ↦ subst (λ (y : DriveView). Each (λ h. h.number.n ≢ failure.number.n) y.held) (sym here.1)
                        (every_append (λ (h : Held). h.number.n ≢ failure.number.n) w.x.held _ old
                        ((λ e. new s.tag s.flight s.here (s.number ∙ sym e)), tt))
                    | inr other ↦ subst (λ (y : DriveView). Each (λ h. h.number.n ≢ failure.number.n) y.held) (sym other.1) old
                  ];
              stops = λ queued d v linked at_d none.
                  let w = views d v at_d in
                  let same : v.stopped ≡ w.x.stopped = elim w.now [
                    | inl here ↦ ap (λ (y : DriveView). y.stopped) here.1
                    | inr other ↦ ap (λ (y : DriveView). y.stopped) other.1
                  ] in
                  s.stops queued d w.x linked w.was (sym same ∙ none);
            };
      }
