-- What acts leave of links and of drives.
use Rattle.std.proofs.Common.{◌≡◌, ◌∙◌, ℕ, List, [], ◌∷◌, Option, Some, ◌⊎◌, inl, inr, suc, zero, map, slice_get, refl, ap}
use Rattle.ata_base.specs.declared.fault.Fault.{Fault}
use Rattle.ata_base.specs.declared.fault.Fault.TheVariants.{Media, Serr}
use Rattle.ata_trace.specs.declared.step.Step.{Step}
use Rattle.ata_trace.specs.declared.step.Step.TheVariants.{Inject}
use Rattle.drive_model.specs.Inject.{injected}
use Rattle.drive_model.specs.View.{DriveView}
use Rattle.link_model.specs.LinkView.{LinkView, empty_link, linked_drive}
use Rattle.port_past.specs.Drives.{with_fault}
use Rattle.port_past.specs.Links.{link_at, plugged_at, linked_at, faulted}
use Rattle.port_past.specs.Places.{changed_at, changed_at_some}
use Rattle.port_stands.proofs.Driven.{get_changed_if, read_change}

-- a link with other SError and limit has the same drive
pub keeps_link : (g : LinkView → LinkView) → ((l : LinkView) → (g l).plugged ≡ l.plugged) → ((l : LinkView) → (g l).linked ≡ l.linked)
    → (ls : List LinkView) (i x : ℕ)
    → (plugged_at (changed_at i g ls) x ≡ plugged_at ls x) × (linked_at (changed_at i g ls) x ≡ linked_at ls x)
keeps_link g plugs linked ls i x =
    elim (read_change ls i x g empty_link) [
      | inl here ↦ (
        ap (λ (l : LinkView). l.plugged) here.1 ∙ plugs (link_at ls x),
        ap linked_drive here.1 ∙ linked_by (link_at ls x),
      )
      | inr there ↦ (ap (λ (l : LinkView). l.plugged) there.0, ap linked_drive there.0)
    ]
  where
    linked_by : (l : LinkView) → linked_drive (g l) ≡ linked_drive l
    linked_by l = rw (linked l, plugs l) refl

pub faulted_plugged : (step : Step) (l : LinkView) → ((faulted step l).plugged ≡ l.plugged) × ((faulted step l).linked ≡ l.linked)
faulted_plugged (Inject place (Serr bit)) l = (refl, refl)
faulted_plugged step l = (refl, refl)

fault_keeps : (fault : Fault) (v : DriveView) → ((injected fault v).held ≡ v.held) × ((injected fault v).stopped ≡ v.stopped)
fault_keeps (Media lba) v = (refl, refl)
fault_keeps fault v = (refl, refl)

pub step_keeps : (step : Step) (v : DriveView) → ((with_fault step v).held ≡ v.held) × ((with_fault step v).stopped ≡ v.stopped)
step_keeps (Inject place fault) v = fault_keeps fault v
step_keeps step v = (refl, refl)

-- drives of which one is changed, but for what it holds and what stops it
pub keeps_view :
    (g : DriveView → DriveView) → ((v : DriveView) → ((g v).held ≡ v.held) × ((g v).stopped ≡ v.stopped))
    → (ds : List DriveView) (at : Option ℕ) (d : ℕ) (v : DriveView) → slice_get (changed_at_some at g ds) d ≡ Some v
    → (w : DriveView) × ((slice_get ds d ≡ Some w) × ((v.held ≡ w.held) × (v.stopped ≡ w.stopped)))
keeps_view g keeps ds at d v is =
    let w = get_changed_if ds at g d v is in (
      w.x,
      (
        w.was,
        elim w.now [
          | inl here ↦ (ap (λ (y : DriveView). y.held) here.1 ∙ (keeps w.x).0, ap (λ (y : DriveView). y.stopped) here.1 ∙ (keeps w.x).1)
          | inr other ↦ (ap (λ (y : DriveView). y.held) other.1, ap (λ (y : DriveView). y.stopped) other.1)
        ],
      ),
    )

pub read_map : (g : LinkView → LinkView) (ls : List LinkView) (x : ℕ)
    → (link_at (map g ls) x ≡ g (link_at ls x)) ⊎ (link_at (map g ls) x ≡ link_at ls x)
read_map g [] x = inr refl
read_map g (l ∷ ls) zero = inl refl
read_map g (l ∷ ls) (suc x) = read_map g ls x
