-- What the drives of a port hold, by what they are stopped, and what failed: all of it flies.
use Rattle.std.specs.Prelude.{◌≡◌, ◌≢◌, ℕ, true, List, Option, None, Some, slice_get, slice_index_or, unwrap_or}
use Rattle.ata_script.specs.declared.port_head.PortHead.{PortHead}
use Rattle.ata_trace.specs.Event.{Event}
use Rattle.drive_model.specs.View.{DriveView}
use Rattle.drive_model.specs.declared.held.Held.{Held}
use Rattle.drive_model.specs.declared.queued_error.QueuedError.{QueuedError}
use Rattle.host_tags.specs.Slots.{flight_at}
use Rattle.host_tags.specs.declared.in_flight.InFlight.{InFlight}
use Rattle.port_past.specs.Causes.{tferr}
use Rattle.port_past.specs.Drives.{drives}
use Rattle.port_past.specs.Completions.{completions}
use Rattle.port_past.specs.Links.{links, plugged_at, linked_at}
use Rattle.port_past.specs.Slots.{slots}
use Rattle.port_past.specs.declared.completion.Completion.{Completion}
use Rattle.eh_autopsy.specs.declared.failed_issue.FailedIssue.{FailedIssue}
use Rattle.ata_base.specs.Each.{Each}
use Rattle.drive_model.specs.Single.{AreSingle}

-- the end of the issue under a tag
abbrev pub end_at : List (Option Completion) → ℕ → Option Completion
end_at completions tag = unwrap_or (slice_get completions tag) None

-- an issue is in flight under a tag, at the place where a drive is linked, and isn't completed
pub record IsFlying (head : PortHead) (past : List Event) (drive tag : ℕ) (f : InFlight) : Type 0 where
  pub here : flight_at (slots past) tag ≡ Some f
  pub linked : linked_at (links head past) f.place ≡ Some drive
  pub unended : end_at (completions head past) tag ≡ None

-- what a drive holds is in flight at its place under the same tag, with the same number and queuing
pub record IsHeld (head : PortHead) (past : List Event) (drive : ℕ) (h : Held) : Type 0 where
  pub flight : InFlight
  pub flies : IsFlying head past drive h.tag flight
  pub number : flight.number.n ≡ h.number.n
  pub queued : flight.queued ≡ h.queued

-- a drive is stopped by the tag of a queued issue in flight at its place
pub record IsStopped (head : PortHead) (past : List Event) (drive : ℕ) (e : QueuedError) : Type 0 where
  pub flight : InFlight
  pub flies : IsFlying head past drive e.tag flight
  pub queued : flight.queued ≡ true

-- the failed issue of which TFERR of a place stands is in flight there, isn't completed and isn't held; if it is a
-- queued one, the drive that is linked there is stopped
pub record IsStruck (head : PortHead) (past : List Event) (place : ℕ) (failure : FailedIssue) : Type 0 where
  pub tag : ℕ
  pub flight : InFlight
  pub here : flight_at (slots past) tag ≡ Some flight
  pub number : flight.number.n ≡ failure.number.n
  pub there : flight.place ≡ place
  pub unended : end_at (completions head past) tag ≡ None
  pub unheld : (d : ℕ) (v : DriveView) → slice_get (drives head past) d ≡ Some v → Each (λ h. h.number.n ≢ failure.number.n) v.held
  pub stops : flight.queued ≡ true → (d : ℕ) (v : DriveView) → linked_at (links head past) place ≡ Some d
      → slice_get (drives head past) d ≡ Some v → v.stopped ≢ None

-- a drive is plugged at one place at most, and holds an issue once; what the drives hold, what stops them and what failed is in flight
pub record AreDriven (head : PortHead) (past : List Event) : Type 0 where
  pub plugged : (x y d : ℕ) → plugged_at (links head past) x ≡ Some d → plugged_at (links head past) y ≡ Some d → x ≡ y
  pub single : (d : ℕ) (v : DriveView) → slice_get (drives head past) d ≡ Some v → AreSingle v.held
  pub held : (d : ℕ) (v : DriveView) → slice_get (drives head past) d ≡ Some v → Each (IsHeld head past d) v.held
  pub stopped : (d : ℕ) (v : DriveView) (e : QueuedError) → slice_get (drives head past) d ≡ Some v → v.stopped ≡ Some e
      → IsStopped head past d e
  pub struck : (place : ℕ) (failure : FailedIssue) → slice_index_or (tferr past) place None ≡ Some failure
      → IsStruck head past place failure
