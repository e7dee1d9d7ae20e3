-- Where a task file error stands, the issue that failed is in flight.
use Rattle.std.specs.Prelude.{◌≡◌, ℕ, List, None, Some}
use Rattle.std.specs.List.{slice_index_or}
use Rattle.ata_trace.specs.Event.{Event}
use Rattle.host_tags.specs.Slots.{flight_at}
use Rattle.host_tags.specs.declared.in_flight.InFlight.{InFlight}
use Rattle.port_past.specs.Causes.{tferr}
use Rattle.port_past.specs.Slots.{slots}
use Rattle.eh_autopsy.specs.declared.failed_issue.FailedIssue.{FailedIssue}

-- an issue of this number is in flight at this place
pub record FliesAt (past : List Event) (place number : ℕ) : Type 0 where
  pub tag : ℕ
  pub flight : InFlight
  pub here : flight_at (slots past) tag ≡ Some flight
  pub numbered : flight.number.n ≡ number
  pub there : flight.place ≡ place

-- where TFERR of a place stands, the issue that set it is in flight there
abbrev pub FailedFly : List Event → Type 0
FailedFly past = (place : ℕ) (failure : FailedIssue) → slice_index_or (tferr past) place None ≡ Some failure
    → FliesAt past place failure.number.n
