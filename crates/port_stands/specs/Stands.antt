-- What stands of every legal past of a port between its entries.
use Rattle.std.specs.Prelude.{◌≡◌, ℕ, true, List, Option, Some, slice_get}
use Rattle.ata_script.specs.declared.port_head.PortHead.{PortHead}
use Rattle.ata_trace.specs.Event.{Event}
use Rattle.host_tags.specs.Slots.{flight_at}
use Rattle.host_tags.specs.declared.in_flight.InFlight.{InFlight}
use Rattle.port_past.specs.PortState.{is_running, is_autopsied}
use Rattle.port_past.specs.Issues.{issue_count}
use Rattle.port_past.specs.Judged.{judged}
use Rattle.port_past.specs.Slots.{slots}
use Rattle.port_past.specs.declared.judgement.Judgement.{Judgement}
use Rattle.port_stands.specs.Gate.{gate, IsGuarded, AreNumbered}
use Rattle.port_stands.specs.Known.{AreKnown}
use Rattle.port_stands.specs.Within.{IsWithin}

-- the issue under a tag is judged
pub record IsJudged (judged : List (Option Judgement)) (tag : ℕ) : Type 0 where
  pub judgement : Judgement
  pub told : slice_get judged tag ≡ Some (Some judgement)

-- while recovery runs and has its autopsy, each issue in flight is judged
pub record AreJudged (past : List Event) : Type 0 where
  pub judged : is_running past ≡ true → is_autopsied past ≡ true → (tag : ℕ) (f : InFlight)
      → flight_at (slots past) tag ≡ Some f → IsJudged (judged past) tag

-- the issues in flight have numbers of their own; what flies and what waits is of accepted commands; what is told of a
-- place is told of one of the port; after the autopsy all that flies is judged; and the gate is guarded
pub record Stands (head : PortHead) (past : List Event) : Type 0 where
  pub numbered : AreNumbered (issue_count past) (slots past)
  pub known : AreKnown past
  pub within : IsWithin head past
  pub judged : AreJudged past
  pub guarded : IsGuarded head.pmp (gate head past)
