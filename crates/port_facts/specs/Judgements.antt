-- What the autopsy tells, by what it sees.
use Rattle.std.specs.Prelude.{◌≡◌, ℕ, Bool, true, false, List, ◌∷◌, map, ◌++◌, Some}
use Rattle.ata_base.specs.declared.err_mask.ErrMask.{ErrMask}
use Rattle.ata_base.specs.declared.issue_no.IssueNo.{IssueNo}
use Rattle.ata_script.specs.declared.port_head.PortHead.{PortHead}
use Rattle.ata_trace.specs.Event.{Event, onto}
use Rattle.ata_trace.specs.Event.Event.{Told}
use Rattle.ata_trace.specs.declared.act.Act.{Act}
use Rattle.ata_trace.specs.declared.act.Act.TheVariants.{Judged, Recorded, Hot}
use Rattle.ata_base.specs.declared.link_action.LinkAction.{LinkAction}
use Rattle.ata_base.specs.declared.speed_action.SpeedAction.{SpeedAction}
use Rattle.eh_reval.specs.Probes.{probe_limit_of}
use Rattle.host_tags.specs.Slots.{flight_at}
use Rattle.host_tags.specs.declared.in_flight.InFlight.{InFlight}
use Rattle.port_past.specs.Slots.{slots}
use Rattle.port_rules.specs.Autopsy.{all_kinds, has_effect, has_io, is_recorded, verdict_at, speed_action, recorded_acts, action_of}
use Rattle.port_rules.specs.Blame.{JudgedIssue, final_kinds, is_hotplugged, judged_here}
use Rattle.port_rules.specs.AutopsyView.{AutopsyView, autopsy_view}
use Rattle.port_rules.specs.Told.{told_if}

-- at `judged N K`: N is in flight and owned, and K is what the autopsy makes of it by what it sees at its place
pub record IsJudgedRightly (head : PortHead) (number : IssueNo) (kinds : ErrMask) (past : List Event) : Type 0 where
  pub tag : ℕ
  pub flight : InFlight
  pub here : flight_at (slots past) tag ≡ Some flight
  pub numbered : flight.number ≡ number
  pub owned : flight.owned ≡ true
  pub final : kinds.0 ≡ final_kinds (autopsy_view head past flight.place) tag flight

-- at `recorded X`: the error falls into a category and a device is attached; all it tells is what the autopsy sees at X, its
-- verdict and action by the ring of X and the entry itself
pub record IsRecordedRightly (head : PortHead) (place : ℕ) (io dubious : Bool) (kinds : ErrMask) (ncq_off speed_down pio keep : Bool) (action : SpeedAction) (past : List Event) : Type 0 where
  pub counted : is_recorded (autopsy_view head past place) ≡ true
  pub io_same : io ≡ has_io (autopsy_view head past place)
  pub doubt : dubious ≡ (autopsy_view head past place).dubious
  pub all : kinds.0 ≡ all_kinds (autopsy_view head past place)
  pub ncq_off_same : ncq_off ≡ (verdict_at (autopsy_view head past place)).ncq_off
  pub speed_down_same : speed_down ≡ (verdict_at (autopsy_view head past place)).speed_down
  pub pio_same : pio ≡ (verdict_at (autopsy_view head past place)).pio
  pub keep_same : keep ≡ (verdict_at (autopsy_view head past place)).keep
  pub action_same : action ≡ speed_action (autopsy_view head past place)

-- at `cleared X`: the act before it is `recorded X` of an action that has an effect, whose verdict doesn't keep the entries
pub record IsClearedRightly (place : ℕ) (past : List Event) : Type 0 where
  pub io : Bool
  pub dubious : Bool
  pub kinds : ErrMask
  pub ncq_off : Bool
  pub speed_down : Bool
  pub pio : Bool
  pub action : SpeedAction
  pub before : List Event
  pub told : past ≡ Told (Recorded place io dubious kinds ncq_off speed_down pio false action) ∷ before
  pub effect : has_effect action ≡ true

-- at `hot X G`: SError tells of a hotplug, and G is the limit by the hotplugs of X so far
pub record IsHotRightly (head : PortHead) (place generation : ℕ) (past : List Event) : Type 0 where
  pub hotplugged : is_hotplugged (autopsy_view head past place) ≡ true
  pub limit : generation ≡ probe_limit_of (autopsy_view head past place).probes (autopsy_view head past place).clock

-- what the autopsy tells of a place before its `action X`: `judged` of each owned issue, `recorded` and `cleared`, `hot`
abbrev pub told_before_action : AutopsyView → List Act
told_before_action s =
    map (λ (issue : JudgedIssue). Judged issue.flight.number (record { 0 = issue.kinds })) (judged_here s)
    ++ recorded_acts s
    ++ told_if (is_hotplugged s) (Hot s.place (probe_limit_of s.probes s.clock))

-- at `action X K A`: what was told since some moment is all that the autopsy tells of X by what it saw at that moment, and K
-- and A are the kinds and the action by that. So A goes by the view before the place's own acts
pub record IsActingRightly (head : PortHead) (place : ℕ) (kinds : ErrMask) (action : LinkAction) (past : List Event) : Type 0 where
  pub before : List Event
  pub told : past ≡ onto before (told_before_action (autopsy_view head before place))
  pub all : kinds.0 ≡ all_kinds (autopsy_view head before place)
  pub action_same : action ≡ action_of (autopsy_view head before place)
