-- The reading of a drive's log: the act that tells of it, and what the drive drops with it.
use Rattle.std.specs.Prelude.{◌≡◌, ℕ, ◌^◌, ◌==◌, Bool, true, not, List, [], ◌∷◌, Option, Some, None, is_some, bit_and, flat_map, slice_get, if◌then◌else◌}
use Rattle.std.specs.List.{range_with_len}
use Rattle.std.specs.Option.{option_map_or}
use Rattle.ata_base.specs.Each.{Each}
use Rattle.ata_base.specs.Limits.{tag_count}
use Rattle.ata_trace.specs.declared.act.Act.{Act}
use Rattle.ata_trace.specs.declared.act.Act.TheVariants.{LogFailed, LogBadSum, LogNotQueued, Aborted}
use Rattle.drive_model.specs.Log.{log_fault_of, log_said}
use Rattle.drive_model.specs.Single.{AreSingle}
use Rattle.drive_model.specs.View.{DriveView}
use Rattle.drive_model.specs.declared.held.Held.{Held}
use Rattle.drive_model.specs.declared.log_fault.LogFault.{LogFault}
use Rattle.drive_model.specs.declared.log_fault.LogFault.TheVariants.{Fail, Sum, NotQueued, Idle}
use Rattle.drive_model.specs.declared.queued_error.QueuedError.{QueuedError}
use Rattle.host_tags.specs.Numbers.{is_issue}
use Rattle.host_tags.specs.Slots.{flight_at}
use Rattle.host_tags.specs.declared.in_flight.InFlight.{InFlight}
use Rattle.port_rules.specs.Logs.{page_act}

-- a held issue is in flight under its tag
abbrev pub IsInFlight : List (Option InFlight) → Held → Type 0
IsInFlight flights h = is_issue h.number.n (flight_at flights h.tag) ≡ true

-- no drive holds an issue twice, and what a drive holds is in flight under the same tag
pub record HoldFlights (flights : List (Option InFlight)) (views : List DriveView) : Type 0 where
  pub single : (d : ℕ) (v : DriveView) → slice_get views d ≡ Some v → AreSingle v.held
  pub flying : (d : ℕ) (v : DriveView) → slice_get views d ≡ Some v → Each (IsInFlight flights) v.held

-- the act of a reading that has a fault or none
abbrev pub reading_act : ℕ → QueuedError → Option LogFault → Act
reading_act place e None = page_act place e.tag e.regs
reading_act place e (Some Fail) = LogFailed place
reading_act place e (Some Sum) = LogBadSum place
reading_act place e (Some NotQueued) = LogNotQueued place
reading_act place e (Some (Idle tag)) = page_act place tag e.regs

-- the act of the reading of a drive's log, by what stopped it
abbrev pub stopped_act : ℕ → Option LogFault → Option QueuedError → Act
stopped_act place fault None = LogFailed place
stopped_act place fault (Some e) = reading_act place e fault

-- the act of the reading of a place's log
abbrev pub log_act : ℕ → Option ℕ → Option DriveView → Act
log_act place idle None = LogFailed place
log_act place idle (Some v) = stopped_act place (log_fault_of v.counts idle) v.stopped

-- the issues that a drive drops as its log is read: all where there is a page
abbrev pub dropped : Option ℕ → Option DriveView → List Held
dropped idle None = []
dropped idle (Some v) = if is_some (log_said v.stopped v.counts idle) then v.held else []

-- whether a tag is in a mask
abbrev pub is_in : ℕ → ℕ → Bool
is_in mask tag = not (bit_and mask (2 ^ tag) == 0)

-- what is told of the issue under a tag, where the drive held one with that tag
abbrev pub aborted_of : Bool → Option InFlight → List Act
aborted_of held slot = if held then option_map_or (λ (f : InFlight). Aborted f.number ∷ []) slot [] else []

-- what is told of the tags of a mask, in tag order
abbrev pub aborted_by : ℕ → List (Option InFlight) → ℕ → List Act
aborted_by mask flights tag = aborted_of (is_in mask tag) (flight_at flights tag)

abbrev pub all_aborted : ℕ → List (Option InFlight) → List Act
all_aborted mask flights = flat_map (aborted_by mask flights) (range_with_len 0 tag_count)
