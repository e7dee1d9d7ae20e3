use Rattle.std.specs.Prelude.{◌≡◌, ◌⊎◌, ℕ, ◌+◌, ◌≤◌, ◌==◌, Bool, true, false, not, ◌||◌, List, [], ◌∷◌, Option, Some, None, if◌then◌else◌}
use Rattle.ata_base.specs.Operations.{is_io}
use Rattle.ata_base.specs.declared.cmd.Cmd.{Cmd}
use Rattle.ata_base.specs.declared.err_mask.ErrMask.{ErrMask}
use Rattle.ata_base.specs.declared.issue_no.IssueNo.{IssueNo}
use Rattle.ata_trace.specs.Event.{Event}
use Rattle.ata_trace.specs.Event.Event.{Told}
use Rattle.ata_trace.specs.declared.act.Act.TheVariants.{Accepted, AnsweredFailed, AnsweredNodev, Retried, Begun, Judged, Detached, Disabled}
use Rattle.eh_autopsy.specs.Actions.{is_worth_retry}
use Rattle.port_past.specs.Commands.{commands, command_of, place_of}
use Rattle.host_tags.specs.Numbers.{tag_of, flight_of}
use Rattle.host_tags.specs.declared.in_flight.InFlight.{InFlight}
use Rattle.ata_base.specs.declared.regs.Regs.{Regs}
use Rattle.eh_autopsy.specs.declared.failed_issue.FailedIssue.{FailedIssue}
use Rattle.drive_model.specs.declared.log_told.LogTold.{LogTold}
use Rattle.port_past.specs.Judged.{analysed}
use Rattle.port_past.specs.Logs.{logs}
use Rattle.port_past.specs.Noted.{tferr_noted}
use Rattle.port_past.specs.Slots.{slots}
use Rattle.port_rules.specs.Finish.{registers_told}
use Rattle.port_facts.specs.Once.{one_if}

-- `judged N` tells the final kinds of N; each recovery judges anew
abbrev pub kinds_judged_after : ℕ → Event → Option ErrMask → Option ErrMask
kinds_judged_after n (Told Begun) was = None
kinds_judged_after n (Told (Judged number kinds)) was = if number.n == n then Some kinds else was
kinds_judged_after n _ was = was

-- the final kinds of the issue of this number: those of the last `judged N` since `begun`
abbrev pub kinds_judged : ℕ → List Event → Option ErrMask
kinds_judged n [] = None
kinds_judged n (event ∷ past) = kinds_judged_after n event (kinds_judged n past)

-- the registers that are there to be analysed of an issue in flight: of an unqueued one those that are noted, of a queued
-- one those of a page that names its tag
abbrev pub registers_seen : Option ℕ → Option InFlight → List (Option FailedIssue) → List (Option LogTold) → Option Regs
registers_seen (Some tag) (Some f) noted readings = analysed noted readings tag f
registers_seen _ _ noted readings = None

-- `judged N` analyses the registers of N
abbrev pub registers_judged_after : ℕ → Event → List Event → Option Regs → Option Regs
registers_judged_after n (Told Begun) past was = None
registers_judged_after n (Told (Judged number kinds)) past was =
    if number.n == n then registers_seen (tag_of number.n (slots past)) (flight_of number.n (slots past)) (tferr_noted past) (logs past)
    else was
registers_judged_after n _ past was = was

-- the registers of the issue of this number that the last `judged N` since `begun` analysed, where there were any
abbrev pub registers_judged : ℕ → List Event → Option Regs
registers_judged n [] = None
registers_judged n (event ∷ past) = registers_judged_after n event past (registers_judged n past)

-- an answer tells these registers
pub record AreTold (status error lba count : ℕ) (regs : Regs) : Type 0 where
  pub status_same : regs.status ≡ status
  pub error_same : regs.error ≡ error
  pub lba_same : regs.lba ≡ lba
  pub count_same : regs.count ≡ count

-- a retry that doesn't raise the allowance counts
abbrev pub costs_after : ℕ → Event → ℕ → ℕ
costs_after id (Told (Retried c number raised)) was = if c == id then (if raised then was else was + 1) else was
costs_after id _ was = was

-- how many `retried C N no` there are
abbrev pub costs : ℕ → List Event → ℕ
costs id [] = 0
costs id (event ∷ past) = costs_after id event (costs id past)

-- `detached X` and `disabled X` take a command of that place its device; a new acceptance begins anew
abbrev pub gone_after : ℕ → Event → ℕ → Bool → Bool
gone_after id (Told (Accepted c)) place was = if c == id then false else was
gone_after id (Told (Detached x)) place was = was || (x == place)
gone_after id (Told (Disabled x)) place was = was || (x == place)
gone_after id _ place was = was

-- whether this command is gone: a `detached X` or `disabled X` of its place stands after its acceptance
abbrev pub has_gone : ℕ → List Event → Bool
has_gone id [] = false
has_gone id (event ∷ past) = gone_after id event (place_of id (commands past)) (has_gone id past)

-- at `answered C N failed K`: K isn't empty, and is what the autopsy of this recovery told of N; C isn't gone; and K isn't
-- worth a retry, or C has had as many at its cost as it was allowed; and its registers are those that were analysed, zeros
-- where none were
pub record FailsRightly (id : ℕ) (number : IssueNo) (kinds : ErrMask) (status error lba count : ℕ) (past : List Event) : Type 0 where
  pub command : Cmd
  pub known : command_of id (commands past) ≡ Some command
  pub some : (kinds.0 == 0) ≡ false
  pub final : kinds_judged number.n past ≡ Some kinds
  pub stays : has_gone id past ≡ false
  pub over : (is_worth_retry (is_io command.op) kinds.0 ≡ false) ⊎ (costs id past ≡ command.allow)
  pub registers : AreTold status error lba count (registers_told (registers_judged number.n past))

-- at `retried C N RAISED`: the autopsy of this recovery told N's kinds, and the allowance is raised exactly where they are
-- empty; C isn't gone; and the kinds are empty or worth a retry, and C is yet allowed one
pub record RetriesRightly (id : ℕ) (number : IssueNo) (raised : Bool) (past : List Event) : Type 0 where
  pub command : Cmd
  pub known : command_of id (commands past) ≡ Some command
  pub kinds : ErrMask
  pub final : kinds_judged number.n past ≡ Some kinds
  pub raises : raised ≡ (kinds.0 == 0)
  pub stays : has_gone id past ≡ false
  pub worth : ((kinds.0 == 0) || is_worth_retry (is_io command.op) kinds.0) ≡ true
  pub within : costs id past + one_if (not raised) ≤ command.allow

-- statuses other than `ok`, and retries, go by the autopsy and the allowance; `nodev` only where the device has left
abbrev pub IsRightStatus : Event → List Event → Type 0
IsRightStatus (Told (AnsweredFailed id number kinds status error lba count)) past =
    FailsRightly id number kinds status error lba count past
IsRightStatus (Told (AnsweredNodev id number)) past = has_gone id past ≡ true
IsRightStatus (Told (Retried id number raised)) past = RetriesRightly id number raised past
IsRightStatus _ past = Unit {0}
