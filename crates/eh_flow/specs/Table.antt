-- The table of recovery: each row is a state, which is where recovery stands and what is seen of the port, and what the
-- step does then. The rows stand in their order, and the first that fits is the step's.
use Rattle.std.specs.Prelude.{ℕ, ◌+◌, Bool, true, false, not, nat_le, nat_lt, List, [], ◌∷◌, Option, Some, None, option_map, if◌then◌else◌}
use Rattle.std.specs.Option.{option_map_or}
use Rattle.ata_base.specs.declared.ms.Ms.{Ms}
use Rattle.eh_reset.specs.ResetWaits.{reset_tries, reset_wait_of}
use Rattle.eh_reval.specs.IdentWaits.{ident_tries, ident_wait_of}
use Rattle.eh_flow.specs.declared.observation.Observation.{Observation}
use Rattle.eh_flow.specs.declared.phase.Phase.{Phase}
use Rattle.eh_flow.specs.declared.phase.Phase.TheVariants.{Idle, Logs, HostOwed, HostOpen, ResetOwed, ResetOpen, IdentOwed, IdentOpen, Through}
use Rattle.eh_flow.specs.declared.row.Row.{Row}
use Rattle.eh_flow.specs.declared.row.Row.TheVariants.{Nothing, WaitTag, Begin, Log, Autopsy, HostBegin, HostEnd, ResetBegin, ResetGone, ResetReady, ResetLate, ResetWait, IdentAsk, IdentRead, IdentLate, IdentWait, Finish}

-- a row where something holds
abbrev pub row_if : Bool → Row → Option Row
row_if holds row = if holds then Some row else None

-- the deadline of a try that begins now; a try that there isn't has no time
abbrev pub deadline_of : ℕ → Option Ms → Ms
deadline_of now wait = record { n = now + option_map_or (λ w. w.n) wait 0 }

-- whether a time has come
abbrev pub has_come : Ms → Observation → Bool
has_come time seen = nat_le time.n seen.time.n

-- not running, not asked for
abbrev pub quiet_row : Phase → Observation → Option Row
quiet_row Idle seen = row_if (not seen.asked) Nothing
quiet_row _ seen = None

-- not running, asked for, an issue in flight is neither owned nor due: the least such tag
abbrev pub waiting_row : Phase → Observation → Option Row
waiting_row Idle seen = option_map WaitTag seen.waiting
waiting_row _ seen = None

-- not running, asked for
abbrev pub begin_row : Phase → Observation → Option Row
begin_row Idle seen = Some Begin
begin_row _ seen = None

-- the log of a place is to be read: the least such place
abbrev pub log_row : Phase → Observation → Option Row
log_row Logs seen = option_map Log seen.log
log_row _ seen = None

-- no log is to be read
abbrev pub autopsy_row : Phase → Observation → Option Row
autopsy_row Logs seen = Some Autopsy
autopsy_row _ seen = None

-- the host's link is to be reset
abbrev pub host_owed_row : Phase → Observation → Option Row
host_owed_row HostOwed seen = Some (HostBegin (deadline_of seen.time.n (reset_wait_of 1)))
host_owed_row _ seen = None

-- the reset of the host's link is open
abbrev pub host_open_row : Phase → Observation → Option Row
host_open_row HostOpen seen = Some HostEnd
host_open_row _ seen = None

-- a place is to be reset
abbrev pub reset_owed_row : Phase → Observation → Option Row
reset_owed_row (ResetOwed place attempt ident) seen =
    Some (ResetBegin place attempt ident (deadline_of seen.time.n (reset_wait_of attempt)))
reset_owed_row _ seen = None

-- a reset is open, no drive is linked
abbrev pub reset_gone_row : Phase → Observation → Option Row
reset_gone_row (ResetOpen place attempt ident deadline) seen = row_if (not seen.linked) (ResetGone place)
reset_gone_row _ seen = None

-- a reset is open, the drive is ready
abbrev pub reset_ready_row : Phase → Observation → Option Row
reset_ready_row (ResetOpen place attempt ident deadline) seen = row_if (has_come seen.ready seen) (ResetReady place)
reset_ready_row _ seen = None

-- a reset is open, its deadline has come: it is tried again below the last try
abbrev pub reset_late_row : Phase → Observation → Option Row
reset_late_row (ResetOpen place attempt ident deadline) seen =
    row_if (has_come deadline seen) (ResetLate place (nat_lt attempt reset_tries))
reset_late_row _ seen = None

-- a reset is open
abbrev pub reset_open_row : Phase → Observation → Option Row
reset_open_row (ResetOpen place attempt ident deadline) seen = Some (ResetWait place)
reset_open_row _ seen = None

-- an identity is owed or open, the port is frozen: a reset from its first try on, and the identity's try is kept
abbrev pub frozen_row : Phase → Observation → Option Row
frozen_row (IdentOwed place attempt) seen =
    row_if seen.frozen (ResetBegin place 1 attempt (deadline_of seen.time.n (reset_wait_of 1)))
frozen_row (IdentOpen place attempt deadline) seen =
    row_if seen.frozen (ResetBegin place 1 attempt (deadline_of seen.time.n (reset_wait_of 1)))
frozen_row _ seen = None

-- an identity is owed
abbrev pub ident_owed_row : Phase → Observation → Option Row
ident_owed_row (IdentOwed place attempt) seen =
    Some (IdentAsk place attempt (deadline_of seen.time.n (ident_wait_of attempt)))
ident_owed_row _ seen = None

-- an identity is open, and answered
abbrev pub ident_answered_row : Phase → Observation → Option Row
ident_answered_row (IdentOpen place attempt deadline) seen = row_if seen.answered (IdentRead place)
ident_answered_row _ seen = None

-- an identity is open, its deadline has come: it is tried again below the last try
abbrev pub ident_late_row : Phase → Observation → Option Row
ident_late_row (IdentOpen place attempt deadline) seen =
    row_if (has_come deadline seen) (IdentLate place (nat_lt attempt ident_tries))
ident_late_row _ seen = None

-- an identity is open
abbrev pub ident_open_row : Phase → Observation → Option Row
ident_open_row (IdentOpen place attempt deadline) seen = Some (IdentWait place)
ident_open_row _ seen = None

-- all tasks are through
abbrev pub finish_row : Phase → Observation → Option Row
finish_row Through seen = Some Finish
finish_row _ seen = None

-- the rows in their order, each of which fits or doesn't
abbrev pub recovery_rows : Phase → Observation → List (Option Row)
recovery_rows phase seen =
    quiet_row phase seen
    ∷ waiting_row phase seen
    ∷ begin_row phase seen
    ∷ log_row phase seen
    ∷ autopsy_row phase seen
    ∷ host_owed_row phase seen
    ∷ host_open_row phase seen
    ∷ reset_owed_row phase seen
    ∷ reset_gone_row phase seen
    ∷ reset_ready_row phase seen
    ∷ reset_late_row phase seen
    ∷ reset_open_row phase seen
    ∷ frozen_row phase seen
    ∷ ident_owed_row phase seen
    ∷ ident_answered_row phase seen
    ∷ ident_late_row phase seen
    ∷ ident_open_row phase seen
    ∷ finish_row phase seen
    ∷ []

-- the first of the rows that fits
abbrev pub first_fit : List (Option Row) → Option Row
first_fit [] = None
first_fit (None ∷ rest) = first_fit rest
first_fit (Some row ∷ rest) = Some row

-- the row of a state
abbrev pub recovery_row : Phase → Observation → Option Row
recovery_row phase seen = first_fit (recovery_rows phase seen)
