use Rattle.std.proofs.Common.{◌≡◌, ℕ, ◌+◌, Bool, true, false, not, ◌&&◌, List, [], ◌∷◌, ◌++◌, Option, Some, None, is_some, option_map, nat_le, nat_lt, position, slice_index_or, if◌then◌else◌, refl, ap, ◌∙◌}
use Rattle.ata_base.specs.declared.ms.Ms.{Ms}
use Rattle.ata_script.specs.declared.port_head.PortHead.{PortHead}
use Rattle.ata_trace.specs.Event.{Event}
use Rattle.ata_trace.specs.declared.act.Act.{Act}
use Rattle.ata_trace.specs.declared.act.Act.TheVariants.{Thawed, ResetBegun, ResetEndedHost, IdentAsked, WaitingTag, WaitingReset, WaitingIdent, Nothing}
use Rattle.drive_model.specs.View.{DriveView}
use Rattle.eh_flow.specs.Table.{row_if, deadline_of, first_fit, recovery_row}
use Rattle.eh_flow.specs.declared.phase.Phase.{Phase}
use Rattle.eh_flow.specs.declared.phase.Phase.TheVariants.{Idle, Logs, HostOwed, HostOpen, ResetOwed, ResetOpen, IdentOwed, IdentOpen, Through}
use Rattle.eh_flow.specs.declared.row.Row.{Row}
use Rattle.eh_flow.specs.declared.row.Row.TheVariants.{Nothing as NothingToDo, WaitTag, Begin, Log, Autopsy, ResetBegin, ResetGone, ResetReady, ResetLate, ResetWait, IdentAsk, IdentRead, IdentLate, IdentWait}
use Rattle.eh_reset.specs.Looks.{reset_look_of}
use Rattle.eh_reset.specs.ResetWaits.{reset_tries, reset_wait_of}
use Rattle.eh_reset.specs.declared.look.ResetLook.{ResetLook}
use Rattle.eh_reset.specs.declared.look.ResetLook.TheVariants.{Gone, Ready, Late, Open_}
use Rattle.eh_reval.specs.IdentWaits.{ident_tries, ident_wait_of}
use Rattle.port_past.specs.Clock.{clock}
use Rattle.port_past.specs.Drain.{is_drained}
use Rattle.port_past.specs.Drives.{drive_at}
use Rattle.port_past.specs.IdentAnswers.{is_ident_answered}
use Rattle.port_past.specs.PortState.{is_frozen, is_asked}
use Rattle.port_past.specs.Slots.{slots}
use Rattle.port_rules.specs.Autopsy.{autopsy_acts}
use Rattle.port_rules.specs.Begin.{is_awaited, begin_acts}
use Rattle.port_rules.specs.Finish.{finish_acts}
use Rattle.port_rules.specs.Identities.{identity_acts, ident_late_acts, ident_read_acts}
use Rattle.port_rules.specs.Logs.{log_owed, log_acts}
use Rattle.port_rules.specs.Observing.{observed, ready_of}
use Rattle.port_rules.specs.Phase.{phase}
use Rattle.port_rules.specs.Recover.{some_row_acts, recover_acts}
use Rattle.port_rules.specs.Resets.{reset_begun_acts, reset_gone_acts, reset_ready_acts, reset_late_acts}
use Rattle.port_rules.specs.Told.{frozen_acts}

-- The acts of a recover step, phase by phase: what the table of rows comes to where the phase is known. A proof that goes
-- by phases goes by these words.

-- recovery waits for the least tag that is neither owned nor due, or begins
abbrev pub waiting_or_begun : PortHead → List Event → Option ℕ → List Act
waiting_or_begun head past (Some tag) = WaitingTag tag ∷ []
waiting_or_begun head past None = begin_acts head past

-- the acts of a recovery that isn't running
abbrev pub idle_acts : PortHead → List Event → List Act
idle_acts head past =
    if is_asked past then waiting_or_begun head past (position (is_awaited (clock past) (is_drained past)) (slots past))
    else Nothing ∷ []

-- a log is read, or the autopsy made
abbrev pub log_or_autopsy : PortHead → List Event → Option ℕ → List Act
log_or_autopsy head past (Some place) = log_acts head past place
log_or_autopsy head past None = autopsy_acts head past

-- a try of a reset begins
abbrev pub reset_acts : PortHead → List Event → ℕ → ℕ → List Act
reset_acts head past place attempt =
    reset_begun_acts head past place attempt (deadline_of (clock past) (reset_wait_of attempt))

-- the acts of an open reset, by what is seen of it
abbrev pub look_acts : PortHead → List Event → ℕ → ℕ → Option DriveView → ResetLook → List Act
look_acts head past place attempt v Gone = reset_gone_acts head past place
look_acts head past place attempt v Ready = reset_ready_acts head past place v
look_acts head past place attempt v Late = reset_late_acts past place (nat_lt attempt reset_tries)
look_acts head past place attempt v Open_ = WaitingReset place ∷ []

-- what is seen of an open reset of a drive, or of none
abbrev pub look_of : ℕ → ℕ → Option DriveView → ResetLook
look_of now deadline None = reset_look_of false 0 deadline now
look_of now deadline (Some v) = reset_look_of true v.ready_at.n deadline now

-- the acts of an open reset, by the drive that is linked or none
abbrev pub open_reset_acts : PortHead → List Event → ℕ → ℕ → ℕ → Option DriveView → List Act
open_reset_acts head past place attempt deadline v =
    look_acts head past place attempt v (look_of (clock past) deadline v)

-- the acts of an open identity that no drive answers
abbrev pub unanswered_acts : List Event → ℕ → ℕ → ℕ → List Act
unanswered_acts past place attempt deadline =
    if nat_le deadline (clock past) then ident_late_acts past place (nat_lt attempt ident_tries) else WaitingIdent place ∷ []

-- the acts of an open identity, by the drive that may answer
abbrev pub open_ident_acts : PortHead → List Event → ℕ → ℕ → ℕ → Option DriveView → List Act
open_ident_acts head past place attempt deadline None = unanswered_acts past place attempt deadline
open_ident_acts head past place attempt deadline (Some v) =
    if slice_index_or (is_ident_answered head past) place false then identity_acts past place v.identity
    else unanswered_acts past place attempt deadline

-- the acts of each phase
abbrev pub phase_acts : PortHead → List Event → Phase → List Act
phase_acts head past Idle = idle_acts head past
phase_acts head past Logs = log_or_autopsy head past (log_owed head past)
phase_acts head past HostOwed =
    frozen_acts past ++ ResetBegun None 1 (deadline_of (clock past) (reset_wait_of 1)) ∷ []
phase_acts head past HostOpen = ResetEndedHost ∷ Thawed ∷ []
phase_acts head past (ResetOwed place attempt ident) = reset_acts head past place attempt
phase_acts head past (ResetOpen place attempt ident deadline) =
    open_reset_acts head past place attempt deadline.n (drive_at head past place)
phase_acts head past (IdentOwed place attempt) =
    if is_frozen past then reset_acts head past place 1
    else IdentAsked place attempt (deadline_of (clock past) (ident_wait_of attempt)) ∷ []
phase_acts head past (IdentOpen place attempt deadline) =
    if is_frozen past then reset_acts head past place 1
    else open_ident_acts head past place attempt deadline.n (drive_at head past place)
phase_acts head past Through = finish_acts past

-- the rows of a recovery that isn't running
idle_row : (head : PortHead) (past : List Event) (asked : Bool) (waiting : Option ℕ) (rest : List (Option Row))
    → some_row_acts head past (first_fit (row_if (not asked) NothingToDo ∷ option_map (λ tag. WaitTag tag) waiting ∷ Some Begin ∷ rest))
    ≡ (if asked then waiting_or_begun head past waiting else Nothing ∷ [])
idle_row head past false waiting rest = refl
idle_row head past true None rest = refl
idle_row head past true (Some tag) rest = refl

-- the rows of the logs
logs_row : (head : PortHead) (past : List Event) (owed : Option ℕ) (rest : List (Option Row))
    → some_row_acts head past (first_fit (option_map (λ place. Log place) owed ∷ Some Autopsy ∷ rest)) ≡ log_or_autopsy head past owed
logs_row head past None rest = refl
logs_row head past (Some place) rest = refl

-- the rows of an open reset whose drive is linked
linked_row : (head : PortHead) (past : List Event) (place attempt : ℕ) (ready late : Bool) (v : Option DriveView) (rest : List (Option Row))
    → drive_at head past place ≡ v
    → some_row_acts head past
    (first_fit
    (row_if ready (ResetReady place)
    ∷ row_if late (ResetLate place (nat_lt attempt reset_tries))
    ∷ Some (ResetWait place)
    ∷ rest))
    ≡ look_acts head past place attempt v (if ready then Ready else if late then Late else Open_)
linked_row head past place attempt true late v rest is = ap (reset_ready_acts head past place) is
linked_row head past place attempt false true v rest is = refl
linked_row head past place attempt false false v rest is = refl

-- the rows of an open reset
open_row : (head : PortHead) (past : List Event) (place attempt : ℕ) (deadline : Ms) (v : Option DriveView) (rest : List (Option Row))
    → drive_at head past place ≡ v
    → some_row_acts head past
    (first_fit
    (row_if (not (is_some v)) (ResetGone place)
    ∷ row_if (nat_le (ready_of v).n (clock past)) (ResetReady place)
    ∷ row_if (nat_le deadline.n (clock past)) (ResetLate place (nat_lt attempt reset_tries))
    ∷ Some (ResetWait place)
    ∷ rest))
    ≡ open_reset_acts head past place attempt deadline.n v
open_row head past place attempt deadline None rest is = refl
open_row head past place attempt deadline (Some d) rest is = linked_row
    head
    past
    place
    attempt
    (nat_le d.ready_at.n (clock past))
    (nat_le deadline.n (clock past))
    (Some d)
    rest
    is

-- the rows of an identity that is owed
owed_row : (head : PortHead) (past : List Event) (place attempt : ℕ) (frozen : Bool) (rest : List (Option Row))
    → some_row_acts head past
    (first_fit
    (row_if frozen (ResetBegin place 1 attempt (deadline_of (clock past) (reset_wait_of 1)))
    ∷ Some (IdentAsk place attempt (deadline_of (clock past) (ident_wait_of attempt)))
    ∷ rest))
    ≡ (if frozen then reset_acts head past place 1
    else IdentAsked place attempt (deadline_of (clock past) (ident_wait_of attempt)) ∷ [])
owed_row head past place attempt true rest = refl
owed_row head past place attempt false rest = refl

-- the acts of an open identity, by whether it is answered and late
abbrev asked_acts : List Event → ℕ → (again answered late : Bool) → Option DriveView → List Act
asked_acts past place again answered late None = if late then ident_late_acts past place again else WaitingIdent place ∷ []
asked_acts past place again answered late (Some d) =
    if answered then identity_acts past place d.identity
    else if late then ident_late_acts past place again
    else WaitingIdent place ∷ []

-- the rows of an identity that is open
asked_row : (head : PortHead) (past : List Event) (place attempt : ℕ) (again frozen answered late : Bool) (v : Option DriveView) (rest : List (Option Row))
    → drive_at head past place ≡ v
    → some_row_acts head past
    (first_fit
    (row_if frozen (ResetBegin place 1 attempt (deadline_of (clock past) (reset_wait_of 1)))
    ∷ None
    ∷ row_if (is_some v && answered) (IdentRead place)
    ∷ row_if late (IdentLate place again)
    ∷ Some (IdentWait place)
    ∷ rest))
    ≡ (if frozen then reset_acts head past place 1 else asked_acts past place again answered late v)
asked_row head past place attempt again true answered late v rest is = refl
asked_row head past place attempt again false answered true None rest is = refl
asked_row head past place attempt again false answered false None rest is = refl
asked_row head past place attempt again false true late (Some d) rest is = ap (ident_read_acts past place) is
asked_row head past place attempt again false false true (Some d) rest is = refl
asked_row head past place attempt again false false false (Some d) rest is = refl

-- what stands for an open identity, by the drive that may answer
asked_open : (head : PortHead) (past : List Event) (place attempt deadline : ℕ) (v : Option DriveView)
    → asked_acts past place (nat_lt attempt ident_tries) (slice_index_or (is_ident_answered head past) place false) (nat_le deadline (clock past)) v
    ≡ open_ident_acts head past place attempt deadline v
asked_open head past place attempt deadline None = refl
asked_open head past place attempt deadline (Some d) = refl

-- the same in both cases of a test
else_same : (frozen : Bool) (a b c : List Act) → b ≡ c → (if frozen then a else b) ≡ (if frozen then a else c)
else_same frozen a b c same = ap (λ acts. if frozen then a else acts) same

-- the row of each state has the acts of its phase
pub phase_told : (head : PortHead) (past : List Event) (p : Phase)
    → some_row_acts head past (recovery_row p (observed head past p)) ≡ phase_acts head past p
phase_told head past Idle = idle_row head past (is_asked past) (position (is_awaited (clock past) (is_drained past)) (slots past)) _
phase_told head past Logs = logs_row head past (log_owed head past) _
phase_told head past HostOwed = refl
phase_told head past HostOpen = refl
phase_told head past (ResetOwed place attempt ident) = refl
phase_told head past (ResetOpen place attempt ident deadline) =
    open_row head past place attempt deadline (drive_at head past place) _ refl
phase_told head past (IdentOwed place attempt) = owed_row head past place attempt (is_frozen past) _
phase_told head past (IdentOpen place attempt deadline) =
    asked_row
    head
    past
    place
    attempt
    (nat_lt attempt ident_tries)
    (is_frozen past)
    (slice_index_or (is_ident_answered head past) place false)
    (nat_le deadline.n (clock past))
    (drive_at head past place)
    _
    refl
    ∙ else_same (is_frozen past) _ _ _ (asked_open head past place attempt deadline.n (drive_at head past place))
phase_told head past Through = refl

-- the acts of a recover step are those of its phase
pub recover_told : (head : PortHead) (past : List Event) → recover_acts head past ≡ phase_acts head past (phase head past)
recover_told head past = phase_told head past (phase head past)
