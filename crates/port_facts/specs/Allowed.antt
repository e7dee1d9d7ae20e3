-- What each kind of act finds in the past of a legal journal. It stands between the rules and the laws.
use Rattle.eh_flow.specs.Finish.{is_retried}
use Rattle.std.specs.Prelude.{slice_get, ◌≡◌, ◌⊎◌, ℕ, ◌+◌, ◌<◌, ◌≤◌, ◌==◌, Bool, true, false, List, [], ◌∷◌, None, Some}
use Rattle.std.specs.List.{list_any, slice_index_or}
use Rattle.ata_base.specs.declared.cmd.Cmd.{Cmd}
use Rattle.ata_base.specs.declared.err_mask.ErrMask.{ErrMask}
use Rattle.ata_base.specs.declared.issue_no.IssueNo.{IssueNo}
use Rattle.ata_base.specs.declared.ms.Ms.{Ms}
use Rattle.ata_base.specs.declared.op.Op.{Op}
use Rattle.ata_base.specs.declared.regs.Regs.{Regs}
use Rattle.ata_script.specs.declared.port_head.PortHead.{PortHead}
use Rattle.ata_trace.specs.Event.{Event}
use Rattle.ata_trace.specs.Event.Event.{Told}
use Rattle.ata_trace.specs.declared.act.Act.{Act}
use Rattle.ata_trace.specs.declared.act.Act.TheVariants.{Accepted, Issued, Done, AnsweredOk, AnsweredFailed, AnsweredNodev, Retried, ResetBegun, IdentAsked, Now, Judged, Recorded, Cleared, Attached, Hot, Action, Autopsied, Ended}
use Rattle.ata_trace.specs.declared.step.Step.TheVariants.{Submit}
use Rattle.drive_model.specs.Holding.{issue_of}
use Rattle.drive_model.specs.View.{DriveView}
use Rattle.drive_model.specs.Work.{cause_of, registers_of}
use Rattle.drive_model.specs.declared.held.Held.{Held}
use Rattle.port_past.specs.Drives.{drives}
use Rattle.port_facts.specs.Stamps.{drive_now}
use Rattle.host_defer.specs.Obstacles.{is_link_busy, is_elsewhere}
use Rattle.host_queue.specs.Waiting.{front_of}
use Rattle.host_tags.specs.Slots.{flight_at}
use Rattle.host_tags.specs.declared.in_flight.InFlight.{InFlight}
use Rattle.port_past.specs.Clock.{clock}
use Rattle.port_past.specs.Commands.{commands, command_of, is_accepted, is_gone}
use Rattle.port_past.specs.Attachment.{detachments, attached}
use Rattle.port_past.specs.Completions.{completions}
use Rattle.port_past.specs.PortState.{is_running}
use Rattle.port_past.specs.Issues.{issue_count}
use Rattle.port_past.specs.Judged.{judged}
use Rattle.port_past.specs.Queues.{queues}
use Rattle.port_past.specs.Slots.{slots, is_queued_frame}
use Rattle.port_past.specs.Steps.{last_step}
use Rattle.port_past.specs.declared.completion.Completion.{Completion}
use Rattle.port_past.specs.declared.judgement.Judgement.{Judgement}
use Rattle.port_rules.specs.Finish.{registers_told}
use Rattle.port_rules.specs.Kick.{outline}
use Rattle.port_facts.specs.Judgements.{IsClearedRightly, IsHotRightly, IsActingRightly, IsJudgedRightly, IsRecordedRightly}
use Rattle.port_facts.specs.Moments.{AtEach}
use Rattle.port_facts.specs.Open.{IsOpen}
use Rattle.port_facts.specs.Device.{device_of}
use Rattle.host_tags.specs.EachFlight.{kept_at, AreOwned, AreNone}
use Rattle.port_past.specs.JudgedSlots.{AreJudged}

-- an accepted command was asked for by its step; its number is new and its place is one
pub record MayAccept (id : ℕ) (past : List Event) : Type 0 where
  pub place : ℕ
  pub op : Op
  pub allow : ℕ
  pub wait : ℕ
  pub asked : last_step past ≡ Submit id place op allow wait
  pub fresh : is_accepted id (commands past) ≡ false
  pub within : place < 15
  pub there : slice_index_or (attached past) place false ≡ true

-- a command that leaves a queue is the front of its place's
pub record IsFront (id : ℕ) (past : List Event) : Type 0 where
  pub front : Cmd
  pub same : front.id ≡ id
  pub waiting : front_of (queues past) front.place ≡ Some front
  pub stands : device_of id (commands past) ≡ Some (front.place, front.attachment)

-- an issued command is the front of its queue; the issue has the next number and a free tag, and finds the port neither
-- frozen nor recovering and no issue beside which it may not fly
pub record MayIssue (head : PortHead) (id : ℕ) (number : IssueNo) (tag : ℕ) (fis : List ℕ) (past : List Event) : Type 0 where
  pub is_front : IsFront id past
  pub queued : Bool
  pub next : number.n ≡ issue_count past + 1
  pub within : tag < 32
  pub free : flight_at (slots past) tag ≡ None
  pub kind : is_queued_frame fis ≡ queued
  pub alone : is_link_busy (outline (slots past)) is_front.front.place queued ≡ false
  pub one_link : head.pmp ≡ true → head.fbs ≡ false → list_any (is_elsewhere is_front.front.place) (outline (slots past)) ≡ false
  pub open_gate : IsOpen past

-- registers that are told so
pub record IsTelling (status error lba count : ℕ) (regs : Regs) : Type 0 where
  pub status_same : regs.status ≡ status
  pub error_same : regs.error ≡ error
  pub lba_same : regs.lba ≡ lba
  pub count_same : regs.count ≡ count

-- an ended issue is held by the drive that works, and ends with these registers
pub record MayEnd (head : PortHead) (number : IssueNo) (status error lba count : ℕ) (past : List Event) : Type 0 where
  pub drive : ℕ
  pub view : DriveView
  pub held : Held
  pub works : drive_now head past ≡ Some drive
  pub is_view : slice_get (drives head past) drive ≡ Some view
  pub holds : issue_of number.n view.held ≡ Some held
  pub registers : IsTelling status error lba count (registers_of (cause_of held view.bad) held.op)

-- an issue of this number is in flight for this command
pub record Flies (id : ℕ) (number : IssueNo) (past : List Event) : Type 0 where
  pub tag : ℕ
  pub flight : InFlight
  pub here : flight_at (slots past) tag ≡ Some flight
  pub same : flight.id ≡ id
  pub numbered : flight.number ≡ number

-- an issue that is answered `ok` is in flight, not owned, and ended well with these registers and stamps
pub record MaySucceed (head : PortHead) (id : ℕ) (number : IssueNo) (status error lba count : ℕ) (stamps : List ℕ) (past : List Event) : Type 0 where
  pub flies : Flies id number past
  pub unowned : flies.flight.owned ≡ false
  pub end : Completion
  pub found : kept_at (completions head past) flies.tag ≡ Some end
  pub registers : IsTelling status error lba count end.regs
  pub stamps_same : end.stamps ≡ stamps

-- an issue that a running recovery finishes is in flight, owned and judged, and its command is known
pub record MayFinish (id : ℕ) (number : IssueNo) (c : Cmd) (j : Judgement) (past : List Event) : Type 0 where
  pub flies : Flies id number past
  pub owned : flies.flight.owned ≡ true
  pub running : is_running past ≡ true
  pub found : kept_at (judged past) flies.tag ≡ Some j
  pub known : command_of id (commands past) ≡ Some c

-- one that fails has its device yet, and isn't tried again
pub record MayFail (id : ℕ) (number : IssueNo) (kinds : ErrMask) (status error lba count : ℕ) (past : List Event) : Type 0 where
  pub command : Cmd
  pub judgement : Judgement
  pub finish : MayFinish id number command judgement past
  pub stays : is_gone command (detachments past) ≡ false
  pub over : is_retried command judgement.kinds ≡ false
  pub kinds_same : judgement.kinds ≡ kinds
  pub registers : IsTelling status error lba count (registers_told judgement.regs)

-- one that is tried again has its device yet, and its allowance is raised where it has no kinds
pub record MayRetry (id : ℕ) (number : IssueNo) (raised : Bool) (past : List Event) : Type 0 where
  pub command : Cmd
  pub judgement : Judgement
  pub finish : MayFinish id number command judgement past
  pub stays : is_gone command (detachments past) ≡ false
  pub again : is_retried command judgement.kinds ≡ true
  pub raises : (judgement.kinds.0 == 0) ≡ raised

-- a front that is answered without an issue
pub record IsUnissued (id : ℕ) (number : IssueNo) (past : List Event) : Type 0 where
  pub is_front : IsFront id past
  pub none : number.n ≡ 0

-- a command that lost its device waits in front or has this issue in flight
pub record MayLose (id : ℕ) (number : IssueNo) (past : List Event) : Type 0 where
  pub command : Cmd
  pub known : command_of id (commands past) ≡ Some command
  pub gone : is_gone command (detachments past) ≡ true
  pub here : IsUnissued id number past ⊎ Flies id number past

-- the longest wait of a try, of a reset or for an identity, in ms
abbrev pub longest_try : ℕ
longest_try = 35000

-- a reset that begins finds each issue in flight owned, and isn't late for longer than a try waits
pub record MayReset (deadline : Ms) (past : List Event) : Type 0 where
  pub owned : AreOwned (slots past)
  pub near : deadline.n ≤ clock past + longest_try

-- what an event finds in the past of a port with this head
abbrev pub Allowed : PortHead → Event → List Event → Type 0
Allowed head (Told (Accepted id)) past = MayAccept id past
Allowed head (Told (Issued id number tag deadline fis)) past = MayIssue head id number tag fis past
Allowed head (Told (Done number status error lba count)) past = MayEnd head number status error lba count past
Allowed head (Told (AnsweredOk id number status error lba count stamps)) past = MaySucceed head id number status error lba count stamps past
Allowed head (Told (AnsweredFailed id number kinds status error lba count)) past = MayFail id number kinds status error lba count past
Allowed head (Told (AnsweredNodev id number)) past = MayLose id number past
Allowed head (Told (Retried id number raised)) past = MayRetry id number raised past
Allowed head (Told (Judged number kinds)) past = IsJudgedRightly head number kinds past
Allowed head (Told (Recorded place io dubious kinds ncq_off speed_down pio keep action)) past =
    IsRecordedRightly head place io dubious kinds ncq_off speed_down pio keep action past
Allowed head (Told (Cleared place)) past = IsClearedRightly place past
Allowed head (Told (Attached place)) past = place < head.places
Allowed head (Told (Hot place generation)) past = (place < head.places) × IsHotRightly head place generation past
Allowed head (Told (Action place kinds chosen)) past = (place < head.places) × IsActingRightly head place kinds chosen past
Allowed head (Told Autopsied) past = AreJudged (slots past) (judged past)
Allowed head (Told Ended) past = AreNone (slots past)
Allowed head (Told (ResetBegun place attempt deadline)) past = MayReset deadline past
Allowed head (Told (IdentAsked place attempt deadline)) past = deadline.n ≤ clock past + longest_try
Allowed head (Told (Now time)) past = clock past ≤ time.n
Allowed head _ past = Unit {0}

-- each event of a past is allowed
abbrev pub IsAllowed : PortHead → List Event → Type 0
IsAllowed head past = AtEach (Allowed head) past

-- each of these acts is allowed, told after the past and the acts before it
abbrev pub AreAllowed : PortHead → List Event → List Act → Type 0
AreAllowed head past [] = Unit {0}
AreAllowed head past (act ∷ rest) = Allowed head (Told act) past × AreAllowed head (Told act ∷ past) rest
