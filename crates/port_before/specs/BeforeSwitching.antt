-- The rules of kicks and interrupts before multipliers switched by frames: one place at a time had the port, and an error
-- at it took all.
use Rattle.std.specs.Prelude.{ℕ, Bool, true, not, ◌&&◌, ◌||◌, is_some, List, [], ◌∷◌, ◌++◌, Option, Some, None, if◌then◌else◌}
use Rattle.std.specs.List.{list_any}
use Rattle.ata_base.specs.Reasons.{first_reason}
use Rattle.ata_base.specs.declared.cmd.Cmd.{Cmd}
use Rattle.ata_base.specs.declared.deferral.Deferral.{Deferral}
use Rattle.ata_base.specs.declared.deferral.Deferral.TheVariants.{Frozen as IsFrozen, Recovering, LinkBusy, PortBusy, NoTag}
use Rattle.ata_script.specs.declared.port_head.PortHead.{PortHead}
use Rattle.ata_trace.specs.Entries.{EntryView}
use Rattle.ata_trace.specs.Event.{Event}
use Rattle.ata_trace.specs.declared.act.Act.{Act}
use Rattle.ata_trace.specs.declared.act.Act.TheVariants.{AnsweredNodev, Frozen, Requested, Nothing}
use Rattle.ata_trace.specs.declared.step.Step.{Step}
use Rattle.ata_trace.specs.declared.step.Step.TheVariants.{Kick, Irq}
use Rattle.ata_trace.specs.declared.who.Who.{Who}
use Rattle.host_defer.specs.Obstacles.{is_elsewhere, is_link_busy, is_taken, has_no_tag}
use Rattle.host_queue.specs.Waiting.{front_of}
use Rattle.port_past.specs.Attachment.{detachments}
use Rattle.port_past.specs.Causes.{tferr}
use Rattle.port_past.specs.Clock.{clock}
use Rattle.port_past.specs.Commands.{is_gone}
use Rattle.port_past.specs.Completions.{completions}
use Rattle.port_past.specs.Exclusive.{exclusive}
use Rattle.port_past.specs.Identities.{depth_at}
use Rattle.port_past.specs.Line.{is_irq_served}
use Rattle.port_past.specs.PortState.{is_asked, is_frozen, is_recovering}
use Rattle.port_past.specs.Queues.{queues}
use Rattle.port_past.specs.Slots.{slots}
use Rattle.port_rules.specs.Interrupt.{must_freeze, must_request, no_kinds}
use Rattle.port_rules.specs.Kick.{deferred_or_issued, is_queued, outline}
use Rattle.port_rules.specs.Legal.{legal_acts}
use Rattle.port_rules.specs.Sorting.{condemnations, ok_answers}
use Rattle.port_rules.specs.Told.{or_nothing, told_if}

-- ---- kicks

-- on a multiplier an issue of another place is in flight, or another place alone may issue
abbrev pub is_port_taken : PortHead → List Event → ℕ → Bool
is_port_taken head past place =
    head.pmp && (list_any (is_elsewhere place) (outline (slots past)) || is_taken (exclusive past) place)

-- why a command of a place is deferred: the first of these that holds
abbrev pub deferral_before_switching : PortHead → List Event → ℕ → Bool → Option Deferral
deferral_before_switching head past place queued = first_reason (
    (IsFrozen, is_frozen past)
    ∷ (Recovering, is_recovering past)
    ∷ (LinkBusy, is_link_busy (outline (slots past)) place queued)
    ∷ (PortBusy, is_port_taken head past place)
    ∷ (NoTag, has_no_tag (outline (slots past)) queued (depth_at past place))
    ∷ [])

-- a command is deferred or issued
abbrev pub command_acts_before_switching : PortHead → List Event → Cmd → Bool → List Act
command_acts_before_switching head past cmd queued =
    deferred_or_issued head past cmd queued (deferral_before_switching head past cmd.place queued)

-- the front command is answered where its device is gone, and else deferred or issued
abbrev pub front_acts_before_switching : PortHead → List Event → Option Cmd → List Act
front_acts_before_switching head past None = Nothing ∷ []
front_acts_before_switching head past (Some cmd) =
    if is_gone cmd (detachments past) then AnsweredNodev cmd.id (record { n = 0 }) ∷ []
    else command_acts_before_switching head past cmd (is_queued past cmd.place cmd.op)

-- the acts of a kick
abbrev pub kick_acts_before_switching : PortHead → List Event → ℕ → List Act
kick_acts_before_switching head past place = front_acts_before_switching head past (front_of (queues past) place)

-- ---- interrupts

-- whether a cause stands that condemns: TFERR of any place, or one that freezes the port
abbrev pub must_condemn : PortHead → List Event → Bool
must_condemn head past = list_any is_some (tferr past) || must_freeze head past

-- each issue of the port that is neither owned nor completed is condemned without kinds, in tag order
abbrev pub all_condemned : PortHead → List Event → List Act
all_condemned head past = condemnations (λ f. true) no_kinds (slots past) (completions head past)

-- what a served interrupt does: the completed issues are answered; where a cause condemns, each other one of the port
-- that isn't owned is condemned; the port is frozen, and recovery asked for
abbrev pub served_acts_before_switching : PortHead → List Event → List Act
served_acts_before_switching head past =
    ok_answers (slots past) (completions head past)
    ++ (if must_condemn head past then all_condemned head past else [])
    ++ told_if (must_freeze head past) Frozen
    ++ told_if (must_request head past && not (is_asked past)) Requested

-- the acts of an interrupt: where it isn't served, nothing
abbrev pub irq_acts_before_switching : PortHead → List Event → List Act
irq_acts_before_switching head past =
    if is_irq_served past then or_nothing (served_acts_before_switching head past) else Nothing ∷ []

-- ---- steps

-- the acts of a step: those of all others are as they are now
abbrev pub acts_before_switching : PortHead → List Event → Step → List Act
acts_before_switching head past (Kick place) = kick_acts_before_switching head past place
acts_before_switching head past Irq = irq_acts_before_switching head past
acts_before_switching head past step = legal_acts head past step

-- the entry that a step made
abbrev pub entry_before_switching : PortHead → List Event → Who → ℕ → Step → EntryView
entry_before_switching head past who seq step =
    record { at = clock past; who = who; seq = seq; step = step; acts = acts_before_switching head past step }
