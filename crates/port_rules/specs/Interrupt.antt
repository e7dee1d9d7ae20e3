use Rattle.std.specs.Prelude.{Bool, not, ◌&&◌, ◌||◌, is_some, List, [], ◌∷◌, ◌++◌, Option, None, slice_index_or, if◌then◌else◌}
use Rattle.std.specs.List.{list_any}
use Rattle.ata_base.specs.declared.err_mask.ErrMask.{ErrMask}
use Rattle.ata_script.specs.declared.port_head.PortHead.{PortHead}
use Rattle.ata_trace.specs.Event.{Event}
use Rattle.ata_trace.specs.declared.act.Act.{Act}
use Rattle.ata_trace.specs.declared.act.Act.TheVariants.{Frozen, Requested, Nothing}
use Rattle.host_tags.specs.declared.in_flight.InFlight.{InFlight}
use Rattle.eh_autopsy.specs.declared.failed_issue.FailedIssue.{FailedIssue}
use Rattle.port_past.specs.Causes.{tferr, has_iferr, has_connect, has_notify}
use Rattle.port_past.specs.Completions.{completions}
use Rattle.port_past.specs.declared.completion.Completion.{Completion}
use Rattle.port_past.specs.PortState.{is_asked}
use Rattle.port_past.specs.Line.{is_irq_served}
use Rattle.port_past.specs.Slots.{slots}
use Rattle.port_rules.specs.Told.{or_nothing, told_if}
use Rattle.port_rules.specs.Sorting.{ok_answers, condemnations}

-- no kinds
abbrev pub no_kinds : ErrMask
no_kinds = record { 0 = 0 }

-- whether TFERR of an issue's place stands
abbrev pub has_failed : List (Option FailedIssue) → InFlight → Bool
has_failed failing f = is_some (slice_index_or failing f.place None)

-- whether a cause stands that freezes the port
abbrev pub must_freeze : PortHead → List Event → Bool
must_freeze head past = has_iferr head past || has_connect head past

-- whether a cause stands that asks for recovery
abbrev pub must_request : PortHead → List Event → Bool
must_request head past = list_any is_some (tferr past) || must_freeze head past || has_notify head past

-- whether an interrupt condemns an issue: a cause stands that freezes the port, or TFERR of its place
abbrev pub is_struck : Bool → List (Option FailedIssue) → InFlight → Bool
is_struck freeze failing f = freeze || has_failed failing f

-- what a served interrupt does, by the issues in flight and their completions, the failed issues by place, and whether it
-- freezes, asks for recovery and was asked for it before: the completed issues are answered; those at a place with TFERR
-- are condemned, all where the port is frozen; recovery is asked for
abbrev pub served_from : List (Option InFlight) → List (Option Completion) → List (Option FailedIssue) → Bool → Bool → Bool → List Act
served_from flights done failing freeze request asked =
    ok_answers flights done
    ++ condemnations (is_struck freeze failing) no_kinds flights done
    ++ told_if freeze Frozen
    ++ told_if (request && not asked) Requested

-- what a served interrupt does after this past
abbrev pub served_acts : PortHead → List Event → List Act
served_acts head past = served_from
    (slots past)
    (completions head past)
    (tferr past)
    (must_freeze head past)
    (must_request head past)
    (is_asked past)

-- the acts of an interrupt: where it isn't served, nothing
abbrev pub irq_acts : PortHead → List Event → List Act
irq_acts head past = if is_irq_served past then or_nothing (served_acts head past) else Nothing ∷ []
