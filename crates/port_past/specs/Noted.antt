use Rattle.std.specs.Prelude.{Bool, List, [], ◌∷◌, Option, Some, None, if◌then◌else◌}
use Rattle.ata_trace.specs.Event.{Event}
use Rattle.ata_trace.specs.Event.Event.{Entered, Told}
use Rattle.ata_trace.specs.declared.act.Act.TheVariants.{Autopsied}
use Rattle.eh_autopsy.specs.declared.failed_issue.FailedIssue.{FailedIssue}
use Rattle.port_past.specs.Causes.{tferr, takes_causes}
use Rattle.port_past.specs.Line.{is_irq_served}
use Rattle.port_past.specs.Places.{nowhere}

-- what is told of each place, the later where there is a later one
abbrev pub with_later : {A : Type 0} → List (Option A) → List (Option A) → List (Option A)
with_later (None ∷ later) (x ∷ was) = x ∷ with_later later was
with_later (Some y ∷ later) (x ∷ was) = Some y ∷ with_later later was
with_later _ was = was

-- an interrupt that takes TFERR of X notes its issue, until the next `autopsied`
abbrev pub tferr_noted_after : Event → Bool → List (Option FailedIssue) → List (Option FailedIssue) → List (Option FailedIssue)
tferr_noted_after (Entered time who seq step) served failing was =
    if takes_causes step served then with_later failing was else was
tferr_noted_after (Told Autopsied) served failing was = nowhere
tferr_noted_after _ served failing was = was

-- by place, the failed issue that is noted, with its registers
abbrev pub tferr_noted : List Event → List (Option FailedIssue)
tferr_noted [] = nowhere
tferr_noted (event ∷ past) = tferr_noted_after event (is_irq_served past) (tferr past) (tferr_noted past)
