-- What the finish tells, tag by tag.
use Rattle.std.specs.Prelude.{ℕ, List, [], ◌∷◌, Option}
use Rattle.ata_base.specs.declared.cmd.Cmd.{Cmd}
use Rattle.ata_trace.specs.Event.{Event}
use Rattle.ata_trace.specs.declared.act.Act.{Act}
use Rattle.host_tags.specs.declared.in_flight.InFlight.{InFlight}
use Rattle.port_ledger.specs.LedgerView.{LedgerView, past}
use Rattle.port_past.specs.Attachment.{detachments}
use Rattle.port_past.specs.Commands.{commands}
use Rattle.port_past.specs.Judged.{judged}
use Rattle.port_past.specs.Slots.{slots}
use Rattle.port_past.specs.declared.judgement.Judgement.{Judgement}
use Rattle.port_rules.specs.TagByTag.{finish_of}

-- what is told of the issue under each tag
abbrev pub by_tag : List Cmd → List ℕ → List (Option InFlight) → List (Option Judgement) → List (Option Act)
by_tag accepted counts (slot ∷ flights) (j ∷ judgements) = finish_of accepted counts slot j ∷ by_tag accepted counts flights judgements
by_tag accepted counts _ _ = []

-- what a past has the finish tell of each tag
abbrev pub finishes_of : List Event → List (Option Act)
finishes_of past = by_tag (commands past) (detachments past) (slots past) (judged past)

-- the same of a ledger's past; a walk keeps it beside the issues
abbrev pub finishes_in : LedgerView → List (Option Act)
finishes_in ledger = finishes_of (past ledger)

-- what is told of an issue is what is kept beside it
abbrev pub as_kept : Option InFlight → Option Act → Option Act
as_kept slot act = act
