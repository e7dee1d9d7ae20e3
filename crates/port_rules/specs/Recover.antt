use Rattle.std.specs.Prelude.{List, [], ◌∷◌, ◌++◌, Option, Some, None}
use Rattle.ata_script.specs.declared.port_head.PortHead.{PortHead}
use Rattle.ata_trace.specs.Event.{Event}
use Rattle.ata_trace.specs.declared.act.Act.{Act}
use Rattle.ata_trace.specs.declared.act.Act.TheVariants.{Thawed, ResetBegun, ResetEndedHost, IdentAsked, WaitingTag, WaitingReset, WaitingIdent, Nothing}
use Rattle.eh_flow.specs.Table.{recovery_row}
use Rattle.eh_flow.specs.declared.row.Row.{Row}
use Rattle.eh_flow.specs.declared.row.Row.TheVariants.{Nothing as NothingToDo, WaitTag, Begin, Log, Autopsy, HostBegin, HostEnd, ResetBegin, ResetGone, ResetReady, ResetLate, ResetWait, IdentAsk, IdentRead, IdentLate, IdentWait, Finish}
use Rattle.port_past.specs.Drives.{drive_at}
use Rattle.port_rules.specs.Autopsy.{autopsy_acts}
use Rattle.port_rules.specs.Begin.{begin_acts}
use Rattle.port_rules.specs.Finish.{finish_acts}
use Rattle.port_rules.specs.Identities.{ident_read_acts, ident_late_acts}
use Rattle.port_rules.specs.Logs.{log_acts}
use Rattle.port_rules.specs.Observing.{observed}
use Rattle.port_rules.specs.Phase.{phase}
use Rattle.port_rules.specs.Resets.{reset_begun_acts, reset_gone_acts, reset_ready_acts, reset_late_acts}
use Rattle.port_rules.specs.Told.{frozen_acts}

-- the acts of each row
abbrev pub row_acts : PortHead → List Event → Row → List Act
row_acts head past NothingToDo = Nothing ∷ []
row_acts head past (WaitTag tag) = WaitingTag tag ∷ []
row_acts head past Begin = begin_acts head past
row_acts head past (Log place) = log_acts head past place
row_acts head past Autopsy = autopsy_acts head past
row_acts head past (HostBegin deadline) = frozen_acts past ++ ResetBegun None 1 deadline ∷ []
row_acts head past HostEnd = ResetEndedHost ∷ Thawed ∷ []
row_acts head past (ResetBegin place attempt ident deadline) = reset_begun_acts head past place attempt deadline
row_acts head past (ResetGone place) = reset_gone_acts head past place
row_acts head past (ResetReady place) = reset_ready_acts head past place (drive_at head past place)
row_acts head past (ResetLate place again) = reset_late_acts past place again
row_acts head past (ResetWait place) = WaitingReset place ∷ []
row_acts head past (IdentAsk place attempt deadline) = IdentAsked place attempt deadline ∷ []
row_acts head past (IdentRead place) = ident_read_acts past place (drive_at head past place)
row_acts head past (IdentLate place again) = ident_late_acts past place again
row_acts head past (IdentWait place) = WaitingIdent place ∷ []
row_acts head past Finish = finish_acts past

-- the acts of a row, where there is one; each state has one
abbrev pub some_row_acts : PortHead → List Event → Option Row → List Act
some_row_acts head past None = []
some_row_acts head past (Some row) = row_acts head past row

-- the acts of a recover step: those of the row of its state, which is where recovery stands and what is seen of the port
abbrev pub recover_acts : PortHead → List Event → List Act
recover_acts head past =
    some_row_acts head past (recovery_row (phase head past) (observed head past (phase head past)))
