use Rattle.std.specs.Prelude.{List, [], ◌∷◌, Option, Some, None, slice_set}
use Rattle.ata_trace.specs.Event.{Event}
use Rattle.ata_trace.specs.Event.Event.{Told}
use Rattle.ata_trace.specs.declared.act.Act.{Act}
use Rattle.ata_trace.specs.declared.act.Act.TheVariants.{Begun, Log, LogFailed, LogBadSum, LogNotQueued}
use Rattle.drive_model.specs.Work.{registers}
use Rattle.port_past.specs.declared.log_of.LogOf.{LogOf}
use Rattle.drive_model.specs.declared.log_told.LogTold.{LogTold}
use Rattle.drive_model.specs.declared.log_told.LogTold.TheVariants.{Page, BadPage, NoPage}
use Rattle.port_past.specs.Places.{nowhere}

-- the place whose log an act tells of, and what it tells
abbrev pub log_in : Act → Option LogOf
log_in (Log place tag status error lba count) = Some (record { place = place; told = Page tag (registers status error lba count) })
log_in (LogFailed place) = Some (record { place = place; told = NoPage })
log_in (LogBadSum place) = Some (record { place = place; told = BadPage })
log_in (LogNotQueued place) = Some (record { place = place; told = BadPage })
log_in _ = None

-- what the logs told, once an act tells of one
abbrev pub with_log : Option LogOf → List (Option LogTold) → List (Option LogTold)
with_log None was = was
with_log (Some log) was = slice_set was log.place (Some log.told)

-- each recovery reads anew
abbrev pub logs_after : Event → List (Option LogTold) → List (Option LogTold)
logs_after (Told Begun) was = nowhere
logs_after (Told act) was = with_log (log_in act) was
logs_after _ was = was

-- what the `log X` since the last `begun` told, by place
abbrev pub logs : List Event → List (Option LogTold)
logs [] = nowhere
logs (event ∷ past) = logs_after event (logs past)
