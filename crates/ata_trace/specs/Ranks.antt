-- The kinds of acts in groups, in the order in which they are copied.
use Rattle.std.specs.Prelude.{ℕ}
use Rattle.ata_trace.specs.declared.act.Act.{Act}
use Rattle.ata_trace.specs.declared.act.Act.TheVariants.{Aborted, Accepted, Action, AnsweredFailed, AnsweredNodev, AnsweredOk, Attached, Autopsied, Begun, Cleared, Condemned, Deferred, Detached, Disabled, Done, Drained, Ended, Exclusive, Expired, Frozen, Hot, IdentAsked, IdentLate, Identified, Injected, Issued, Judged, Log, LogBadSum, LogFailed, LogNotQueued, Lost, Mode, Nothing, Now, Plugged, Raised, Recorded, Refused, Requested, ResetBegun, ResetEndedGen, ResetEndedHost, ResetEndedNone, ResetFailed, ResetLate, Retried, Same, Thawed, Unplugged, WaitingIdent, WaitingReset, WaitingTag}

abbrev pub rank : Act → ℕ
rank (Accepted id) = 0
rank (Refused id why) = 0
rank (Issued id number tag deadline fis) = 0
rank (Deferred id why) = 0
rank (Exclusive place) = 0
rank (Done number status error lba count) = 0
rank Raised = 0
rank Lost = 0
rank (AnsweredOk id number status error lba count stamps) = 1
rank (AnsweredFailed id number kinds status error lba count) = 1
rank (AnsweredNodev id number) = 1
rank (Aborted number) = 2
rank (Expired id number) = 2
rank (Condemned number kinds) = 2
rank (Judged number kinds) = 2
rank (Retried id number allowance_raised) = 2
rank Drained = 3
rank Frozen = 3
rank Thawed = 3
rank Requested = 3
rank Begun = 3
rank Autopsied = 3
rank Ended = 3
rank ResetEndedHost = 3
rank Nothing = 3
rank (Log place tag status error lba count) = 4
rank (LogFailed place) = 4
rank (LogBadSum place) = 4
rank (LogNotQueued place) = 4
rank (Recorded place io dubious kinds ncq_off speed_down pio keep remedy) = 5
rank (Cleared place) = 5
rank (Hot place generation) = 5
rank (Action place kinds remedy) = 5
rank (ResetBegun place attempt deadline) = 6
rank (ResetLate place) = 6
rank (ResetFailed place) = 6
rank (ResetEndedGen place generation) = 6
rank (ResetEndedNone place) = 6
rank (IdentAsked place attempt deadline) = 7
rank (IdentLate place) = 7
rank (Identified place model serial sectors depth) = 7
rank (Same place) = 7
rank (Attached place) = 8
rank (Detached place) = 8
rank (Disabled place) = 8
rank (Mode place udma ncq dubious) = 8
rank (Now at) = 9
rank (WaitingTag tag) = 9
rank (WaitingReset place) = 9
rank (WaitingIdent place) = 9
rank (Plugged place drive) = 9
rank (Unplugged place) = 9
rank (Injected place) = 9
