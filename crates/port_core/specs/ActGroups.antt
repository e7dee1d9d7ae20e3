-- The acts in groups, as their ranges are looked at.
use Rattle.ata_trace.specs.declared.act.Act.{Act}
use Rattle.ata_trace.specs.declared.act.Act.TheVariants.{Accepted, Refused, Issued, Deferred, Exclusive, Done, Aborted, AnsweredOk, AnsweredFailed, AnsweredNodev, Expired, Condemned, Log, LogFailed, LogBadSum, LogNotQueued, Judged, Recorded, Cleared, Hot, Action, ResetBegun, ResetLate, ResetFailed, ResetEndedGen, ResetEndedNone, IdentAsked, IdentLate, Identified, Same, Attached, Detached, Disabled, Mode, Retried, WaitingTag, WaitingReset, WaitingIdent, Now, Plugged, Unplugged, Injected}

-- of waiting commands, of the drive, of answers, of judgements, of the error log, of the ring, of resets, of devices, of
-- time and what is waited for, and those without a number
pub data ActGroup : Type 0 where
  Waiting : ActGroup
  OfDrive : ActGroup
  Answers : ActGroup
  Judgements : ActGroup
  Logs : ActGroup
  Rings : ActGroup
  Resets : ActGroup
  Devices : ActGroup
  Times : ActGroup
  Plain : ActGroup

-- the group of an act
abbrev pub group_of : Act → ActGroup
group_of (Accepted id) = Waiting
group_of (Refused id why) = Waiting
group_of (Issued id number tag deadline fis) = Waiting
group_of (Deferred id why) = Waiting
group_of (Exclusive place) = Waiting
group_of (Done number status error lba count) = OfDrive
group_of (Aborted number) = OfDrive
group_of (Expired id number) = OfDrive
group_of (AnsweredOk id number status error lba count stamps) = Answers
group_of (AnsweredNodev id number) = Answers
group_of (Retried id number allowance_raised) = Answers
group_of (AnsweredFailed id number kinds status error lba count) = Judgements
group_of (Condemned number kinds) = Judgements
group_of (Judged number kinds) = Judgements
group_of (Action place kinds remedy) = Judgements
group_of (Log place tag status error lba count) = Logs
group_of (LogFailed place) = Logs
group_of (LogBadSum place) = Logs
group_of (LogNotQueued place) = Logs
group_of (Recorded place io dubious kinds ncq_off speed_down pio keep action) = Rings
group_of (Cleared place) = Rings
group_of (Hot place generation) = Rings
group_of (Mode place udma ncq dubious) = Rings
group_of (ResetBegun place attempt deadline) = Resets
group_of (ResetLate place) = Resets
group_of (ResetFailed place) = Resets
group_of (ResetEndedGen place generation) = Resets
group_of (ResetEndedNone place) = Resets
group_of (IdentAsked place attempt deadline) = Resets
group_of (IdentLate place) = Resets
group_of (Identified place model serial sectors depth) = Devices
group_of (Same place) = Devices
group_of (Attached place) = Devices
group_of (Detached place) = Devices
group_of (Disabled place) = Devices
group_of (WaitingTag tag) = Times
group_of (WaitingReset place) = Times
group_of (WaitingIdent place) = Times
group_of (Now at) = Times
group_of (Plugged place drive) = Times
group_of (Unplugged place) = Times
group_of (Injected place) = Times
group_of _ = Plain
