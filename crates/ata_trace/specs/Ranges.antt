-- Which values of acts and steps there are: the numbers are those of their types.
use Rattle.std.specs.Prelude.{ℕ, ◌≡◌, ◌≤◌, ◌<◌, ◌^◌, Option, Some, None, List, [], ◌∷◌, length, ⊤}
use Rattle.hex.specs.Hex.{IsBytes}
use Rattle.ata_base.specs.declared.fault.Fault.{Fault}
use Rattle.ata_base.specs.declared.fault.Fault.TheVariants.{Media, Hang, Icrc, Abort, Df, BadStat, Idnf, LogFail, LogSum, LogNq, LogIdle, IdentFail, Serr}
use Rattle.ata_base.specs.declared.op.Op.{Op}
use Rattle.ata_base.specs.declared.op.Op.TheVariants.{Read, Write, Verify}
use Rattle.ata_trace.specs.Names.{IsDriveName}
use Rattle.ata_trace.specs.declared.act.Act.{Act}
use Rattle.ata_trace.specs.declared.act.Act.TheVariants.{Accepted, Refused, Issued, Deferred, Exclusive, Done, Aborted, AnsweredOk, AnsweredFailed, AnsweredNodev, Expired, Condemned, Log, LogFailed, LogBadSum, LogNotQueued, Judged, Recorded, Cleared, Hot, Action, ResetBegun, ResetLate, ResetFailed, ResetEndedGen, ResetEndedNone, IdentAsked, IdentLate, Identified, Same, Attached, Detached, Disabled, Mode, Retried, WaitingTag, WaitingReset, WaitingIdent, Now, Plugged, Unplugged, Injected}
use Rattle.ata_base.specs.declared.speed_action.SpeedAction.{SpeedAction}
use Rattle.ata_base.specs.declared.speed_action.SpeedAction.TheVariants.{NoChange, NcqOff, Speed, Mode as UdmaMode}
use Rattle.ata_trace.specs.declared.step.Step.{Step}
use Rattle.ata_trace.specs.declared.step.Step.TheVariants.{Submit, Kick, Work, Stray, Tick, Plug, Unplug, Inject}
use Rattle.ata_trace.specs.declared.who.Who.{Who}
use Rattle.ata_trace.specs.declared.who.Who.TheVariants.{Actor}

-- a number of 64 bits in a range
pub record IsIn (least most n : ℕ) : Type 0 where
  pub low : least ≤ n
  pub high : n ≤ most
  pub small : n < 2 ^ 64

-- the number of a command
abbrev pub IsId : ℕ → Type 0
IsId n = IsIn 1 65535 n

-- a place
abbrev pub IsPlace : ℕ → Type 0
IsPlace n = IsIn 0 14 n

-- a tag, or the number of a drive
abbrev pub IsTag : ℕ → Type 0
IsTag n = IsIn 0 31 n

-- a number of 8 bits
abbrev pub IsSmall : ℕ → Type 0
IsSmall n = IsIn 0 255 n

-- a number of 16 bits
abbrev pub IsCount : ℕ → Type 0
IsCount n = IsIn 0 65535 n

-- a number of 64 bits
abbrev pub IsLong : ℕ → Type 0
IsLong n = IsIn 0 18446744073709551615 n

-- a sector that 48 bits can name
abbrev pub IsLba : ℕ → Type 0
IsLba n = IsIn 0 281474976710655 n

-- a set of the eleven kinds of error
abbrev pub IsKinds : ℕ → Type 0
IsKinds n = IsIn 0 2047 n

-- a place or none
abbrev pub IsWhere : Option ℕ → Type 0
IsWhere None = ⊤
IsWhere (Some place) = IsPlace place

-- a frame of 20 bytes
pub record IsFrame (bytes : List ℕ) : Type 0 where
  pub size : length bytes ≡ 20
  pub each : IsBytes bytes

-- a name of at most so many characters
pub record IsName (most : ℕ) (name : List ℕ) : Type 0 where
  pub short : length name ≤ most
  pub allowed : IsDriveName name

-- each of the numbers has 64 bits
abbrev pub AreLong : List ℕ → Type 0
AreLong [] = ⊤
AreLong (n ∷ rest) = IsLong n × AreLong rest

-- at most 16 stamps
pub record AreStamps (stamps : List ℕ) : Type 0 where
  pub few : length stamps ≤ 16
  pub each : AreLong stamps

-- what is done about the speed
abbrev pub IsSpeed : SpeedAction → Type 0
IsSpeed NoChange = ⊤
IsSpeed NcqOff = ⊤
IsSpeed (Speed generation) = IsSmall generation
IsSpeed (UdmaMode udma) = IsSmall udma

-- an act that there is
abbrev pub IsAct : Act → Type 0
IsAct (Accepted id) = IsId id
IsAct (Refused id why) = IsId id
IsAct (Issued id number tag deadline fis) = IsId id × IsLong number.n × IsTag tag × IsLong deadline.n × IsFrame fis
IsAct (Deferred id why) = IsId id
IsAct (Exclusive place) = IsPlace place
IsAct (Done number status error lba count) = IsLong number.n × IsSmall status × IsSmall error × IsLong lba × IsCount count
IsAct (Aborted number) = IsLong number.n
IsAct (AnsweredOk id number status error lba count stamps) = IsId id × IsLong number.n × IsSmall status × IsSmall error × IsLong lba × IsCount count × AreStamps stamps
IsAct (AnsweredFailed id number kinds status error lba count) = IsId id × IsLong number.n × IsKinds kinds.0 × IsSmall status × IsSmall error × IsLong lba × IsCount count
IsAct (AnsweredNodev id number) = IsId id × IsLong number.n
IsAct (Expired id number) = IsId id × IsLong number.n
IsAct (Condemned number kinds) = IsLong number.n × IsKinds kinds.0
IsAct (Log place tag status error lba count) = IsPlace place × IsTag tag × IsSmall status × IsSmall error × IsLong lba × IsCount count
IsAct (LogFailed place) = IsPlace place
IsAct (LogBadSum place) = IsPlace place
IsAct (LogNotQueued place) = IsPlace place
IsAct (Judged number kinds) = IsLong number.n × IsKinds kinds.0
IsAct (Recorded place io dubious kinds ncq_off speed_down pio keep action) = IsPlace place × IsKinds kinds.0 × IsSpeed action
IsAct (Cleared place) = IsPlace place
IsAct (Hot place generation) = IsPlace place × IsSmall generation
IsAct (Action place kinds remedy) = IsPlace place × IsKinds kinds.0
IsAct (ResetBegun place attempt deadline) = IsWhere place × IsSmall attempt × IsLong deadline.n
IsAct (ResetLate place) = IsWhere place
IsAct (ResetFailed place) = IsWhere place
IsAct (ResetEndedGen place generation) = IsPlace place × IsSmall generation
IsAct (ResetEndedNone place) = IsPlace place
IsAct (IdentAsked place attempt deadline) = IsPlace place × IsSmall attempt × IsLong deadline.n
IsAct (IdentLate place) = IsPlace place
IsAct (Identified place model serial sectors depth) = IsPlace place × IsName 40 model × IsName 20 serial × IsLong sectors × IsSmall depth
IsAct (Same place) = IsPlace place
IsAct (Attached place) = IsPlace place
IsAct (Detached place) = IsPlace place
IsAct (Disabled place) = IsPlace place
IsAct (Mode place udma ncq dubious) = IsPlace place × IsSmall udma
IsAct (Retried id number allowance_raised) = IsId id × IsLong number.n
IsAct (WaitingTag tag) = IsTag tag
IsAct (WaitingReset place) = IsPlace place
IsAct (WaitingIdent place) = IsPlace place
IsAct (Now at) = IsLong at.n
IsAct (Plugged place drive) = IsPlace place × IsTag drive
IsAct (Unplugged place) = IsPlace place
IsAct (Injected place) = IsPlace place
IsAct act = ⊤

-- an operation that there is
abbrev pub IsOp : Op → Type 0
IsOp (Read lba count) = IsLba lba × IsCount count
IsOp (Write lba count stamp) = IsLba lba × IsCount count × IsLong stamp
IsOp (Verify lba count) = IsLba lba × IsCount count
IsOp op = ⊤

-- how often a fault may come
abbrev pub IsTimes : ℕ → Type 0
IsTimes k = IsIn 1 100 k

-- a fault that there is
abbrev pub IsFault : Fault → Type 0
IsFault (Media lba) = IsLba lba
IsFault (Hang k) = IsTimes k
IsFault (Icrc k) = IsTimes k
IsFault (Abort k) = IsTimes k
IsFault (Df k) = IsTimes k
IsFault (BadStat k) = IsTimes k
IsFault (Idnf k) = IsTimes k
IsFault (LogFail k) = IsTimes k
IsFault (LogSum k) = IsTimes k
IsFault (LogNq k) = IsTimes k
IsFault (LogIdle k) = IsTimes k
IsFault (IdentFail k) = IsTimes k
IsFault (Serr bit) = ⊤

-- a step that there is
abbrev pub IsStep : Step → Type 0
IsStep (Submit id place op allow wait) = IsId id × IsPlace place × IsOp op × IsIn 0 100 allow × IsIn 1 1000000 wait
IsStep (Kick place) = IsPlace place
IsStep (Work place pick) = IsPlace place × IsTag pick
IsStep (Stray tag) = IsTag tag
IsStep (Tick ms) = IsIn 0 1000000 ms
IsStep (Plug place drive) = IsPlace place × IsTag drive
IsStep (Unplug place) = IsPlace place
IsStep (Inject place fault) = IsPlace place × IsFault fault
IsStep step = ⊤

-- who there is
abbrev pub IsWho : Who → Type 0
IsWho (Actor actor) = IsTag actor
IsWho who = ⊤
