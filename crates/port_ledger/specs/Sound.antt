use Rattle.std.specs.Prelude.{◌≡◌, ℕ, ◌+◌, ◌<◌, ◌≤◌, ◌^◌, false, List, Option, None, Some}
use Rattle.ata_base.specs.declared.cmd.Cmd.{Cmd}
use Rattle.ata_base.specs.declared.fault.Fault.{Fault}
use Rattle.ata_base.specs.declared.speed_action.SpeedAction.{SpeedAction}
use Rattle.ata_base.specs.declared.speed_action.SpeedAction.TheVariants.{Speed}
use Rattle.ata_script.specs.declared.port_head.PortHead.{PortHead}
use Rattle.ata_trace.specs.Event.{Event}
use Rattle.ata_trace.specs.declared.act.Act.{Act}
use Rattle.ata_trace.specs.declared.act.Act.TheVariants.{Accepted, AnsweredOk, Done, Hot, Injected, Issued, Now, Recorded, Retried}
use Rattle.ata_trace.specs.declared.step.Step.{Step}
use Rattle.ata_trace.specs.declared.step.Step.TheVariants.{Submit}
use Rattle.drive_model.specs.View.{DriveView}
use Rattle.link_model.specs.LinkView.{LinkView, IsGeneration}
use Rattle.port_past.specs.Commands.{commands, command_of, is_accepted}
use Rattle.port_past.specs.Drives.{drives}
use Rattle.port_past.specs.Issues.{issue_count}
use Rattle.port_past.specs.Links.{links, plugged_at}
use Rattle.port_past.specs.Steps.{last_step}
use Rattle.port_ledger.specs.Commands.{AsksForFew}
use Rattle.port_ledger.specs.DriveParts.{TakesFault, drive_in, fault_put}

-- a step submits a command, of at most 16 sectors
abbrev pub AskedForFew : Step → Type 0
AskedForFew (Submit id place op allow wait) = AsksForFew op
AskedForFew _ = ⊥

-- an accepted command has a new number, and its step asks for few sectors
abbrev pub IsNew : List Cmd → Step → Act → Type 0
IsNew accepted step (Accepted id) = (is_accepted id accepted ≡ false) × AskedForFew step
IsNew accepted step _ = Unit {0}

-- an issue has the next number
abbrev pub IsNext : ℕ → Act → Type 0
IsNext issues (Issued id number tag deadline fis) = number.n ≡ issues + 1
IsNext issues _ = Unit {0}

-- one retry more of a command can be counted
abbrev pub CanCount : Option Cmd → Type 0
CanCount None = Unit {0}
CanCount (Some c) = c.retries + 1 < 2 ^ 32

-- a command that is retried at its allowance's cost can be counted
abbrev pub IsCounted : List Cmd → Act → Type 0
IsCounted accepted (Retried id number false) = CanCount (command_of id accepted)
IsCounted accepted _ = Unit {0}

-- a fault that is put in, if one is, can be taken by this drive, if it is one
abbrev pub TakesSome : Option Fault → Option DriveView → Type 0
TakesSome None v = Unit {0}
TakesSome (Some fault) v = TakesFault fault v

-- a fault is one that the plugged drive can take
abbrev pub IsPut : Step → List LinkView → List DriveView → Act → Type 0
IsPut step cables views (Injected place) = TakesSome (fault_put step) (drive_in views (plugged_at cables place))
IsPut step cables views _ = Unit {0}

-- the registers with which a drive ends an issue have an lba of 48 bits
abbrev pub IsLow : Act → Type 0
IsLow (Done number status error lba count) = lba < 2 ^ 48
IsLow _ = Unit {0}

-- a link is limited to a generation
abbrev pub IsSpeed : SpeedAction → Type 0
IsSpeed (Speed generation) = IsGeneration generation
IsSpeed _ = Unit {0}

abbrev pub IsLimited : Act → Type 0
IsLimited (Hot place generation) = IsGeneration generation
IsLimited (Recorded place io in_doubt kinds ncq_off speed_down pio keep action) = IsSpeed action
IsLimited _ = Unit {0}

-- the time stays at most 2^62
abbrev pub IsEarly : Act → Type 0
IsEarly (Now time) = time.n ≤ 2 ^ 62
IsEarly _ = Unit {0}

-- an act answers a command with success
abbrev pub IsAnswerOk : Act → Type 0
IsAnswerOk (AnsweredOk id number status error lba count stamps) = Unit {0}
IsAnswerOk _ = ⊥

-- what the parts need to know of an act after a past; it says no more than they need to be safe, and nothing of what is
-- legal
pub record IsSound (head : PortHead) (past : List Event) (act : Act) : Type 0 where
  pub new : IsNew (commands past) (last_step past) act
  pub next : IsNext (issue_count past) act
  pub counted : IsCounted (commands past) act
  pub put : IsPut (last_step past) (links head past) (drives head past) act
  pub low : IsLow act
  pub limited : IsLimited act
  pub early : IsEarly act
