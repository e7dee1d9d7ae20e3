use Rattle.std.specs.Prelude.{ℕ, ◌+◌, ◌^◌, Bool, List, Option, fold}
use Rattle.ata_base.specs.declared.err_mask.ErrMask.{ErrMask}
use Rattle.ata_base.specs.declared.link_action.LinkAction.{LinkAction}
use Rattle.ata_base.specs.declared.speed_action.SpeedAction.{SpeedAction}
use Rattle.ata_trace.specs.declared.act.Act.{Act}
use Rattle.ata_trace.specs.declared.act.Act.TheVariants.{Issued, Done, Aborted, AnsweredOk, AnsweredFailed, AnsweredNodev, Expired, Condemned, Judged, Recorded, Action, ResetBegun, IdentAsked, Retried, Now}
use Rattle.port_worked.specs.Bytes.{bytes}

-- Acts as a journal's lines have them: numbers in place of the records round them, kinds of error as a list.

-- a set of kinds
abbrev pub set_of : List ℕ → ErrMask
set_of kinds = record { 0 = fold (λ mask kind. mask + 2 ^ kind) 0 kinds }

-- `issued`: the frame is the text of its bytes in hexadecimal digits
abbrev pub issued : (id number tag deadline : ℕ) → (frame : List ℕ) → Act
issued id number tag deadline frame = Issued id (record { n = number }) tag (record { n = deadline }) (bytes frame)

-- `done`
abbrev pub done : (number status error lba count : ℕ) → Act
done number status error lba count = Done (record { n = number }) status error lba count

-- `aborted`
abbrev pub aborted : (number : ℕ) → Act
aborted number = Aborted (record { n = number })

-- `answered .. ok`
abbrev pub answered_ok : (id number status error lba count : ℕ) → (stamps : List ℕ) → Act
answered_ok id number status error lba count stamps = AnsweredOk id (record { n = number }) status error lba count stamps

-- `answered .. failed`
abbrev pub answered_failed : (id number : ℕ) → (kinds : List ℕ) → (status error lba count : ℕ) → Act
answered_failed id number kinds status error lba count =
    AnsweredFailed id (record { n = number }) (set_of kinds) status error lba count

-- `answered .. nodev`
abbrev pub answered_nodev : (id number : ℕ) → Act
answered_nodev id number = AnsweredNodev id (record { n = number })

-- `expired`
abbrev pub expired : (id number : ℕ) → Act
expired id number = Expired id (record { n = number })

-- `condemned`
abbrev pub condemned : (number : ℕ) → (kinds : List ℕ) → Act
condemned number kinds = Condemned (record { n = number }) (set_of kinds)

-- `judged`
abbrev pub judged : (number : ℕ) → (kinds : List ℕ) → Act
judged number kinds = Judged (record { n = number }) (set_of kinds)

-- `recorded`: io, in doubt, the kinds; of the verdict ncq-off, speed-down, pio and keep; the action
abbrev pub recorded : (place : ℕ) (io dubious : Bool) (kinds : List ℕ) (ncq_off speed_down pio keep : Bool) → SpeedAction → Act
recorded place io dubious kinds ncq_off speed_down pio keep action =
    Recorded place io dubious (set_of kinds) ncq_off speed_down pio keep action

-- `action`
abbrev pub action : (place : ℕ) → (kinds : List ℕ) → LinkAction → Act
action place kinds what = Action place (set_of kinds) what

-- `reset-begun`: of a place, or of none, the host
abbrev pub reset_begun : (place : Option ℕ) → (attempt deadline : ℕ) → Act
reset_begun place attempt deadline = ResetBegun place attempt (record { n = deadline })

-- `ident-asked`
abbrev pub ident_asked : (place attempt deadline : ℕ) → Act
ident_asked place attempt deadline = IdentAsked place attempt (record { n = deadline })

-- `retried`
abbrev pub retried : (id number : ℕ) → (allowance_raised : Bool) → Act
retried id number allowance_raised = Retried id (record { n = number }) allowance_raised

-- `now`
abbrev pub now : (time : ℕ) → Act
now time = Now (record { n = time })
