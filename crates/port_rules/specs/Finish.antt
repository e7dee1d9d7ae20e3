use Rattle.std.specs.Prelude.{ℕ, Bool, List, [], ◌∷◌, ◌++◌, Option, Some, None, unwrap_or, if◌then◌else◌}
use Rattle.ata_base.specs.declared.cmd.Cmd.{Cmd}
use Rattle.ata_base.specs.declared.issue_no.IssueNo.{IssueNo}
use Rattle.ata_base.specs.declared.regs.Regs.{Regs}
use Rattle.ata_trace.specs.Event.{Event}
use Rattle.ata_trace.specs.declared.act.Act.{Act}
use Rattle.ata_trace.specs.declared.act.Act.TheVariants.{AnsweredNodev, AnsweredFailed, Retried, Ended}
use Rattle.drive_model.specs.Work.{registers}
use Rattle.eh_flow.specs.Finish.{finish_of}
use Rattle.eh_flow.specs.declared.issue_finish.Finish.{Finish}
use Rattle.eh_flow.specs.declared.issue_finish.Finish.TheVariants.{NoDev, Retry, Fail}
use Rattle.host_tags.specs.declared.in_flight.InFlight.{InFlight}
use Rattle.port_past.specs.declared.judgement.Judgement.{Judgement}
use Rattle.port_past.specs.Commands.{commands, command_of, is_gone}
use Rattle.port_past.specs.Attachment.{detachments}
use Rattle.port_past.specs.Judged.{judged}
use Rattle.port_past.specs.Slots.{slots}

-- the registers that are told: those that were analysed, and zeros where none were
abbrev pub registers_told : Option Regs → Regs
registers_told regs = unwrap_or regs (registers 0 0 0 0)

-- a command that failed is answered with the kinds and the registers of its judgement
abbrev pub failed_act : Cmd → IssueNo → Judgement → Regs → Act
failed_act c number j r = AnsweredFailed c.id number j.kinds r.status r.error r.lba r.count

-- what becomes of an issue, told: its device is gone, or it is tried again, or it failed
abbrev pub told_finish : Cmd → IssueNo → Judgement → Finish → Act
told_finish c number j NoDev = AnsweredNodev c.id number
told_finish c number j (Retry allowance_raised) = Retried c.id number allowance_raised
told_finish c number j Fail = failed_act c number j (registers_told j.regs)

-- the finish of an issue, by its final kinds and whether its device is gone
abbrev pub finish_act : Cmd → IssueNo → Judgement → Bool → Act
finish_act c number j gone = told_finish c number j (finish_of c j.kinds gone)

-- the finish of an issue of a command, which was accepted
abbrev pub issue_finish : List ℕ → IssueNo → Judgement → Option Cmd → List Act
issue_finish counts number j None = []
issue_finish counts number j (Some c) = finish_act c number j (is_gone c counts) ∷ []

-- the finish of each owned issue, in tag order; each was judged
abbrev pub finishes : List Cmd → List ℕ → List (Option InFlight) → List (Option Judgement) → List Act
finishes accepted counts (Some f ∷ flights) (Some j ∷ judgements) =
    (if f.owned then issue_finish counts f.number j (command_of f.id accepted) else [])
    ++ finishes accepted counts flights judgements
finishes accepted counts (slot ∷ flights) (j ∷ judgements) = finishes accepted counts flights judgements
finishes accepted counts _ _ = []

-- the acts of the finish
abbrev pub finish_acts : List Event → List Act
finish_acts past = finishes (commands past) (detachments past) (slots past) (judged past) ++ Ended ∷ []
