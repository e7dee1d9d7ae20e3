-- How late an open reset and an open identity may be, and when the drives are ready.
use Rattle.std.proofs.Common.{◌≡◌, ℕ, ◌+◌, ◌≤◌, true, false, List, [], ◌∷◌, map, Option, None, Some, refl, arith}
use Rattle.ata_base.proofs.EachLemmas.{every_weaker, every_set, every_same}
use Rattle.ata_base.specs.Each.{Each}
use Rattle.ata_base.specs.declared.cmd.Cmd.{Cmd}
use Rattle.ata_base.specs.declared.fault.Fault.{Fault}
use Rattle.ata_base.specs.declared.fault.Fault.TheVariants.{Media}
use Rattle.ata_base.specs.declared.issue_no.IssueNo.{IssueNo}
use Rattle.ata_base.specs.declared.regs.Regs.{Regs}
use Rattle.ata_script.specs.declared.drive_head.DriveHead.{DriveHead}
use Rattle.ata_script.specs.declared.port_head.PortHead.{PortHead}
use Rattle.ata_trace.specs.Event.{Event}
use Rattle.ata_trace.specs.Event.Event.{Told}
use Rattle.ata_trace.specs.declared.act.Act.TheVariants.{Begun, Issued, Done, ResetBegun, ResetLate, ResetFailed, ResetEndedGen, ResetEndedNone, IdentAsked, IdentLate, Mode, Now, Unplugged, Injected, Log, LogFailed, LogBadSum, LogNotQueued}
use Rattle.ata_trace.specs.declared.step.Step.{Step}
use Rattle.ata_trace.specs.declared.step.Step.TheVariants.{Inject}
use Rattle.drive_model.specs.FreshAndReset.{fresh, emptied, reset_at}
use Rattle.drive_model.specs.Holding.{issue_of, taken}
use Rattle.drive_model.specs.Inject.{injected}
use Rattle.drive_model.specs.Log.{after_asking}
use Rattle.drive_model.specs.Told.{ended_with, with_done, log_read}
use Rattle.drive_model.specs.View.{DriveView}
use Rattle.drive_model.specs.Work.{registers}
use Rattle.drive_model.specs.declared.held.Held.{Held}
use Rattle.drive_model.specs.declared.log_told.LogTold.{LogTold}
use Rattle.drive_model.specs.declared.log_told.LogTold.TheVariants.{Page, BadPage, NoPage}
use Rattle.host_tags.specs.Slots.{lowest_free}
use Rattle.port_facts.specs.Allowed.{IsAllowed, longest_try}
use Rattle.port_past.proofs.EachAt.{every_changed, every_changed_some}
use Rattle.port_past.specs.Clock.{clock}
use Rattle.port_past.specs.Commands.{commands, command_of}
use Rattle.port_past.specs.Drives.{drives, with_fault, with_issue}
use Rattle.port_past.specs.Links.{links, linked_at, plugged_at, worker}
use Rattle.port_past.specs.Places.{changed_at_some}
use Rattle.port_past.specs.PlaceTold.{late, place_told}
use Rattle.port_past.specs.Slots.{slots, is_queued_frame}
use Rattle.port_past.specs.Steps.{last_step}
use Rattle.port_past.specs.declared.place_told.PlaceTold.{PlaceTold}
use Rattle.port_past.specs.declared.place_told.PlaceTold.TheVariants.{NotBegun, ResetBegun as ToldResetBegun, ResetEnded as ToldResetEnded, ResetFailed as ToldResetFailed, IdentAsked as ToldIdentAsked, IdentLate as ToldIdentLate, Mode as ToldMode}

-- ---- what was told of a place

-- an open try is late within the longest try from now on
abbrev pub IsNear : ℕ → PlaceTold → Type 0
IsNear now (ToldResetBegun attempt deadline) = deadline.n ≤ now + longest_try
IsNear now (ToldIdentAsked deadline) = deadline.n ≤ now + longest_try
IsNear now _ = Unit {0}

near_late : (now : ℕ) (told : PlaceTold) → IsNear now told → IsNear now (late told)
near_late now (ToldResetBegun attempt deadline) near = tt
near_late now told near = near

later_near : (now later : ℕ) → now ≤ later → (told : PlaceTold) → IsNear now told → IsNear later told
later_near now later on (ToldResetBegun attempt deadline) near = omega (arith, near, on)
later_near now later on (ToldIdentAsked deadline) near = omega (arith, near, on)
later_near now later on told near = tt

-- so it is at each place, at every moment
pub told_near : (head : PortHead) (past : List Event) → IsAllowed head past → Each (IsNear (clock past)) (place_told past)
told_near head [] h = every_same (IsNear 0) 15 NotBegun tt
told_near head (Told Begun ∷ past) h = every_same (IsNear (clock past)) 15 NotBegun tt
told_near head (Told (ResetBegun (Some place) attempt deadline) ∷ past) h =
    every_set (IsNear (clock past)) (place_told past) place (ToldResetBegun attempt deadline) (told_near head past h.1) h.0.near
told_near head (Told (ResetLate (Some place)) ∷ past) h =
    every_changed (IsNear (clock past)) place late (place_told past) (near_late (clock past)) (told_near head past h.1)
told_near head (Told (ResetEndedGen place generation) ∷ past) h =
    every_set (IsNear (clock past)) (place_told past) place (ToldResetEnded true) (told_near head past h.1) tt
told_near head (Told (ResetEndedNone place) ∷ past) h =
    every_set (IsNear (clock past)) (place_told past) place (ToldResetEnded false) (told_near head past h.1) tt
told_near head (Told (ResetFailed (Some place)) ∷ past) h =
    every_set (IsNear (clock past)) (place_told past) place ToldResetFailed (told_near head past h.1) tt
told_near head (Told (IdentAsked place attempt deadline) ∷ past) h =
    every_set (IsNear (clock past)) (place_told past) place (ToldIdentAsked deadline) (told_near head past h.1) h.0
told_near head (Told (IdentLate place) ∷ past) h =
    every_set (IsNear (clock past)) (place_told past) place ToldIdentLate (told_near head past h.1) tt
told_near head (Told (Mode place udma ncq dubious) ∷ past) h =
    every_set (IsNear (clock past)) (place_told past) place ToldMode (told_near head past h.1) tt
told_near head (Told (Now time) ∷ past) h =
    every_weaker (IsNear (clock past)) (IsNear time.n) (later_near (clock past) time.n h.0) (place_told past) (told_near head past h.1)
told_near head (event ∷ past) h = told_near head past h.1

-- ---- drives

-- how long a drive may take until it is ready, in ms
abbrev pub longest_ready : ℕ
longest_ready = 60000

-- a drive is ready within that time
pub record IsReadySoon (now : ℕ) (v : DriveView) : Type 0 where
  pub short : v.ready.n ≤ longest_ready
  pub soon : v.ready_at.n ≤ now + longest_ready

-- a drive that takes as long and is ready at the same time
same_soon : (now : ℕ) (v w : DriveView) → w.ready ≡ v.ready → w.ready_at ≡ v.ready_at → IsReadySoon now v → IsReadySoon now w
same_soon now v w ready at is = record { short = rw ready is.short; soon = rw at is.soon }

fresh_soon : (ds : List DriveHead) → Each (IsReadySoon 0) (map (λ (d : DriveHead). fresh d.identity d.ready) ds)
fresh_soon [] = tt
fresh_soon (d ∷ ds) = (record { short = d.wait; soon = omega arith }, fresh_soon ds)

ended_soon : (now : ℕ) (regs : Regs) (held : Option Held) (v : DriveView) → IsReadySoon now v → IsReadySoon now (ended_with regs held v)
ended_soon now regs None v is = is
ended_soon now regs (Some h) v is = same_soon now v (ended_with regs (Some h) v) refl refl is

read_soon : (now : ℕ) (idle : Option ℕ) (told : LogTold) (v : DriveView) → IsReadySoon now v → IsReadySoon now (log_read idle told v)
read_soon now idle (Page tag regs) v is = same_soon now v (log_read idle (Page tag regs) v) refl refl is
read_soon now idle BadPage v is = same_soon now v (log_read idle BadPage v) refl refl is
read_soon now idle NoPage v is = same_soon now v (log_read idle NoPage v) refl refl is

injected_soon : (now : ℕ) (fault : Fault) (v : DriveView) → IsReadySoon now v → IsReadySoon now (injected fault v)
injected_soon now (Media lba) v is = same_soon now v (injected (Media lba) v) refl refl is
injected_soon now fault v is = same_soon now v (injected fault v) refl refl is

fault_soon : (now : ℕ) (step : Step) (v : DriveView) → IsReadySoon now v → IsReadySoon now (with_fault step v)
fault_soon now (Inject place fault) v is = injected_soon now fault v is
fault_soon now step v is = is

issue_soon :
    (head : PortHead) (past : List Event) (number : IssueNo) (tag : ℕ) (fis : List ℕ) (found : Option Cmd)
    → Each (IsReadySoon (clock past)) (drives head past)
    → Each (IsReadySoon (clock past)) (with_issue found number tag fis (links head past) (drives head past))
issue_soon head past number tag fis None all = all
issue_soon head past number tag fis (Some c) all =
    every_changed_some (IsReadySoon (clock past)) (linked_at (links head past) c.place) (taken number tag c.op (is_queued_frame fis)) (drives head past)
    (λ v is. same_soon (clock past) v (taken number tag c.op (is_queued_frame fis) v) refl refl is) all

log_soon :
    (head : PortHead) (past : List Event) (place : ℕ) (told : LogTold) → Each (IsReadySoon (clock past)) (drives head past)
    → Each (IsReadySoon (clock past)) (changed_at_some (linked_at (links head past) place) (log_read (lowest_free (slots past)) told) (drives head past))
log_soon head past place told all =
    every_changed_some (IsReadySoon (clock past)) (linked_at (links head past) place) (log_read (lowest_free (slots past)) told) (drives head past)
    (read_soon (clock past) (lowest_free (slots past)) told) all

-- so is each drive, at every moment
pub ready_soon : (head : PortHead) (past : List Event) → IsAllowed head past → Each (IsReadySoon (clock past)) (drives head past)
ready_soon head [] h = fresh_soon head.drives
ready_soon head (Told (Issued id number tag deadline fis) ∷ past) h =
    issue_soon head past number tag fis (command_of id (commands past)) (ready_soon head past h.1)
ready_soon head (Told (Done number status error lba count) ∷ past) h =
    every_changed_some (IsReadySoon (clock past)) (worker (last_step past) (links head past)) (with_done number.n (registers status error lba count)) (drives head past)
    (λ v is. ended_soon (clock past) (registers status error lba count) (issue_of number.n v.held) v is) (ready_soon head past h.1)
ready_soon head (Told (ResetBegun (Some place) attempt deadline) ∷ past) h =
    every_changed_some (IsReadySoon (clock past)) (plugged_at (links head past) place) (reset_at (record { n = clock past })) (drives head past)
    (λ v is. record { short = is.short; soon = omega (arith, is.short) }) (ready_soon head past h.1)
ready_soon head (Told (IdentAsked place attempt deadline) ∷ past) h =
    every_changed_some (IsReadySoon (clock past)) (linked_at (links head past) place) after_asking (drives head past)
    (λ v is. same_soon (clock past) v (after_asking v) refl refl is) (ready_soon head past h.1)
ready_soon head (Told (Unplugged place) ∷ past) h =
    every_changed_some (IsReadySoon (clock past)) (plugged_at (links head past) place) emptied (drives head past)
    (λ v is. same_soon (clock past) v (emptied v) refl refl is) (ready_soon head past h.1)
ready_soon head (Told (Injected place) ∷ past) h =
    every_changed_some (IsReadySoon (clock past)) (plugged_at (links head past) place) (with_fault (last_step past)) (drives head past)
    (fault_soon (clock past) (last_step past)) (ready_soon head past h.1)
ready_soon head (Told (Log place tag status error lba count) ∷ past) h = log_soon head past place (Page tag (registers status error lba count)) (ready_soon head past h.1)
ready_soon head (Told (LogFailed place) ∷ past) h = log_soon head past place NoPage (ready_soon head past h.1)
ready_soon head (Told (LogBadSum place) ∷ past) h = log_soon head past place BadPage (ready_soon head past h.1)
ready_soon head (Told (LogNotQueued place) ∷ past) h = log_soon head past place BadPage (ready_soon head past h.1)
ready_soon head (Told (Now time) ∷ past) h =
    every_weaker (IsReadySoon (clock past)) (IsReadySoon time.n)
    (λ v is. record { short = is.short; soon = omega (arith, is.soon, h.0) }) (drives head past) (ready_soon head past h.1)
ready_soon head (event ∷ past) h = ready_soon head past h.1
