-- A drive stays who it is: what is told changes no identity.
use Rattle.std.proofs.Common.{◌≡◌, ◌∙◌, ℕ, zero, suc, List, [], ◌∷◌, Option, Some, None, map, slice_get, refl, sym, ap}
use Rattle.std.specs.Prelude.{option_map, option_and_then}
use Rattle.std.proofs.lemmas.Option.{slice_get-map}
use Rattle.ata_base.specs.declared.cmd.Cmd.{Cmd}
use Rattle.ata_base.specs.declared.fault.Fault.{Fault}
use Rattle.ata_base.specs.declared.fault.Fault.TheVariants.{Media}
use Rattle.ata_base.specs.declared.identity.Identity.{Identity}
use Rattle.ata_base.specs.declared.issue_no.IssueNo.{IssueNo}
use Rattle.ata_base.specs.declared.regs.Regs.{Regs}
use Rattle.ata_script.specs.declared.drive_head.DriveHead.{DriveHead}
use Rattle.ata_script.specs.declared.port_head.PortHead.{PortHead}
use Rattle.ata_trace.specs.Event.{Event}
use Rattle.ata_trace.specs.Event.Event.{Told}
use Rattle.ata_trace.specs.declared.act.Act.TheVariants.{Issued, Done, ResetBegun, IdentAsked, Unplugged, Injected, Log, LogFailed, LogBadSum, LogNotQueued}
use Rattle.ata_trace.specs.declared.step.Step.{Step}
use Rattle.ata_trace.specs.declared.step.Step.TheVariants.{Inject}
use Rattle.drive_model.specs.FreshAndReset.{fresh, emptied, reset_at}
use Rattle.drive_model.specs.Holding.{issue_of, taken}
use Rattle.drive_model.specs.Inject.{injected}
use Rattle.drive_model.specs.Log.{after_asking}
use Rattle.drive_model.specs.Told.{ended_with, with_done, log_read}
use Rattle.drive_model.specs.View.{DriveView}
use Rattle.drive_model.specs.Work.{registers}
use Rattle.drive_model.specs.declared.held.Held.{Held}
use Rattle.drive_model.specs.declared.log_told.LogTold.{LogTold}
use Rattle.drive_model.specs.declared.log_told.LogTold.TheVariants.{Page, BadPage, NoPage}
use Rattle.host_tags.specs.Slots.{lowest_free}
use Rattle.link_model.specs.LinkView.{LinkView}
use Rattle.port_past.specs.Clock.{clock}
use Rattle.port_past.specs.Commands.{commands, command_of}
use Rattle.port_past.specs.Drives.{drives, drive_at, with_fault, with_issue}
use Rattle.port_past.specs.Heads.{identity_of}
use Rattle.port_past.specs.Links.{links, linked_at, plugged_at, worker}
use Rattle.port_past.specs.Places.{changed_at, changed_at_some}
use Rattle.port_past.specs.Slots.{slots, is_queued_frame}
use Rattle.port_past.specs.Steps.{last_step}

-- the identities of drives
abbrev identities : List DriveView → List Identity
identities views = map (λ (v : DriveView). v.identity) views

-- a change of a drive that leaves its identity
abbrev KeepsIdentity : (DriveView → DriveView) → Type 0
KeepsIdentity change = (v : DriveView) → (change v).identity ≡ v.identity

kept_at :
    (at : ℕ) (change : DriveView → DriveView) (views : List DriveView) → KeepsIdentity change
    → identities (changed_at at change views) ≡ identities views
kept_at at change [] keeps = refl
kept_at zero change (v ∷ views) keeps = ap (λ i. i ∷ identities views) (keeps v)
kept_at (suc at) change (v ∷ views) keeps = ap (λ rest. v.identity ∷ rest) (kept_at at change views keeps)

kept_some :
    (at : Option ℕ) (change : DriveView → DriveView) (views : List DriveView) → KeepsIdentity change
    → identities (changed_at_some at change views) ≡ identities views
kept_some None change views keeps = refl
kept_some (Some at) change views keeps = kept_at at change views keeps

-- ---- the changes that are told

kept_ended : (regs : Regs) (h : Option Held) → KeepsIdentity (ended_with regs h)
kept_ended regs None v = refl
kept_ended regs (Some h) v = refl

kept_read : (idle : Option ℕ) (told : LogTold) → KeepsIdentity (log_read idle told)
kept_read idle (Page tag regs) v = refl
kept_read idle BadPage v = refl
kept_read idle NoPage v = refl

kept_injected : (fault : Fault) → KeepsIdentity (injected fault)
kept_injected (Media lba) v = refl
kept_injected fault v = refl

kept_fault : (step : Step) → KeepsIdentity (with_fault step)
kept_fault (Inject place fault) v = kept_injected fault v
kept_fault step v = refl

kept_issue :
    (c : Option Cmd) (number : IssueNo) (tag : ℕ) (fis : List ℕ) (cables : List LinkView) (views : List DriveView)
    → identities (with_issue c number tag fis cables views) ≡ identities views
kept_issue None number tag fis cables views = refl
kept_issue (Some c) number tag fis cables views =
    kept_some (linked_at cables c.place) (taken number tag c.op (is_queued_frame fis)) views (λ v. refl)

kept_log :
    (head : PortHead) (past : List Event) (place : ℕ) (told : LogTold)
    → identities
    (changed_at_some (linked_at (links head past) place) (log_read (lowest_free (slots past)) told) (drives head past))
    ≡ identities (drives head past)
kept_log head past place told =
    kept_some (linked_at (links head past) place) (log_read (lowest_free (slots past)) told) (drives head past)
    (kept_read (lowest_free (slots past)) told)

kept_fresh :
    (heads : List DriveHead)
    → identities (map (λ (d : DriveHead). fresh d.identity d.ready) heads) ≡ map (λ (d : DriveHead). d.identity) heads
kept_fresh [] = refl
kept_fresh (d ∷ heads) = ap (λ rest. d.identity ∷ rest) (kept_fresh heads)

-- each drive is who its head says
stays :
    (head : PortHead) (past : List Event)
    → identities (drives head past) ≡ map (λ (d : DriveHead). d.identity) head.drives
stays head [] = kept_fresh head.drives
stays head (Told (Issued id number tag deadline fis) ∷ past) =
    kept_issue (command_of id (commands past)) number tag fis (links head past) (drives head past) ∙ stays head past
stays head (Told (Done number status error lba count) ∷ past) =
    kept_some (worker (last_step past) (links head past)) (with_done number.n (registers status error lba count))
    (drives head past) (λ v. kept_ended (registers status error lba count) (issue_of number.n v.held) v)
    ∙ stays head past
stays head (Told (ResetBegun (Some place) attempt deadline) ∷ past) =
    kept_some (plugged_at (links head past) place) (reset_at (record { n = clock past })) (drives head past)
    (λ v. refl)
    ∙ stays head past
stays head (Told (IdentAsked place attempt deadline) ∷ past) =
    kept_some (linked_at (links head past) place) after_asking (drives head past) (λ v. refl) ∙ stays head past
stays head (Told (Unplugged place) ∷ past) =
    kept_some (plugged_at (links head past) place) emptied (drives head past) (λ v. refl) ∙ stays head past
stays head (Told (Injected place) ∷ past) =
    kept_some (plugged_at (links head past) place) (with_fault (last_step past)) (drives head past)
    (kept_fault (last_step past))
    ∙ stays head past
stays head (Told (Log place tag status error lba count) ∷ past) =
    kept_log head past place (Page tag (registers status error lba count)) ∙ stays head past
stays head (Told (LogFailed place) ∷ past) = kept_log head past place NoPage ∙ stays head past
stays head (Told (LogBadSum place) ∷ past) = kept_log head past place BadPage ∙ stays head past
stays head (Told (LogNotQueued place) ∷ past) = kept_log head past place BadPage ∙ stays head past
stays head (event ∷ past) = stays head past

-- the drive of a number
numbered :
    (head : PortHead) (past : List Event) (d : ℕ)
    → option_map (λ (v : DriveView). v.identity) (slice_get (drives head past) d) ≡ identity_of head.drives d
numbered head past d =
    sym (slice_get-map (λ (v : DriveView). v.identity) (drives head past) d)
    ∙ ap (λ found. slice_get found d) (stays head past)
    ∙ slice_get-map (λ (h : DriveHead). h.identity) head.drives d

linked_by :
    (head : PortHead) (past : List Event) (number : Option ℕ)
    → option_map (λ (v : DriveView). v.identity) (option_and_then (slice_get (drives head past)) number)
    ≡ option_and_then (identity_of head.drives) number
linked_by head past None = refl
linked_by head past (Some d) = numbered head past d

-- the drive that is linked at a place is who its head says
pub identity_linked :
    (head : PortHead) (past : List Event) (place : ℕ)
    → option_map (λ (v : DriveView). v.identity) (drive_at head past place)
    ≡ option_and_then (identity_of head.drives) (linked_at (links head past) place)
identity_linked head past place = linked_by head past (linked_at (links head past) place)
