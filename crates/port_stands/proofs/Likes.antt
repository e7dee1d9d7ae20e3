-- Drives and links after the acts that change them, as they were or idle; and what acts leave of all but the gate.
use Rattle.drive_model.specs.Told.{log_read}
use Rattle.std.proofs.Common.{◌≡◌, ◌≢◌, ◌∙◌, ℕ, Bool, true, false, List, ◌∷◌, Option, None, Some, ◌⊎◌, inl, inr, slice_get, refl, sym, ap, subst}
use Rattle.std.specs.List.{list_all}
use Rattle.ata_base.specs.declared.ms.Ms.{Ms}
use Rattle.ata_script.specs.declared.port_head.PortHead.{PortHead}
use Rattle.ata_trace.specs.Event.{Event, onto}
use Rattle.ata_trace.specs.Event.Event.{Told}
use Rattle.ata_trace.specs.declared.act.Act.{Act}
use Rattle.ata_trace.specs.declared.act.Act.TheVariants.{Accepted, Refused, Deferred, Exclusive, Raised, Lost, AnsweredOk, AnsweredFailed, AnsweredNodev, Expired, Drained, Condemned, Frozen, Requested, Now, Nothing, WaitingTag, WaitingReset, WaitingIdent, Aborted, Retried}
use Rattle.drive_model.specs.FreshAndReset.{emptied, reset_at}
use Rattle.drive_model.specs.View.{DriveView}
use Rattle.link_model.specs.LinkView.{LinkView, empty_link, linked_drive, with_plugged, after_reset}
use Rattle.port_past.specs.Causes.{tferr}
use Rattle.port_past.specs.Drives.{drives}
use Rattle.port_past.specs.Links.{links, link_at, plugged_at, linked_at}
use Rattle.port_past.specs.Logs.{logs}
use Rattle.port_past.specs.Noted.{tferr_noted}
use Rattle.port_past.specs.Places.{changed_at, changed_at_some}
use Rattle.eh_autopsy.specs.declared.failed_issue.FailedIssue.{FailedIssue}
use Rattle.drive_model.specs.declared.log_told.LogTold.{LogTold}
use Rattle.drive_model.specs.declared.log_told.LogTold.TheVariants.{Page, BadPage, NoPage}
use Rattle.port_stands.proofs.Blocks.{left_alone}
use Rattle.port_stands.proofs.Driven.{get_changed_if, read_change, linked_plugged}
use Rattle.port_stands.proofs.Handled.{IsLike}
use Rattle.port_stands.specs.Handled.{IsIdle, HandlingView}
use Rattle.port_stands.specs.Words.{RecoveryView, recovery}

-- all that handling goes by, but slots and frost
pub record Back : Type 0 where
  pub recovery : RecoveryView
  pub links : List LinkView
  pub drives : List DriveView
  pub failures : List (Option FailedIssue)
  pub noted : List (Option FailedIssue)
  pub logs : List (Option LogTold)

abbrev pub back : PortHead → List Event → Back
back head past = record {
  recovery = recovery head past;
  links = links head past;
  drives = drives head past;
  failures = tferr past;
  noted = tferr_noted past;
  logs = logs past;
}

-- an act that leaves all that
abbrev pub is_behind : Act → Bool
is_behind (Accepted id) = true
is_behind (Refused id why) = true
is_behind (Deferred id why) = true
is_behind (Exclusive place) = true
is_behind (Aborted number) = true
is_behind Raised = true
is_behind Lost = true
is_behind (AnsweredOk id number status error lba count stamps) = true
is_behind (AnsweredFailed id number kinds status error lba count) = true
is_behind (AnsweredNodev id number) = true
is_behind (Retried id number raised) = true
is_behind (Expired id number) = true
is_behind Drained = true
is_behind (Condemned number kinds) = true
is_behind Frozen = true
is_behind Requested = true
is_behind (Now at) = true
is_behind (WaitingTag tag) = true
is_behind (WaitingReset place) = true
is_behind (WaitingIdent place) = true
is_behind Nothing = true
is_behind act = false

back_step : (head : PortHead) (past : List Event) (act : Act) → is_behind act ≡ true → back head (Told act ∷ past) ≡ back head past
back_step head past (Accepted id) is = refl
back_step head past (Refused id why) is = refl
back_step head past (Deferred id why) is = refl
back_step head past (Exclusive place) is = refl
back_step head past (Aborted number) is = refl
back_step head past Raised is = refl
back_step head past Lost is = refl
back_step head past (AnsweredOk id number status error lba count stamps) is = refl
back_step head past (AnsweredFailed id number kinds status error lba count) is = refl
back_step head past (AnsweredNodev id number) is = refl
back_step head past (Retried id number raised) is = refl
back_step head past (Expired id number) is = refl
back_step head past Drained is = refl
back_step head past (Condemned number kinds) is = refl
back_step head past Frozen is = refl
back_step head past Requested is = refl
back_step head past (Now at) is = refl
back_step head past (WaitingTag tag) is = refl
back_step head past (WaitingReset place) is = refl
back_step head past (WaitingIdent place) is = refl
back_step head past Nothing is = refl
back_step head past act is = absurd (cc)

pub back_left : (head : PortHead) (past : List Event) (acts : List Act) → list_all is_behind acts ≡ true → back head (onto past acts) ≡ back head past
back_left head past acts all = left_alone is_behind (back head) (back_step head) past acts all

-- ---- drives and links, as they were or idle

pub like_self : (s : HandlingView) (x d : ℕ) (v : DriveView) → linked_at s.links x ≡ Some d → slice_get s.drives d ≡ Some v → IsLike s x d v
like_self s x d v linked at = record { view = v; linked = linked; was = at; now = inr (refl, refl) }

emptied_like :
    (s : HandlingView) (g : DriveView → DriveView) → ((v : DriveView) → IsIdle (g v)) → (at : Option ℕ) (x d : ℕ) (v : DriveView)
    → linked_at s.links x ≡ Some d → slice_get (changed_at_some at g s.drives) d ≡ Some v → IsLike s x d v
emptied_like s g idle at x d v linked is =
    let w = get_changed_if s.drives at g d v is in
    record {
      view = w.x;
      linked = linked;
      was = w.was;
      now = elim w.now [
        | inl here ↦ inl (subst IsIdle (sym here.1) (idle w.x))
        | inr other ↦ inr (ap (λ (y : DriveView). y.held) other.1, ap (λ (y : DriveView). y.stopped) other.1)
      ];
    }

pub like_unplugged :
    (s : HandlingView) (place x d : ℕ) (v : DriveView) → linked_at (changed_at place (with_plugged None) s.links) x ≡ Some d
    → slice_get (changed_at_some (plugged_at s.links place) emptied s.drives) d ≡ Some v → IsLike s x d v
like_unplugged s place x d v linked is =
    elim (read_change s.links place x (with_plugged None) empty_link) [
      | inl here ↦ absurd (cc (ap linked_drive here.1, linked))
      | inr there ↦ emptied_like s emptied (λ v. record { holds = refl; stopped = refl }) (plugged_at s.links place) x d v (sym (ap linked_drive there.0) ∙ linked) is
    ]

pub like_plugged :
    (s : HandlingView) (place drive x d : ℕ) (v : DriveView) → linked_at (changed_at place (with_plugged (Some drive)) s.links) x ≡ Some d
    → slice_get s.drives d ≡ Some v → IsLike s x d v
like_plugged s place drive x d v linked is =
    elim (read_change s.links place x (with_plugged (Some drive)) empty_link) [
      | inl here ↦ absurd (cc (ap linked_drive here.1, linked))
      | inr there ↦ like_self s x d v (sym (ap linked_drive there.0) ∙ linked) is
    ]

-- links and drives that keep what is linked, held and stopped
pub like_kept :
    (s : HandlingView) (ls : List LinkView) (ds : List DriveView) → ((x : ℕ) → linked_at ls x ≡ linked_at s.links x)
    → ((d : ℕ) (v : DriveView) → slice_get ds d ≡ Some v
    → (w : DriveView) × ((slice_get s.drives d ≡ Some w) × ((v.held ≡ w.held) × (v.stopped ≡ w.stopped))))
    → (x d : ℕ) (v : DriveView) → linked_at ls x ≡ Some d → slice_get ds d ≡ Some v → IsLike s x d v
like_kept s ls ds linked views x d v at is =
    let w = views d v is in
    record { view = w.0; linked = sym (linked x) ∙ at; was = w.1.0; now = inr w.1.1 }

-- after the reset of a place its drive is idle, and those of others are as they were or idle
pub like_reset :
    (s : HandlingView) (clock : Ms) (place x d : ℕ) (v : DriveView) → linked_at (changed_at place after_reset s.links) x ≡ Some d
    → slice_get (changed_at_some (plugged_at s.links place) (reset_at clock) s.drives) d ≡ Some v
    → ((x ≡ place) × IsIdle v) ⊎ ((x ≢ place) × IsLike s x d v)
like_reset s clock place x d v linked is =
    elim (read_change s.links place x after_reset empty_link) [
      | inl here ↦
          let plug : plugged_at s.links place ≡ Some d =
          ap (plugged_at s.links) (sym here.0) ∙ linked_plugged (after_reset (link_at s.links x)) d (sym (ap linked_drive here.1) ∙ linked) in
          let w = get_changed_if s.drives (plugged_at s.links place) (reset_at clock) d v is in
          elim w.now [
            | inl at ↦ inl (here.0, subst IsIdle (sym at.1) (record { holds = refl; stopped = refl }))
            | inr other ↦ absurd (other.0 plug)
          ]
      | inr there ↦ inr (
        (λ e. cc (ap linked_drive (there.1 e), ap linked_drive there.0, linked)),
        emptied_like s (reset_at clock) (λ v. record { holds = refl; stopped = refl }) (plugged_at s.links place) x d v (sym (ap linked_drive there.0) ∙ linked) is,
      )
    ]

log_like : (idle : Option ℕ) (told : LogTold) (v : DriveView) → (IsIdle (log_read idle told v)) ⊎ (((log_read idle told v).held ≡ v.held) × ((log_read idle told v).stopped ≡ v.stopped))
log_like idle NoPage v = inr (refl, refl)
log_like idle BadPage v = inl (record { holds = refl; stopped = refl })
log_like idle (Page tag regs) v = inl (record { holds = refl; stopped = refl })

pub like_log :
    (s : HandlingView) (idle : Option ℕ) (told : LogTold) (at : Option ℕ) (x d : ℕ) (v : DriveView) → linked_at s.links x ≡ Some d
    → slice_get (changed_at_some at (log_read idle told) s.drives) d ≡ Some v → IsLike s x d v
like_log s idle told at x d v linked is =
    let w = get_changed_if s.drives at (log_read idle told) d v is in
    record {
      view = w.x;
      linked = linked;
      was = w.was;
      now = elim w.now [
        | inl here ↦ subst (λ (y : DriveView). (IsIdle y) ⊎ ((y.held ≡ w.x.held) × (y.stopped ≡ w.x.stopped))) (sym here.1) (log_like idle told w.x)
        | inr other ↦ inr (ap (λ (y : DriveView). y.held) other.1, ap (λ (y : DriveView). y.stopped) other.1)
      ];
    }
