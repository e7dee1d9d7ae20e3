-- What a kick does: nothing that counts, an answer of a command whose device is gone, or an issue.
use Rattle.std.proofs.Common.{◌≡◌, ℕ, Bool, true, false, ◌&&◌, List, [], ◌∷◌, Option, None, Some, refl, if◌then◌else◌, is_none}
use Rattle.std.specs.List.{list_all}
use Rattle.ata_base.specs.Reasons.{first_reason}
use Rattle.ata_base.specs.declared.cmd.Cmd.{Cmd}
use Rattle.ata_script.specs.declared.port_head.PortHead.{PortHead}
use Rattle.ata_trace.specs.Event.{Event}
use Rattle.ata_trace.specs.declared.act.Act.{Act}
use Rattle.ata_trace.specs.declared.act.Act.TheVariants.{Deferred, Exclusive, AnsweredNodev, Nothing}
use Rattle.host_defer.specs.Obstacles.{is_link_busy, is_port_busy as is_port_taken, has_no_tag}
use Rattle.ata_base.specs.declared.deferral.Deferral.{Deferral}
use Rattle.ata_base.specs.declared.deferral.Deferral.TheVariants.{Frozen, Recovering, LinkBusy, PortBusy, NoTag}
use Rattle.host_queue.specs.Waiting.{front_of}
use Rattle.host_tags.specs.Slots.{free_below}
use Rattle.port_past.specs.Commands.{is_gone}
use Rattle.port_past.specs.Attachment.{detachments}
use Rattle.port_past.specs.Exclusive.{exclusive}
use Rattle.port_past.specs.PortState.{is_frozen, is_recovering}
use Rattle.port_past.specs.Identities.{depth_at}
use Rattle.port_past.specs.Queues.{queues}
use Rattle.port_past.specs.Slots.{slots}
use Rattle.port_rules.specs.Kick.{is_queued, is_for_port, outline, view_of, tag_limit, issued_acts, deferred_or_issued, command_acts, front_acts, kick_acts}
use Rattle.port_rules.specs.Told.{told_if}
use Rattle.port_stands.proofs.Lists.{all_more, all_told}
use Rattle.port_stands.specs.Words.{is_no_issue}

-- an act that says that a command waits
abbrev pub is_wait : Act → Bool
is_wait Nothing = true
is_wait (Deferred id why) = true
is_wait (Exclusive place) = true
is_wait act = false

-- the front command of the place is gone, and is answered
pub record IsGoneAnswer (past : List Event) (place : ℕ) (acts : List Act) : Type 0 where
  pub cmd : Cmd
  pub waiting : front_of (queues past) place ≡ Some cmd
  pub gone : is_gone cmd (detachments past) ≡ true
  pub told : acts ≡ AnsweredNodev cmd.id (record { n = 0 }) ∷ []

-- the front command of the place is issued
pub record IsIssue (head : PortHead) (past : List Event) (place : ℕ) (acts : List Act) : Type 0 where
  pub cmd : Cmd
  pub queued : Bool
  pub tag : ℕ
  pub waiting : front_of (queues past) place ≡ Some cmd
  pub present : is_gone cmd (detachments past) ≡ false
  pub kind : is_queued past cmd.place cmd.op ≡ queued
  pub thawed : is_frozen past ≡ false
  pub settled : is_recovering past ≡ false
  pub alone : is_link_busy (outline (slots past)) cmd.place queued ≡ false
  pub apart : is_port_taken (view_of head past) cmd.place ≡ false
  pub free : free_below (tag_limit past cmd.place queued) (slots past) ≡ Some tag
  pub told : acts ≡ issued_acts head past cmd queued (Some tag)

pub data KickDoes (head : PortHead) (past : List Event) (place : ℕ) (acts : List Act) : Type 0 where
  Waits : (all : list_all is_wait acts ≡ true) → KickDoes head past place acts
  Gone : (answer : IsGoneAnswer past place acts) → KickDoes head past place acts
  Issues : (issue : IsIssue head past place acts) → KickDoes head past place acts

module _ (head : PortHead) (past : List Event) (place : ℕ) (cmd : Cmd) (queued : Bool) where
  issue_does :
      (found : Option ℕ) → front_of (queues past) place ≡ Some cmd → is_gone cmd (detachments past) ≡ false
      → is_queued past cmd.place cmd.op ≡ queued → is_frozen past ≡ false → is_recovering past ≡ false
      → is_link_busy (outline (slots past)) cmd.place queued ≡ false
      → is_port_taken (view_of head past) cmd.place ≡ false
      → free_below (tag_limit past cmd.place queued) (slots past) ≡ found
      → KickDoes head past place (issued_acts head past cmd queued found)
  issue_does None waiting present kind thawed settled alone apart free = Waits refl
  issue_does (Some tag) waiting present kind thawed settled alone apart free = Issues (record {
    cmd = cmd;
    queued = queued;
    tag = tag;
    waiting = waiting;
    present = present;
    kind = kind;
    thawed = thawed;
    settled = settled;
    alone = alone;
    apart = apart;
    free = free;
    told = refl;
  })

  waits_told : (why : Deferral) → list_all is_wait (deferred_or_issued head past cmd queued (Some why)) ≡ true
  waits_told why =
      all_more is_wait (Deferred cmd.id why) (told_if (is_for_port why && is_none (exclusive past)) (Exclusive cmd.place)) refl
      (all_told is_wait (is_for_port why && is_none (exclusive past)) (Exclusive cmd.place) refl)

  command_does :
      (frozen recovering busy taken full : Bool)
      → front_of (queues past) place ≡ Some cmd → is_gone cmd (detachments past) ≡ false
      → is_queued past cmd.place cmd.op ≡ queued → is_frozen past ≡ frozen → is_recovering past ≡ recovering
      → is_link_busy (outline (slots past)) cmd.place queued ≡ busy
      → is_port_taken (view_of head past) cmd.place ≡ taken
      → KickDoes head past place (deferred_or_issued head past cmd queued
      (first_reason
      ((Frozen, frozen) ∷ (Recovering, recovering) ∷ (LinkBusy, busy) ∷ (PortBusy, taken) ∷ (NoTag, full) ∷ [])))
  command_does true recovering busy taken full waiting present kind thawed settled alone apart = Waits (waits_told Frozen)
  command_does false true busy taken full waiting present kind thawed settled alone apart = Waits (waits_told Recovering)
  command_does false false true taken full waiting present kind thawed settled alone apart = Waits (waits_told LinkBusy)
  command_does false false false true full waiting present kind thawed settled alone apart = Waits (waits_told PortBusy)
  command_does false false false false true waiting present kind thawed settled alone apart = Waits (waits_told NoTag)
  command_does false false false false false waiting present kind thawed settled alone apart =
      issue_does (free_below (tag_limit past cmd.place queued) (slots past)) waiting present kind thawed settled alone apart refl

module _ (head : PortHead) (past : List Event) (place : ℕ) where
  gone_does :
      (cmd : Cmd) (gone : Bool) → front_of (queues past) place ≡ Some cmd → is_gone cmd (detachments past) ≡ gone
      → KickDoes head past place
      (if gone then AnsweredNodev cmd.id (record { n = 0 }) ∷ [] else command_acts head past cmd (is_queued past cmd.place cmd.op))
  gone_does cmd true waiting gone = Gone (record { cmd = cmd; waiting = waiting; gone = gone; told = refl })
  gone_does cmd false waiting gone =
      let queued : Bool = is_queued past cmd.place cmd.op in
      command_does head past place cmd queued (is_frozen past) (is_recovering past)
      (is_link_busy (outline (slots past)) cmd.place queued) (is_port_taken (view_of head past) cmd.place)
      (has_no_tag (outline (slots past)) queued (depth_at past cmd.place)) waiting gone refl refl refl refl refl

  front_does : (front : Option Cmd) → front_of (queues past) place ≡ front → KickDoes head past place (front_acts head past front)
  front_does None waiting = Waits refl
  front_does (Some cmd) waiting = gone_does cmd (is_gone cmd (detachments past)) waiting refl

  pub kick_does : KickDoes head past place (kick_acts head past place)
  kick_does = front_does (front_of (queues past) place) refl

pub wait_issues : (act : Act) → is_wait act ≡ true → is_no_issue act ≡ true
wait_issues Nothing is = refl
wait_issues (Deferred id why) is = refl
wait_issues (Exclusive place) is = refl
wait_issues act is = absurd (cc)
