-- At each moment of a legal journal what a drive ends is on it.
use Rattle.std.proofs.Common.{◌≡◌, ◌∙◌, ℕ, ◌+◌, Bool, true, false, not, ◌&&◌, ◌||◌, ◌==◌, List, [], ◌∷◌, Option, None, Some, refl, sym, ap, subst}
use Rattle.std.specs.Prelude.{slice_index_or, slice_index}
use Rattle.std.specs.List.{list_all}
use Rattle.std.proofs.lemmas.Bool.{eqb-true}
use Rattle.ata_base.proofs.EachLemmas.{every_front}
use Rattle.ata_base.proofs.Truth.{both}
use Rattle.ata_base.specs.declared.cmd.Cmd.{Cmd}
use Rattle.ata_base.specs.declared.issue_no.IssueNo.{IssueNo}
use Rattle.ata_script.specs.declared.port_head.PortHead.{PortHead}
use Rattle.ata_tf.specs.CommandCodes.{command_frame}
use Rattle.ata_trace.specs.Entries.{EntryView, grown, past_from, past_of}
use Rattle.ata_trace.specs.Event.{Event, onto}
use Rattle.ata_trace.specs.Event.Event.{Entered, Told}
use Rattle.ata_trace.specs.declared.act.Act.{Act}
use Rattle.ata_trace.specs.declared.act.Act.TheVariants.{Issued}
use Rattle.ata_trace.specs.declared.step.Step.{Step}
use Rattle.ata_trace.specs.declared.step.Step.TheVariants.{Submit, Kick, Work, Irq, Drop, Stray, Tick, Expire, Recover, Plug, Unplug, Inject, Boot}
use Rattle.ata_trace.specs.declared.who.Who.{Who}
use Rattle.ata_trace.specs.declared.who.Who.TheVariants.{Boot as ByBoot}
use Rattle.drive_model.specs.Holding.{taken}
use Rattle.host_queue.specs.Waiting.{waiting_at}
use Rattle.port_facts.proofs.Legal.{journal_allowed}
use Rattle.port_facts.specs.Moments.{AtEach}
use Rattle.port_facts.specs.Stamps.{sectors_of}
use Rattle.port_past.proofs.EachAt.{EachAt, at_changed}
use Rattle.port_past.specs.Attachment.{attached, detachments}
use Rattle.port_past.specs.Clock.{clock}
use Rattle.port_past.specs.Commands.{commands}
use Rattle.port_past.specs.Drives.{drives, with_issue}
use Rattle.port_past.specs.Identities.{identities, sectors_at}
use Rattle.port_past.specs.Issues.{issue_count}
use Rattle.port_past.specs.Links.{links, linked_at}
use Rattle.port_past.specs.PortState.{is_asked, is_running, is_autopsied}
use Rattle.port_past.specs.Places.{changed_at_some}
use Rattle.port_past.specs.Queues.{queues}
use Rattle.port_past.specs.Slots.{is_queued_frame}
use Rattle.port_rules.specs.Boot.{boot_acts, boot_entry}
use Rattle.port_rules.specs.Kick.{tag_named, frame_port, kick_acts}
use Rattle.port_rules.specs.Legal.{legal_acts, entry_after, AreLegal, HasLegalActs, IsLegal}
use Rattle.port_rules.specs.Phase.{phase}
use Rattle.port_rules.specs.Recover.{recover_acts}
use Rattle.port_rules.specs.Submit.{is_on_device}
use Rattle.port_stands.proofs.All.{all_after, boot_all}
use Rattle.port_stands.proofs.Blocks.{all_wider, left_alone}
use Rattle.port_stands.proofs.Fitting.{IsSized, AreSized, AreRecognized, HoldsOwn, HoldOwn, WasOwn}
use Rattle.port_stands.proofs.Heads.{HasOnePlace}
use Rattle.port_stands.proofs.Judgements.{each_found}
use Rattle.port_stands.proofs.Kicks.{IsIssue, is_wait, wait_issues, kick_does}
use Rattle.port_stands.proofs.Kicks.KickDoes.{Waits, Gone, Issues}
use Rattle.port_stands.proofs.Known.{is_no_start}
use Rattle.port_stands.proofs.Phases.{phase_is}
use Rattle.port_stands.proofs.Recognized.{recognized_after, boot_recognized}
use Rattle.port_stands.proofs.RecognizedActs.{matched}
use Rattle.port_stands.proofs.Recovering.{all_recover}
use Rattle.port_stands.proofs.Silence.{boot_kind}
use Rattle.port_stands.proofs.StandingKinds.{all_irq, all_expire, starts_recovery}
use Rattle.port_stands.proofs.StandingSteps.{place_within}
use Rattle.port_stands.proofs.Steps.{all_submit, all_work, all_drop, all_stray, all_tick, all_plug, all_unplug, all_inject}
use Rattle.port_stands.proofs.Stocked.{own_first, own_step, taken_own}
use Rattle.port_stands.specs.All.{AllStands}
use Rattle.port_stands.specs.Dated.{IsDated}
use Rattle.port_stands.specs.Known.{IsWaiting}
use Rattle.port_stands.specs.OnDrive.{AreOnTheirDrive}
use Rattle.port_stands.specs.Words.{is_no_issue}
use Rattle.port_stands.proofs.SizedEntries.{sized_after, none_sized, is_unlisted, unlisted_step}
use Rattle.port_stands.proofs.Stored.{on_drive_of}

-- ---- at each moment the drives hold what is on them

record Own (head : PortHead) (past : List Event) : Type 0 where
  pub now : HoldOwn head past
  pub ever : AtEach (WasOwn head) past

own_acts : (head : PortHead) (past : List Event) (acts : List Act) → list_all is_no_issue acts ≡ true → Own head past → Own head (onto past acts)
own_acts head past [] all was = was
own_acts head past (act ∷ rest) all was =
    let parts = both (is_no_issue act) (list_all is_no_issue rest) all in
    own_acts head (Told act ∷ past) rest parts.1 (record { now = own_step head past act parts.0 was.now; ever = (was.now, was.ever) })

start_issues : (act : Act) → is_no_start act ≡ true → is_no_issue act ≡ true
start_issues (Issued id number tag deadline fis) is = is
start_issues act is = refl

not_gone : (b : Bool) → not b ≡ false → b ≡ true
not_gone true e = refl
not_gone false e = absurd (cc)

or_none : (a b : Bool) → (a || b) ≡ false → b ≡ false
or_none true b e = absurd (cc)
or_none false b e = e

module _ (head : PortHead) (past : List Event) (who : Who) (seq : ℕ) (all : AllStands head past) (sized : AreSized past) (met : AreRecognized head past) (was : Own head past) where
  abbrev begun : Step → List Event
  begun step = Entered (clock past) who seq step ∷ past

  own_begun : (step : Step) → Own head (begun step)
  own_begun step = record { now = was.now; ever = (was.now, was.ever) }

  quiet_own : (step : Step) → list_all is_no_issue (legal_acts head past step) ≡ true → Own head (grown past (entry_after head past who seq step))
  quiet_own step none = own_acts head (begun step) (legal_acts head past step) none (own_begun step)

  -- the drive at the place of the front command takes its issue
  takes_own :
      (c : Cmd) (number : IssueNo) (tag : ℕ) (fis : List ℕ) (at : Option ℕ) → linked_at (links head past) c.place ≡ at
      → is_on_device c.op (sectors_at past c.place) ≡ true → slice_index_or (attached past) c.place false ≡ true → is_running past ≡ false
      → EachAt (λ d v. HoldsOwn (sectors_of head d) v) (changed_at_some at (taken number tag c.op (is_queued_frame fis)) (drives head past))
  takes_own c number tag fis None linked fits there idle = was.now
  takes_own c number tag fis (Some d) linked fits there idle =
      let same : sectors_of head d ≡ sectors_at past c.place = matched head past (clock past) who seq met (ap (λ b. b && is_autopsied past) idle) c.place d there linked in
      at_changed (λ k v. HoldsOwn (sectors_of head k) v) (λ k v. HoldsOwn (sectors_of head k) v) d (taken number tag c.op (is_queued_frame fis)) (drives head past)
      (λ v here one. taken_own (sectors_of head d) number tag c.op (is_queued_frame fis) v (subst (λ n. is_on_device c.op n ≡ true) (sym same) fits) one)
      (λ k v other one. one) was.now

  issued_own : (step : Step) (place : ℕ) (acts : List Act) → IsIssue head past place acts → Own head (onto (begun step) acts)
  issued_own step place acts issue =
      let front : IsWaiting (commands past) place issue.cmd =
      every_front (IsWaiting (commands past) place) (waiting_at (queues past) place) issue.cmd issue.waiting (all.whole.stands.known.waiting place) in
      let k : Cmd = front.known.cmd in
      let d : IsDated (attached past) (detachments past) k = each_found (IsDated (attached past) (detachments past)) issue.cmd.id (commands past) k front.known.found all.dated.dated in
      let z : IsSized (identities past) (detachments past) k = each_found (IsSized (identities past) (detachments past)) issue.cmd.id (commands past) k front.known.found sized in
      let same : slice_index (detachments past) k.place ≡ k.attachment =
      ap (slice_index (detachments past)) front.known.there
      ∙ eqb-true (slice_index (detachments past) issue.cmd.place) issue.cmd.attachment (not_gone (slice_index (detachments past) issue.cmd.place == issue.cmd.attachment) issue.present)
      ∙ sym front.attachment in
      let number : IssueNo = record { n = issue_count past + 1 } in
      let fis : List ℕ = command_frame issue.cmd.op (tag_named issue.queued issue.tag) (frame_port head issue.cmd.place) in
      subst (λ a. Own head (onto (begun step) a)) (sym issue.told)
      (record {
        now = subst (λ o. EachAt (λ e v. HoldsOwn (sectors_of head e) v) (with_issue o number issue.tag fis (links head past) (drives head past))) (sym front.known.found)
            (takes_own k number issue.tag fis (linked_at (links head past) k.place) refl (z.fits same) (d.present same) (or_none (is_asked past) (is_running past) issue.settled));
        ever = (was.now, (was.now, was.ever));
      })

  kick_own : (place : ℕ) → Own head (onto (begun (Kick place)) (kick_acts head past place))
  kick_own place = elim (kick_does head past place) [
    | Waits each ↦ own_acts head (begun (Kick place)) (kick_acts head past place) (all_wider is_wait is_no_issue wait_issues (kick_acts head past place) each) (own_begun (Kick place))
    | Gone answer ↦ own_acts head (begun (Kick place)) (kick_acts head past place) (subst (λ a. list_all is_no_issue a ≡ true) (sym answer.told) refl) (own_begun (Kick place))
    | Issues issue ↦ issued_own (Kick place) place (kick_acts head past place) issue
  ]

  own_after : (step : Step) → Own head (grown past (entry_after head past who seq step))
  own_after (Submit id place op allow wait) = quiet_own (Submit id place op allow wait) (all_submit is_no_issue head past id place op refl (λ r. refl))
  own_after (Kick place) = kick_own place
  own_after (Work place pick) = quiet_own (Work place pick) (all_work is_no_issue head past place pick refl refl (λ n s e l c. refl))
  own_after Irq = quiet_own Irq (all_irq is_no_issue head past (λ f e. refl) (λ f. refl) refl refl refl)
  own_after Drop = quiet_own Drop (all_drop is_no_issue past refl refl)
  own_after (Stray tag) = quiet_own (Stray tag) (all_stray is_no_issue past refl refl)
  own_after (Tick ms) = quiet_own (Tick ms) (all_tick is_no_issue past ms refl (λ t. refl))
  own_after Expire = quiet_own Expire (all_expire is_no_issue head past (λ f. refl) refl refl refl)
  own_after Recover =
      quiet_own Recover
      (all_wider is_no_start is_no_issue start_issues (recover_acts head past)
      (all_recover is_no_start head past (starts_recovery head.places) refl refl
      (place_within head past (clock past) who seq Recover all.whole.stands (phase head past) (sym (phase_is head past)))))
  own_after (Plug place drive) = quiet_own (Plug place drive) (all_plug is_no_issue head past place drive refl refl refl)
  own_after (Unplug place) = quiet_own (Unplug place) (all_unplug is_no_issue head past place refl refl refl)
  own_after (Inject place fault) = quiet_own (Inject place fault) (all_inject is_no_issue head past place fault refl refl refl)
  own_after Boot = quiet_own Boot refl

module _ (head : PortHead) where
  boot_own : Own head (grown [] (boot_entry head))
  boot_own =
      own_acts head (Entered 0 ByBoot 0 Boot ∷ []) (boot_acts head) (boot_kind head is_no_issue refl (λ p i. refl) (λ p. refl) (λ p o. refl))
      (record { now = own_first head; ever = (own_first head, tt) })

  boot_sized : AreSized (grown [] (boot_entry head))
  boot_sized =
      none_sized (grown [] (boot_entry head))
      (left_alone is_unlisted commands unlisted_step (Entered 0 ByBoot 0 Boot ∷ []) (boot_acts head) (boot_kind head is_unlisted refl (λ p i. refl) (λ p. refl) (λ p o. refl)))

  entries_own :
      HasOnePlace head → (past : List Event) (entries : List EntryView) → AllStands head past → AreSized past → AreRecognized head past → Own head past
      → AreLegal head past entries → Own head (past_from past entries)
  entries_own fits past [] all sized met was legal = was
  entries_own fits past (r ∷ rest) all sized met was legal =
      entries_own fits (grown past r) rest
      (subst (λ x. AllStands head (grown past x)) (sym legal.0) (all_after head fits past r.who r.seq r.step all))
      (subst (λ x. AreSized (grown past x)) (sym legal.0) (sized_after head past r.who r.seq all sized r.step))
      (subst (λ x. AreRecognized head (grown past x)) (sym legal.0) (recognized_after head past r.who r.seq met was.now r.step))
      (subst (λ x. Own head (grown past x)) (sym legal.0) (own_after head past r.who r.seq all sized met was r.step)) legal.1

  acts_own : HasOnePlace head → (journal : List EntryView) → HasLegalActs head journal → Own head (past_of journal)
  acts_own fits [] legal = absurd legal
  acts_own fits (first ∷ rest) legal =
      entries_own fits (grown [] first) rest
      (subst (λ x. AllStands head (grown [] x)) (sym legal.0) (boot_all head))
      (subst (λ x. AreSized (grown [] x)) (sym legal.0) boot_sized)
      (subst (λ x. AreRecognized head (grown [] x)) (sym legal.0) (boot_recognized head))
      (subst (λ x. Own head (grown [] x)) (sym legal.0) boot_own) legal.1

  -- at each moment of a legal journal what ends is on its drive, and what is answered was stored there
  pub journal_on_drive : HasOnePlace head → (journal : List EntryView) → IsLegal head journal → AtEach (AreOnTheirDrive head) (past_of journal)
  journal_on_drive fits journal legal = on_drive_of head (past_of journal) (journal_allowed head journal legal) (acts_own fits journal legal.acts).ever
