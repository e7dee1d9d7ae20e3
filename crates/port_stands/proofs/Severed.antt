-- A place with a device but without a link is told of by SError, or is to be linked again.
use Rattle.eh_flow.specs.Table.{deadline_of}
use Rattle.port_rules.proofs.RecoverByPhase.{recover_told, unanswered_acts, open_ident_acts, log_or_autopsy, phase_acts, reset_acts, look_acts, look_of}
use Rattle.std.proofs.Common.{◌≡◌, ◌≢◌, ◌∙◌, ℕ, ◌+◌, ◌<◌, Bool, true, false, not, ◌&&◌, ◌==◌, nat_lt, List, [], ◌∷◌, ◌++◌, Option, None, Some, inl, inr, suc, zero, map, flat_map, is_some, slice_get, slice_set, option_and_then, refl, sym, ap, subst, arith, if◌then◌else◌}
use Rattle.std.specs.Prelude.{slice_index_or}
use Rattle.std.specs.List.{list_all, range_with_len}
use Rattle.std.proofs.lemmas.Bool.{eqb-true}
use Rattle.ata_base.specs.Kinds.{has}
use Rattle.ata_base.specs.declared.identity.Identity.{Identity}
use Rattle.ata_base.specs.declared.ms.Ms.{Ms}
use Rattle.ata_script.specs.declared.port_head.PortHead.{PortHead}
use Rattle.ata_trace.specs.Entries.{EntryView, grown, past_from, past_of}
use Rattle.ata_trace.specs.Event.{Event, onto}
use Rattle.ata_trace.specs.Event.Event.{Entered, Told}
use Rattle.ata_trace.specs.declared.act.Act.{Act}
use Rattle.ata_trace.specs.declared.act.Act.TheVariants.{Thawed, Nothing, ResetBegun, ResetEndedNone, ResetEndedHost, ResetLate, ResetFailed, ResetEndedGen, IdentAsked, Detached, Disabled, WaitingReset}
use Rattle.ata_trace.specs.declared.step.Step.{Step}
use Rattle.ata_trace.specs.declared.step.Step.TheVariants.{Submit, Kick, Work, Irq, Drop, Stray, Tick, Expire, Recover, Plug, Unplug, Inject, Boot}
use Rattle.ata_trace.specs.declared.who.Who.{Who}
use Rattle.ata_trace.specs.declared.who.Who.TheVariants.{Boot as ByBoot}
use Rattle.drive_model.specs.View.{DriveView}
use Rattle.eh_flow.specs.declared.phase.Phase.{Phase}
use Rattle.eh_flow.specs.declared.phase.Phase.TheVariants.{Idle, Logs, HostOwed, HostOpen, ResetOwed, ResetOpen, IdentOwed, IdentOpen, Through}
use Rattle.eh_reset.specs.ResetWaits.{reset_wait_of}
use Rattle.eh_reval.specs.IdentWaits.{ident_wait_of}
use Rattle.link_model.specs.LinkView.{LinkView, empty_link, linked_drive, after_reset}
use Rattle.port_past.specs.IdentAnswers.{is_ident_answered}
use Rattle.port_past.specs.Clock.{clock}
use Rattle.port_past.specs.Attachment.{attached}
use Rattle.port_past.specs.Drives.{drives, drive_at}
use Rattle.port_past.specs.PortState.{is_frozen, is_asked, is_running, is_autopsied}
use Rattle.port_past.specs.Heads.{identity_of, drive_at_boot, places_of}
use Rattle.port_past.specs.Links.{links, link_at, linked_at, plugged_at, link_at_boot}
use Rattle.port_past.specs.Places.{changed_at}
use Rattle.port_past.specs.PlaceTold.{place_told}
use Rattle.port_past.specs.declared.place_told.PlaceTold.TheVariants.{NotBegun as NothingSeen, ResetBegun as ResetOpenSeen}
use Rattle.port_rules.specs.Boot.{found_acts, found_at, boot_entry}
use Rattle.port_rules.specs.Identities.{identity_acts}
use Rattle.port_rules.specs.Legal.{legal_acts, entry_after, AreLegal, HasLegalActs, IsLegal}
use Rattle.port_rules.specs.Logs.{log_owed, log_acts}
use Rattle.port_rules.specs.Phase.{phase}
use Rattle.port_rules.specs.Plug.{can_plug}
use Rattle.port_rules.specs.Resets.{thaw_acts, if_attached}
use Rattle.port_rules.specs.Told.{or_nothing, frozen_acts}
use Rattle.port_stands.proofs.Again.{link_same, single_again, opened}
use Rattle.port_stands.proofs.All.{all_after, boot_all}
use Rattle.port_stands.proofs.Blocks.{all_append, left_alone}
use Rattle.ata_trace.proofs.Pasts.{onto_append}
use Rattle.port_stands.proofs.HandOver.{read_back}
use Rattle.port_past.proofs.Sizes.{true_within, length_attached}
use Rattle.port_stands.proofs.EachStep.{all_kick}
use Rattle.port_stands.proofs.GuardFrames.{Frame, frame, frame_step, is_gate_row}
use Rattle.port_stands.proofs.Lists.{all_more, all_told}
use Rattle.port_stands.proofs.Phases.{phase_is, idle_rests, IsTask, task_runs, phase_place}
use Rattle.port_stands.proofs.RowTies.{reset_tie, host_links, host_all, gone_attached, unheard_all}
use Rattle.port_stands.proofs.Rows.{all_look, all_reset, all_identity}
use Rattle.port_stands.proofs.StandingKinds.{all_irq, all_expire}
use Rattle.port_stands.proofs.Standing.{all_booted}
use Rattle.port_stands.proofs.Steps.{all_submit, all_work, all_drop, all_stray, all_tick, all_logs}
use Rattle.port_stands.proofs.WholeTold.{About, about, about_left, is_elsewhere, change_apart}
use Rattle.port_stands.proofs.WholeRows.{Plant, plant, plant_left, is_idle_row}
use Rattle.port_stands.proofs.Within.{read_put, read_same}
use Rattle.port_stands.specs.All.{AllStands}
use Rattle.port_stands.specs.Severed.{links_again, to_link, SeveredAreTold}
use Rattle.port_stands.proofs.Heads.{HasOnePlace}
use Rattle.port_stands.specs.Words.{recovery, phase_of}
use Rattle.port_stands.proofs.SeveredTies.{Tie, tie, IsTied, AreTied, leaves_ties, is_no_attach, attach_less, left_entry, plug_tied, unplug_tied, inject_tied, rests_tied, end_tied, autopsy_tied}
use Rattle.ata_base.proofs.Truth.{both_true}
use Rattle.port_past.proofs.PlaceSizes.{length_seen}

-- ---- the rows

module _ (head : PortHead) (past : List Event) (time : ℕ) (who : Who) (seq : ℕ) (all : AllStands head past) (was : AreTied (tie head past)) (at : Phase) (task : IsTask (recovery head past) at) where
  -- a place of which a row tells nothing
  elsewhere_tied :
      (acts : List Act) (x : ℕ) → list_all is_gate_row acts ≡ true → list_all (is_elsewhere x) acts ≡ true
      → link_at (links head (onto (Entered time who seq Recover ∷ past) acts)) x ≡ link_at (links head past) x
      → slice_index_or (attached (onto (Entered time who seq Recover ∷ past) acts)) x false ≡ true → linked_at (links head (onto (Entered time who seq Recover ∷ past) acts)) x ≡ None
      → IsTied (tie head (onto (Entered time who seq Recover ∷ past) acts)) x
  elsewhere_tied acts x row other wire there cut =
      let s : List Event = Entered time who seq Recover ∷ past in
      let same : frame head (onto s acts) ≡ frame head past = left_alone is_gate_row (frame head) (frame_step head) s acts row in
      let told : about (recovery head (onto s acts)) x ≡ about (recovery head past) x = about_left head x s acts other in
      elim (was x (ap (λ (a : About). a.attached) (sym told) ∙ there) (ap linked_drive (sym wire) ∙ cut)) [
        | inl phy ↦ inl (ap (λ (l : LinkView). has l.serror 16) wire ∙ phy)
        | inr owed ↦ inr (
          ap (λ (f : Frame). f.running && f.autopsied) same ∙ owed.0,
          link_same (recovery head past) (recovery head (onto s acts)) x (ap (λ (f : Frame). f.tasks) same) (sym told) ∙ owed.1,
        )
      ]

  -- a row that leaves the links
  idle_tied :
      (acts : List Act) (place : ℕ) → list_all is_gate_row acts ≡ true → list_all is_idle_row acts ≡ true
      → ((x : ℕ) → not (place == x) ≡ true → list_all (is_elsewhere x) acts ≡ true)
      → (slice_index_or (attached (onto (Entered time who seq Recover ∷ past) acts)) place false ≡ true → linked_at (links head past) place ≡ None → has (link_at (links head past) place).serror 16 ≡ true)
      → AreTied (tie head (onto (Entered time who seq Recover ∷ past) acts))
  idle_tied acts place row idle other here = λ x there cut. by x (place == x) refl there cut
    where
      same : plant head (onto (Entered time who seq Recover ∷ past) acts) ≡ plant head past
      same = plant_left head (Entered time who seq Recover ∷ past) acts idle

      wire : (x : ℕ) → link_at (links head (onto (Entered time who seq Recover ∷ past) acts)) x ≡ link_at (links head past) x
      wire x = ap (λ (p : Plant). link_at p.links x) same

      by : (x : ℕ) (b : Bool) → (place == x) ≡ b → slice_index_or (attached (onto (Entered time who seq Recover ∷ past) acts)) x false ≡ true
          → linked_at (links head (onto (Entered time who seq Recover ∷ past) acts)) x ≡ None → IsTied (tie head (onto (Entered time who seq Recover ∷ past) acts)) x
      by x false e there cut = elsewhere_tied acts x row (other x (ap not e)) (wire x) there cut
      by x true e there cut =
          let one : place ≡ x = eqb-true place x e in
          inl (ap (λ (l : LinkView). has l.serror 16) (wire x)
          ∙ subst (λ y. has (link_at (links head past) y).serror 16 ≡ true) one
          (here (ap (λ y. slice_index_or (attached (onto (Entered time who seq Recover ∷ past) acts)) y false) one ∙ there)
          (ap (linked_at (links head past)) one ∙ ap linked_drive (sym (wire x)) ∙ cut)))

  -- where the row's phase links nothing again, SError tells of its place
  here_phy :
      (place : ℕ) → phase_place at ≡ Some place → links_again place (Some at) ≡ false → slice_index_or (attached past) place false ≡ true
      → linked_at (links head past) place ≡ None → has (link_at (links head past) place).serror 16 ≡ true
  here_phy place there none attached_here cut = elim (was place attached_here cut) [
    | inl phy ↦ phy
    | inr owed ↦ absurd (cc (owed.1, single_again (recovery head past) place (recovery head past).tasks at all.whole.handled.single task.at there none))
  ]

  -- a reset of a place begins
  reset_tied : (place attempt : ℕ) → phase_place at ≡ Some place → AreTied (tie head (onto (Entered time who seq Recover ∷ past) (reset_acts head past place attempt)))
  reset_tied place attempt there =
      λ x here cut. by x (place == x) refl here cut
    where
      deadline : Ms
      deadline = deadline_of (clock past) (reset_wait_of attempt)

      same : tie head (onto (Entered time who seq Recover ∷ past) (reset_acts head past place attempt))
          ≡ record { stands = record (recovery head past) { seen = slice_set (place_told past) place (ResetOpenSeen attempt deadline) }; wires = changed_at place after_reset (links head past) }
      same = reset_tie head (Entered time who seq Recover ∷ past) place attempt deadline head.pmp (is_frozen past)

      row : list_all is_gate_row (reset_acts head past place attempt) ≡ true
      row = all_reset is_gate_row head past place attempt (λ d. refl) (λ direct. refl)

      by : (x : ℕ) (b : Bool) → (place == x) ≡ b → slice_index_or (attached (onto (Entered time who seq Recover ∷ past) (reset_acts head past place attempt))) x false ≡ true
          → linked_at (links head (onto (Entered time who seq Recover ∷ past) (reset_acts head past place attempt))) x ≡ None
          → IsTied (tie head (onto (Entered time who seq Recover ∷ past) (reset_acts head past place attempt))) x
      by x false e here cut =
          elsewhere_tied (reset_acts head past place attempt) x row (all_reset (is_elsewhere x) head past place attempt (λ d. ap not e) (λ direct. refl))
          (ap (λ (t : Tie). link_at t.wires x) same ∙ change_apart (links head past) place x after_reset empty_link (ap not e)) here cut
      by x true e here cut =
          let one : place ≡ x = eqb-true place x e in
          let few : x < 15 = omega (arith, true_within (attached past) x (ap (λ (t : Tie). slice_index_or t.stands.attached x false) (sym same) ∙ here), length_attached past) in
          inr (
            ap (λ (t : Tie). t.stands.running && t.stands.autopsied) same ∙ both_true (is_running past) (is_autopsied past) task.running task.autopsied,
            ap (λ (t : Tie). to_link t.stands x) same
                ∙ opened (recovery head past) (record (recovery head past) { seen = slice_set (place_told past) place (ResetOpenSeen attempt deadline) }) x attempt deadline (recovery head past).tasks at task.at
                (there ∙ ap Some one)
                (ap (λ y. slice_index_or (slice_set (place_told past) y (ResetOpenSeen attempt deadline)) x NothingSeen) one
                ∙ read_back (place_told past) x (ResetOpenSeen attempt deadline) NothingSeen (omega (arith, few, length_seen past))),
          )

  -- the host's rows
  host_begun_tied : (deadline : Ms) → AreTied (tie head (onto (Entered time who seq Recover ∷ past) (frozen_acts past ++ ResetBegun None 1 deadline ∷ [])))
  host_begun_tied deadline = λ x there cut.
      elsewhere_tied (frozen_acts past ++ ResetBegun None 1 deadline ∷ []) x (host_all is_gate_row deadline (is_frozen past) refl refl) (host_all (is_elsewhere x) deadline (is_frozen past) refl refl)
      (ap (λ l. link_at l x) (host_links head (Entered time who seq Recover ∷ past) deadline (is_frozen past))) there cut

  host_ended_tied : AreTied (tie head (onto (Entered time who seq Recover ∷ past) (ResetEndedHost ∷ Thawed ∷ [])))
  host_ended_tied = λ x there cut. elsewhere_tied (ResetEndedHost ∷ Thawed ∷ []) x refl refl refl there cut

  -- an identity is asked for
  asked_tied : (place attempt : ℕ) (deadline : Ms) → phase_place at ≡ Some place → links_again place (Some at) ≡ false → AreTied (tie head (onto (Entered time who seq Recover ∷ past) (IdentAsked place attempt deadline ∷ [])))
  asked_tied place attempt deadline there none = λ x here cut. by x (place == x) refl here cut
    where
      by : (x : ℕ) (b : Bool) → (place == x) ≡ b → slice_index_or (attached past) x false ≡ true → linked_at (links head past) x ≡ None
          → IsTied (tie head (Told (IdentAsked place attempt deadline) ∷ Entered time who seq Recover ∷ past)) x
      by x false e here cut = elsewhere_tied (IdentAsked place attempt deadline ∷ []) x refl (rw (ap not e) refl) refl here cut
      by x true e here cut = inl (subst (λ y. has (link_at (links head past) y).serror 16 ≡ true) one (here_phy place there none (ap (λ y. slice_index_or (attached past) y false) one ∙ here) (ap (linked_at (links head past)) one ∙ cut)))
        where
          one : place ≡ x
          one = eqb-true place x e

  -- a linked drive isn't cut off
  linked_never : {A : Type 0} (place : ℕ) (v : DriveView) (d : Option ℕ) → linked_at (links head past) place ≡ d → option_and_then (slice_get (drives head past)) d ≡ Some v → linked_at (links head past) place ≡ None → A
  linked_never place v None linked found cut = absurd (cc)
  linked_never place v (Some d) linked found cut = absurd (cc (linked, cut))

  -- an open reset
  look_tied :
      (place attempt deadline : ℕ) (v : Option DriveView) → drive_at head past place ≡ v → phase_place at ≡ Some place
      → AreTied (tie head (onto (Entered time who seq Recover ∷ past) (look_acts head past place attempt v (look_of (clock past) deadline v))))
  look_tied place attempt deadline None is there =
      idle_tied (look_acts head past place attempt None (look_of (clock past) deadline None)) place (kinds is_gate_row refl refl refl refl refl refl refl refl) (kinds is_idle_row refl refl refl refl refl refl refl refl)
      (λ x e. all_look (is_elsewhere x) head past place attempt None (look_of (clock past) deadline None) (record { ended = λ g. e; none = e; late = e; failed = e; disabled = e; detached = e; waiting = refl }) (λ d. refl))
      (λ here cut. absurd (cc (here, gone_attached head past time who seq place)))
    where
      kinds : (kind : Act → Bool) → kind (ResetEndedNone place) ≡ true → kind (ResetLate (Some place)) ≡ true → kind (ResetFailed (Some place)) ≡ true → kind (Disabled place) ≡ true → kind (Detached place) ≡ true → kind (WaitingReset place) ≡ true → kind (ResetEndedGen place 0) ≡ kind (ResetEndedGen place 0) → kind Thawed ≡ true
          → list_all kind (look_acts head past place attempt None (look_of (clock past) deadline None)) ≡ true
      kinds kind a b c d e f g t =
          all_more kind (ResetEndedNone place) (thaw_acts head ++ if_attached past place (Detached place)) a
          (all_append kind (thaw_acts head) (if_attached past place (Detached place)) (all_told kind (not head.pmp) Thawed t)
          (all_told kind (slice_index_or (attached past) place false) (Detached place) e))
  look_tied place attempt deadline (Some v) is there =
      idle_tied (look_acts head past place attempt (Some v) (look_of (clock past) deadline (Some v))) place
      (all_look is_gate_row head past place attempt (Some v) (look_of (clock past) deadline (Some v)) (record { ended = λ g. refl; none = refl; late = refl; failed = refl; disabled = refl; detached = refl; waiting = refl }) (λ d. refl))
      (all_look is_idle_row head past place attempt (Some v) (look_of (clock past) deadline (Some v)) (record { ended = λ g. refl; none = refl; late = refl; failed = refl; disabled = refl; detached = refl; waiting = refl }) (λ d. refl))
      (λ x e. all_look (is_elsewhere x) head past place attempt (Some v) (look_of (clock past) deadline (Some v)) (record { ended = λ g. e; none = e; late = e; failed = e; disabled = e; detached = e; waiting = refl }) (λ d. refl))
      (λ here cut. linked_never place v (linked_at (links head past) place) refl is cut)

  -- an open identity
  unheard_tied :
      (place attempt deadline : ℕ) → phase_place at ≡ Some place → links_again place (Some at) ≡ false
      → AreTied (tie head (onto (Entered time who seq Recover ∷ past) (unanswered_acts past place attempt deadline)))
  unheard_tied place attempt deadline there none =
      idle_tied (unanswered_acts past place attempt deadline) place (unheard_all past is_gate_row place attempt deadline refl refl refl) (unheard_all past is_idle_row place attempt deadline refl refl refl)
      (λ x e. unheard_all past (is_elsewhere x) place attempt deadline e e refl)
      (λ here cut. here_phy place there none
      (attach_less (Entered time who seq Recover ∷ past) (unanswered_acts past place attempt deadline) place (unheard_all past is_no_attach place attempt deadline refl refl refl) here) cut)

  heard_tied :
      (place attempt deadline : ℕ) (v : DriveView) (b : Bool) → drive_at head past place ≡ Some v → phase_place at ≡ Some place → links_again place (Some at) ≡ false
      → AreTied (tie head (onto (Entered time who seq Recover ∷ past) (if b then identity_acts past place v.identity else unanswered_acts past place attempt deadline)))
  heard_tied place attempt deadline v false is there none = unheard_tied place attempt deadline there none
  heard_tied place attempt deadline v true is there none =
      idle_tied (identity_acts past place v.identity) place
      (all_identity is_gate_row head past place v.identity (record { identified = λ i. refl; same = refl; attached = refl; detached = refl; disabled = refl; mode = λ u o d. refl; late = refl; waiting = refl }))
      (all_identity is_idle_row head past place v.identity (record { identified = λ i. refl; same = refl; attached = refl; detached = refl; disabled = refl; mode = λ u o d. refl; late = refl; waiting = refl }))
      (λ x e. all_identity (is_elsewhere x) head past place v.identity (record { identified = λ i. refl; same = refl; attached = e; detached = e; disabled = e; mode = λ u o d. e; late = e; waiting = refl }))
      (λ here cut. linked_never place v (linked_at (links head past) place) refl is cut)

  ident_tied :
      (place attempt deadline : ℕ) (v : Option DriveView) → drive_at head past place ≡ v → phase_place at ≡ Some place → links_again place (Some at) ≡ false
      → AreTied (tie head (onto (Entered time who seq Recover ∷ past) (open_ident_acts head past place attempt deadline v)))
  ident_tied place attempt deadline None is there none = unheard_tied place attempt deadline there none
  ident_tied place attempt deadline (Some v) is there none = heard_tied place attempt deadline v (slice_index_or (is_ident_answered head past) place false) is there none

module _ (head : PortHead) (past : List Event) (who : Who) (seq : ℕ) (fits : HasOnePlace head) (all : AllStands head past) (was : AreTied (tie head past)) where
  by_frost : (frozen : Bool) (acts more : List Act) → AreTied (tie head (onto (Entered (clock past) who seq Recover ∷ past) acts)) → AreTied (tie head (onto (Entered (clock past) who seq Recover ∷ past) more))
      → AreTied (tie head (onto (Entered (clock past) who seq Recover ∷ past) (if frozen then acts else more)))
  by_frost true acts more a b = a
  by_frost false acts more a b = b

  logs_tied : phase_of (recovery head past) ≡ Logs → (found : Option ℕ) → log_owed head past ≡ found → AreTied (tie head (onto (Entered (clock past) who seq Recover ∷ past) (log_or_autopsy head past found)))
  logs_tied at (Some place) is =
      left_entry head past (clock past) who seq all was Recover (log_acts head past place)
      (all_logs leaves_ties (record { page = λ p t s e l c. refl; failed = λ p. refl; bad_sum = λ p. refl; not_queued = λ p. refl; aborted = λ n. refl }) head past place)
  logs_tied at None is = autopsy_tied head past who seq fits all was at is

  phase_tied : (at : Phase) → phase_of (recovery head past) ≡ at → AreTied (tie head (onto (Entered (clock past) who seq Recover ∷ past) (phase_acts head past at)))
  phase_tied Idle is = rests_tied head past (clock past) who seq all was (idle_rests (recovery head past) is) (is_asked past)
  phase_tied Logs is = logs_tied is (log_owed head past) refl
  phase_tied HostOwed is = host_begun_tied head past (clock past) who seq all was HostOwed (task_runs (recovery head past) HostOwed refl is) (deadline_of (clock past) (reset_wait_of 1))
  phase_tied HostOpen is = host_ended_tied head past (clock past) who seq all was HostOpen (task_runs (recovery head past) HostOpen refl is)
  phase_tied (ResetOwed place attempt ident) is =
      reset_tied head past (clock past) who seq all was (ResetOwed place attempt ident) (task_runs (recovery head past) (ResetOwed place attempt ident) refl is) place attempt refl
  phase_tied (ResetOpen place attempt ident deadline) is =
      look_tied head past (clock past) who seq all was (ResetOpen place attempt ident deadline) (task_runs (recovery head past) (ResetOpen place attempt ident deadline) refl is) place attempt deadline.n (drive_at head past place) refl refl
  phase_tied (IdentOwed place attempt) is =
      let task = task_runs (recovery head past) (IdentOwed place attempt) refl is in
      by_frost (is_frozen past) (reset_acts head past place 1) (IdentAsked place attempt (deadline_of (clock past) (ident_wait_of attempt)) ∷ [])
      (reset_tied head past (clock past) who seq all was (IdentOwed place attempt) task place 1 refl)
      (asked_tied head past (clock past) who seq all was (IdentOwed place attempt) task place attempt (deadline_of (clock past) (ident_wait_of attempt)) refl refl)
  phase_tied (IdentOpen place attempt deadline) is =
      let task = task_runs (recovery head past) (IdentOpen place attempt deadline) refl is in
      by_frost (is_frozen past) (reset_acts head past place 1) (open_ident_acts head past place attempt deadline.n (drive_at head past place))
      (reset_tied head past (clock past) who seq all was (IdentOpen place attempt deadline) task place 1 refl)
      (ident_tied head past (clock past) who seq all was (IdentOpen place attempt deadline) task place attempt deadline.n (drive_at head past place) refl refl refl)
  phase_tied Through is = end_tied head past (clock past) who seq all was (task_runs (recovery head past) Through refl is)

  tied_after : (step : Step) → AreTied (tie head (grown past (entry_after head past who seq step)))
  tied_after (Submit id place op allow wait) = left_entry head past (clock past) who seq all was (Submit id place op allow wait) (legal_acts head past (Submit id place op allow wait)) (all_submit leaves_ties head past id place op refl (λ r. refl))
  tied_after (Kick place) =
      left_entry head past (clock past) who seq all was (Kick place) (legal_acts head past (Kick place))
      (all_kick leaves_ties (record { nothing = refl; deferred = λ i w. refl; exclusive = λ p. refl; gone = λ i. refl; issued = λ i n t d f. refl }) head past place)
  tied_after (Work place pick) = left_entry head past (clock past) who seq all was (Work place pick) (legal_acts head past (Work place pick)) (all_work leaves_ties head past place pick refl refl (λ n s e l c. refl))
  tied_after Irq = left_entry head past (clock past) who seq all was Irq (legal_acts head past Irq) (all_irq leaves_ties head past (λ f e. refl) (λ f. refl) refl refl refl)
  tied_after Drop = left_entry head past (clock past) who seq all was Drop (legal_acts head past Drop) (all_drop leaves_ties past refl refl)
  tied_after (Stray tag) = left_entry head past (clock past) who seq all was (Stray tag) (legal_acts head past (Stray tag)) (all_stray leaves_ties past refl refl)
  tied_after (Tick ms) = left_entry head past (clock past) who seq all was (Tick ms) (legal_acts head past (Tick ms)) (all_tick leaves_ties past ms refl (λ t. refl))
  tied_after Expire = left_entry head past (clock past) who seq all was Expire (legal_acts head past Expire) (all_expire leaves_ties head past (λ f. refl) refl refl refl)
  tied_after Recover =
      subst (λ acts. AreTied (tie head (onto (Entered (clock past) who seq Recover ∷ past) acts))) (sym (recover_told head past))
      (phase_tied (phase head past) (sym (phase_is head past)))
  tied_after (Plug place drive) = plug_tied head past (clock past) who seq all was place drive (can_plug head (links head past) place drive)
  tied_after (Unplug place) = unplug_tied head past (clock past) who seq all was place (is_some (plugged_at (links head past) place))
  tied_after (Inject place fault) = inject_tied head past (clock past) who seq all was (Inject place fault) place fault (nat_lt place head.places)
  tied_after Boot = left_entry head past (clock past) who seq all was Boot (Nothing ∷ []) refl

-- ---- the boot, and journals

read_at : (f : ℕ → LinkView) (k n i : ℕ) → i < n → link_at (map f (range_with_len k n)) i ≡ f (k + i)
read_at f k zero i within = absurd (omega (arith, within))
read_at f k (suc n) zero within = ap f (plus k)
  where
    plus : (k : ℕ) → k ≡ k + 0
    plus k = omega arith
read_at f k (suc n) (suc i) within = read_at f (k + 1) n i (omega (arith, within)) ∙ ap f (plus k i)
  where
    plus : (k i : ℕ) → k + 1 + i ≡ k + suc i
    plus k i = omega arith

pub booted : (head : PortHead) (x : ℕ) → x < 15 → linked_at (links head []) x ≡ drive_at_boot head.drives x
booted head x few = ap linked_drive (read_at (link_at_boot head.drives) 0 15 x few) ∙ by (drive_at_boot head.drives (0 + x)) ∙ ap (drive_at_boot head.drives) (plus x)
  where
    plus : (x : ℕ) → 0 + x ≡ x
    plus x = omega arith

    by : (o : Option ℕ) → (if is_some o then o else None) ≡ o
    by None = refl
    by (Some d) = refl

module _ (head : PortHead) where
  -- at the boot a device is attached only where a drive stands
  abbrev AreStanding : List Event → Type 0
  AreStanding p = (x : ℕ) → slice_index_or (attached p) x false ≡ true → drive_at_boot head.drives x ≢ None

  found_standing :
      (p : List Event) (place : ℕ) (found : Option Identity) → option_and_then (identity_of head.drives) (drive_at_boot head.drives place) ≡ found → AreStanding p
      → AreStanding (onto p (found_acts place found))
  found_standing p place None is was = was
  found_standing p place (Some i) is was = λ x there. elim (read_put (attached p) place x true false) [
    | inl here ↦ λ none. cc (is, ap (option_and_then (identity_of head.drives)) (ap (drive_at_boot head.drives) (sym here.0) ∙ none))
    | inr old ↦ was x (sym old ∙ there)
  ]

  range_standing :
      (p : List Event) (k n : ℕ) → AreStanding p
      → AreStanding (onto p (flat_map (found_at head) (range_with_len k n)))
  range_standing p k zero was = was
  range_standing p k (suc n) was =
      let acts : List Act = found_acts k (option_and_then (identity_of head.drives) (drive_at_boot head.drives k)) in
      subst AreStanding (sym (onto_append p acts (flat_map (found_at head) (range_with_len (k + 1) n))))
      (range_standing (onto p acts) (k + 1) n (found_standing p k (option_and_then (identity_of head.drives) (drive_at_boot head.drives k)) refl was))

  or_nothing_tied : (acts : List Act) → AreTied (tie head (onto (Entered 0 ByBoot 0 Boot ∷ []) acts)) → AreTied (tie head (onto (Entered 0 ByBoot 0 Boot ∷ []) (or_nothing acts)))
  or_nothing_tied [] was = was
  or_nothing_tied (act ∷ rest) was = was

  boot_tied : AreTied (tie head (grown [] (boot_entry head)))
  boot_tied =
      let start : List Event = Entered 0 ByBoot 0 Boot ∷ [] in
      let acts : List Act = flat_map (found_at head) (places_of head) in
      let same : plant head (onto start acts) ≡ plant head [] = plant_left head start acts (all_booted is_idle_row head (λ p i. refl) (λ p w. refl) (λ p o. refl)) in
      or_nothing_tied acts (λ x there cut.
      let few : x < 15 = omega (arith, true_within (attached (onto start acts)) x there, length_attached (onto start acts)) in
      absurd (range_standing start 0 head.places (λ y is. absurd (cc (is, read_same 15 y false))) x there
      (sym (booted head x few) ∙ ap (λ (p : Plant). linked_at p.links x) (sym same) ∙ cut)))

  entries_tied : HasOnePlace head → (past : List Event) (entries : List EntryView) → AllStands head past → AreTied (tie head past) → AreLegal head past entries → AreTied (tie head (past_from past entries))
  entries_tied fits past [] all was legal = was
  entries_tied fits past (r ∷ rest) all was legal =
      entries_tied fits (grown past r) rest
      (subst (λ x. AllStands head (grown past x)) (sym legal.0) (all_after head fits past r.who r.seq r.step all))
      (subst (λ x. AreTied (tie head (grown past x))) (sym legal.0) (tied_after head past r.who r.seq fits all was r.step)) legal.1

  -- between entries of a legal journal each place with a device but without a link is told of
  acts_tied : HasOnePlace head → (journal : List EntryView) → HasLegalActs head journal → SeveredAreTold head (past_of journal)
  acts_tied fits [] legal = absurd legal
  acts_tied fits (first ∷ rest) legal =
      entries_tied fits (grown [] first) rest
      (subst (λ x. AllStands head (grown [] x)) (sym legal.0) (boot_all head))
      (subst (λ x. AreTied (tie head (grown [] x))) (sym legal.0) boot_tied) legal.1

  pub journal_tied : HasOnePlace head → (journal : List EntryView) → IsLegal head journal → SeveredAreTold head (past_of journal)
  journal_tied fits journal legal = acts_tied fits journal legal.acts
