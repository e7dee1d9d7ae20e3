-- The rows of the tasks leave the drives at their places recognized, or to be identified.
use Rattle.eh_flow.specs.Table.{deadline_of}
use Rattle.port_rules.proofs.RecoverByPhase.{unanswered_acts, open_ident_acts, reset_acts, look_acts}
use Rattle.std.proofs.Common.{◌≡◌, ◌∙◌, ℕ, ◌+◌, ◌<◌, Bool, true, false, not, ◌&&◌, ◌||◌, ◌==◌, nat_le, nat_lt, List, [], ◌∷◌, ◌++◌, Option, None, Some, ◌⊎◌, inl, inr, slice_get, slice_set, option_and_then, refl, sym, ap, subst, arith, if◌then◌else◌}
use Rattle.std.specs.Prelude.{slice_index_or, slice_index}
use Rattle.std.specs.List.{list_all, list_any}
use Rattle.std.specs.Option.{option_map_or}
use Rattle.std.proofs.lemmas.Bool.{eqb-true, ltb-true, lt-ltb}
use Rattle.ata_base.proofs.Truth.{both_true}
use Rattle.ata_base.specs.declared.identity.Identity.{Identity}
use Rattle.ata_base.specs.declared.ms.Ms.{Ms}
use Rattle.ata_script.specs.declared.port_head.PortHead.{PortHead}
use Rattle.ata_trace.specs.Event.{Event, onto}
use Rattle.ata_trace.specs.Event.Event.{Entered, Told}
use Rattle.ata_trace.specs.declared.act.Act.{Act}
use Rattle.ata_trace.specs.declared.act.Act.TheVariants.{Thawed, ResetBegun, ResetEndedHost, ResetLate, ResetFailed, ResetEndedGen, IdentAsked, IdentLate, Identified, Same, Attached, Mode, Detached, Disabled, WaitingIdent, WaitingReset}
use Rattle.ata_trace.specs.declared.step.Step.TheVariants.{Recover}
use Rattle.ata_trace.specs.declared.who.Who.{Who}
use Rattle.drive_model.specs.View.{DriveView}
use Rattle.eh_flow.specs.declared.phase.Phase.{Phase}
use Rattle.eh_reset.specs.ResetWaits.{reset_wait_of}
use Rattle.eh_reset.specs.declared.look.ResetLook.{ResetLook}
use Rattle.eh_reset.specs.declared.look.ResetLook.TheVariants.{Gone, Ready, Late, Open_}
use Rattle.link_model.specs.LinkView.{empty_link, linked_drive, after_reset}
use Rattle.port_facts.specs.Stamps.{sectors_of}
use Rattle.port_past.proofs.EachAt.{at_get}
use Rattle.port_past.proofs.PlaceSizes.{length_seen, length_identities}
use Rattle.port_past.proofs.Sizes.{attached_within}
use Rattle.port_past.specs.Attachment.{attached}
use Rattle.port_past.specs.Clock.{clock}
use Rattle.port_past.specs.Doubt.{dubious}
use Rattle.port_past.specs.Drives.{drives, drive_at}
use Rattle.port_past.specs.IdentAnswers.{is_ident_answered}
use Rattle.port_past.specs.Identities.{identities, sectors_at}
use Rattle.port_past.specs.Links.{links, link_at, linked_at}
use Rattle.port_past.specs.PlaceTold.{place_told, ident_lates, late}
use Rattle.port_past.specs.Places.{changed_at}
use Rattle.port_past.specs.PortState.{is_frozen, is_running, is_autopsied}
use Rattle.port_past.specs.declared.identity_told.IdentityTold.{IdentityTold}
use Rattle.port_past.specs.declared.place_told.PlaceTold.TheVariants.{NotBegun as NothingSeen, ResetBegun as ResetOpenSeen, ResetEnded as ResetEndedSeen, IdentAsked as IdentOpenSeen, IdentLate as IdentLateSeen}
use Rattle.port_rules.specs.Identities.{is_attached_drive, udma_of, ncq_of, is_other_mode, identity_acts}
use Rattle.port_rules.specs.Resets.{if_attached, generation_of}
use Rattle.port_rules.specs.Told.{told_if, frozen_acts}
use Rattle.port_stands.proofs.Blocks.{left_alone}
use Rattle.port_stands.proofs.Driven.{read_change}
use Rattle.port_stands.proofs.Fitting.{sectors_told, is_unread, is_task_at, IsUnread, AreRecognized, HoldsOwn, HoldOwn}
use Rattle.port_stands.proofs.GuardFrames.{Frame, frame, frame_step, is_gate_row}
use Rattle.port_stands.proofs.HandOver.{read_back}
use Rattle.port_stands.proofs.Lists.{all_more, all_told}
use Rattle.port_stands.proofs.Phases.{IsTask, phase_place, read_changed}
use Rattle.port_stands.proofs.RowTies.{reset_tie, host_links, host_all, gone_attached, disabled_attached}
use Rattle.port_stands.proofs.Rows.{all_look, all_reset, all_identity}
use Rattle.port_stands.proofs.SeveredTies.{Tie, tie}
use Rattle.port_stands.proofs.WholeRows.{Plant, plant, plant_left, is_idle_row}
use Rattle.port_stands.proofs.WholeTold.{About, about, about_left, is_elsewhere, change_apart, put_apart}
use Rattle.port_stands.specs.Words.{recovery}
use Rattle.port_stands.proofs.RecognizedTasks.{task_found, late_unread}
use Rattle.port_stands.proofs.RecognizedActs.{left_entry}

-- ---- the rows

-- acts that tell no identity
abbrev is_untold : Act → Bool
is_untold (Identified place model serial sectors depth) = false
is_untold act = true

untold_step : (p : List Event) (act : Act) → is_untold act ≡ true → identities (Told act ∷ p) ≡ identities p
untold_step p (Identified place model serial sectors depth) is = absurd (cc)
untold_step p act is = refl

module _ (head : PortHead) (past : List Event) (time : ℕ) (who : Who) (seq : ℕ) (was : AreRecognized head past) (own : HoldOwn head past) (at : Phase) (task : IsTask (recovery head past) at) where
  abbrev start : List Event
  start = Entered time who seq Recover ∷ past

  -- a place of which a row tells nothing
  elsewhere_met :
      (acts : List Act) (x d : ℕ) → list_all is_gate_row acts ≡ true → list_all (is_elsewhere x) acts ≡ true
      → link_at (links head (onto start acts)) x ≡ link_at (links head past) x → sectors_at (onto start acts) x ≡ sectors_at past x
      → slice_index_or (attached (onto start acts)) x false ≡ true → linked_at (links head (onto start acts)) x ≡ Some d
      → (sectors_of head d ≡ sectors_at (onto start acts) x) ⊎ IsUnread (recovery head (onto start acts)) x
  elsewhere_met acts x d row other wire size there linked =
      let same : frame head (onto start acts) ≡ frame head past = left_alone is_gate_row (frame head) (frame_step head) start acts row in
      let told : about (recovery head (onto start acts)) x ≡ about (recovery head past) x = about_left head x start acts other in
      elim (was x d (ap (λ (a : About). a.attached) (sym told) ∙ there) (ap linked_drive (sym wire) ∙ linked)) [
        | inl e ↦ inl (e ∙ sym size)
        | inr u ↦ inr (record {
          runs = ap (λ (f : Frame). f.running && f.autopsied) same ∙ u.runs;
          unread = ap (λ (a : About). is_unread a.seen a.lates) told ∙ u.unread;
          task = ap (λ (f : Frame). list_any (is_task_at x) f.tasks) same ∙ u.task;
        })
      ]

  -- the place of the row, of which is told what leaves its identity unread
  unread_here :
      (acts : List Act) (place : ℕ) → phase_place at ≡ Some place → list_all is_gate_row acts ≡ true
      → is_unread (slice_index_or (place_told (onto start acts)) place NothingSeen) (slice_index (ident_lates (onto start acts)) place) ≡ true
      → IsUnread (recovery head (onto start acts)) place
  unread_here acts place there row unread =
      let same : frame head (onto start acts) ≡ frame head past = left_alone is_gate_row (frame head) (frame_step head) start acts row in
      record {
        runs = ap (λ (f : Frame). f.running && f.autopsied) same ∙ both_true (is_running past) (is_autopsied past) task.running task.autopsied;
        unread = unread;
        task = ap (λ (f : Frame). list_any (is_task_at place) f.tasks) same ∙ task_found (recovery head past) place (recovery head past).tasks at task.at there;
      }

  -- a row that leaves the links
  idle_met :
      (acts : List Act) (place : ℕ) → list_all is_gate_row acts ≡ true → list_all is_idle_row acts ≡ true
      → ((x : ℕ) → not (place == x) ≡ true → list_all (is_elsewhere x) acts ≡ true)
      → ((x : ℕ) → not (place == x) ≡ true → sectors_at (onto start acts) x ≡ sectors_at past x)
      → ((d : ℕ) → slice_index_or (attached (onto start acts)) place false ≡ true → linked_at (links head past) place ≡ Some d
      → (sectors_of head d ≡ sectors_at (onto start acts) place) ⊎ IsUnread (recovery head (onto start acts)) place)
      → AreRecognized head (onto start acts)
  idle_met acts place row idle other size here = λ x d there linked. by x d (place == x) refl there linked
    where
      same : plant head (onto start acts) ≡ plant head past
      same = plant_left head start acts idle

      wire : (x : ℕ) → link_at (links head (onto start acts)) x ≡ link_at (links head past) x
      wire x = ap (λ (p : Plant). link_at p.links x) same

      by : (x d : ℕ) (b : Bool) → (place == x) ≡ b → slice_index_or (attached (onto start acts)) x false ≡ true → linked_at (links head (onto start acts)) x ≡ Some d
          → (sectors_of head d ≡ sectors_at (onto start acts) x) ⊎ IsUnread (recovery head (onto start acts)) x
      by x d false e there linked = elsewhere_met acts x d row (other x (ap not e)) (wire x) (size x (ap not e)) there linked
      by x d true e there linked =
          let one : place ≡ x = eqb-true place x e in
          subst (λ y. (sectors_of head d ≡ sectors_at (onto start acts) y) ⊎ IsUnread (recovery head (onto start acts)) y) one
          (here d (ap (λ y. slice_index_or (attached (onto start acts)) y false) one ∙ there)
          (ap (linked_at (links head past)) one ∙ ap linked_drive (sym (wire x)) ∙ linked))

  untold : (acts : List Act) (x : ℕ) → list_all is_untold acts ≡ true → sectors_at (onto start acts) x ≡ sectors_at past x
  untold acts x all = ap (λ i. sectors_told i x) (left_alone is_untold identities untold_step start acts all)

  -- a reset of a place begins
  pub reset_met : (place attempt : ℕ) → phase_place at ≡ Some place → AreRecognized head (onto start (reset_acts head past place attempt))
  reset_met place attempt there = λ x d here linked. by x d (place == x) refl here linked
    where
      deadline : Ms
      deadline = deadline_of (clock past) (reset_wait_of attempt)

      same : tie head (onto start (reset_acts head past place attempt))
          ≡ record { stands = record (recovery head past) { seen = slice_set (place_told past) place (ResetOpenSeen attempt deadline) }; wires = changed_at place after_reset (links head past) }
      same = reset_tie head start place attempt deadline head.pmp (is_frozen past)

      row : list_all is_gate_row (reset_acts head past place attempt) ≡ true
      row = all_reset is_gate_row head past place attempt (λ d. refl) (λ direct. refl)

      by : (x d : ℕ) (b : Bool) → (place == x) ≡ b → slice_index_or (attached (onto start (reset_acts head past place attempt))) x false ≡ true
          → linked_at (links head (onto start (reset_acts head past place attempt))) x ≡ Some d
          → (sectors_of head d ≡ sectors_at (onto start (reset_acts head past place attempt)) x) ⊎ IsUnread (recovery head (onto start (reset_acts head past place attempt))) x
      by x d false e here linked =
          elsewhere_met (reset_acts head past place attempt) x d row (all_reset (is_elsewhere x) head past place attempt (λ d. ap not e) (λ direct. refl))
          (ap (λ (t : Tie). link_at t.wires x) same ∙ change_apart (links head past) place x after_reset empty_link (ap not e))
          (untold (reset_acts head past place attempt) x (all_reset is_untold head past place attempt (λ d. refl) (λ direct. refl))) here linked
      by x d true e here linked =
          let one : place ≡ x = eqb-true place x e in
          let few : x < 15 = attached_within (onto start (reset_acts head past place attempt)) x here in
          inr (unread_here (reset_acts head past place attempt) x (there ∙ ap Some one) row
          (ap (λ (t : Tie). is_unread (slice_index_or t.stands.seen x NothingSeen) (slice_index t.stands.lates x)) same
          ∙ ap (λ z. is_unread z (slice_index (ident_lates past) x))
          (ap (λ y. slice_index_or (slice_set (place_told past) y (ResetOpenSeen attempt deadline)) x NothingSeen) one
          ∙ read_back (place_told past) x (ResetOpenSeen attempt deadline) NothingSeen (omega (arith, few, length_seen past)))))

  -- the host's rows
  pub host_begun_met : (deadline : Ms) → AreRecognized head (onto start (frozen_acts past ++ ResetBegun None 1 deadline ∷ []))
  host_begun_met deadline = λ x d there linked.
      elsewhere_met (frozen_acts past ++ ResetBegun None 1 deadline ∷ []) x d (host_all is_gate_row deadline (is_frozen past) refl refl) (host_all (is_elsewhere x) deadline (is_frozen past) refl refl)
      (ap (λ l. link_at l x) (host_links head start deadline (is_frozen past))) (untold (frozen_acts past ++ ResetBegun None 1 deadline ∷ []) x (host_all is_untold deadline (is_frozen past) refl refl)) there linked

  pub host_ended_met : AreRecognized head (onto start (ResetEndedHost ∷ Thawed ∷ []))
  host_ended_met = λ x d there linked. elsewhere_met (ResetEndedHost ∷ Thawed ∷ []) x d refl refl refl refl there linked

  -- an identity is asked for
  pub asked_met : (place attempt : ℕ) (deadline : Ms) → phase_place at ≡ Some place → AreRecognized head (onto start (IdentAsked place attempt deadline ∷ []))
  asked_met place attempt deadline there = λ x d here linked. by x d (place == x) refl here linked
    where
      by : (x d : ℕ) (b : Bool) → (place == x) ≡ b → slice_index_or (attached past) x false ≡ true → linked_at (links head past) x ≡ Some d
          → (sectors_of head d ≡ sectors_at past x) ⊎ IsUnread (recovery head (Told (IdentAsked place attempt deadline) ∷ start)) x
      by x d false e here linked = elsewhere_met (IdentAsked place attempt deadline ∷ []) x d refl (rw (ap not e) refl) refl refl here linked
      by x d true e here linked =
          let one : place ≡ x = eqb-true place x e in
          let few : x < 15 = attached_within past x here in
          inr (unread_here (IdentAsked place attempt deadline ∷ []) x (there ∙ ap Some one) refl
          (ap (λ z. is_unread z (slice_index (ident_lates past) x))
          (ap (λ y. slice_index_or (slice_set (place_told past) y (IdentOpenSeen deadline)) x NothingSeen) one
          ∙ read_back (place_told past) x (IdentOpenSeen deadline) NothingSeen (omega (arith, few, length_seen past)))))

  -- a reset that is late
  late_met : (place : ℕ) (again : Bool) → AreRecognized head (onto start (ResetLate (Some place) ∷ (if again then [] else ResetFailed (Some place) ∷ if_attached past place (Disabled place))))
  late_met place true =
      idle_met (ResetLate (Some place) ∷ []) place refl refl (λ x e. rw e refl) (λ x e. refl)
      (λ d here linked. elim (was place d here linked) [
        | inl e ↦ inl e
        | inr u ↦ inr (record {
          runs = u.runs;
          unread = ap (λ z. is_unread z (slice_index (ident_lates past) place)) (read_changed (place_told past) place late NothingSeen refl)
              ∙ late_unread (slice_index_or (place_told past) place NothingSeen) (slice_index (ident_lates past) place) u.unread;
          task = u.task;
        })
      ])
  late_met place false =
      idle_met (ResetLate (Some place) ∷ ResetFailed (Some place) ∷ if_attached past place (Disabled place)) place (kinds is_gate_row refl refl refl) (kinds is_idle_row refl refl refl)
      (λ x e. kinds (is_elsewhere x) e e e) (λ x e. untold (ResetLate (Some place) ∷ ResetFailed (Some place) ∷ if_attached past place (Disabled place)) x (kinds is_untold refl refl refl))
      (λ d here linked. absurd (cc (sym here ∙ disabled_attached past (Told (ResetFailed (Some place)) ∷ Told (ResetLate (Some place)) ∷ start) place refl)))
    where
      kinds : (kind : Act → Bool) → kind (ResetLate (Some place)) ≡ true → kind (ResetFailed (Some place)) ≡ true → kind (Disabled place) ≡ true
          → list_all kind (ResetLate (Some place) ∷ ResetFailed (Some place) ∷ if_attached past place (Disabled place)) ≡ true
      kinds kind a b c =
          all_more kind (ResetLate (Some place)) (ResetFailed (Some place) ∷ if_attached past place (Disabled place)) a
          (all_more kind (ResetFailed (Some place)) (if_attached past place (Disabled place)) b (all_told kind (slice_index_or (attached past) place false) (Disabled place) c))

  ready_seen : (place generation : ℕ) (pmp : Bool) → place_told (onto start (ResetEndedGen place generation ∷ told_if (not pmp) Thawed)) ≡ slice_set (place_told past) place (ResetEndedSeen true)
  ready_seen place generation true = refl
  ready_seen place generation false = refl

  -- an open reset
  pub look_met : (place attempt : ℕ) (v : Option DriveView) (look : ResetLook) → phase_place at ≡ Some place → AreRecognized head (onto start (look_acts head past place attempt v look))
  look_met place attempt v Gone there =
      idle_met (look_acts head past place attempt v Gone) place
      (all_look is_gate_row head past place attempt v Gone (record { ended = λ g. refl; none = refl; late = refl; failed = refl; disabled = refl; detached = refl; waiting = refl }) (λ d. refl))
      (all_look is_idle_row head past place attempt v Gone (record { ended = λ g. refl; none = refl; late = refl; failed = refl; disabled = refl; detached = refl; waiting = refl }) (λ d. refl))
      (λ x e. all_look (is_elsewhere x) head past place attempt v Gone (record { ended = λ g. e; none = e; late = e; failed = e; disabled = e; detached = e; waiting = refl }) (λ d. refl))
      (λ x e. untold (look_acts head past place attempt v Gone) x (all_look is_untold head past place attempt v Gone (record { ended = λ g. refl; none = refl; late = refl; failed = refl; disabled = refl; detached = refl; waiting = refl }) (λ d. refl)))
      (λ d here linked. absurd (cc (sym here ∙ gone_attached head past time who seq place)))
  look_met place attempt v Ready there =
      let acts : List Act = look_acts head past place attempt v Ready in
      let row = all_look is_gate_row head past place attempt v Ready (record { ended = λ g. refl; none = refl; late = refl; failed = refl; disabled = refl; detached = refl; waiting = refl }) (λ d. refl) in
      idle_met acts place row
      (all_look is_idle_row head past place attempt v Ready (record { ended = λ g. refl; none = refl; late = refl; failed = refl; disabled = refl; detached = refl; waiting = refl }) (λ d. refl))
      (λ x e. all_look (is_elsewhere x) head past place attempt v Ready (record { ended = λ g. e; none = e; late = e; failed = e; disabled = e; detached = e; waiting = refl }) (λ d. refl))
      (λ x e. untold acts x (all_look is_untold head past place attempt v Ready (record { ended = λ g. refl; none = refl; late = refl; failed = refl; disabled = refl; detached = refl; waiting = refl }) (λ d. refl)))
      (λ d here linked.
      inr (unread_here acts place there row
      (ap (λ z. is_unread z (slice_index (ident_lates (onto start acts)) place))
      (ap (λ s. slice_index_or s place NothingSeen) (ready_seen place (generation_of head past place v) head.pmp)
      ∙ read_back (place_told past) place (ResetEndedSeen true) NothingSeen (omega (arith, attached_within (onto start acts) place here, length_seen past))))))
  look_met place attempt v Late there = late_met place (nat_lt attempt 4)
  look_met place attempt v Open_ there = left_entry head past time who seq was Recover (WaitingReset place ∷ []) refl

  -- an identity that is late
  ident_late_met : (place attempt : ℕ) (again : Bool) → attempt ≡ slice_index (ident_lates past) place + 1 → nat_lt attempt 3 ≡ again
      → AreRecognized head (onto start (IdentLate place ∷ (if again then [] else if_attached past place (Disabled place))))
  ident_late_met place attempt true tries is =
      idle_met (IdentLate place ∷ []) place refl refl (λ x e. rw e refl) (λ x e. refl)
      (λ d here linked. elim (was place d here linked) [
        | inl e ↦ inl e
        | inr u ↦
            let few : place < 15 = attached_within past place here in
            inr (record {
              runs = u.runs;
              unread = ap (λ z. is_unread z (slice_index (changed_at place (λ n. n + 1) (ident_lates past)) place)) (read_back (place_told past) place IdentLateSeen NothingSeen (omega (arith, few, length_seen past)))
                  ∙ lt-ltb (slice_index (changed_at place (λ n. n + 1) (ident_lates past)) place) 3 (fewer (read_change (ident_lates past) place place (λ n. n + 1) 0));
              task = u.task;
            })
      ])
    where
      fewer : ((place ≡ place) × (slice_index_or (changed_at place (λ n. n + 1) (ident_lates past)) place 0 ≡ slice_index_or (ident_lates past) place 0 + 1))
          ⊎ ((slice_index_or (changed_at place (λ n. n + 1) (ident_lates past)) place 0 ≡ slice_index_or (ident_lates past) place 0) × (place ≡ place → slice_index_or (ident_lates past) place 0 ≡ 0))
          → slice_index (changed_at place (λ n. n + 1) (ident_lates past)) place < 3
      fewer (inl up) = omega (arith, up.1, tries, ltb-true attempt 3 is)
      fewer (inr none) = omega (arith, none.0, none.1 refl)
  ident_late_met place attempt false tries is =
      idle_met (IdentLate place ∷ if_attached past place (Disabled place)) place (kinds is_gate_row refl refl) (kinds is_idle_row refl refl)
      (λ x e. kinds (is_elsewhere x) e e) (λ x e. untold (IdentLate place ∷ if_attached past place (Disabled place)) x (kinds is_untold refl refl))
      (λ d here linked. absurd (cc (sym here ∙ disabled_attached past (Told (IdentLate place) ∷ start) place refl)))
    where
      kinds : (kind : Act → Bool) → kind (IdentLate place) ≡ true → kind (Disabled place) ≡ true → list_all kind (IdentLate place ∷ if_attached past place (Disabled place)) ≡ true
      kinds kind a b = all_more kind (IdentLate place) (if_attached past place (Disabled place)) a (all_told kind (slice_index_or (attached past) place false) (Disabled place) b)

  -- an open identity
  unheard_met : (place attempt : ℕ) (deadline : ℕ) (due : Bool) → attempt ≡ slice_index (ident_lates past) place + 1
      → AreRecognized head (onto start (if due then IdentLate place ∷ (if nat_lt attempt 3 then [] else if_attached past place (Disabled place)) else WaitingIdent place ∷ []))
  unheard_met place attempt deadline true tries = ident_late_met place attempt (nat_lt attempt 3) tries refl
  unheard_met place attempt deadline false tries = left_entry head past time who seq was Recover (WaitingIdent place ∷ []) refl

  abbrev told_of : Identity → IdentityTold
  told_of i = record { model = i.model; serial = i.serial; sectors = i.sectors; depth = i.depth }

  read_told : (place : ℕ) (i : Identity) (same there : Bool) (udma : ℕ) (on in_doubt : Bool)
      → identities (onto (Told (Identified place i.model i.serial i.sectors i.depth) ∷ start) ((if same then Same place ∷ [] else if there then Detached place ∷ Attached place ∷ [] else Attached place ∷ []) ++ Mode place udma on in_doubt ∷ []))
      ≡ slice_set (identities past) place (Some (told_of i))
  read_told place i true there udma on in_doubt = refl
  read_told place i false true udma on in_doubt = refl
  read_told place i false false udma on in_doubt = refl

  identity_told : (place : ℕ) (i : Identity) → identities (onto start (identity_acts past place i)) ≡ slice_set (identities past) place (Some (told_of i))
  identity_told place i =
      let same : Bool = is_attached_drive past place i in
      read_told place i same (slice_index_or (attached past) place false) (udma_of past place same) (ncq_of past place same i)
      (not same || slice_index_or (dubious past) place false || is_other_mode past place (udma_of past place same) (ncq_of past place same i))

  -- the drive that is read is the one that is linked
  is_own : (place d : ℕ) (v : DriveView) (o : Option ℕ) → linked_at (links head past) place ≡ o → option_and_then (slice_get (drives head past)) o ≡ Some v → linked_at (links head past) place ≡ Some d → v.identity.sectors ≡ sectors_of head d
  is_own place d v None linked found is = absurd (cc)
  is_own place d v (Some e) linked found is =
      let one : e ≡ d = cc in
      subst (λ k. v.identity.sectors ≡ sectors_of head k) one (at_get (λ k w. HoldsOwn (sectors_of head k) w) (drives head past) e v own found).size

  heard_met :
      (place attempt : ℕ) (deadline : ℕ) (v : DriveView) (b : Bool) → drive_at head past place ≡ Some v → attempt ≡ slice_index (ident_lates past) place + 1
      → AreRecognized head (onto start (if b then identity_acts past place v.identity else unanswered_acts past place attempt deadline))
  heard_met place attempt deadline v false is tries = unheard_met place attempt deadline (nat_le deadline (clock past)) tries
  heard_met place attempt deadline v true is tries =
      let acts : List Act = identity_acts past place v.identity in
      idle_met acts place
      (all_identity is_gate_row head past place v.identity (record { identified = λ i. refl; same = refl; attached = refl; detached = refl; disabled = refl; mode = λ u o d. refl; late = refl; waiting = refl }))
      (all_identity is_idle_row head past place v.identity (record { identified = λ i. refl; same = refl; attached = refl; detached = refl; disabled = refl; mode = λ u o d. refl; late = refl; waiting = refl }))
      (λ x e. all_identity (is_elsewhere x) head past place v.identity (record { identified = λ i. refl; same = refl; attached = e; detached = e; disabled = e; mode = λ u o d. e; late = e; waiting = refl }))
      (λ x e.
      ap (λ i. sectors_told i x) (identity_told place v.identity)
      ∙ ap (λ o. option_map_or (λ (k : IdentityTold). k.sectors) o 0) (put_apart (identities past) place x (Some (told_of v.identity)) None e))
      (λ d here linked.
      inl (sym (is_own place d v (linked_at (links head past) place) refl is linked)
      ∙ sym (ap (λ i. sectors_told i place) (identity_told place v.identity)
      ∙ ap (λ o. option_map_or (λ (k : IdentityTold). k.sectors) o 0)
      (read_back (identities past) place (Some (told_of v.identity)) None (omega (arith, attached_within (onto start acts) place here, length_identities past))))))

  pub ident_met :
      (place attempt : ℕ) (deadline : ℕ) (v : Option DriveView) → drive_at head past place ≡ v → attempt ≡ slice_index (ident_lates past) place + 1
      → AreRecognized head (onto start (open_ident_acts head past place attempt deadline v))
  ident_met place attempt deadline None is tries = unheard_met place attempt deadline (nat_le deadline (clock past)) tries
  ident_met place attempt deadline (Some v) is tries = heard_met place attempt deadline v (slice_index_or (is_ident_answered head past) place false) is tries
