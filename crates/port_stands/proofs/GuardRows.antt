-- The gate of a port stays guarded over the rows of the tasks.
use Rattle.port_rules.proofs.RecoverByPhase.{reset_acts, look_acts}
use Rattle.eh_flow.specs.Table.{deadline_of}
use Rattle.std.proofs.Common.{◌≡◌, ◌∙◌, ℕ, Bool, true, false, not, ◌||◌, ◌==◌, nat_lt, List, [], ◌∷◌, ◌++◌, Option, None, Some, inl, inr, slice_set, refl, sym, ap, subst, if◌then◌else◌}
use Rattle.std.specs.Prelude.{slice_index_or, slice_index}
use Rattle.std.specs.List.{list_all}
use Rattle.std.proofs.lemmas.Bool.{eqb-true}
use Rattle.ata_base.specs.declared.ms.Ms.{Ms}
use Rattle.ata_script.specs.declared.port_head.PortHead.{PortHead}
use Rattle.ata_trace.specs.Event.{Event, onto}
use Rattle.ata_trace.specs.Event.Event.{Entered, Told}
use Rattle.ata_trace.specs.declared.act.Act.{Act}
use Rattle.ata_trace.specs.declared.act.Act.TheVariants.{Frozen, Thawed, ResetBegun, ResetLate, ResetFailed, ResetEndedGen, ResetEndedNone, Detached, Disabled}
use Rattle.ata_trace.specs.declared.step.Step.{Step}
use Rattle.ata_trace.specs.declared.who.Who.{Who}
use Rattle.drive_model.specs.View.{DriveView}
use Rattle.eh_flow.specs.declared.phase.Phase.{Phase}
use Rattle.eh_flow.specs.declared.phase.Phase.TheVariants.{HostOwed, HostOpen, ResetOwed, ResetOpen, IdentOwed}
use Rattle.eh_reset.specs.ResetWaits.{reset_wait_of}
use Rattle.eh_reset.specs.declared.look.ResetLook.{ResetLook}
use Rattle.eh_reset.specs.declared.look.ResetLook.TheVariants.{Gone, Ready, Late, Open_}
use Rattle.port_past.specs.Clock.{clock}
use Rattle.port_past.specs.Attachment.{attached}
use Rattle.port_past.specs.PortState.{is_frozen}
use Rattle.port_past.specs.Tasks.{tasks}
use Rattle.port_past.specs.declared.place_told.HostTold.TheVariants.{ResetBegun as HostBegun}
use Rattle.port_past.specs.declared.place_told.PlaceTold.TheVariants.{NotBegun}
use Rattle.port_past.specs.declared.task.Task.{Task}
use Rattle.port_past.specs.declared.task.Task.TheVariants.{Host, Reset, Revalidate}
use Rattle.port_rules.specs.Resets.{if_attached}
use Rattle.port_rules.specs.Told.{told_if, frozen_acts}
use Rattle.port_stands.proofs.Blocks.{left_alone}
use Rattle.port_stands.proofs.Phases.{IsTask, walk_moves, same_place, read_set, phase_place, stand_place, under_way, host_opens, phase_walks, is_of_task, own_or_later}
use Rattle.port_stands.proofs.Rows.{HasReset, HasIdentity, all_look, all_reset}
use Rattle.port_stands.specs.Gate.{gate, IsGuarded, is_host_phase, is_under_way}
use Rattle.port_stands.specs.Words.{RecoveryView, recovery, task_stand, walk, phase_of, is_through, is_home}
use Rattle.port_stands.proofs.GuardFrames.{is_row_act, is_gate_row, Frame, frame, frame_step, task_guarded, cool_guarded, still_cool, on_way, off_way, fan_thawed, host_no_place, place_open, seen_reset, cool_reset, place_late}
use Rattle.ata_base.proofs.Truth.{both}

-- ---- a direct port's place

home_place : (place : ℕ) → (place == 0) ≡ true → place ≡ 0
home_place place is = eqb-true place 0 is

pub walk_home :
    (s : RecoveryView) (tasks : List Task) (at : Phase) (place : ℕ) → list_all is_home tasks ≡ true → walk s tasks ≡ at
    → phase_place at ≡ Some place → place ≡ 0
walk_home s [] at place home is there = absurd (cc (ap phase_place is))
walk_home s (Host ∷ rest) at place home is there =
    elim (own_or_later (task_stand s Host) (walk s rest) at is) [
      | inl own ↦ absurd (host_no_place s.host place (ap stand_place own ∙ there))
      | inr more ↦ walk_home s rest at place home more.1 there
    ]
walk_home s (Reset p ∷ rest) at place home is there =
    let parts = both (p == 0) (list_all is_home rest) home in
    elim (own_or_later (task_stand s (Reset p)) (walk s rest) at is) [
      | inl own ↦ sym (same_place p place (ResetOwed p 1 1) at (slice_index_or s.attached p false || slice_index_or s.hot p false) (slice_index s.lates p) (slice_index_or s.seen p NotBegun) refl there own) ∙ home_place p parts.0
      | inr more ↦ walk_home s rest at place parts.1 more.1 there
    ]
walk_home s (Revalidate p ∷ rest) at place home is there =
    let parts = both (p == 0) (list_all is_home rest) home in
    elim (own_or_later (task_stand s (Revalidate p)) (walk s rest) at is) [
      | inl own ↦ sym (same_place p place (IdentOwed p 1) at (slice_index_or s.attached p false || slice_index_or s.hot p false) (slice_index s.lates p) (slice_index_or s.seen p NotBegun) refl there own) ∙ home_place p parts.0
      | inr more ↦ walk_home s rest at place parts.1 more.1 there
    ]

module _ (head : PortHead) (past : List Event) (time : ℕ) (who : Who) (seq : ℕ) (step : Step) where
  reset_is : (place : ℕ) → HasReset is_row_act place
  reset_is place = record { ended = λ g. refl; none = refl; late = refl; failed = refl; disabled = refl; detached = refl; waiting = refl }

  reset_is_gate : (place : ℕ) → HasReset is_gate_row place
  reset_is_gate place = record { ended = λ g. refl; none = refl; late = refl; failed = refl; disabled = refl; detached = refl; waiting = refl }

  pub ident_is : (place : ℕ) → HasIdentity is_row_act place
  ident_is place = record { identified = λ i. refl; same = refl; attached = refl; detached = refl; disabled = refl; mode = λ u o d. refl; late = refl; waiting = refl }

  -- a reset of a place begins
  pub reset_guarded :
      (place attempt : ℕ) (at : Phase) → phase_of (recovery head past) ≡ at → IsTask (recovery head past) at
      → phase_place at ≡ Some place → is_through at ≡ false → is_host_phase at ≡ false → is_of_task at ≡ true
      → IsGuarded head.pmp (gate head past)
      → IsGuarded head.pmp (gate head (onto (Entered time who seq step ∷ past) (reset_acts head past place attempt)))
  reset_guarded place attempt at is task there open_ other of was =
      let acts : List Act = reset_acts head past place attempt in
      let start : List Event = Entered time who seq step ∷ past in
      let q : List Event = onto start acts in
      let deadline : Ms = deadline_of (clock past) (reset_wait_of attempt) in
      let all : list_all is_gate_row acts ≡ true = all_reset is_gate_row head past place attempt (λ d. refl) (λ direct. refl) in
      let same : frame head q ≡ frame head past = left_alone is_gate_row (frame head) (frame_step head) start acts all in
      task_guarded head past time who seq step acts at task all was
      (λ direct cold. on_way (gate head q)
      (under_way (recovery head q) (ap (λ (f : Frame). f.running) same ∙ task.running) (ap (λ (f : Frame). f.autopsied) same ∙ task.autopsied)
      (subst (λ t. is_through (walk (recovery head q) t) ≡ false) (sym (ap (λ (f : Frame). f.tasks) same))
      (walk_moves (recovery head past) (recovery head q) at (tasks head past)
      (place_open (recovery head past) (recovery head q) at place attempt deadline there (seen_reset start place attempt deadline head.pmp (is_frozen past)))
      open_ task.at))))
      (λ fan cold. absurd (cc (
        cool_reset start place attempt deadline head.pmp (is_frozen past) fan,
        cold,
        fan_thawed head.pmp (gate head past) at was is other of fan,
      )))

  thawed_none : (pmp att : Bool) (place : ℕ) → pmp ≡ false → is_frozen (onto (Entered time who seq step ∷ past) (ResetEndedNone place ∷ told_if (not pmp) Thawed ++ told_if att (Detached place))) ≡ false
  thawed_none true att place is = absurd (cc)
  thawed_none false true place is = refl
  thawed_none false false place is = refl

  thawed_gen : (pmp : Bool) (place generation : ℕ) → pmp ≡ false → is_frozen (onto (Entered time who seq step ∷ past) (ResetEndedGen place generation ∷ told_if (not pmp) Thawed)) ≡ false
  thawed_gen true place generation is = absurd (cc)
  thawed_gen false place generation is = refl

  by_kind : (pmp : Bool) (P : Type 0) → head.pmp ≡ pmp → (head.pmp ≡ true → P) → (head.pmp ≡ false → P) → P
  by_kind true P is fan direct = fan is
  by_kind false P is fan direct = direct is

  -- what is seen of an open reset
  pub look_guarded :
      (place attempt ident : ℕ) (deadline : Ms) (v : Option DriveView) (look : ResetLook)
      → phase_of (recovery head past) ≡ ResetOpen place attempt ident deadline
      → IsTask (recovery head past) (ResetOpen place attempt ident deadline)
      → IsGuarded head.pmp (gate head past)
      → IsGuarded head.pmp (gate head (onto (Entered time who seq step ∷ past) (look_acts head past place attempt v look)))
  look_guarded place attempt ident deadline v Gone is task was =
      let acts : List Act = look_acts head past place attempt v Gone in
      by_kind head.pmp (IsGuarded head.pmp (gate head (onto (Entered time who seq step ∷ past) acts))) refl
      (λ fan. cool_guarded head past time who seq step acts (ResetOpen place attempt ident deadline) task
      (all_look is_gate_row head past place attempt v Gone (reset_is_gate place) (λ direct. refl))
      (still_cool head past time who seq step acts
      (all_look is_row_act head past place attempt v Gone (reset_is place) (λ direct. absurd (cc)))
      (fan_thawed head.pmp (gate head past) _ was is refl refl fan)) was)
      (λ direct. cool_guarded head past time who seq step acts (ResetOpen place attempt ident deadline) task
      (all_look is_gate_row head past place attempt v Gone (reset_is_gate place) (λ direct. refl))
      (thawed_none head.pmp (slice_index_or (attached past) place false) place direct) was)
  look_guarded place attempt ident deadline v Ready is task was =
      let acts : List Act = look_acts head past place attempt v Ready in
      by_kind head.pmp (IsGuarded head.pmp (gate head (onto (Entered time who seq step ∷ past) acts))) refl
      (λ fan. cool_guarded head past time who seq step acts (ResetOpen place attempt ident deadline) task
      (all_look is_gate_row head past place attempt v Ready (reset_is_gate place) (λ direct. refl))
      (still_cool head past time who seq step acts
      (all_look is_row_act head past place attempt v Ready (reset_is place) (λ direct. absurd (cc)))
      (fan_thawed head.pmp (gate head past) _ was is refl refl fan)) was)
      (λ direct. cool_guarded head past time who seq step acts (ResetOpen place attempt ident deadline) task
      (all_look is_gate_row head past place attempt v Ready (reset_is_gate place) (λ direct. refl))
      (thawed_gen head.pmp place _ direct) was)
  look_guarded place attempt ident deadline v Late is task was = late_by (nat_lt attempt 4) refl
    where
      again : is_through (walk (recovery head (Told (ResetLate (Some place)) ∷ Entered time who seq step ∷ past)) (tasks head past)) ≡ false
      again =
          walk_moves (recovery head past) (recovery head (Told (ResetLate (Some place)) ∷ Entered time who seq step ∷ past)) (ResetOpen place attempt ident deadline) (tasks head past)
          (place_late (recovery head past) (recovery head (Told (ResetLate (Some place)) ∷ Entered time who seq step ∷ past)) (ResetOpen place attempt ident deadline) place refl refl refl refl refl)
          refl task.at

      parted : (att : Bool) → slice_index_or (attached past) place false ≡ att → place ≡ 0
          → slice_index_or (attached (onto (Entered time who seq step ∷ past) (ResetLate (Some place) ∷ ResetFailed (Some place) ∷ told_if att (Disabled place)))) 0 false ≡ false
      parted true at home =
          subst (λ p. slice_index_or (slice_set (attached past) place false) p false ≡ false) home
          (elim (read_set (attached past) place false false) [ inl e ↦ e | inr e ↦ e ])
      parted false at home = subst (λ p. slice_index_or (attached past) p false ≡ false) home at

      late_by : (b : Bool) → nat_lt attempt 4 ≡ b
          → IsGuarded head.pmp (gate head (onto (Entered time who seq step ∷ past)
          (ResetLate (Some place) ∷ (if b then [] else ResetFailed (Some place) ∷ if_attached past place (Disabled place)))))
      late_by true e =
          task_guarded head past time who seq step (ResetLate (Some place) ∷ []) (ResetOpen place attempt ident deadline) task refl was
          (λ direct cold. on_way (gate head (Told (ResetLate (Some place)) ∷ Entered time who seq step ∷ past))
          (under_way (recovery head (Told (ResetLate (Some place)) ∷ Entered time who seq step ∷ past)) task.running task.autopsied again))
          (λ fan cold. absurd (cc (cold, fan_thawed head.pmp (gate head past) (ResetOpen place attempt ident deadline) was is refl refl fan)))
      late_by false e =
          let acts : List Act = ResetLate (Some place) ∷ ResetFailed (Some place) ∷ if_attached past place (Disabled place) in
          task_guarded head past time who seq step acts (ResetOpen place attempt ident deadline) task
          (failed_all (slice_index_or (attached past) place false)) was
          (λ direct cold. off_way (gate head (onto (Entered time who seq step ∷ past) acts))
          (parted (slice_index_or (attached past) place false) refl
          (walk_home (recovery head past) (tasks head past) (ResetOpen place attempt ident deadline) place (was.home direct) task.at refl)))
          (λ fan cold. absurd (cc (
            cold,
            still_cold (slice_index_or (attached past) place false),
            fan_thawed head.pmp (gate head past) (ResetOpen place attempt ident deadline) was is refl refl fan,
          )))
        where
          failed_all : (att : Bool) → list_all is_gate_row (ResetLate (Some place) ∷ ResetFailed (Some place) ∷ told_if att (Disabled place)) ≡ true
          failed_all true = refl
          failed_all false = refl

          still_cold : (att : Bool) → is_frozen (onto (Entered time who seq step ∷ past) (ResetLate (Some place) ∷ ResetFailed (Some place) ∷ told_if att (Disabled place))) ≡ is_frozen past
          still_cold true = refl
          still_cold false = refl
  look_guarded place attempt ident deadline v Open_ is task was = was

  -- the host's reset begins
  host_stands :
      (deadline : Ms) (frozen : Bool)
      → recovery head (onto (Entered time who seq step ∷ past) ((if frozen then [] else Frozen ∷ []) ++ ResetBegun None 1 deadline ∷ []))
      ≡ record (recovery head past) { host = HostBegun }
  host_stands deadline true = refl
  host_stands deadline false = refl

  host_all : (deadline : Ms) (frozen : Bool) → list_all is_gate_row ((if frozen then [] else Frozen ∷ []) ++ ResetBegun None 1 deadline ∷ []) ≡ true
  host_all deadline true = refl
  host_all deadline false = refl

  pub host_guarded :
      IsTask (recovery head past) HostOwed → IsGuarded head.pmp (gate head past)
      → IsGuarded head.pmp (gate head (onto (Entered time who seq step ∷ past)
      (frozen_acts past ++ ResetBegun None 1 (deadline_of (clock past) (reset_wait_of 1)) ∷ [])))
  host_guarded task was =
      let deadline : Ms = deadline_of (clock past) (reset_wait_of 1) in
      let acts : List Act = frozen_acts past ++ ResetBegun None 1 deadline ∷ [] in
      let s : RecoveryView = recovery head (onto (Entered time who seq step ∷ past) acts) in
      let same : s ≡ record (recovery head past) { host = HostBegun } = host_stands deadline (is_frozen past) in
      let at : phase_of s ≡ HostOpen =
      ap phase_of same ∙ phase_walks (record (recovery head past) { host = HostBegun }) task.running task.autopsied
      ∙ host_opens (recovery head past) (tasks head past) task.at in
      task_guarded head past time who seq step acts HostOwed task (host_all deadline (is_frozen past)) was
      (λ direct cold. on_way (gate head (onto (Entered time who seq step ∷ past) acts)) (ap is_under_way at))
      (λ fan cold. ap is_host_phase at)
