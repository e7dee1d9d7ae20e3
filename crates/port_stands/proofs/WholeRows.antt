-- All stands over the rows of the tasks.
use Rattle.port_rules.proofs.RecoverByPhase.{reset_acts}
use Rattle.eh_flow.specs.Table.{deadline_of}
use Rattle.std.proofs.Common.{◌≡◌, ◌≢◌, ◌∙◌, ℕ, Bool, true, false, not, ◌==◌, List, [], ◌∷◌, ◌++◌, Option, None, Some, ◌⊎◌, inl, inr, slice_get, slice_set, refl, sym, ap, subst, if◌then◌else◌}
use Rattle.std.specs.Prelude.{slice_index_or}
use Rattle.std.specs.List.{list_all}
use Rattle.std.proofs.lemmas.Bool.{eqb-true, eq-eqb}
use Rattle.ata_base.specs.declared.ms.Ms.{Ms}
use Rattle.ata_script.specs.declared.port_head.PortHead.{PortHead}
use Rattle.ata_trace.specs.Event.{Event, onto}
use Rattle.ata_trace.specs.Event.Event.{Entered, Told}
use Rattle.ata_trace.specs.declared.act.Act.{Act}
use Rattle.ata_trace.specs.declared.act.Act.TheVariants.{Frozen, Thawed, ResetBegun, ResetLate, ResetFailed, ResetEndedGen, ResetEndedNone, ResetEndedHost, IdentAsked, IdentLate, Identified, Same, Attached, Detached, Disabled, Mode, WaitingReset, WaitingIdent}
use Rattle.ata_trace.specs.declared.step.Step.TheVariants.{Recover}
use Rattle.ata_trace.specs.declared.who.Who.{Who}
use Rattle.drive_model.specs.Log.{after_asking}
use Rattle.drive_model.specs.View.{DriveView}
use Rattle.eh_flow.specs.declared.phase.Phase.{Phase}
use Rattle.link_model.specs.LinkView.{LinkView, after_reset}
use Rattle.port_past.specs.Causes.{tferr}
use Rattle.port_past.specs.Drives.{drives}
use Rattle.port_past.specs.Links.{links, plugged_at, linked_at}
use Rattle.port_past.specs.Clock.{clock}
use Rattle.port_past.specs.PortState.{is_frozen}
use Rattle.port_past.specs.Places.{nowhere, changed_at, changed_at_some}
use Rattle.drive_model.specs.FreshAndReset.{reset_at}
use Rattle.eh_reset.specs.ResetWaits.{reset_wait_of}
use Rattle.port_rules.specs.Told.{frozen_acts}
use Rattle.port_stands.proofs.DrivenKeeps.{keeps_view}
use Rattle.port_stands.proofs.Likes.{like_reset, like_kept}
use Rattle.port_stands.proofs.Rows.{all_reset}
use Rattle.eh_autopsy.specs.declared.failed_issue.FailedIssue.{FailedIssue}
use Rattle.port_stands.proofs.Blocks.{left_alone}
use Rattle.port_stands.proofs.Driven.{read_cleared}
use Rattle.port_stands.proofs.DrivenEntries.{is_free, free_onto, driven_began}
use Rattle.port_stands.proofs.GuardFrames.{Frame, frame, frame_step, is_gate_row}
use Rattle.port_stands.proofs.Handled.{IsLike, like_idle, handled_task}
use Rattle.port_stands.proofs.Phases.{IsTask, phase_place}
use Rattle.port_stands.proofs.Wholes.{unmixed_onto}
use Rattle.port_stands.proofs.WholeSteps.{IsMade}
use Rattle.port_stands.proofs.Within.{read_same}
use Rattle.port_stands.specs.Handled.{IsIdle, AreSingleTasks, owes_reset, to_reset, handling}
use Rattle.port_stands.specs.Whole.{IsWhole}
use Rattle.port_stands.specs.Words.{recovery, is_no_issue}
use Rattle.port_stands.proofs.WholeTold.{reset_same, single_owes, is_elsewhere, put_apart, about_left}

-- ---- drives and links that a row leaves

pub record Plant : Type 0 where
  pub links : List LinkView
  pub drives : List DriveView
  pub failures : List (Option FailedIssue)

abbrev pub plant : PortHead → List Event → Plant
plant head past = record { links = links head past; drives = drives head past; failures = tferr past }

-- an act of a row that leaves them
abbrev pub is_idle_row : Act → Bool
is_idle_row Frozen = true
is_idle_row Thawed = true
is_idle_row (ResetLate place) = true
is_idle_row (ResetFailed place) = true
is_idle_row (ResetEndedGen place generation) = true
is_idle_row (ResetEndedNone place) = true
is_idle_row ResetEndedHost = true
is_idle_row (IdentLate place) = true
is_idle_row (Identified place model serial sectors depth) = true
is_idle_row (Same place) = true
is_idle_row (Attached place) = true
is_idle_row (Detached place) = true
is_idle_row (Disabled place) = true
is_idle_row (Mode place udma ncq dubious) = true
is_idle_row (WaitingReset place) = true
is_idle_row (WaitingIdent place) = true
is_idle_row act = false

plant_step : (head : PortHead) (past : List Event) (act : Act) → is_idle_row act ≡ true → plant head (Told act ∷ past) ≡ plant head past
plant_step head past Frozen is = refl
plant_step head past Thawed is = refl
plant_step head past (ResetLate place) is = refl
plant_step head past (ResetFailed place) is = refl
plant_step head past (ResetEndedGen place generation) is = refl
plant_step head past (ResetEndedNone place) is = refl
plant_step head past ResetEndedHost is = refl
plant_step head past (IdentLate place) is = refl
plant_step head past (Identified place model serial sectors depth) is = refl
plant_step head past (Same place) is = refl
plant_step head past (Attached place) is = refl
plant_step head past (Detached place) is = refl
plant_step head past (Disabled place) is = refl
plant_step head past (Mode place udma ncq dubious) is = refl
plant_step head past (WaitingReset place) is = refl
plant_step head past (WaitingIdent place) is = refl
plant_step head past act is = absurd (cc)

pub plant_left : (head : PortHead) (past : List Event) (acts : List Act) → list_all is_idle_row acts ≡ true → plant head (onto past acts) ≡ plant head past
plant_left head past acts all = left_alone is_idle_row (plant head) (plant_step head) past acts all

-- a place after a row: it wasn't to be reset, and its drive is as it was or idle; or its drive is idle and nothing failed
pub record WasDone (head : PortHead) (p q : List Event) (x : ℕ) : Type 0 where
  pub owed : to_reset (recovery head p) x ≡ false
  pub like : (d : ℕ) (v : DriveView) → linked_at (links head q) x ≡ Some d → slice_get (drives head q) d ≡ Some v → IsLike (handling head p) x d v
  pub fails : slice_index_or (tferr p) x None ≡ None → slice_index_or (tferr q) x None ≡ None

pub record IsDone (head : PortHead) (q : List Event) (x : ℕ) : Type 0 where
  pub idle : (d : ℕ) (v : DriveView) → linked_at (links head q) x ≡ Some d → slice_get (drives head q) d ≡ Some v → IsIdle v
  pub clear : slice_index_or (tferr q) x None ≡ None

module _ (head : PortHead) (past : List Event) (time : ℕ) (who : Who) (seq : ℕ) (was : IsWhole head past) (at : Phase) (task : IsTask (recovery head past) at) where
  pub row_made :
      (acts : List Act) → list_all is_free acts ≡ true → list_all is_no_issue acts ≡ true → list_all is_gate_row acts ≡ true
      → ((x : ℕ) → to_reset (recovery head (onto (Entered time who seq Recover ∷ past) acts)) x ≡ false
      → (WasDone head past (onto (Entered time who seq Recover ∷ past) acts) x) ⊎ (IsDone head (onto (Entered time who seq Recover ∷ past) acts) x))
      → IsMade head (onto (Entered time who seq Recover ∷ past) acts)
  row_made acts free none row each =
      let s : List Event = Entered time who seq Recover ∷ past in
      let q : List Event = onto s acts in
      let same : frame head q ≡ frame head past = left_alone is_gate_row (frame head) (frame_step head) s acts row in
      record {
        unmixed = unmixed_onto s acts none was.unmixed;
        driven = free_onto head s acts free (driven_began head past time who seq Recover was.driven);
        handled = handled_task (handling head q) (ap (λ (f : Frame). f.running) same ∙ task.running) (ap (λ (f : Frame). f.autopsied) same ∙ task.autopsied)
            (λ x d v linked get owed. elim (each x owed) [
              | inl o ↦ let l = o.like d v linked get in like_idle v l.view l.now (was.handled.reset task.running task.autopsied x d l.view l.linked l.was o.owed)
              | inr n ↦ n.idle d v linked get
            ])
            (λ x owed. elim (each x owed) [
              | inl o ↦ o.fails (was.handled.struck task.running task.autopsied x o.owed)
              | inr n ↦ n.clear
            ])
            (subst AreSingleTasks (sym (ap (λ (f : Frame). f.tasks) same)) was.handled.single);
      }

  -- a place that isn't the row's
  elsewhere_owed :
      (acts : List Act) (x : ℕ) → list_all is_gate_row acts ≡ true → list_all (is_elsewhere x) acts ≡ true
      → to_reset (recovery head (onto (Entered time who seq Recover ∷ past) acts)) x ≡ false → to_reset (recovery head past) x ≡ false
  elsewhere_owed acts x row other owed =
      let s : List Event = Entered time who seq Recover ∷ past in
      let same : frame head (onto s acts) ≡ frame head past = left_alone is_gate_row (frame head) (frame_step head) s acts row in
      sym (reset_same (recovery head past) (recovery head (onto s acts)) x (ap (λ (f : Frame). f.tasks) same) (sym (about_left head x s acts other))) ∙ owed

  -- a row at a place that isn't to be reset, which leaves drives and links
  pub idle_row_made :
      (acts : List Act) (place : ℕ) → phase_place at ≡ Some place → owes_reset place (Some at) ≡ false
      → list_all is_free acts ≡ true → list_all is_no_issue acts ≡ true → list_all is_gate_row acts ≡ true → list_all is_idle_row acts ≡ true
      → ((x : ℕ) → not (place == x) ≡ true → list_all (is_elsewhere x) acts ≡ true)
      → IsMade head (onto (Entered time who seq Recover ∷ past) acts)
  idle_row_made acts place there none free issue row idle other =
      row_made acts free issue row (λ x owed. inl (record {
        owed = by (place == x) x refl owed;
        like = λ d v linked get. record {
          view = v;
          linked = ap (λ (p : Plant). linked_at p.links x) (sym same) ∙ linked;
          was = ap (λ (p : Plant). slice_get p.drives d) (sym same) ∙ get;
          now = inr (refl, refl);
        };
        fails = λ is. ap (λ (p : Plant). slice_index_or p.failures x None) same ∙ is;
      }))
    where
      same : plant head (onto (Entered time who seq Recover ∷ past) acts) ≡ plant head past
      same = plant_left head (Entered time who seq Recover ∷ past) acts idle

      by : (b : Bool) (x : ℕ) → (place == x) ≡ b → to_reset (recovery head (onto (Entered time who seq Recover ∷ past) acts)) x ≡ false → to_reset (recovery head past) x ≡ false
      by true x e owed =
          subst (λ y. to_reset (recovery head past) y ≡ false) (eqb-true place x e)
          (single_owes (recovery head past) place (recovery head past).tasks at was.handled.single task.at there none)
      by false x e owed = elsewhere_owed acts x row (other x (ap not e)) owed

  -- a reset of a place begins
  plant_reset :
      (p : List Event) (place attempt : ℕ) (deadline : Ms) (pmp frozen : Bool)
      → plant head (onto p ((if pmp then [] else (if frozen then [] else Frozen ∷ [])) ++ ResetBegun (Some place) attempt deadline ∷ []))
      ≡ record {
        links = changed_at place after_reset (links head p);
        drives = changed_at_some (plugged_at (links head p) place) (reset_at (record { n = clock p })) (drives head p);
        failures = slice_set (tferr p) place None;
      }
  plant_reset p place attempt deadline true frozen = refl
  plant_reset p place attempt deadline false true = refl
  plant_reset p place attempt deadline false false = refl

  pub reset_row_made : (place attempt : ℕ) → IsMade head (onto (Entered time who seq Recover ∷ past) (reset_acts head past place attempt))
  reset_row_made place attempt =
      let s : List Event = Entered time who seq Recover ∷ past in
      let acts : List Act = reset_acts head past place attempt in
      let q : List Event = onto s acts in
      let row : list_all is_gate_row acts ≡ true = all_reset is_gate_row head past place attempt (λ d. refl) (λ direct. refl) in
      let same : plant head q ≡ record {
        links = changed_at place after_reset (links head s);
        drives = changed_at_some (plugged_at (links head s) place) (reset_at (record { n = clock s })) (drives head s);
        failures = slice_set (tferr s) place None;
      } = plant_reset s place attempt (deadline_of (clock past) (reset_wait_of attempt)) head.pmp (is_frozen past) in
      let like : (x d : ℕ) (v : DriveView) → linked_at (links head q) x ≡ Some d → slice_get (drives head q) d ≡ Some v
      → ((x ≡ place) × IsIdle v) ⊎ ((x ≢ place) × IsLike (handling head past) x d v) =
      λ x d v linked get. like_reset (handling head past) (record { n = clock s }) place x d v
      (ap (λ (p : Plant). linked_at p.links x) (sym same) ∙ linked) (ap (λ (p : Plant). slice_get p.drives d) (sym same) ∙ get) in
      row_made acts (all_reset is_free head past place attempt (λ d. refl) (λ direct. refl)) (all_reset is_no_issue head past place attempt (λ d. refl) (λ direct. refl)) row
      (λ x owed. by (place == x) x refl owed like (ap (λ (p : Plant). slice_index_or p.failures x None) same) row)
    where
      by :
          (b : Bool) (x : ℕ) → (place == x) ≡ b
          → to_reset (recovery head (onto (Entered time who seq Recover ∷ past) (reset_acts head past place attempt))) x ≡ false
          → ((x d : ℕ) (v : DriveView) → linked_at (links head (onto (Entered time who seq Recover ∷ past) (reset_acts head past place attempt))) x ≡ Some d
          → slice_get (drives head (onto (Entered time who seq Recover ∷ past) (reset_acts head past place attempt))) d ≡ Some v
          → ((x ≡ place) × IsIdle v) ⊎ ((x ≢ place) × IsLike (handling head past) x d v))
          → slice_index_or (tferr (onto (Entered time who seq Recover ∷ past) (reset_acts head past place attempt))) x None ≡ slice_index_or (slice_set (tferr past) place None) x None
          → list_all is_gate_row (reset_acts head past place attempt) ≡ true
          → (WasDone head past (onto (Entered time who seq Recover ∷ past) (reset_acts head past place attempt)) x) ⊎ (IsDone head (onto (Entered time who seq Recover ∷ past) (reset_acts head past place attempt)) x)
      by true x e owed like fails row = inr (record {
        idle = λ d v linked get. elim (like x d v linked get) [
          | inl here ↦ here.1
          | inr other ↦ absurd (other.0 (sym (eqb-true place x e)))
        ];
        clear = fails ∙ subst (λ y. slice_index_or (slice_set (tferr past) place None) y None ≡ None) (eqb-true place x e) (read_cleared (tferr past) place None);
      })
      by false x e owed like fails row = inl (record {
        owed = elsewhere_owed (reset_acts head past place attempt) x row
            (all_reset (is_elsewhere x) head past place attempt (λ d. ap not e) (λ direct. refl)) owed;
        like = λ d v linked get. elim (like x d v linked get) [
          | inl here ↦ absurd (cc (e, eq-eqb place x (sym here.0)))
          | inr other ↦ other.1
        ];
        fails = λ is. fails ∙ put_apart (tferr past) place x None None (ap not e) ∙ is;
      })

  -- an identity is asked for
  pub asked_made : (place attempt : ℕ) (deadline : Ms) → phase_place at ≡ Some place → owes_reset place (Some at) ≡ false
      → IsMade head (onto (Entered time who seq Recover ∷ past) (IdentAsked place attempt deadline ∷ []))
  asked_made place attempt deadline there none =
      row_made (IdentAsked place attempt deadline ∷ []) refl refl refl (λ x owed. inl (record {
        owed = by (place == x) x refl owed;
        like = λ d v linked get. like_kept (handling head past) (links head past) (changed_at_some (linked_at (links head past) place) after_asking (drives head past)) (λ y. refl)
            (keeps_view after_asking (λ w. (refl, refl)) (drives head past) (linked_at (links head past) place)) x d v linked get;
        fails = λ is. is;
      }))
    where
      by : (b : Bool) (x : ℕ) → (place == x) ≡ b → to_reset (recovery head (onto (Entered time who seq Recover ∷ past) (IdentAsked place attempt deadline ∷ []))) x ≡ false → to_reset (recovery head past) x ≡ false
      by true x e owed =
          subst (λ y. to_reset (recovery head past) y ≡ false) (eqb-true place x e)
          (single_owes (recovery head past) place (recovery head past).tasks at was.handled.single task.at there none)
      by false x e owed = elsewhere_owed (IdentAsked place attempt deadline ∷ []) x refl (rw (ap not e) refl) owed

  -- the host's rows
  host_plant : (p : List Event) (deadline : Ms) (frozen : Bool)
      → plant head (onto p ((if frozen then [] else Frozen ∷ []) ++ ResetBegun None 1 deadline ∷ [])) ≡ record { links = links head p; drives = drives head p; failures = nowhere }
  host_plant p deadline true = refl
  host_plant p deadline false = refl

  host_all : (kind : Act → Bool) (deadline : Ms) (frozen : Bool) → kind Frozen ≡ true → kind (ResetBegun None 1 deadline) ≡ true → list_all kind ((if frozen then [] else Frozen ∷ []) ++ ResetBegun None 1 deadline ∷ []) ≡ true
  host_all kind deadline true a b = rw b refl
  host_all kind deadline false a b = rw (a, b) refl

  pub host_begun_made : (deadline : Ms) → IsMade head (onto (Entered time who seq Recover ∷ past) (frozen_acts past ++ ResetBegun None 1 deadline ∷ []))
  host_begun_made deadline =
      let s : List Event = Entered time who seq Recover ∷ past in
      let acts : List Act = frozen_acts past ++ ResetBegun None 1 deadline ∷ [] in
      let same = host_plant s deadline (is_frozen past) in
      row_made acts (host_all is_free deadline (is_frozen past) refl refl) (host_all is_no_issue deadline (is_frozen past) refl refl) (host_all is_gate_row deadline (is_frozen past) refl refl)
      (λ x owed. inl (record {
        owed = elsewhere_owed acts x (host_all is_gate_row deadline (is_frozen past) refl refl) (host_all (is_elsewhere x) deadline (is_frozen past) refl refl) owed;
        like = λ d v linked get. record {
          view = v;
          linked = ap (λ (p : Plant). linked_at p.links x) (sym same) ∙ linked;
          was = ap (λ (p : Plant). slice_get p.drives d) (sym same) ∙ get;
          now = inr (refl, refl);
        };
        fails = λ is. ap (λ (p : Plant). slice_index_or p.failures x None) same ∙ read_same {A = Option FailedIssue} 15 x None;
      }))

  pub host_ended_made : IsMade head (onto (Entered time who seq Recover ∷ past) (ResetEndedHost ∷ Thawed ∷ []))
  host_ended_made =
      row_made (ResetEndedHost ∷ Thawed ∷ []) refl refl refl (λ x owed. inl (record {
        owed = elsewhere_owed (ResetEndedHost ∷ Thawed ∷ []) x refl refl owed;
        like = λ d v linked get. record { view = v; linked = linked; was = get; now = inr (refl, refl) };
        fails = λ is. is;
      }))
