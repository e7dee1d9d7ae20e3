-- Which acts the rows of recovery have.
use Rattle.eh_flow.specs.Table.{deadline_of}
use Rattle.port_rules.proofs.RecoverByPhase.{unanswered_acts, open_ident_acts, reset_acts, look_acts}
use Rattle.std.proofs.Common.{◌≡◌, ℕ, Bool, true, false, not, ◌||◌, nat_le, nat_lt, List, [], ◌∷◌, ◌++◌, Option, None, Some, refl, if◌then◌else◌}
use Rattle.std.specs.Prelude.{slice_index_or}
use Rattle.std.specs.List.{list_all}
use Rattle.ata_base.specs.declared.identity.Identity.{Identity}
use Rattle.ata_base.specs.declared.ms.Ms.{Ms}
use Rattle.ata_script.specs.declared.port_head.PortHead.{PortHead}
use Rattle.ata_trace.specs.Event.{Event}
use Rattle.ata_trace.specs.declared.act.Act.{Act}
use Rattle.ata_trace.specs.declared.act.Act.TheVariants.{Frozen, Thawed, ResetBegun, ResetLate, ResetFailed, ResetEndedGen, ResetEndedNone, IdentLate, Identified, Same, Attached, Detached, Disabled, Mode, WaitingReset, WaitingIdent}
use Rattle.drive_model.specs.View.{DriveView}
use Rattle.eh_reset.specs.ResetWaits.{reset_wait_of}
use Rattle.eh_reset.specs.declared.look.ResetLook.{ResetLook}
use Rattle.eh_reset.specs.declared.look.ResetLook.TheVariants.{Gone, Ready, Late, Open_}
use Rattle.port_past.specs.IdentAnswers.{is_ident_answered}
use Rattle.port_past.specs.Clock.{clock}
use Rattle.port_past.specs.Attachment.{attached}
use Rattle.port_past.specs.PortState.{is_frozen}
use Rattle.port_rules.specs.Identities.{is_attached_drive, attach_acts, udma_of, ncq_of, is_other_mode, mode_act, identity_read_acts, identity_acts, ident_late_acts}
use Rattle.port_past.specs.Doubt.{dubious}
use Rattle.port_rules.specs.Resets.{thaw_acts, if_attached, generation_of, reset_late_acts}
use Rattle.port_rules.specs.Told.{told_if, frozen_acts}
use Rattle.port_stands.proofs.Blocks.{all_append}
use Rattle.port_stands.proofs.Lists.{all_if, all_more, all_told}

-- a kind of which each act of an identity is
pub record HasIdentity (kind : Act → Bool) (place : ℕ) : Type 0 where
  pub identified : (i : Identity) → kind (Identified place i.model i.serial i.sectors i.depth) ≡ true
  pub same : kind (Same place) ≡ true
  pub attached : kind (Attached place) ≡ true
  pub detached : kind (Detached place) ≡ true
  pub disabled : kind (Disabled place) ≡ true
  pub mode : (udma : ℕ) (on in_doubt : Bool) → kind (Mode place udma on in_doubt) ≡ true
  pub late : kind (IdentLate place) ≡ true
  pub waiting : kind (WaitingIdent place) ≡ true

-- a kind of which each act of a reset is
pub record HasReset (kind : Act → Bool) (place : ℕ) : Type 0 where
  pub ended : (generation : ℕ) → kind (ResetEndedGen place generation) ≡ true
  pub none : kind (ResetEndedNone place) ≡ true
  pub late : kind (ResetLate (Some place)) ≡ true
  pub failed : kind (ResetFailed (Some place)) ≡ true
  pub disabled : kind (Disabled place) ≡ true
  pub detached : kind (Detached place) ≡ true
  pub waiting : kind (WaitingReset place) ≡ true

module _ (kind : Act → Bool) where
  one : (act : Act) → kind act ≡ true → list_all kind (act ∷ []) ≡ true
  one act is = all_more kind act [] is refl

  attach_all : (past : List Event) (place : ℕ) (same : Bool) → HasIdentity kind place → list_all kind (attach_acts past place same) ≡ true
  attach_all past place same has =
      all_if kind same (Same place ∷ []) (if slice_index_or (attached past) place false then Detached place ∷ Attached place ∷ [] else Attached place ∷ [])
      (one (Same place) has.same)
      (all_if kind (slice_index_or (attached past) place false) (Detached place ∷ Attached place ∷ []) (Attached place ∷ [])
      (all_more kind (Detached place) (Attached place ∷ []) has.detached (one (Attached place) has.attached)) (one (Attached place) has.attached))

  read_all : (past : List Event) (place : ℕ) (i : Identity) (same : Bool) → HasIdentity kind place → list_all kind (identity_read_acts past place i same) ≡ true
  read_all past place i same has =
      let udma = udma_of past place same in
      let on = ncq_of past place same i in
      all_more kind (Identified place i.model i.serial i.sectors i.depth) (attach_acts past place same ++ mode_act past place same udma on ∷ [])
      (has.identified i)
      (all_append kind (attach_acts past place same) (mode_act past place same udma on ∷ []) (attach_all past place same has)
      (one (mode_act past place same udma on)
      (has.mode udma on (not same || slice_index_or (dubious past) place false || is_other_mode past place udma on))))

  pub all_identity : (head : PortHead) (past : List Event) (place : ℕ) (found : Identity) → HasIdentity kind place → list_all kind (identity_acts past place found) ≡ true
  all_identity head past place found has = read_all past place found (is_attached_drive past place found) has

  disabled_all : (past : List Event) (place : ℕ) → kind (Disabled place) ≡ true → list_all kind (if_attached past place (Disabled place)) ≡ true
  disabled_all past place is = all_told kind (slice_index_or (attached past) place false) (Disabled place) is

  unheard_all : (past : List Event) (place attempt deadline : ℕ) → HasIdentity kind place → list_all kind (unanswered_acts past place attempt deadline) ≡ true
  unheard_all past place attempt deadline has =
      all_if kind (nat_le deadline (clock past)) (ident_late_acts past place (nat_lt attempt 3)) (WaitingIdent place ∷ [])
      (all_more kind (IdentLate place) (if nat_lt attempt 3 then [] else if_attached past place (Disabled place)) has.late
      (all_if kind (nat_lt attempt 3) [] (if_attached past place (Disabled place)) refl (disabled_all past place has.disabled)))
      (one (WaitingIdent place) has.waiting)

  pub all_open_ident :
      (head : PortHead) (past : List Event) (place attempt deadline : ℕ) (v : Option DriveView) → HasIdentity kind place
      → list_all kind (open_ident_acts head past place attempt deadline v) ≡ true
  all_open_ident head past place attempt deadline None has = unheard_all past place attempt deadline has
  all_open_ident head past place attempt deadline (Some v) has =
      all_if kind (slice_index_or (is_ident_answered head past) place false) (identity_acts past place v.identity) (unanswered_acts past place attempt deadline)
      (all_identity head past place v.identity has) (unheard_all past place attempt deadline has)

  pub all_late : (past : List Event) (place attempt : ℕ) → HasReset kind place → list_all kind (reset_late_acts past place (nat_lt attempt 4)) ≡ true
  all_late past place attempt has =
      all_more kind (ResetLate (Some place)) (if nat_lt attempt 4 then [] else ResetFailed (Some place) ∷ if_attached past place (Disabled place)) has.late
      (all_if kind (nat_lt attempt 4) [] (ResetFailed (Some place) ∷ if_attached past place (Disabled place)) refl
      (all_more kind (ResetFailed (Some place)) (if_attached past place (Disabled place)) has.failed (disabled_all past place has.disabled)))

  pub all_look :
      (head : PortHead) (past : List Event) (place attempt : ℕ) (v : Option DriveView) (look : ResetLook) → HasReset kind place
      → (head.pmp ≡ false → kind Thawed ≡ true) → list_all kind (look_acts head past place attempt v look) ≡ true
  all_look head past place attempt v Gone has thaws =
      all_more kind (ResetEndedNone place) (thaw_acts head ++ if_attached past place (Detached place)) has.none
      (all_append kind (thaw_acts head) (if_attached past place (Detached place)) (thaw_all head.pmp refl)
      (all_told kind (slice_index_or (attached past) place false) (Detached place) has.detached))
    where
      thaw_all : (pmp : Bool) → head.pmp ≡ pmp → list_all kind (told_if (not pmp) Thawed) ≡ true
      thaw_all true is = refl
      thaw_all false is = rw (thaws is)
  all_look head past place attempt v Ready has thaws =
      all_more kind (ResetEndedGen place (generation_of head past place v)) (thaw_acts head) (has.ended (generation_of head past place v)) (thaw_all head.pmp refl)
    where
      thaw_all : (pmp : Bool) → head.pmp ≡ pmp → list_all kind (told_if (not pmp) Thawed) ≡ true
      thaw_all true is = refl
      thaw_all false is = rw (thaws is)
  all_look head past place attempt v Late has thaws = all_late past place attempt has
  all_look head past place attempt v Open_ has thaws = one (WaitingReset place) has.waiting

  pub all_reset :
      (head : PortHead) (past : List Event) (place attempt : ℕ)
      → ((deadline : Ms) → kind (ResetBegun (Some place) attempt deadline) ≡ true) → (head.pmp ≡ false → kind Frozen ≡ true)
      → list_all kind (reset_acts head past place attempt) ≡ true
  all_reset head past place attempt begun freezes =
      all_append kind (if head.pmp then [] else frozen_acts past) (ResetBegun (Some place) attempt (deadline_of (clock past) (reset_wait_of attempt)) ∷ [])
      (freeze_all head.pmp refl) (one _ (begun (deadline_of (clock past) (reset_wait_of attempt))))
    where
      freeze_all : (pmp : Bool) → head.pmp ≡ pmp → list_all kind (if pmp then [] else frozen_acts past) ≡ true
      freeze_all true is = refl
      freeze_all false is = all_if kind (is_frozen past) [] (Frozen ∷ []) refl (all_more kind Frozen [] (freezes is) refl)
