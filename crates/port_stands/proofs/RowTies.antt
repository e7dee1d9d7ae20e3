-- What the rows of the tasks make of links, devices and what is told of a place.
use Rattle.port_rules.proofs.RecoverByPhase.{unanswered_acts}
use Rattle.std.proofs.Common.{◌≡◌, ◌∙◌, ℕ, Bool, true, false, not, nat_le, nat_lt, List, [], ◌∷◌, ◌++◌, None, Some, slice_set, refl, ap, if◌then◌else◌}
use Rattle.std.specs.Prelude.{slice_index_or}
use Rattle.std.specs.List.{list_all}
use Rattle.ata_base.specs.declared.ms.Ms.{Ms}
use Rattle.ata_script.specs.declared.port_head.PortHead.{PortHead}
use Rattle.ata_trace.proofs.Pasts.{onto_append}
use Rattle.ata_trace.specs.Event.{Event, onto}
use Rattle.ata_trace.specs.Event.Event.{Entered, Told}
use Rattle.ata_trace.specs.declared.act.Act.{Act}
use Rattle.ata_trace.specs.declared.act.Act.TheVariants.{Thawed, Frozen, ResetBegun, ResetEndedNone, IdentLate, Detached, Disabled, WaitingIdent}
use Rattle.ata_trace.specs.declared.step.Step.TheVariants.{Recover}
use Rattle.ata_trace.specs.declared.who.Who.{Who}
use Rattle.link_model.specs.LinkView.{after_reset}
use Rattle.port_past.specs.Attachment.{attached}
use Rattle.port_past.specs.Clock.{clock}
use Rattle.port_past.specs.Links.{links}
use Rattle.port_past.specs.PlaceTold.{place_told}
use Rattle.port_past.specs.Places.{changed_at}
use Rattle.port_past.specs.declared.place_told.PlaceTold.TheVariants.{ResetBegun as ResetOpenSeen}
use Rattle.port_rules.specs.Identities.{ident_late_acts}
use Rattle.port_rules.specs.Resets.{thaw_acts, if_attached}
use Rattle.port_rules.specs.Told.{told_if}
use Rattle.port_stands.proofs.Driven.{read_cleared}
use Rattle.port_stands.proofs.Lists.{all_if, all_more, all_told}
use Rattle.port_stands.proofs.SeveredTies.{tie}
use Rattle.port_stands.specs.Words.{recovery}

-- the host's rows are of a kind
pub host_all : (kind : Act → Bool) (deadline : Ms) (frozen : Bool) → kind Frozen ≡ true → kind (ResetBegun None 1 deadline) ≡ true → list_all kind ((if frozen then [] else Frozen ∷ []) ++ ResetBegun None 1 deadline ∷ []) ≡ true
host_all kind deadline true a b = rw b refl
host_all kind deadline false a b = rw (a, b) refl

module _ (head : PortHead) where
  -- a reset of a place begins
  pub reset_tie :
      (p : List Event) (place attempt : ℕ) (deadline : Ms) (pmp frozen : Bool)
      → tie head (onto p ((if pmp then [] else (if frozen then [] else Frozen ∷ [])) ++ ResetBegun (Some place) attempt deadline ∷ []))
      ≡ record { stands = record (recovery head p) { seen = slice_set (place_told p) place (ResetOpenSeen attempt deadline) }; wires = changed_at place after_reset (links head p) }
  reset_tie p place attempt deadline true frozen = refl
  reset_tie p place attempt deadline false true = refl
  reset_tie p place attempt deadline false false = refl

  -- the host's rows leave the links
  pub host_links : (p : List Event) (deadline : Ms) (frozen : Bool) → links head (onto p ((if frozen then [] else Frozen ∷ []) ++ ResetBegun None 1 deadline ∷ [])) ≡ links head p
  host_links p deadline true = refl
  host_links p deadline false = refl

module _ (past : List Event) where
  -- an open identity that no drive answers
  pub unheard_all :
      (kind : Act → Bool) (place attempt deadline : ℕ) → kind (IdentLate place) ≡ true → kind (Disabled place) ≡ true → kind (WaitingIdent place) ≡ true
      → list_all kind (unanswered_acts past place attempt deadline) ≡ true
  unheard_all kind place attempt deadline late disabled waiting =
      all_if kind (nat_le deadline (clock past)) (ident_late_acts past place (nat_lt attempt 3)) (WaitingIdent place ∷ [])
      (all_more kind (IdentLate place) (if nat_lt attempt 3 then [] else if_attached past place (Disabled place)) late
      (all_if kind (nat_lt attempt 3) [] (if_attached past place (Disabled place)) refl (all_told kind (slice_index_or (attached past) place false) (Disabled place) disabled)))
      (all_more kind (WaitingIdent place) [] waiting refl)

  -- once a device is disabled, none is attached there
  pub disabled_attached : (q : List Event) (place : ℕ) → attached q ≡ attached past → slice_index_or (attached (onto q (if_attached past place (Disabled place)))) place false ≡ false
  disabled_attached q place same = by (slice_index_or (attached past) place false) refl
    where
      by : (b : Bool) → slice_index_or (attached past) place false ≡ b → slice_index_or (attached (onto q (told_if b (Disabled place)))) place false ≡ false
      by true e = read_cleared (attached q) place false
      by false e = ap (λ d. slice_index_or d place false) same ∙ e

-- once a reset has ended without a drive, no device is attached there
pub gone_attached :
    (head : PortHead) (past : List Event) (time : ℕ) (who : Who) (seq : ℕ) (place : ℕ)
    → slice_index_or (attached (onto (Entered time who seq Recover ∷ past) (ResetEndedNone place ∷ thaw_acts head ++ if_attached past place (Detached place)))) place false ≡ false
gone_attached head past time who seq place =
    ap (λ p. slice_index_or (attached p) place false) (onto_append (Told (ResetEndedNone place) ∷ Entered time who seq Recover ∷ past) (thaw_acts head) (if_attached past place (Detached place)))
    ∙ by head.pmp (slice_index_or (attached past) place false) refl
  where
    by : (pmp b : Bool) → slice_index_or (attached past) place false ≡ b
        → slice_index_or (attached (onto (onto (Told (ResetEndedNone place) ∷ Entered time who seq Recover ∷ past) (told_if (not pmp) Thawed)) (told_if b (Detached place)))) place false ≡ false
    by true true e = read_cleared (attached past) place false
    by true false e = e
    by false true e = read_cleared (attached past) place false
    by false false e = e
