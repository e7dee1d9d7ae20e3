-- How long the readings by place are.
use Rattle.std.proofs.Common.{◌≡◌, ◌∙◌, ℕ, ◌+◌, Bool, true, false, List, [], ◌∷◌, Some, suc, zero, length, refl, ap, Option, None, if◌then◌else◌, length-set}
use Rattle.port_past.specs.Places.{changed_at, nowhere}
use Rattle.ata_script.specs.declared.port_head.PortHead.{PortHead}
use Rattle.ata_trace.specs.Event.{Event}
use Rattle.ata_trace.specs.Event.Event.{Entered, Told}
use Rattle.ata_trace.specs.declared.act.Act.TheVariants.{Done, ResetBegun, Autopsied, Begun, ResetEndedNone, ResetLate, ResetFailed, ResetEndedGen, IdentAsked, IdentLate, Mode, Detached, Disabled, Plugged, Unplugged, Injected, Recorded, Hot, Action, Identified}
use Rattle.ata_trace.specs.declared.step.Step.{Step}
use Rattle.ata_trace.specs.declared.step.Step.TheVariants.{Work}
use Rattle.port_past.specs.Causes.{tferr, takes_causes, with_tferr}
use Rattle.drive_model.specs.Told.{is_good_end}
use Rattle.port_past.specs.Line.{is_irq_served}
use Rattle.port_past.specs.Links.{links}
use Rattle.port_past.specs.Noted.{tferr_noted, with_later}
use Rattle.port_past.specs.Steps.{last_step}
use Rattle.eh_autopsy.specs.declared.failed_issue.FailedIssue.{FailedIssue}
use Rattle.port_past.specs.Attachment.{detachments}
use Rattle.port_past.specs.PlaceTold.{place_told}
use Rattle.ata_base.specs.declared.speed_action.SpeedAction.TheVariants.{Speed}
use Rattle.port_past.specs.Hot.{was_hot}
use Rattle.port_past.specs.Tasks.{actions}
use Rattle.port_past.specs.Identities.{identities}
use Rattle.port_past.specs.Modes.{ncq_on}
use Rattle.port_past.specs.Doubt.{dubious}
use Rattle.std.proofs.lemmas.List.{length-map}

-- a change of an element leaves the length
pub length_changed : {A : Type 0} (at : ℕ) (change : A → A) (xs : List A) → length (changed_at at change xs) ≡ length xs
length_changed at change [] = refl
length_changed zero change (x ∷ xs) = refl
length_changed (suc at) change (x ∷ xs) = ap suc (length_changed at change xs)

length_failed : (step : Step) (failure : FailedIssue) (was : List (Option FailedIssue)) → length (with_tferr step failure was) ≡ length was
length_failed (Work place pick) failure was = length-set was place _
length_failed step failure was = refl

length_if : (b : Bool) (xs ys : List (Option FailedIssue)) (n : ℕ) → length xs ≡ n → length ys ≡ n → length (if b then xs else ys) ≡ n
length_if true xs ys n a b = a
length_if false xs ys n a b = b

pub length_failures : (p : List Event) → length (tferr p) ≡ 15
length_failures [] = refl
length_failures (Entered at who seq step ∷ p) = length_if (takes_causes step (is_irq_served p)) nowhere (tferr p) 15 refl (length_failures p)
length_failures (Told (Done number status error lba count) ∷ p) =
    length_if (is_good_end status error lba) (tferr p) _ 15 (length_failures p) (length_failed (last_step p) _ (tferr p) ∙ length_failures p)
length_failures (Told (ResetBegun (Some place) attempt deadline) ∷ p) = length-set (tferr p) place None ∙ length_failures p
length_failures (Told (ResetBegun None attempt deadline) ∷ p) = refl
length_failures (Told act ∷ p) = length_failures p

length_later : (later was : List (Option FailedIssue)) → length (with_later later was) ≡ length was
length_later [] was = refl
length_later (None ∷ later) [] = refl
length_later (Some y ∷ later) [] = refl
length_later (None ∷ later) (w ∷ was) = ap suc (length_later later was)
length_later (Some y ∷ later) (w ∷ was) = ap suc (length_later later was)

pub length_noted : (p : List Event) → length (tferr_noted p) ≡ 15
length_noted [] = refl
length_noted (Entered at who seq step ∷ p) =
    length_if (takes_causes step (is_irq_served p)) (with_later (tferr p) (tferr_noted p)) (tferr_noted p) 15 (length_later (tferr p) (tferr_noted p) ∙ length_noted p) (length_noted p)
length_noted (Told Autopsied ∷ p) = refl
length_noted (Told act ∷ p) = length_noted p

pub length_seen : (p : List Event) → length (place_told p) ≡ 15
length_seen [] = refl
length_seen (Told Begun ∷ p) = refl
length_seen (Told (ResetBegun None attempt deadline) ∷ p) = length_seen p
length_seen (Told (ResetBegun (Some place) attempt deadline) ∷ p) = length-set (place_told p) place _ ∙ length_seen p
length_seen (Told (ResetLate None) ∷ p) = length_seen p
length_seen (Told (ResetLate (Some place)) ∷ p) = length_changed place _ (place_told p) ∙ length_seen p
length_seen (Told (ResetEndedGen place generation) ∷ p) = length-set (place_told p) place _ ∙ length_seen p
length_seen (Told (ResetEndedNone place) ∷ p) = length-set (place_told p) place _ ∙ length_seen p
length_seen (Told (ResetFailed None) ∷ p) = length_seen p
length_seen (Told (ResetFailed (Some place)) ∷ p) = length-set (place_told p) place _ ∙ length_seen p
length_seen (Told (IdentAsked place attempt deadline) ∷ p) = length-set (place_told p) place _ ∙ length_seen p
length_seen (Told (IdentLate place) ∷ p) = length-set (place_told p) place _ ∙ length_seen p
length_seen (Told (Mode place udma on dubious) ∷ p) = length-set (place_told p) place _ ∙ length_seen p
length_seen (event ∷ p) = length_seen p

pub length_hot : (p : List Event) → length (was_hot p) ≡ 15
length_hot [] = refl
length_hot (Told Begun ∷ p) = refl
length_hot (Told (Hot place generation) ∷ p) = length-set (was_hot p) place true ∙ length_hot p
length_hot (event ∷ p) = length_hot p

pub length_ncq : (p : List Event) → length (ncq_on p) ≡ 15
length_ncq [] = refl
length_ncq (Told (Mode place udma on dubious) ∷ p) = length-set (ncq_on p) place on ∙ length_ncq p
length_ncq (event ∷ p) = length_ncq p

pub length_identities : (p : List Event) → length (identities p) ≡ 15
length_identities [] = refl
length_identities (Told (Identified place model serial sectors depth) ∷ p) = length-set (identities p) place _ ∙ length_identities p
length_identities (event ∷ p) = length_identities p

pub length_actions : (p : List Event) → length (actions p) ≡ 15
length_actions [] = refl
length_actions (Told Begun ∷ p) = refl
length_actions (Told (Action place kinds chosen) ∷ p) = length-set (actions p) place (Some chosen) ∙ length_actions p
length_actions (event ∷ p) = length_actions p

pub length_links : (head : PortHead) (p : List Event) → length (links head p) ≡ 15
length_links head [] = refl
length_links head (Told (Plugged place drive) ∷ p) = length_changed place _ (links head p) ∙ length_links head p
length_links head (Told (Unplugged place) ∷ p) = length_changed place _ (links head p) ∙ length_links head p
length_links head (Told (ResetBegun (Some place) attempt deadline) ∷ p) = length_changed place _ (links head p) ∙ length_links head p
length_links head (Told (Injected place) ∷ p) = length_changed place _ (links head p) ∙ length_links head p
length_links head (Told (Hot place generation) ∷ p) = length_changed place _ (links head p) ∙ length_links head p
length_links head (Told (Recorded place io dubious kinds ncq_off speed_down pio keep (Speed generation)) ∷ p) = length_changed place _ (links head p) ∙ length_links head p
length_links head (Told Autopsied ∷ p) = length-map (links head p) _ ∙ length_links head p
length_links head (event ∷ p) = length_links head p

pub length_detachments : (past : List Event) → length (detachments past) ≡ 15
length_detachments [] = refl
length_detachments (Told (Detached x) ∷ past) = length_changed x (λ n. n + 1) (detachments past) ∙ length_detachments past
length_detachments (Told (Disabled x) ∷ past) = length_changed x (λ n. n + 1) (detachments past) ∙ length_detachments past
length_detachments (event ∷ past) = length_detachments past
