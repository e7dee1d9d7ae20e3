-- How many judgements there are.
use Rattle.std.proofs.Common.{◌≡◌, ◌∙◌, ℕ, List, [], ◌∷◌, Option, None, Some, length, refl, length-set}
use Rattle.ata_base.specs.declared.err_mask.ErrMask.{ErrMask}
use Rattle.ata_trace.specs.Event.{Event}
use Rattle.ata_trace.specs.Event.Event.{Told}
use Rattle.ata_trace.specs.declared.act.Act.TheVariants.{Judged, Begun, Ended}
use Rattle.host_tags.specs.Numbers.{tag_of, flight_of}
use Rattle.host_tags.specs.declared.in_flight.InFlight.{InFlight}
use Rattle.port_past.specs.Judged.{judged, with_judgement}
use Rattle.port_past.specs.Logs.{logs}
use Rattle.port_past.specs.Noted.{tferr_noted}
use Rattle.port_past.specs.Slots.{slots}
use Rattle.eh_autopsy.specs.declared.failed_issue.FailedIssue.{FailedIssue}
use Rattle.port_past.specs.declared.judgement.Judgement.{Judgement}
use Rattle.drive_model.specs.declared.log_told.LogTold.{LogTold}

length_judgement : (kinds : ErrMask) (noted_ : List (Option FailedIssue)) (logs_ : List (Option LogTold)) (tag : Option ℕ) (found : Option InFlight) (was : List (Option Judgement))
    → length (with_judgement kinds noted_ logs_ tag found was) ≡ length was
length_judgement kinds noted_ logs_ None found was = refl
length_judgement kinds noted_ logs_ (Some tag) None was = refl
length_judgement kinds noted_ logs_ (Some tag) (Some f) was = length-set was tag _

-- judgements are kept under 32 tags
pub length_judged : (past : List Event) → length (judged past) ≡ 32
length_judged [] = refl
length_judged (Told Begun ∷ past) = refl
length_judged (Told Ended ∷ past) = refl
length_judged (Told (Judged number kinds) ∷ past) =
    length_judgement kinds (tferr_noted past) (logs past) (tag_of number.n (slots past)) (flight_of number.n (slots past)) (judged past) ∙ length_judged past
length_judged (event ∷ past) = length_judged past
