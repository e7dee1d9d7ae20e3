-- Judgements, by tag.
use Rattle.std.proofs.Common.{◌≡◌, ℕ, true, List, Option, Some, slice_set, refl}
use Rattle.ata_base.specs.declared.err_mask.ErrMask.{ErrMask}
use Rattle.drive_model.specs.declared.log_told.LogTold.{LogTold}
use Rattle.eh_autopsy.specs.declared.failed_issue.FailedIssue.{FailedIssue}
use Rattle.host_tags.specs.declared.in_flight.InFlight.{InFlight}
use Rattle.host_tags.specs.Numbers.{is_issue, flight_of, tag_of, IsFresh, AreApart}
use Rattle.host_tags.specs.Slots.{flight_at}
use Rattle.port_past.specs.declared.judgement.Judgement.{Judgement}
use Rattle.port_past.specs.Judged.{analysed, with_judgement}
use Rattle.port_ledger.proofs.FlightLemmas.{flight_found, tag_found, tag_fresh}

-- the issue of a number is judged under its tag
pub judged_found :
    (t n : ℕ) (kinds : ErrMask) (noted : List (Option FailedIssue)) (readings : List (Option LogTold)) (f : InFlight) (slots : List (Option InFlight)) (was : List (Option Judgement))
    → AreApart slots → is_issue n (flight_at slots t) ≡ true → flight_at slots t ≡ Some f
    → with_judgement kinds noted readings (tag_of n slots) (flight_of n slots) was ≡ slice_set was t (Some (record { kinds = kinds; regs = analysed noted readings t f }))
judged_found t n kinds noted readings f slots was apart is here =
    rw (tag_found t n slots apart is, flight_found t n slots apart is, here) refl

-- none is, where no issue has the number
pub judged_fresh :
    (n : ℕ) (kinds : ErrMask) (noted : List (Option FailedIssue)) (readings : List (Option LogTold)) (slots : List (Option InFlight)) (was : List (Option Judgement))
    → IsFresh n slots → with_judgement kinds noted readings (tag_of n slots) (flight_of n slots) was ≡ was
judged_fresh n kinds noted readings slots was fresh = rw (tag_fresh n slots fresh) refl
