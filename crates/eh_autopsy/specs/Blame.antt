-- Who is to blame for the errors of a place, and the final kinds of its owned issues.
use Rattle.std.specs.Prelude.{ℕ, ◌^◌, ◌==◌, ◌&&◌, Bool, not, List, Option, Some, None, if◌then◌else◌}
use Rattle.std.specs.Int.RustNames.{bit_or}
use Rattle.ata_base.specs.Kinds.{hsm, ncq}
use Rattle.ata_base.specs.declared.regs.Regs.{Regs}
use Rattle.host_tags.specs.Slots.{flight_at, is_owned_queued_at}
use Rattle.host_tags.specs.declared.in_flight.InFlight.{InFlight}
use Rattle.eh_autopsy.specs.Kinds.{kinds_of_registers, reduced}
use Rattle.eh_autopsy.specs.declared.failed_issue.FailedIssue.{FailedIssue}

-- whether an owned queued issue of a place is in flight under a tag
abbrev pub is_owned_queued : ℕ → List (Option InFlight) → ℕ → Bool
is_owned_queued place flights tag = is_owned_queued_at place (flight_at flights tag)

-- the kinds that a page gives: to the issue that it names those of the registers and that of a queued command; to
-- another none
abbrev pub kinds_of_page : Bool → Regs → ℕ
kinds_of_page is_named regs = if is_named then bit_or (kinds_of_registers regs.status regs.error) (2 ^ ncq) else 0

-- the kinds that a reading of a place's log gives to the place's owned issue under a tag: a page that names an owned
-- queued issue of the place blames that one alone; every other outcome blames each with hsm
abbrev pub blame_of : ℕ → List (Option InFlight) → ℕ → Option (ℕ × Regs) → ℕ
blame_of place flights tag None = 2 ^ hsm
blame_of place flights tag (Some page) =
    if is_owned_queued place flights page.0 then kinds_of_page (page.0 == tag) page.1 else 2 ^ hsm

-- the kinds of the registers of an unqueued issue, where its failure is noted
abbrev pub kinds_of_noted : InFlight → Option FailedIssue → ℕ
kinds_of_noted f None = 0
kinds_of_noted f (Some failure) =
    if not f.queued && (failure.number.n == f.number.n) then kinds_of_registers failure.regs.status failure.regs.error
    else 0

-- the final kinds of an owned issue: those that it was condemned with, those of the place's link, those of its
-- registers where its failure is noted, and those by the log; then some go
abbrev pub final_kinds : InFlight → ℕ → Option FailedIssue → ℕ → ℕ
final_kinds f link noted blamed = reduced (bit_or (bit_or f.kinds.0 link) (bit_or (kinds_of_noted f noted) blamed))
