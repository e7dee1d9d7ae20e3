-- What the code of an autopsy has in hand: the view of a place, what is found there before the first act, and the
-- issues tag by tag.
use Rattle.std.specs.Prelude.{ℕ, Bool, false, not, ◌&&◌, List, ◌∷◌, map, take, Option, Some, None, if◌then◌else◌}
use Rattle.ata_base.specs.declared.err_mask.ErrMask.{ErrMask}
use Rattle.ata_base.specs.declared.speed_action.SpeedAction.{SpeedAction}
use Rattle.ata_base.specs.declared.speed_action.SpeedAction.TheVariants.{NoChange}
use Rattle.ata_trace.specs.declared.act.Act.{Act}
use Rattle.ata_trace.specs.declared.act.Act.TheVariants.{Judged, Recorded, Cleared}
use Rattle.eh_reval.specs.Probes.{probe_limit_of}
use Rattle.eh_verdict.specs.Action.{speed_action_of}
use Rattle.eh_verdict.specs.Table.{verdict_of}
use Rattle.eh_verdict.specs.declared.error_verdict.Verdict.{Verdict}
use Rattle.host_tags.specs.declared.in_flight.InFlight.{InFlight}
use Rattle.port_ledger.specs.LedgerView.{LedgerView, past}
use Rattle.eh_ring.specs.Marks.{with_entry}
use Rattle.port_rules.specs.Autopsy.{action_of, all_kinds, has_effect, has_io, is_recorded, speed_action, verdict_at}
use Rattle.port_rules.specs.AutopsyView.{AutopsyView, autopsy_view}
use Rattle.port_rules.specs.Blame.{JudgedIssue, final_kinds, is_hotplugged, is_owned_by, judged_from}
use Rattle.port_rules.specs.Told.{told_if}
use Rattle.port_recovery.specs.declared.findings.Findings.{Findings}

-- what an autopsy sees at a place of a ledger's port
abbrev pub view_in : LedgerView → ℕ → AutopsyView
view_in ledger place = autopsy_view ledger.head (past ledger) place

-- the issue in a slot, where it is one of a place that recovery owns
abbrev pub owned_by : ℕ → Option InFlight → Option InFlight
owned_by place None = None
owned_by place (Some f) = if is_owned_by place f then Some f else None

-- an owned issue under a tag with its final kinds, where there is one
abbrev pub judged_as : AutopsyView → ℕ → Option InFlight → Option JudgedIssue
judged_as s tag None = None
judged_as s tag (Some f) = Some (record { flight = f; kinds = final_kinds s tag f })

-- the issue in the slot of a tag with its final kinds, where it is an owned one of the place
abbrev pub judged_under : AutopsyView → ℕ → Option InFlight → Option JudgedIssue
judged_under s tag slot = judged_as s tag (owned_by s.place slot)

-- the owned issues of a place below a tag
abbrev pub judged_below : AutopsyView → ℕ → List JudgedIssue
judged_below s tag = judged_from s 0 (take tag s.slots)

-- what is told of judged issues
abbrev pub judgements : List JudgedIssue → List Act
judgements issues = map (λ issue. Judged issue.flight.number (record { 0 = issue.kinds })) issues

-- the verdict once an error is recorded, by whether it is of input or output, and its kinds
abbrev pub verdict_by : AutopsyView → Bool → ErrMask → Verdict
verdict_by s io kinds =
    verdict_of
    (with_entry
    (record { io = io; dubious = s.dubious; stale = false; kinds = kinds; at = record { n = s.clock } })
    s.ring)
    s.clock

-- what is done about the speed by a verdict, where the error is recorded
abbrev pub speed_action_by : AutopsyView → Bool → Verdict → SpeedAction
speed_action_by s recorded v =
    if recorded then speed_action_of v s.ncq_on s.speed s.lowerings else NoChange

-- what is found at a place
abbrev pub findings_of : AutopsyView → Findings
findings_of s = record {
  hot = is_hotplugged s;
  limit = probe_limit_of s.probes s.clock;
  kinds = record { 0 = all_kinds s };
  io = has_io s;
  dubious = s.dubious;
  recorded = is_recorded s;
  verdict = verdict_at s;
  speed = speed_action s;
  action = action_of s;
}

-- whether the entries of the ring become old
abbrev pub clears : Findings → Bool
clears found = has_effect found.speed && not found.verdict.keep

-- what is told of an error that is recorded
abbrev pub recording_of : ℕ → Findings → List Act
recording_of place found =
    Recorded place found.io found.dubious found.kinds found.verdict.ncq_off found.verdict.speed_down found.verdict.pio
    found.verdict.keep found.speed
    ∷ told_if (clears found) (Cleared place)
