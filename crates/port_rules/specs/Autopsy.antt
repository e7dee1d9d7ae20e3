use Rattle.std.specs.Prelude.{ℕ, ◌==◌, ◌&&◌, ◌||◌, Bool, true, false, not, List, [], ◌∷◌, ◌++◌, map, fold, flat_map, if◌then◌else◌}
use Rattle.std.specs.Int.RustNames.{bit_or}
use Rattle.std.specs.List.{list_any}
use Rattle.std.specs.Option.{option_map_or}
use Rattle.ata_base.specs.Operations.{is_io}
use Rattle.ata_base.specs.declared.link_action.LinkAction.{LinkAction}
use Rattle.ata_base.specs.declared.speed_action.SpeedAction.{SpeedAction}
use Rattle.ata_base.specs.declared.speed_action.SpeedAction.TheVariants.{NoChange}
use Rattle.ata_script.specs.declared.port_head.PortHead.{PortHead}
use Rattle.ata_trace.specs.Event.{Event}
use Rattle.ata_trace.specs.declared.act.Act.{Act}
use Rattle.ata_trace.specs.declared.act.Act.TheVariants.{Judged, Recorded, Cleared, Hot, Action, Autopsied}
use Rattle.eh_autopsy.specs.Actions.{link_action}
use Rattle.eh_reval.specs.Probes.{probe_limit_of}
use Rattle.eh_ring.specs.Category.{category_of}
use Rattle.eh_ring.specs.declared.error_category.Category.{Category}
use Rattle.eh_ring.specs.declared.error_category.Category.TheVariants.{Nil}
use Rattle.eh_ring.specs.declared.entry.RingEntry.{RingEntry}
use Rattle.eh_verdict.specs.Action.{speed_action_of}
use Rattle.eh_verdict.specs.Table.{verdict_of}
use Rattle.eh_verdict.specs.declared.error_verdict.Verdict.{Verdict}
use Rattle.host_tags.specs.declared.in_flight.InFlight.{InFlight}
use Rattle.port_past.specs.Commands.{command_of}
use Rattle.eh_ring.specs.Marks.{with_entry}
use Rattle.host_tags.specs.Slots.{is_owned_at}
use Rattle.port_rules.specs.Blame.{link_kinds, is_hotplugged, judged_here}
use Rattle.port_past.specs.Heads.{places_of}
use Rattle.port_rules.specs.AutopsyView.{AutopsyView, autopsy_view}
use Rattle.port_rules.specs.Told.{told_if}

-- whether something is done about the speed
abbrev pub has_effect : SpeedAction → Bool
has_effect NoChange = false
has_effect _ = true

-- whether an error falls into no category
abbrev pub is_nil : Category → Bool
is_nil Nil = true
is_nil _ = false

-- the kinds of the place and of all its owned issues
abbrev pub all_kinds : AutopsyView → ℕ
all_kinds s = fold (λ kinds issue. bit_or kinds issue.kinds) (link_kinds s) (judged_here s)

-- whether an issue is of a read, a write or a flush
abbrev pub is_io_issue : AutopsyView → InFlight → Bool
is_io_issue s f = option_map_or (λ c. is_io c.op) (command_of f.id s.commands) false

-- whether recovery owns a read, a write or a flush of the place
abbrev pub has_io : AutopsyView → Bool
has_io s = list_any (λ issue. is_io_issue s issue.flight) (judged_here s)

-- whether recovery owns a read, a write or a flush of the place that has final kinds
abbrev pub has_io_error : AutopsyView → Bool
has_io_error s = list_any (λ issue. is_io_issue s issue.flight && not (issue.kinds == 0)) (judged_here s)

-- whether the error is recorded: a device is attached, and the error falls into a category
abbrev pub is_recorded : AutopsyView → Bool
is_recorded s = s.attached && not (is_nil (category_of (has_io s) (all_kinds s)))

-- the entry that is recorded
abbrev pub entry_of : AutopsyView → RingEntry
entry_of s = record {
  io = has_io s;
  dubious = s.dubious;
  stale = false;
  kinds = record { 0 = all_kinds s };
  at = record { n = s.clock };
}

-- the verdict, which counts the new entry itself
abbrev pub verdict_at : AutopsyView → Verdict
verdict_at s = verdict_of (with_entry (entry_of s) s.ring) s.clock

-- what is done about the speed where the error is recorded
abbrev pub speed_action : AutopsyView → SpeedAction
speed_action s =
    if is_recorded s then speed_action_of (verdict_at s) s.ncq_on s.speed s.lowerings else NoChange

-- the acts of a recorded error: where something is done, the ring's entries become old, unless the verdict keeps them
abbrev pub recording_acts : AutopsyView → Verdict → SpeedAction → List Act
recording_acts s v action =
    Recorded s.place (has_io s) s.dubious (record { 0 = all_kinds s }) v.ncq_off v.speed_down v.pio v.keep action
    ∷ told_if (has_effect action && not v.keep) (Cleared s.place)

-- the acts of a place's error, where it is recorded
abbrev pub recorded_acts : AutopsyView → List Act
recorded_acts s = if is_recorded s then recording_acts s (verdict_at s) (speed_action s) else []

-- what is done at a place
abbrev pub action_of : AutopsyView → LinkAction
action_of s = link_action s.frozen (is_hotplugged s) (all_kinds s) (has_io_error s) (speed_action s)

-- the acts of the autopsy of a place
abbrev pub autopsy_of : AutopsyView → List Act
autopsy_of s =
    map (λ issue. Judged issue.flight.number (record { 0 = issue.kinds })) (judged_here s)
    ++ recorded_acts s
    ++ told_if (is_hotplugged s) (Hot s.place (probe_limit_of s.probes s.clock))
    ++ Action s.place (record { 0 = all_kinds s }) (action_of s) ∷ []

-- a place is examined where it has an owned issue or an SError bit, or is place 0 of a frozen direct port
abbrev pub is_examined : AutopsyView → Bool
is_examined s =
    list_any (is_owned_at s.place) s.slots || not (s.serror == 0) || ((s.place == 0) && not s.pmp && s.frozen)

-- the acts of a place, where it is examined
abbrev pub examined_acts : AutopsyView → List Act
examined_acts s = if is_examined s then autopsy_of s else []

-- the acts of the autopsy, place after place
abbrev pub autopsy_acts : PortHead → List Event → List Act
autopsy_acts head past = flat_map (λ place. examined_acts (autopsy_view head past place)) (places_of head) ++ Autopsied ∷ []
