use Rattle.std.specs.Prelude.{ℕ, Bool, false, ◌||◌, ◌==◌, List, [], ◌∷◌, Option, Some, None, slice_index}
use Rattle.ata_base.specs.declared.cmd.Cmd.{Cmd}
use Rattle.ata_base.specs.declared.issue_no.IssueNo.{IssueNo}
use Rattle.ata_base.specs.declared.ms.Ms.{Ms}
use Rattle.ata_tf.specs.CommandCodes.{command_byte, read_fpdma_queued, write_fpdma_queued}
use Rattle.ata_trace.specs.Event.{Event}
use Rattle.ata_trace.specs.Event.Event.{Told}
use Rattle.ata_trace.specs.declared.act.Act.TheVariants.{Issued, Condemned, Expired}
use Rattle.host_tags.specs.declared.in_flight.InFlight.{InFlight}
use Rattle.host_tags.specs.Marks.{condemned, expired}
use Rattle.host_tags.specs.Slots.{no_flights, put}
use Rattle.host_tags.specs.Numbers.{without, changed_by_number}
use Rattle.port_past.specs.Answers.{left_issue}
use Rattle.port_past.specs.Commands.{commands, place_of}

-- a frame is of a queued command where its command byte is READ or WRITE FPDMA QUEUED (ACS-3)
abbrev pub is_queued_frame : List ℕ → Bool
is_queued_frame fis = (slice_index fis command_byte == read_fpdma_queued) || (slice_index fis command_byte == write_fpdma_queued)

-- a fresh issue of a command
abbrev pub fresh_flight : ℕ → IssueNo → ℕ → Ms → List ℕ → InFlight
fresh_flight id number place deadline fis = record {
  id = id;
  number = number;
  place = place;
  queued = is_queued_frame fis;
  deadline = deadline;
  expired = false;
  owned = false;
  kinds = record { 0 = 0 };
}

-- the slots once an issue has left, where one has
abbrev pub without_left : Option ℕ → List (Option InFlight) → List (Option InFlight)
without_left None was = was
without_left (Some number) was = without number was

-- an issue is in flight, under its tag, from `issued` until the `answered` or `retried` that names it;
-- `expired` and `condemned` mark it. On a legal past a tag is free when an issue takes it
abbrev pub slots_after : Event → List Cmd → List (Option InFlight) → List (Option InFlight)
slots_after (Told (Issued id number tag deadline fis)) accepted was =
    put tag (fresh_flight id number (place_of id accepted) deadline fis) was
slots_after (Told (Condemned number kinds)) accepted was = changed_by_number (condemned kinds) number.n was
slots_after (Told (Expired id number)) accepted was = changed_by_number expired number.n was
slots_after (Told act) accepted was = without_left (left_issue act) was
slots_after _ accepted was = was

-- the issues in flight, by tag
abbrev pub slots : List Event → List (Option InFlight)
slots [] = no_flights
slots (event ∷ past) = slots_after event (commands past) (slots past)
