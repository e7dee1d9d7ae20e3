use Rattle.std.specs.Prelude.{ℕ, Bool, false, List, Option, None, slice_index, slice_index_or}
use Rattle.ata_base.specs.declared.cmd.Cmd.{Cmd}
use Rattle.ata_script.specs.declared.port_head.PortHead.{PortHead}
use Rattle.ata_trace.specs.Event.{Event}
use Rattle.eh_reval.specs.Probes.{no_probes}
use Rattle.eh_reval.specs.declared.probe_times.ProbeTimes.{ProbeTimes}
use Rattle.eh_ring.specs.declared.entry.RingEntry.{RingEntry}
use Rattle.host_tags.specs.declared.in_flight.InFlight.{InFlight}
use Rattle.eh_autopsy.specs.declared.failed_issue.FailedIssue.{FailedIssue}
use Rattle.drive_model.specs.declared.log_told.LogTold.{LogTold}
use Rattle.port_past.specs.Clock.{clock}
use Rattle.port_past.specs.Commands.{commands}
use Rattle.port_past.specs.Attachment.{attached}
use Rattle.port_past.specs.PortState.{is_frozen}
use Rattle.port_past.specs.Hot.{probes}
use Rattle.port_past.specs.Identified.{speed_at}
use Rattle.port_past.specs.Links.{links, link_at}
use Rattle.port_past.specs.Logs.{logs}
use Rattle.port_past.specs.Doubt.{dubious}
use Rattle.port_past.specs.Modes.{ncq_on}
use Rattle.port_past.specs.Lowerings.{lowerings}
use Rattle.port_past.specs.Noted.{tferr_noted}
use Rattle.port_past.specs.Rings.{rings, no_entries}
use Rattle.port_past.specs.Slots.{slots}

-- what an autopsy looks at, at a place
pub record AutopsyView : Type 0 where
  -- the place
  pub place : ℕ
  -- whether it is one of a multiplier
  pub pmp : Bool
  -- whether the port is frozen
  pub frozen : Bool
  -- whether a device is attached
  pub attached : Bool
  -- its SError
  pub serror : ℕ
  -- the issues in flight of the whole port, by tag
  pub slots : List (Option InFlight)
  -- the accepted commands of the whole port
  pub commands : List Cmd
  -- the failed issue that is noted
  pub noted : Option FailedIssue
  -- what its log told in this recovery
  pub log : Option LogTold
  -- whether the device is dubious
  pub dubious : Bool
  -- its error ring
  pub ring : List RingEntry
  -- whether NCQ is on
  pub ncq_on : Bool
  -- its present speed
  pub speed : ℕ
  -- how often its mode was lowered
  pub lowerings : ℕ
  -- the times of its last two hotplugs
  pub probes : ProbeTimes
  -- the time
  pub clock : ℕ

-- what an autopsy sees at a place
abbrev pub autopsy_view : PortHead → List Event → ℕ → AutopsyView
autopsy_view head past place = record {
  place = place;
  pmp = head.pmp;
  frozen = is_frozen past;
  attached = slice_index_or (attached past) place false;
  serror = (link_at (links head past) place).serror;
  slots = slots past;
  commands = commands past;
  noted = slice_index_or (tferr_noted past) place None;
  log = slice_index_or (logs past) place None;
  dubious = slice_index_or (dubious past) place false;
  ring = slice_index_or (rings past) place no_entries;
  ncq_on = slice_index_or (ncq_on past) place false;
  speed = speed_at head past place;
  lowerings = slice_index (lowerings past) place;
  probes = slice_index_or (probes past) place no_probes;
  clock = clock past;
}
