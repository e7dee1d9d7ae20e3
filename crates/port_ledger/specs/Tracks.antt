use Rattle.std.specs.Prelude.{◌≡◌, ◌+◌, ◌*◌, ◌<◌, ◌≤◌, ◌^◌, List, length}
use Rattle.ata_trace.specs.Entries.{past_of}
use Rattle.ata_trace.specs.Event.{Event}
use Rattle.host_tags.specs.Numbers.{AreUpTo}
use Rattle.port_ledger.specs.Parts.{AreAtMost}
use Rattle.port_ledger.specs.declared.ledger.Ledger.TheInside.{Inside}
use Rattle.port_past.specs.Attachment.{attached, detachments}
use Rattle.port_past.specs.Causes.{tferr, has_iferr, has_connect, has_notify}
use Rattle.port_past.specs.Clock.{clock}
use Rattle.port_past.specs.Commands.{commands}
use Rattle.port_past.specs.Completions.{completions}
use Rattle.port_past.specs.Doubt.{dubious}
use Rattle.port_past.specs.Drain.{drained_since, quiet_since}
use Rattle.port_past.specs.Drives.{drives}
use Rattle.port_past.specs.Hot.{probes, was_hot}
use Rattle.port_past.specs.IdentAnswers.{is_ident_answered}
use Rattle.port_past.specs.Identified.{identified_by}
use Rattle.port_past.specs.Identities.{identities}
use Rattle.port_past.specs.Issues.{issue_count}
use Rattle.port_past.specs.Line.{is_line_up}
use Rattle.port_past.specs.Links.{links}
use Rattle.port_past.specs.Logs.{logs}
use Rattle.port_past.specs.Lowerings.{lowerings, ncq_ended}
use Rattle.port_past.specs.Modes.{udmas, ncq_on}
use Rattle.port_past.specs.PlaceTold.{place_told, host_told, ident_lates}
use Rattle.port_past.specs.PortState.{is_frozen, is_asked, is_running, is_autopsied}
use Rattle.port_past.specs.Settlings.{settle_count}
use Rattle.port_past.specs.Slots.{slots}
use Rattle.port_past.specs.Steps.{last_step}
use Rattle.port_past.specs.Tasks.{actions, tasks}
use Rattle.port_past.specs.Exclusive.{exclusive}
use Rattle.port_past.specs.Judged.{judged}
use Rattle.port_past.specs.Live.{live}
use Rattle.port_past.specs.Noted.{tferr_noted}
use Rattle.port_past.specs.Queues.{queues, retried}
use Rattle.port_past.specs.Rings.{rings}
use Rattle.port_ledger.specs.LiveFlags.{ids_of, live_of}

-- the past that a ledger tells
abbrev pub the_past : Inside → List Event
the_past l = past_of l.entry.entries

-- each part is the reading of the past that it keeps, and has room for what may come
pub record Tracks (l : Inside) : Type 0 where
  pub step : l.step ≡ last_step (the_past l)
  pub clock : l.clock ≡ clock (the_past l)
  pub line : l.line ≡ is_line_up (the_past l)
  pub frozen : l.state.frozen ≡ is_frozen (the_past l)
  pub asked : l.state.asked ≡ is_asked (the_past l)
  pub running : l.state.running ≡ is_running (the_past l)
  pub autopsied : l.state.autopsied ≡ is_autopsied (the_past l)
  pub drained : l.state.drained ≡ drained_since (the_past l)
  pub quiet : l.state.quiet_since ≡ quiet_since (the_past l)
  pub issues : l.issues ≡ issue_count (the_past l)
  pub settlings : l.settlings ≡ settle_count (the_past l)
  pub attached : l.attachments.attached ≡ attached (the_past l)
  pub detachments : l.attachments.detachments ≡ detachments (the_past l)
  pub commands : l.commands.list ≡ commands (the_past l)
  pub slots : l.flights ≡ slots (the_past l)
  pub links : l.links ≡ links l.head (the_past l)
  pub drives : l.drives.list ≡ drives l.head (the_past l)
  pub completions : l.completions ≡ completions l.head (the_past l)
  pub tferr : l.causes.tferr ≡ tferr (the_past l)
  pub iferr : l.causes.iferr ≡ has_iferr l.head (the_past l)
  pub connect : l.causes.connect ≡ has_connect l.head (the_past l)
  pub notify : l.causes.notify ≡ has_notify l.head (the_past l)
  pub places : l.eh.recovery.places ≡ place_told (the_past l)
  pub host : l.eh.recovery.host ≡ host_told (the_past l)
  pub ident_lates : l.eh.recovery.ident_lates ≡ ident_lates (the_past l)
  pub was_hot : l.eh.recovery.was_hot ≡ was_hot (the_past l)
  pub actions : l.eh.recovery.actions ≡ actions (the_past l)
  pub logs : l.eh.recovery.logs ≡ logs (the_past l)
  pub probes : l.eh.probes ≡ probes (the_past l)
  pub udmas : l.modes.udmas ≡ udmas (the_past l)
  pub ncq_on : l.modes.ncq_on ≡ ncq_on (the_past l)
  pub dubious : l.modes.dubious ≡ dubious (the_past l)
  pub lowerings : l.modes.lowerings ≡ lowerings (the_past l)
  pub ncq_ended : l.modes.ncq_ended ≡ ncq_ended (the_past l)
  pub identities : l.eh.identities ≡ identities (the_past l)
  pub identified_by : l.eh.identified_by ≡ identified_by l.head (the_past l)
  pub answered : l.eh.ident_answered ≡ is_ident_answered l.head (the_past l)
  pub live : live_of l.live (ids_of l.commands.list) ≡ live (the_past l)
  pub queues : l.queues.lists ≡ queues (the_past l)
  pub retried : l.queues.retried ≡ retried (the_past l)
  pub rings : l.eh.rings ≡ rings (the_past l)
  pub noted : l.eh.noted ≡ tferr_noted (the_past l)
  pub judged : l.eh.judgements ≡ judged (the_past l)
  pub exclusive : l.exclusive ≡ exclusive (the_past l)
  pub tasks : l.eh.tasks ≡ tasks l.head (the_past l)
  pub numbers : AreUpTo l.issues l.flights
  pub some : 0 < length l.entry.entries
  pub early : l.clock ≤ 2 ^ 62
  pub issues_few : l.issues ≤ l.events
  pub settlings_few : l.settlings ≤ l.events
  pub detachments_few : AreAtMost l.events l.attachments.detachments
  pub ident_lates_few : AreAtMost l.events l.eh.recovery.ident_lates
  pub lowerings_few : AreAtMost l.events l.modes.lowerings
  pub events_room : l.events + 129 * l.begins + l.room < 2 ^ 64
  pub few : l.room ≤ 128
  pub act_room : l.room ≤ l.entry.room
  pub commands_room : l.room + 128 * l.begins ≤ l.commands.room
  pub drives_room : l.room + 128 * l.begins ≤ l.drives.room
  pub queues_room : l.room + 128 * l.begins ≤ l.queues.room
