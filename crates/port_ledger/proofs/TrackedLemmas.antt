-- What a ledger tracks, in groups. A group of which an act changes nothing is tracked after the act as before: the readings
-- of the longer past compute to those of the past before.
use Rattle.std.proofs.Common.{◌≡◌, ℕ, ◌+◌, ◌*◌, ◌-◌, ◌<◌, ◌≤◌, ◌^◌, List, ◌∷◌, length, refl, arith}
use Rattle.ata_trace.specs.Event.{Event}
use Rattle.ata_trace.specs.Event.Event.{Told}
use Rattle.ata_trace.specs.declared.act.Act.{Act}
use Rattle.ata_trace.specs.declared.act.Act.TheVariants.{AnsweredOk}
use Rattle.host_tags.specs.Numbers.{AreUpTo}
use Rattle.port_ledger.proofs.CountLemmas.{still_at_most}
use Rattle.port_ledger.specs.LiveFlags.{ids_of, live_of}
use Rattle.port_ledger.specs.Parts.{AreAtMost}
use Rattle.port_ledger.specs.Sound.{IsAnswerOk}
use Rattle.port_ledger.specs.Tracks.{Tracks, the_past}
use Rattle.port_ledger.specs.declared.ledger.Ledger.TheInside.{Inside}
use Rattle.port_past.specs.Attachment.{attached, detachments}
use Rattle.port_past.specs.Causes.{tferr, has_iferr, has_connect, has_notify}
use Rattle.port_past.specs.Clock.{clock}
use Rattle.port_past.specs.Commands.{commands}
use Rattle.port_past.specs.Completions.{completions}
use Rattle.port_past.specs.Doubt.{dubious}
use Rattle.port_past.specs.Drain.{drained_since, quiet_since}
use Rattle.port_past.specs.Drives.{drives}
use Rattle.port_past.specs.Exclusive.{exclusive}
use Rattle.port_past.specs.Hot.{probes, was_hot}
use Rattle.port_past.specs.IdentAnswers.{is_ident_answered}
use Rattle.port_past.specs.Identified.{identified_by}
use Rattle.port_past.specs.Identities.{identities}
use Rattle.port_past.specs.Issues.{issue_count, issue_count_after}
use Rattle.port_past.specs.Judged.{judged}
use Rattle.port_past.specs.Line.{is_line_up}
use Rattle.port_past.specs.Links.{links}
use Rattle.port_past.specs.Live.{live}
use Rattle.port_past.specs.Logs.{logs}
use Rattle.port_past.specs.Lowerings.{lowerings, ncq_ended}
use Rattle.port_past.specs.Modes.{udmas, ncq_on}
use Rattle.port_past.specs.Noted.{tferr_noted}
use Rattle.port_past.specs.PlaceTold.{place_told, host_told, ident_lates}
use Rattle.port_past.specs.PortState.{is_frozen, is_asked, is_running, is_autopsied}
use Rattle.port_past.specs.Queues.{queues, retried}
use Rattle.port_past.specs.Rings.{rings}
use Rattle.port_past.specs.Settlings.{settle_count}
use Rattle.port_past.specs.Slots.{slots}
use Rattle.port_past.specs.Steps.{last_step}
use Rattle.port_past.specs.Tasks.{actions, tasks}

-- what no act of a command on its way changes
abbrev pub Calm : Inside → List Event → Type 0
Calm l past = record {
  step : l.step ≡ last_step past;
  frozen : l.state.frozen ≡ is_frozen past;
  asked : l.state.asked ≡ is_asked past;
  running : l.state.running ≡ is_running past;
  autopsied : l.state.autopsied ≡ is_autopsied past;
  drained : l.state.drained ≡ drained_since past;
  settlings : l.settlings ≡ settle_count past;
  attached : l.attachments.attached ≡ attached past;
  detachments : l.attachments.detachments ≡ detachments past;
  links : l.links ≡ links l.head past;
  iferr : l.causes.iferr ≡ has_iferr l.head past;
  connect : l.causes.connect ≡ has_connect l.head past;
  notify : l.causes.notify ≡ has_notify l.head past;
  places : l.eh.recovery.places ≡ place_told past;
  host : l.eh.recovery.host ≡ host_told past;
  ident_lates : l.eh.recovery.ident_lates ≡ ident_lates past;
  was_hot : l.eh.recovery.was_hot ≡ was_hot past;
  actions : l.eh.recovery.actions ≡ actions past;
  logs : l.eh.recovery.logs ≡ logs past;
  probes : l.eh.probes ≡ probes past;
  udmas : l.modes.udmas ≡ udmas past;
  ncq_on : l.modes.ncq_on ≡ ncq_on past;
  lowerings : l.modes.lowerings ≡ lowerings past;
  ncq_ended : l.modes.ncq_ended ≡ ncq_ended past;
  identities : l.eh.identities ≡ identities past;
  identified_by : l.eh.identified_by ≡ identified_by l.head past;
  answered : l.eh.ident_answered ≡ is_ident_answered l.head past;
  rings : l.eh.rings ≡ rings past;
  noted : l.eh.noted ≡ tferr_noted past;
  judged : l.eh.judgements ≡ judged past;
  tasks : l.eh.tasks ≡ tasks l.head past;
}

-- the clock, the line, and since when the port is quiet
abbrev pub Timed : Inside → List Event → Type 0
Timed l past = record {
  clock : l.clock ≡ clock past;
  line : l.line ≡ is_line_up past;
  quiet : l.state.quiet_since ≡ quiet_since past;
}

-- the commands
abbrev pub Asked : Inside → List Event → Type 0
Asked l past = record {
  commands : l.commands.list ≡ commands past;
  live : live_of l.live (ids_of l.commands.list) ≡ live past;
  queues : l.queues.lists ≡ queues past;
  retried : l.queues.retried ≡ retried past;
}

-- the issues
abbrev pub Flying : Inside → List Event → Type 0
Flying l past = record {
  issues : l.issues ≡ issue_count past;
  slots : l.flights ≡ slots past;
  drives : l.drives.list ≡ drives l.head past;
  completions : l.completions ≡ completions l.head past;
  tferr : l.causes.tferr ≡ tferr past;
  dubious : l.modes.dubious ≡ dubious past;
  exclusive : l.exclusive ≡ exclusive past;
}

-- no count of these is above that of the events
abbrev pub Few : Inside → ℕ → Type 0
Few l events = record {
  settlings : l.settlings ≤ events;
  detachments : AreAtMost events l.attachments.detachments;
  ident_lates : AreAtMost events l.eh.recovery.ident_lates;
  lowerings : AreAtMost events l.modes.lowerings;
}

-- there is room for so many entries and acts, after so many events
abbrev pub Roomy : ℕ → ℕ → ℕ → ℕ → ℕ → ℕ → ℕ → Type 0
Roomy events begins room acts commands drives queues = record {
  events : events + 129 * begins + room < 2 ^ 64;
  few : room ≤ 128;
  act : room ≤ acts;
  commands : room + 128 * begins ≤ commands;
  drives : room + 128 * begins ≤ drives;
  queues : room + 128 * begins ≤ queues;
}

-- the numbers of the issues are at most their count, and that at most that of the events
abbrev pub Counted : Inside → Type 0
Counted l = record {
  numbers : AreUpTo l.issues l.flights;
  some : 0 < length l.entry.entries;
  early : l.clock ≤ 2 ^ 62;
  issues : l.issues ≤ l.events;
}

pub calm_of : (l : Inside) → Tracks l → Calm l (the_past l)
calm_of l was = record {
  step = was.step;
  frozen = was.frozen;
  asked = was.asked;
  running = was.running;
  autopsied = was.autopsied;
  drained = was.drained;
  settlings = was.settlings;
  attached = was.attached;
  detachments = was.detachments;
  links = was.links;
  iferr = was.iferr;
  connect = was.connect;
  notify = was.notify;
  places = was.places;
  host = was.host;
  ident_lates = was.ident_lates;
  was_hot = was.was_hot;
  actions = was.actions;
  logs = was.logs;
  probes = was.probes;
  udmas = was.udmas;
  ncq_on = was.ncq_on;
  lowerings = was.lowerings;
  ncq_ended = was.ncq_ended;
  identities = was.identities;
  identified_by = was.identified_by;
  answered = was.answered;
  rings = was.rings;
  noted = was.noted;
  judged = was.judged;
  tasks = was.tasks;
}

pub timed_of : (l : Inside) → Tracks l → Timed l (the_past l)
timed_of l was = record { clock = was.clock; line = was.line; quiet = was.quiet }

pub asked_of : (l : Inside) → Tracks l → Asked l (the_past l)
asked_of l was = record { commands = was.commands; live = was.live; queues = was.queues; retried = was.retried }

pub flying_of : (l : Inside) → Tracks l → Flying l (the_past l)
flying_of l was = record {
  issues = was.issues;
  slots = was.slots;
  drives = was.drives;
  completions = was.completions;
  tferr = was.tferr;
  dubious = was.dubious;
  exclusive = was.exclusive;
}

-- after one event more the counts that stay are few
pub still_few : (l : Inside) → Tracks l → Few l (l.events + 1)
still_few l was = record {
  settlings = omega (arith, was.settlings_few);
  detachments = still_at_most _ _ was.detachments_few;
  ident_lates = still_at_most _ _ was.ident_lates_few;
  lowerings = still_at_most _ _ was.lowerings_few;
}

-- after one act more there is room for one act less
pub still_roomy : (l : Inside) (acts commands drives queues : ℕ) → Tracks l → 0 < l.room → acts + 1 ≡ l.entry.room → l.commands.room ≤ commands + 1 → l.drives.room ≤ drives + 1 → l.queues.room ≤ queues + 1 → Roomy (l.events + 1) l.begins (l.room - 1) acts commands drives queues
still_roomy l acts commands drives queues was some act c d q = record {
  events = omega (arith, was.events_room, some);
  few = omega (arith, was.few);
  act = omega (arith, was.act_room, act, some);
  commands = omega (arith, was.commands_room, c, some);
  drives = omega (arith, was.drives_room, d, some);
  queues = omega (arith, was.queues_room, q, some);
}

-- the groups are all that a ledger tracks
pub tracks_all : (l : Inside) → Calm l (the_past l) → Timed l (the_past l) → Asked l (the_past l) → Flying l (the_past l) → Counted l → Few l l.events → Roomy l.events l.begins l.room l.entry.room l.commands.room l.drives.room l.queues.room → Tracks l
tracks_all l calm timed wanted flying counted few roomy = record {
  step = calm.step;
  clock = timed.clock;
  line = timed.line;
  frozen = calm.frozen;
  asked = calm.asked;
  running = calm.running;
  autopsied = calm.autopsied;
  drained = calm.drained;
  quiet = timed.quiet;
  issues = flying.issues;
  settlings = calm.settlings;
  attached = calm.attached;
  detachments = calm.detachments;
  commands = wanted.commands;
  slots = flying.slots;
  links = calm.links;
  drives = flying.drives;
  completions = flying.completions;
  tferr = flying.tferr;
  iferr = calm.iferr;
  connect = calm.connect;
  notify = calm.notify;
  places = calm.places;
  host = calm.host;
  ident_lates = calm.ident_lates;
  was_hot = calm.was_hot;
  actions = calm.actions;
  logs = calm.logs;
  probes = calm.probes;
  udmas = calm.udmas;
  ncq_on = calm.ncq_on;
  dubious = flying.dubious;
  lowerings = calm.lowerings;
  ncq_ended = calm.ncq_ended;
  identities = calm.identities;
  identified_by = calm.identified_by;
  answered = calm.answered;
  live = wanted.live;
  queues = wanted.queues;
  retried = wanted.retried;
  rings = calm.rings;
  noted = calm.noted;
  judged = calm.judged;
  exclusive = flying.exclusive;
  tasks = calm.tasks;
  numbers = counted.numbers;
  some = counted.some;
  early = counted.early;
  issues_few = counted.issues;
  settlings_few = few.settlings;
  detachments_few = few.detachments;
  ident_lates_few = few.ident_lates;
  lowerings_few = few.lowerings;
  events_room = roomy.events;
  few = roomy.few;
  act_room = roomy.act;
  commands_room = roomy.commands;
  drives_room = roomy.drives;
  queues_room = roomy.queues;
}

-- ---- a command is answered with success

-- what no such answer changes, beside what no act of a command on its way does
abbrev pub Unanswered : Inside → List Event → Type 0
Unanswered l past = record {
  clock : l.clock ≡ clock past;
  line : l.line ≡ is_line_up past;
  queues : l.queues.lists ≡ queues past;
  retried : l.queues.retried ≡ retried past;
  issues : l.issues ≡ issue_count past;
  drives : l.drives.list ≡ drives l.head past;
  tferr : l.causes.tferr ≡ tferr past;
}

pub unanswered_of : (l : Inside) → Tracks l → Unanswered l (the_past l)
unanswered_of l was = record {
  clock = was.clock;
  line = was.line;
  queues = was.queues;
  retried = was.retried;
  issues = was.issues;
  drives = was.drives;
  tferr = was.tferr;
}

pub answered_calm : (l : Inside) (past : List Event) (act : Act) → IsAnswerOk act → Calm l past → Calm l (Told act ∷ past)
answered_calm l past (AnsweredOk id number status error lba count stamps) ok calm = calm
answered_calm l past _ ok calm = absurd ok

pub answered_others : (l : Inside) (past : List Event) (act : Act) → IsAnswerOk act → Unanswered l past → Unanswered l (Told act ∷ past)
answered_others l past (AnsweredOk id number status error lba count stamps) ok others = others
answered_others l past _ ok others = absurd ok

-- the port is quiet since then
pub answered_quiet : (now : ℕ) (past : List Event) (act : Act) → IsAnswerOk act → now ≡ clock past → now ≡ quiet_since (Told act ∷ past)
answered_quiet now past (AnsweredOk id number status error lba count stamps) ok same = same
answered_quiet now past _ ok same = absurd ok

-- no issue is more
pub answered_issues : (issues : ℕ) (act : Act) → IsAnswerOk act → issue_count_after (Told act) issues ≡ issues
answered_issues issues (AnsweredOk id number status error lba count stamps) ok = refl
answered_issues issues _ ok = absurd ok
