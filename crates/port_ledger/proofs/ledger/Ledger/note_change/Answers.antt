use Rattle.std.proofs.Common.{◌≡◌, ◌<◌, ap, sym, arith}
use Rattle.ata_trace.specs.Entries.{past_of}
use Rattle.port_past.specs.Line.{is_irq_served}
use Rattle.port_past.specs.PortState.{is_frozen}
use Rattle.port_past.specs.Causes.{tferr}
use Rattle.port_ledger.proofs.ledger.Ledger.note_change.Goals as goal

pub invariant_of-self : goal.invariant_of-self
invariant_of-self c =
    let past = c.add.ensures.past in
    let was = c.self.invariant in
    let room : c.args.self.now.room ≡ c.self.inside.room = ap (λ r. r.room) (sym c.self.view_is) in
    let some : 0 < c.self.inside.room = omega (arith, c.requires.room, room) in
    record {
      step = rw past was.step;
      clock = rw (past, ← was.clock) c.clock_after-self-inside.ensures.value;
      line = rw (past, ← was.line) (c.line_after-self-inside.ensures (is_frozen (past_of c.self.inside.entry.entries)));
      frozen = rw (past, ← was.frozen) c.note_state.ensures.frozen;
      asked = rw (past, ← was.asked) c.note_state.ensures.asked;
      running = rw (past, ← was.running) c.note_state.ensures.running;
      autopsied = rw (past, ← was.autopsied) c.note_state.ensures.autopsied;
      drained = rw (past, ← was.drained) c.note_state.ensures.drained;
      quiet = rw (past, ← was.quiet, ← was.clock) c.note_state.ensures.quiet;
      issues = rw (past, ← was.issues) c.issue_count_after-self-inside.ensures.value;
      settlings = rw past was.settlings;
      attached = rw (past, ← was.attached) c.note_attachments.ensures.attached;
      detachments = rw (past, ← was.detachments) c.note_attachments.ensures.detachments;
      commands = rw (past, ← was.commands, ← was.step, ← was.detachments) c.note_commands.ensures.list;
      slots = rw (past, ← was.slots, ← was.commands) c.note_slots.ensures.value;
      links = rw (past, ← was.links, ← was.step) c.note_links.ensures;
      drives = rw (past, ← was.drives, ← was.step, ← was.clock, ← was.commands, ← was.slots, ← was.links) c.note_drives.ensures.list;
      completions = rw (past, ← was.completions, ← was.step, ← was.slots, ← was.links, ← was.drives) c.note_completions.ensures;
      tferr = rw (past, ← was.tferr, ← was.step) (c.note_causes.ensures.tferr (is_irq_served (past_of c.self.inside.entry.entries)));
      iferr = rw (past, ← was.iferr, ← was.step) (c.note_causes.ensures.iferr (is_irq_served (past_of c.self.inside.entry.entries)));
      connect = rw (past, ← was.connect, ← was.step) (c.note_causes.ensures.connect (is_irq_served (past_of c.self.inside.entry.entries)));
      notify = rw (past, ← was.notify, ← was.step) (c.note_causes.ensures.notify (is_irq_served (past_of c.self.inside.entry.entries)));
      places = rw (past, ← was.places) c.note.ensures.places;
      host = rw (past, ← was.host) c.note.ensures.host;
      ident_lates = rw (past, ← was.ident_lates) c.note.ensures.ident_lates;
      was_hot = rw (past, ← was.was_hot) c.note.ensures.was_hot;
      actions = rw (past, ← was.actions) c.note.ensures.actions;
      logs = rw (past, ← was.logs) c.note.ensures.logs;
      probes = rw (past, ← was.probes, ← was.clock) c.note.ensures.probes;
      udmas = rw (past, ← was.udmas) c.note_modes.ensures.udmas;
      ncq_on = rw (past, ← was.ncq_on) c.note_modes.ensures.ncq_on;
      dubious = rw (past, ← was.dubious, ← was.commands) c.note_modes.ensures.dubious;
      lowerings = rw (past, ← was.lowerings) c.note_modes.ensures.lowerings;
      ncq_ended = rw (past, ← was.ncq_ended) c.note_modes.ensures.ncq_ended;
      identities = rw (past, ← was.identities) c.note.ensures.identities;
      identified_by = rw (past, ← was.identified_by, ← was.links) c.note.ensures.identified_by;
      answered = rw (past, ← was.answered, ← was.links, ← was.drives) c.note.ensures.answered;
      live = rw (past, ← was.live) c.note_commands.ensures.live;
      queues = rw (past, ← was.queues, ← was.step, ← was.detachments, ← was.commands, ← was.retried) c.note_queues.ensures.lists;
      retried = rw (past, ← was.retried, ← was.commands) c.note_queues.ensures.retried;
      rings = rw (past, ← was.rings, ← was.clock, ← was.dubious) c.note.ensures.rings;
      noted = rw (past, ← was.noted) (c.note.ensures.noted (is_irq_served (past_of c.self.inside.entry.entries)) (tferr (past_of c.self.inside.entry.entries)));
      judged = rw (past, ← was.judged, ← was.slots, ← was.noted, ← was.logs) c.note.ensures.judged;
      exclusive = rw (past, ← was.exclusive, ← was.slots) c.exclusive_after-self-inside.ensures;
      tasks = rw (past, ← was.tasks, ← was.frozen, ← was.attached, ← was.was_hot, ← was.actions) c.note.ensures.tasks;
      numbers = rw c.issue_count_after-self-inside.ensures.value c.note_slots.ensures.numbers;
      some = c.add.ensures.some;
      early = c.clock_after-self-inside.ensures.early;
      issues_few = omega (arith, was.issues_few, c.issue_count_after-self-inside.ensures.most);
      settlings_few = omega (arith, was.settlings_few);
      detachments_few = c.note_attachments.ensures.most;
      ident_lates_few = c.note.ensures.most;
      lowerings_few = c.note_modes.ensures.most;
      events_room = omega (arith, was.events_room, some);
      few = omega (arith, was.few);
      act_room = omega (arith, was.act_room, c.add.ensures.room, some);
      commands_room = omega (arith, was.commands_room, c.note_commands.ensures.room);
      drives_room = omega (arith, was.drives_room, c.note_drives.ensures.room);
      queues_room = omega (arith, was.queues_room, c.note_queues.ensures.room);
    }
