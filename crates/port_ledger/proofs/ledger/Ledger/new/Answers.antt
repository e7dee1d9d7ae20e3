use Rattle.std.proofs.Common.{◌∙◌, map, refl, ap, arith}
use Rattle.ata_trace.specs.Entries.{past_of}
use Rattle.ata_script.specs.declared.drive_head.DriveHead.{DriveHead}
use Rattle.drive_model.specs.FreshAndReset.{fresh}
use Rattle.port_past.specs.Links.{link_at_boot}
use Rattle.port_past.specs.Places.{all_places}
use Rattle.port_ledger.proofs.CountLemmas.{none_at_most}
use Rattle.port_ledger.proofs.FlightLemmas.{up_to_none}
use Rattle.port_ledger.proofs.ledger.Ledger.new.Goals as goal

pub invariant_of-result : goal.invariant_of-result
invariant_of-result c =
    let past = ap past_of c.in_ok-entry.ensures.entries in
    let state = c.new-5.ensures in
    let attachments = c.new-6.ensures in
    let causes = c.new-8.ensures in
    record {
      step = rw past refl;
      clock = rw past refl;
      line = rw past refl;
      frozen = rw past (ap (λ s. s.frozen) state);
      asked = rw past (ap (λ s. s.asked) state);
      running = rw past (ap (λ s. s.running) state);
      autopsied = rw past (ap (λ s. s.autopsied) state);
      drained = rw past (ap (λ s. s.drained) state);
      quiet = rw past (ap (λ s. s.quiet_since) state);
      issues = rw past refl;
      settlings = rw past refl;
      attached = rw past (ap (λ a. a.attached) attachments);
      detachments = rw past (ap (λ a. a.detachments) attachments);
      commands = rw past c.in_ok-commands.ensures.commands;
      slots = rw past c.new-7.ensures;
      links = rw past (c.booted-links.ensures ∙ ap (λ heads. map (link_at_boot heads) all_places) c.items-2.ensures);
      drives = rw past (c.reserve.ensures.list ∙ c.in_ok-drives.ensures ∙ ap (λ heads. map (λ (h : DriveHead). fresh h.identity h.ready) heads) c.items.ensures);
      completions = rw past c.in_ok-completions.ensures;
      tferr = rw past (ap (λ x. x.tferr) causes);
      iferr = rw past (ap (λ x. x.iferr) causes);
      connect = rw past (ap (λ x. x.connect) causes);
      notify = rw past (ap (λ x. x.notify) causes);
      places = rw past c.in_ok-eh.ensures.places;
      host = rw past c.in_ok-eh.ensures.host;
      ident_lates = rw past c.in_ok-eh.ensures.ident_lates;
      was_hot = rw past c.in_ok-eh.ensures.was_hot;
      actions = rw past c.in_ok-eh.ensures.actions;
      logs = rw past c.in_ok-eh.ensures.logs;
      probes = rw past c.in_ok-eh.ensures.probes;
      udmas = rw past c.new-9.ensures.udmas;
      ncq_on = rw past c.new-9.ensures.ncq_on;
      dubious = rw past c.new-9.ensures.dubious;
      lowerings = rw past c.new-9.ensures.lowerings;
      ncq_ended = rw past c.new-9.ensures.ncq_ended;
      identities = rw past c.in_ok-eh.ensures.identities;
      identified_by = rw past c.in_ok-eh.ensures.identified_by;
      answered = rw past c.in_ok-eh.ensures.answered;
      live = rw (past, c.in_ok-commands.ensures.commands) refl;
      queues = rw past c.in_ok-commands.ensures.queues;
      retried = rw past c.in_ok-commands.ensures.retried;
      rings = rw past c.in_ok-eh.ensures.rings;
      noted = rw past c.in_ok-eh.ensures.noted;
      judged = rw past c.in_ok-eh.ensures.judged;
      exclusive = rw past refl;
      tasks = rw past c.in_ok-eh.ensures.tasks;
      numbers = rw c.new-7.ensures (up_to_none 0);
      some = rw c.in_ok-entry.ensures.entries (omega arith);
      early = omega arith;
      issues_few = omega arith;
      settlings_few = omega arith;
      detachments_few = rw (ap (λ a. a.detachments) attachments) (none_at_most 1);
      ident_lates_few = rw c.in_ok-eh.ensures.ident_lates (none_at_most 1);
      lowerings_few = rw c.new-9.ensures.lowerings (none_at_most 1);
      events_room = omega arith;
      few = omega arith;
      act_room = omega (arith, c.in_ok-entry.ensures.room);
      commands_room = omega (arith, c.in_ok-commands.ensures.commands_room);
      drives_room = omega (arith, c.in_ok-reserve.ensures.room);
      queues_room = omega (arith, c.in_ok-commands.ensures.queues_room);
    }
