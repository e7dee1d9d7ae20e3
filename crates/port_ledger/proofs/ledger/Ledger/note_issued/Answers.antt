use Rattle.std.proofs.Common.{◌≡◌, ◌<◌, ap, sym, refl, arith}
use Rattle.port_ledger.proofs.TrackedLemmas.{calm_of, timed_of, still_few, still_roomy, tracks_all}
use Rattle.port_ledger.proofs.ledger.Ledger.note_issued.Goals as goal

pub invariant_of-self : goal.invariant_of-self
invariant_of-self c =
    let past = c.add.ensures.past in
    let was = c.self.invariant in
    let room : c.args.self.now.room ≡ c.self.inside.room = ap (λ r. r.room) (sym c.self.view_is) in
    let some : 0 < c.self.inside.room = omega (arith, c.requires.room, room) in
    tracks_all _
    (rw past (calm_of _ was))
    (rw past (timed_of _ was))
    (record {
      commands = rw past was.commands;
      live = rw past was.live;
      queues = rw (past, ← was.queues, ← was.commands) c.note_queues.ensures.lists;
      retried = rw (past, ← was.retried) c.note_queues.ensures.retried;
    })
    (record {
      issues = rw (past, ← was.issues) refl;
      slots = rw (past, ← was.slots, ← was.commands) c.note_slots.ensures.value;
      drives = rw (past, ← was.drives, ← was.commands, ← was.links) c.note_drives.ensures.list;
      completions = rw (past, ← was.completions) c.note_completions.ensures;
      tferr = rw past was.tferr;
      dubious = rw past was.dubious;
      exclusive = rw past was.exclusive;
    })
    (record { numbers = c.note_slots.ensures.numbers; some = c.add.ensures.some; early = was.early; issues = omega (arith, was.issues_few) })
    (still_few _ was)
    (still_roomy _ _ _ _ _ was some c.add.ensures.room (omega arith) c.note_drives.ensures.room c.note_queues.ensures.room)
