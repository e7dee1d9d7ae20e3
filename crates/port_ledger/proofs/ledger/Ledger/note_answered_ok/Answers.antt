use Rattle.std.proofs.Common.{◌≡◌, ◌<◌, ap, sym, arith}
use Rattle.port_ledger.proofs.TrackedLemmas.{calm_of, unanswered_of, answered_calm, answered_others, answered_quiet, answered_issues, still_few, still_roomy, tracks_all}
use Rattle.port_ledger.specs.Tracks.{the_past}
use Rattle.port_ledger.proofs.ledger.Ledger.note_answered_ok.Goals as goal

pub invariant_of-self : goal.invariant_of-self
invariant_of-self c =
    let past = c.add.ensures.past in
    let was = c.self.invariant in
    let ok = c.requires.kind in
    let room : c.args.self.now.room ≡ c.self.inside.room = ap (λ r. r.room) (sym c.self.view_is) in
    let some : 0 < c.self.inside.room = omega (arith, c.requires.room, room) in
    let others = answered_others c.self.inside (the_past c.self.inside) c.args.act ok (unanswered_of _ was) in
    tracks_all _
    (rw past (answered_calm c.self.inside (the_past c.self.inside) c.args.act ok (calm_of _ was)))
    (record { clock = rw past others.clock; line = rw past others.line; quiet = rw past (answered_quiet c.self.inside.clock (the_past c.self.inside) c.args.act ok was.clock) })
    (record {
      commands = rw (past, ← was.commands, ← was.step, ← was.detachments) c.note_commands.ensures.list;
      live = rw (past, ← was.live) c.note_commands.ensures.live;
      queues = rw past others.queues;
      retried = rw past others.retried;
    })
    (record {
      issues = rw past others.issues;
      slots = rw (past, ← was.slots, ← was.commands) c.note_slots.ensures.value;
      drives = rw past others.drives;
      completions = rw (past, ← was.completions, ← was.step, ← was.slots, ← was.links, ← was.drives) c.note_completions.ensures;
      tferr = rw past others.tferr;
      dubious = rw (past, ← was.dubious, ← was.commands) c.note_doubt.ensures;
      exclusive = rw (past, ← was.exclusive, ← was.slots) c.exclusive_after-self-inside.ensures;
    })
    (record { numbers = rw (← answered_issues c.self.inside.issues c.args.act ok) c.note_slots.ensures.numbers; some = c.add.ensures.some; early = was.early; issues = omega (arith, was.issues_few) })
    (still_few _ was)
    (still_roomy _ _ _ _ _ was some c.add.ensures.room c.note_commands.ensures.room (omega arith) (omega arith))
