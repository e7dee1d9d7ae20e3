use Rattle.std.proofs.Common.{◌≡◌, ◌<◌, ap, sym, refl, arith}
use Rattle.port_ledger.proofs.TrackedLemmas.{calm_of, asked_of, flying_of, still_few, still_roomy, tracks_all}
use Rattle.port_ledger.proofs.ledger.Ledger.note_raised.Goals as goal

pub invariant_of-self : goal.invariant_of-self
invariant_of-self c =
    let past = c.add.ensures.past in
    let was = c.self.invariant in
    let room : c.args.self.now.room ≡ c.self.inside.room = ap (λ r. r.room) (sym c.self.view_is) in
    let some : 0 < c.self.inside.room = omega (arith, c.requires, room) in
    tracks_all _
    (rw past (calm_of _ was))
    (record { clock = rw past was.clock; line = rw past refl; quiet = rw past was.quiet })
    (rw past (asked_of _ was))
    (rw past (flying_of _ was))
    (record { numbers = was.numbers; some = c.add.ensures.some; early = was.early; issues = omega (arith, was.issues_few) })
    (still_few _ was)
    (still_roomy _ _ _ _ _ was some c.add.ensures.room (omega arith) (omega arith) (omega arith))
