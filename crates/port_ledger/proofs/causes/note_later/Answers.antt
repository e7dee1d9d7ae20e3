use Rattle.std.proofs.Common.{◌≡◌, ◌<◌, None, length, get_or, arith, length-set}
use Rattle.port_ledger.specs.Parts.{later}
use Rattle.port_ledger.proofs.NotedLemmas.{later_at, later_next}
use Rattle.port_ledger.proofs.causes.note_later.Goals as goal

pub loop-at-preserved : goal.loop-at-preserved
loop-at-preserved c =
    let was = c.loop-at.invariant in
    let within : c.loop-at.at < length c.args.tferr.now = omega (arith, was.tferr) in
    let inside : c.loop-at.at < length c.args.noted.now = omega (arith, was.before) in
    let still : c.loop-at.at < length c.loop-at.noted = omega (arith, was.size) in
    let told : c.later.result ≡ later (get_or c.args.tferr.now c.loop-at.at None) (get_or c.loop-at.noted c.loop-at.at None) =
    later_at c.loop-at.at c.args.tferr.now c.loop-at.noted _ _ _ within still c.later.ensures in
    record {
      noted = rw told (later_next c.loop-at.at c.args.tferr.now c.args.noted.now c.loop-at.noted was.noted within inside);
      size = simp length-set was.size;
      before = was.before;
      tferr = was.tferr;
    }
