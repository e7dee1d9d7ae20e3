use Rattle.std.proofs.Common.{◌≡◌, ◌+◌, ◌<◌, ◌≤◌, ◌∷◌, length, take, map, min, reverse, refl, sym, ap, arith, ◌∙◌, length-set}
use Rattle.eh_ring.specs.Bytes.{category_byte, time_of}
use Rattle.eh_ring.specs.Marks.{with_entry}
use Rattle.eh_ring.proofs.Spread.{one_later, newest_kept}
use Rattle.eh_ring.proofs.ring.Ring.spread_with.Goals as goal

pub loop-i-preserved : goal.loop-i-preserved
loop-i-preserved c =
    let ring = c.args.self.now in
    let i = c.loop-i.i in
    let same : length c.self.inside.entries.items ≡ length ring = ap length c.self.view_is in
    let within : i < length ring = omega arith in
    let in_cats : i + 1 < length c.loop-i.cats = omega arith in
    let in_times : i + 1 < length c.loop-i.times = omega arith in (
      length-set c.loop-i.cats (i + 1) c.byte-in-loop-i.result ∙ c.loop-i.invariant.0,
      length-set c.loop-i.times (i + 1) c.nth_newest-entry.result.at.n ∙ c.loop-i.invariant.1,
      one_later category_byte ring c.loop-i.cats i (category_byte c.args.e.now) c.byte-in-loop-i.result c.nth_newest-entry.result in_cats within
          c.nth_newest-entry.ensures c.byte-in-loop-i.ensures c.loop-i.invariant.2,
      one_later time_of ring c.loop-i.times i (time_of c.args.e.now) c.nth_newest-entry.result.at.n c.nth_newest-entry.result in_times within
          c.nth_newest-entry.ensures refl c.loop-i.invariant.3,
    )

pub returns : goal.returns
returns c =
    let ring = c.args.self.now in
    let i = c.loop-i.i in
    let same : length c.self.inside.entries.items ≡ length ring = ap length c.self.view_is in
    let size : i ≡ min (length ring) 31 = omega arith in
    let all : c.min-n.result + 1 ≡ i + 1 = omega arith in
    let few : length ring ≤ 32 = omega arith in
    let kept : reverse (with_entry c.args.e.now ring) ≡ c.args.e.now ∷ take i (reverse ring) =
    newest_kept c.args.e.now ring i size few in
    record {
      places = omega arith;
      bytes = ap (λ k. take k c.loop-i.cats) all ∙ c.loop-i.invariant.2 ∙ ap (map category_byte) (sym kept);
      moments = ap (λ k. take k c.loop-i.times) all ∙ c.loop-i.invariant.3 ∙ ap (map time_of) (sym kept);
    }
