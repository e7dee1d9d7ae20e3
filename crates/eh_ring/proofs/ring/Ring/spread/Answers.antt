use Rattle.std.proofs.Common.{◌≡◌, ◌<◌, ◌≤◌, length, take, map, reverse, refl, ap, arith, ◌∙◌, length-set}
use Rattle.std.proofs.lemmas.List.{take_all, length-reverse}
use Rattle.eh_ring.specs.Bytes.{category_byte, time_of}
use Rattle.eh_ring.proofs.Spread.{one_more}
use Rattle.eh_ring.proofs.ring.Ring.spread.Goals as goal

pub loop-i-preserved : goal.loop-i-preserved
loop-i-preserved c =
    let ring = c.args.self.now in
    let i = c.loop-i.i in
    let same : length c.self.inside.entries.items ≡ length ring = ap length c.self.view_is in
    let within : i < length ring = omega arith in
    let in_cats : i < length c.loop-i.cats = omega arith in
    let in_times : i < length c.loop-i.times = omega arith in (
      length-set c.loop-i.cats i c.byte.result ∙ c.loop-i.invariant.0,
      length-set c.loop-i.times i c.nth_newest-entry.result.at.n ∙ c.loop-i.invariant.1,
      one_more category_byte ring c.loop-i.cats i c.byte.result c.nth_newest-entry.result in_cats within
          c.nth_newest-entry.ensures c.byte.ensures c.loop-i.invariant.2,
      one_more time_of ring c.loop-i.times i c.nth_newest-entry.result.at.n c.nth_newest-entry.result in_times within
          c.nth_newest-entry.ensures refl c.loop-i.invariant.3,
    )

pub returns : goal.returns
returns c =
    let ring = c.args.self.now in
    let i = c.loop-i.i in
    let n = c.len-n.result in
    let same : length c.self.inside.entries.items ≡ length ring = ap length c.self.view_is in
    let all : n ≡ i = omega arith in
    let size : length (reverse ring) ≤ i = omega (arith, length-reverse ring) in
    let whole : take i (reverse ring) ≡ reverse ring = take_all i (reverse ring) size in
    let places : n ≤ 32 = omega arith in
    record {
      places = places;
      bytes = ap (λ k. take k c.loop-i.cats) all ∙ c.loop-i.invariant.2 ∙ ap (λ es. map category_byte es) whole;
      moments = ap (λ k. take k c.loop-i.times) all ∙ c.loop-i.invariant.3 ∙ ap (λ es. map time_of es) whole;
    }
