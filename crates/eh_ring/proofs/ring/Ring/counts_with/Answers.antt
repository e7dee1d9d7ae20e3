use Rattle.std.proofs.Common.{◌≡◌, take, reverse, map, ap, ◌∙◌}
use Rattle.ata_lanes.specs.Counts.{six_counts}
use Rattle.eh_ring.specs.Bytes.{category_byte}
use Rattle.eh_ring.specs.Marks.{with_entry}
use Rattle.eh_ring.specs.Counts.{window, counts_of, counts_in}
use Rattle.eh_ring.proofs.Six.{bytes_small, as_list, six_counts-bytes, counts_from}
use Rattle.eh_ring.proofs.ring.Ring.counts_with.Goals as goal

pub count_cats-six-requires-clause-categories : goal.count_cats-six-requires-clause-categories
count_cats-six-requires-clause-categories c = rw c.spread_with-n.ensures.bytes (bytes_small (reverse (with_entry c.args.e.now c.args.self.now)))

pub returns : goal.returns
unfolding counts_in
returns c =
    let six : c.count_cats-six.result ≡ as_list (counts_of (window (with_entry c.args.e.now c.args.self.now) c.args.since.n)) =
    c.count_cats-six.ensures
    ∙ ap (λ bytes. six_counts bytes (take c.spread_with-n.result.2 c.spread_with-n.result.1) c.args.since.n) c.spread_with-n.ensures.bytes
    ∙ ap (λ times. six_counts (map category_byte (reverse (with_entry c.args.e.now c.args.self.now))) times c.args.since.n) c.spread_with-n.ensures.moments
    ∙ six_counts-bytes (reverse (with_entry c.args.e.now c.args.self.now)) c.args.since.n in
    counts_from c.count_cats-six.result (counts_of (window (with_entry c.args.e.now c.args.self.now) c.args.since.n)) six
