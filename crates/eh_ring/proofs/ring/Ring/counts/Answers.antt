use Rattle.std.proofs.Common.{◌≡◌, take, reverse, map, ap, ◌∙◌}
use Rattle.ata_lanes.specs.Counts.{six_counts}
use Rattle.eh_ring.specs.Bytes.{category_byte}
use Rattle.eh_ring.specs.Counts.{window, counts_of, counts_in}
use Rattle.eh_ring.proofs.Six.{bytes_small, as_list, six_counts-bytes, counts_from}
use Rattle.eh_ring.proofs.ring.Ring.counts.Goals as goal

pub count_cats-six-requires-clause-categories : goal.count_cats-six-requires-clause-categories
count_cats-six-requires-clause-categories c = rw c.spread-n.ensures.bytes (bytes_small (reverse c.args.self.now))

pub returns : goal.returns
unfolding counts_in
returns c =
    let six : c.count_cats-six.result ≡ as_list (counts_of (window c.args.self.now c.args.since.n)) =
    c.count_cats-six.ensures
    ∙ ap (λ bytes. six_counts bytes (take c.spread-n.result.2 c.spread-n.result.1) c.args.since.n) c.spread-n.ensures.bytes
    ∙ ap (λ times. six_counts (map category_byte (reverse c.args.self.now)) times c.args.since.n) c.spread-n.ensures.moments
    ∙ six_counts-bytes (reverse c.args.self.now) c.args.since.n in
    counts_from c.count_cats-six.result (counts_of (window c.args.self.now c.args.since.n)) six
