use Rattle.std.proofs.Common.{◌∙◌, ◌≤◌, min, Some, sym, ap, arith}
use Rattle.host_tags.specs.Slots.{free_below}
use Rattle.host_tags.proofs.MaskLemmas.{lowest_found, none_found}
use Rattle.host_tags.proofs.slots.Slots.free_below.Goals as goal
use Rattle.host_tags.proofs.slots.Slots.free_below.Goals.{else-at-limit-via-then-at-limit+else-at, else-at-limit-via-else-at-limit}

pub returns-then-at : goal.returns-then-at
returns-then-at c =
    ap Some c.at.ensures
    ∙ sym (lowest_found c.self.inside.flights c.self.inside.busy c.args.limit c.trailing_ones-at.result c.self.invariant.each_tag c.self.invariant.of_busy c.trailing_ones-at.ensures c.if-at-limit.true c.if-at.true)
    ∙ ap (free_below c.args.limit) c.self.view_is

pub returns-else-at-limit : goal.returns-else-at-limit
returns-else-at-limit c =
    let past : min c.args.limit 32 ≤ c.trailing_ones-at.result = elim c.else-at-limit.branch [
      | else-at-limit-via-then-at-limit+else-at w ↦ omega (arith, w.if-at)
      | else-at-limit-via-else-at-limit w ↦ omega (arith, w.if-at-limit)
    ] in
    sym (none_found c.self.inside.flights c.self.inside.busy c.args.limit c.trailing_ones-at.result c.self.invariant.each_tag c.self.invariant.of_busy c.trailing_ones-at.ensures past)
    ∙ ap (free_below c.args.limit) c.self.view_is
