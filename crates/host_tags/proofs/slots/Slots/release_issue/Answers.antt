use Rattle.std.proofs.Common.{◌∙◌, ◌<◌, None, length, arith, length-set}
use Rattle.std.proofs.lemmas.List.{get_or_default}
use Rattle.std.proofs.lemmas.List.Edits.{map_over_more}
use Rattle.std.proofs.lemmas.Option.{unwrap_or-slice_get}
use Rattle.host_tags.specs.Numbers.{left}
use Rattle.host_tags.specs.Slots.{flight_at}
use Rattle.host_tags.proofs.slots.Slots.release_issue.Goals as goal

pub loop-tag-preserved : goal.loop-tag-preserved
loop-tag-preserved c =
    let within : c.loop-tag.tag < length c.args.self.now = omega (arith, c.loop-tag.invariant.0) in
    let still : c.loop-tag.tag < length c.loop-tag.self = omega (arith, c.loop-tag.invariant.1) in (
      c.loop-tag.invariant.0,
      rw c.leave.ensures.slots (simp length-set c.loop-tag.invariant.1),
      rw c.leave.ensures.slots (rw c.at.ensures (map_over_more (left c.args.number.n) c.args.self.now c.loop-tag.self c.loop-tag.tag (flight_at c.loop-tag.self c.loop-tag.tag) within c.loop-tag.invariant.2 (unwrap_or-slice_get c.loop-tag.self c.loop-tag.tag None ∙ get_or_default c.loop-tag.self c.loop-tag.tag None (flight_at c.loop-tag.self c.loop-tag.tag) still))),
    )
