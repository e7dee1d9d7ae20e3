use Rattle.std.proofs.Common.{◌∙◌, ap, get_or, arith, length-set, option_map}
use Rattle.host_tags.proofs.DrawLemmas.{still_old, one_more, none_at}
use Rattle.host_tags.proofs.slots.Slots.outline.Goals as goal

pub draw-requires : goal.draw-requires
draw-requires c =
    rw c.loop-tag.invariant.2
    (still_old (option_map (λ f. (f.place, f.queued))) c.args.self.now _ c.loop-tag.tag _ (omega (arith, c.loop-tag.invariant.1)) c.loop-tag.invariant.1 ∙ none_at 32 c.loop-tag.tag _ (omega arith))

pub loop-tag-preserved : goal.loop-tag-preserved
loop-tag-preserved c =
    (simp length-set c.loop-tag.invariant.0, c.loop-tag.invariant.1, rw c.draw.ensures (rw c.loop-tag.invariant.2 (one_more (option_map (λ f. (f.place, f.queued))) c.args.self.now _ c.loop-tag.tag _ _ (omega (arith, c.loop-tag.invariant.1)) c.loop-tag.invariant.1 (ap (λ xs. get_or xs c.loop-tag.tag c.index-self-tag.result) c.self.view_is))))
