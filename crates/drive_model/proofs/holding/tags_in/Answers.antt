use Rattle.std.proofs.Common.{◌≡◌, ◌∙◌, ◌<◌, false, length, unwrap_or, slice_get, length-set, refl, rules, sym, ap, arith}
use Rattle.std.proofs.lemmas.List.{take_all}
use Rattle.ata_base.specs.Masks.{mask_of}
use Rattle.ata_base.proofs.MaskLemmas.{bit_of_mask_else}
use Rattle.drive_model.specs.Holding.{has_tag}
use Rattle.drive_model.proofs.HeldTags.{tags_more, none_held, at_or_false}
use Rattle.drive_model.proofs.holding.tags_in.Goals as goal

pub loop-h-init : goal.loop-h-init
loop-h-init c = (refl, λ t. none_held 32 t)

pub loop-h-preserved : goal.loop-h-preserved
loop-h-preserved c =
    let within : c.loop-h.h-index < length c.args.list.now = omega (arith, c.loop-h-test.true) in
    let small : c.h-item.result.tag < length c.loop-h.held = omega (arith, c.get.ensures.value, c.get.ensures.range, c.loop-h.invariant.0) in (
      simp length-set c.loop-h.invariant.0,
      λ t. rw c.get.ensures.value (tags_more c.loop-h.held t c.args.list.now c.loop-h.h-index c.h-item.result within small (sym c.h-item.is) (c.loop-h.invariant.1 t)),
    )

pub returns : goal.returns
returns c = λ t.
    let value : c.mask_of.result ≡ mask_of (λ b. b) c.loop-h.held = c.mask_of.ensures (λ b. b) (λ tag told says. search rules) in
    let whole : unwrap_or (slice_get c.loop-h.held t) false ≡ has_tag t c.args.list.now =
    at_or_false c.loop-h.held t ∙ c.loop-h.invariant.1 t ∙ ap (has_tag t) (take_all c.loop-h.h-index c.args.list.now (omega arith)) in
    rw whole at (bit_of_mask_else (λ b. b) false c.loop-h.held t c.mask_of.result refl value)
