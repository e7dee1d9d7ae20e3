use Rattle.std.proofs.Common.{◌≡◌, ◌∙◌, None, refl, sym, ap}
use Rattle.ata_base.specs.Masks.{mask_of}
use Rattle.ata_base.proofs.MaskLemmas.{bit_of_mask_else}
use Rattle.host_tags.specs.Slots.{has_queued}
use Rattle.host_tags.proofs.slots.Slots.queued.Goals as goal

pub returns : goal.returns
returns c =
    let value : c.self.inside.queued ≡ mask_of has_queued c.args.self.now = sym c.self.invariant.of_queued ∙ ap (mask_of has_queued) c.self.view_is in
    record { value = value; bits = λ tag. bit_of_mask_else has_queued None c.args.self.now tag _ refl value }
