use Rattle.std.proofs.Common.{◌≡◌, ◌∙◌, false, refl, sym, ap}
use Rattle.std.specs.Simd.Lanes.{mask_l}
use Rattle.std.proofs.lemmas.List.{map-id}
use Rattle.ata_base.proofs.MaskLemmas.{bit_of_mask_else}
use Rattle.hba_model.proofs.BitLemmas.{mask_of_bits}
use Rattle.hba_model.proofs.hba.Hba.causes.Goals as goal

pub returns-clause-value : goal.returns-clause-value
returns-clause-value c =
    rw (← c.self.view_is, mask_of_bits 15 c.self.inside.tferr c.self.invariant.few_failed) refl

pub returns-clause-places : goal.returns-clause-places
returns-clause-places c =
    let is : c.self.inside.tferr ≡ mask_l c.args.self.now.tferr =
    rw (← c.self.view_is) (sym (mask_of_bits 15 c.self.inside.tferr c.self.invariant.few_failed)) in
    λ p. bit_of_mask_else (λ b. b) false c.args.self.now.tferr p _ refl (is ∙ ap mask_l (sym (map-id c.args.self.now.tferr)))
