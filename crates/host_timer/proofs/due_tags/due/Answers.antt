use Rattle.std.proofs.Common.{◌≡◌, ◌∙◌, ap, None, refl, rules}
use Rattle.ata_base.specs.Masks.{mask_of}
use Rattle.ata_base.proofs.MaskLemmas.{bit_of_mask_else}
use Rattle.host_timer.specs.Due.{has_due}
use Rattle.host_timer.proofs.due_tags.due.Goals as goal

pub returns-clause-bits : goal.returns-clause-bits
returns-clause-bits c =
    let test = has_due c.args.now.n c.args.drained in
    let value : c.mask_of.result ≡ mask_of test c.args.slots.now =
    c.mask_of.ensures test (λ slot told says. search rules) ∙ ap (mask_of test) c.flights.ensures.flights in
    λ tag. bit_of_mask_else test None c.args.slots.now tag _ refl value
