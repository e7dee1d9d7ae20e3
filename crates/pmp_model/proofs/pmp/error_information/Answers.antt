use Rattle.std.proofs.Common.{rules}
use Rattle.ata_base.proofs.MaskLemmas.{bit_of_mask}
use Rattle.pmp_model.specs.Gscr.{has_error}
use Rattle.pmp_model.proofs.pmp.error_information.Goals as goal

pub returns-clause-bits : goal.returns-clause-bits
returns-clause-bits c =
    λ i. bit_of_mask has_error c.args.links.now i _ (c.mask_of.ensures has_error (λ link told says. search rules))
