use Rattle.std.proofs.Common.{◌≡◌, refl}
use Rattle.ata_base.proofs.MaskLemmas.{bit_of_mask_else}
use Rattle.hba_model.specs.TagView.{never_issued}
use Rattle.hba_model.specs.Tags.{is_active, active_mask}
use Rattle.hba_model.proofs.TagLemmas.{active_is}
use Rattle.hba_model.proofs.hba.Hba.active.Goals as goal

pub returns : goal.returns
returns c =
    let value : c.self.inside.active ≡ active_mask c.args.self.now.tags =
    rw (← c.self.view_is)
    (active_is c.self.inside.places c.self.inside.active c.self.inside.finished c.self.invariant.each_tag c.self.invariant.few_active) in
    record { value = value; bits = λ t. bit_of_mask_else is_active never_issued c.args.self.now.tags t _ refl value }
