use Rattle.std.proofs.Common.{ℕ, Bool, ap, ◌∙◌, eqb, arith, bit_and}
use Rattle.std.specs.List.{prefix_len}
use Rattle.ata_lanes.proofs.Lanes.{bits_are, first_of_mask, dubious_bit}
use Rattle.ata_lanes.proofs.counts.dubious_run.Goals as goal

pub returns : goal.returns
returns c =
    let cats = c.args.cats.now in
    let mask = bits_are 4 0 cats c.told-cats in
    c.first_set.ensures ∙ first_of_mask (λ cat. eqb (bit_and cat 4) 0) cats 32 _ c.told-cats (omega arith) mask
    ∙ ap (λ (t : ℕ → Bool). prefix_len t cats) (λ j cat. dubious_bit cat j)
