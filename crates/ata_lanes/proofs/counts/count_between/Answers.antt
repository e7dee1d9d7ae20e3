use Rattle.std.proofs.Common.{ℕ, ◌-◌, ◌*◌, ◌/◌, ◌%◌, ◌^◌, eqb, Bool, map, ap, ◌∙◌, arith, bit_and}
use Rattle.std.specs.Int.RustNames.{count_ones}
use Rattle.std.proofs.lemmas.Nat.{and_mask}
use lib.Lanes.{mask_l}
use Rattle.ata_lanes.proofs.Lanes.{bits_are, ones_between, shifted_one}
use Rattle.ata_lanes.proofs.counts.count_between.Goals as goal

pub returns : goal.returns
returns c =
    let cats = c.args.cats.now in
    let kind = c.args.kind in
    let from = c.args.from in
    let places = c.args.to - from in
    let is_kind = λ (cat : ℕ). eqb (cat % 4) kind in
    let mask = bits_are 3 kind cats c.told-cats ∙ ap (λ (t : ℕ → Bool). mask_l (map t cats)) (λ j cat. eqb (and_mask cat 2 j) kind) in
    let cut = shifted_one places (omega arith) in
    ap (λ m. count_ones (bit_and (m / 2 ^ from) (1 * 2 ^ places % 2 ^ 64 - 1))) mask
    ∙ ap (λ n. count_ones (bit_and (mask_l (map is_kind cats) / 2 ^ from) n)) cut
    ∙ ones_between is_kind cats from places (omega arith)
