use Rattle.std.proofs.Common.{◌+◌, ◌*◌, ◌<◌, length, arith, sym, ◌∙◌}
use Rattle.ata_ident.proofs.Pairs.{pair_turned, pairs_turned}
use Rattle.ata_ident.proofs.text.swap_pairs.Goals as goal

pub loop-pair-preserved : goal.loop-pair-preserved
loop-pair-preserved c =
    let inside : 2 * c.loop-pair.pair + 1 < length c.loop-pair.bytes = omega arith in
    rw c.swap.ensures.after (pair_turned c.loop-pair.bytes c.loop-pair.pair inside ∙ c.loop-pair.invariant)

pub returns : goal.returns
returns c = sym (pairs_turned c.loop-pair.bytes (2 * c.loop-pair.pair) (omega arith) (omega arith)) ∙ c.loop-pair.invariant
