use Rattle.std.proofs.Common.{arith, ◌∙◌}
use Rattle.host_tags.proofs.MaskLemmas.{bit_set, bit_cleared}
use Rattle.host_tags.proofs.slots.with_bit.Goals as goal

pub returns-then-passes : goal.returns-then-passes
returns-then-passes c =
    rw c.get.ensures.value (λ test slots slot long is told. bit_set test slots slot c.args.tag c.args.mask (omega (arith, c.get.ensures.value, c.get.ensures.range)) long is (told ∙ c.if-passes.true))

pub returns-else-passes : goal.returns-else-passes
returns-else-passes c =
    rw c.get.ensures.value (λ test slots slot long is told. bit_cleared test slots slot c.args.tag c.args.mask (omega (arith, c.get.ensures.value, c.get.ensures.range)) long is (told ∙ c.if-passes.false))
