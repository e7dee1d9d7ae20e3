use Rattle.std.proofs.Common.{arith}
use Rattle.ata_trace.proofs.NumberLemmas.{first_alone, first_cut}
use Rattle.ata_trace.proofs.parts.Parts.longer_number.Goals as goal

pub returns-then-at-text : goal.returns-then-at-text
returns-then-at-text g c =
    (c.in-Some-leading_number.ensures.within.0, rw (← c.self.view_is, c.in-Some.is) (first_alone _ _ c.in-Some-leading_number.found.1 _ c.requires c.in-Some-leading_number.ensures.within.0 c.if-at-text.true c.in-Some-leading_number.ensures.value))

pub overflow_add-self : goal.overflow_add-self
overflow_add-self g c = omega (arith, c.in-Some-leading_number.ensures.within.1, c.in-Some-leading_number.ensures.within.2, c.if-at-text.false)

pub returns : goal.returns
returns g c =
    (c.in-Some-leading_number.ensures.within.0, rw (← c.self.view_is, c.in-Some.is) (first_cut _ _ c.in-Some-leading_number.found.1 _ c.requires c.in-Some-leading_number.ensures.within.0 (omega (arith, c.in-Some-leading_number.ensures.within.1, c.if-at-text.false)) c.if-text-at.false c.in-Some-leading_number.ensures.value))
