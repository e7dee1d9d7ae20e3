use Rattle.std.proofs.Common.{◌≡◌, ◌∙◌, map, refl, arith, rules, length-set}
use Rattle.std.proofs.lemmas.List.{length-map}
use Rattle.hba_model.specs.Bits.{bits_of}
use Rattle.hba_model.specs.Tags.{is_issued_at}
use Rattle.hba_model.proofs.BitLemmas.{bits_of_mask}
use Rattle.hba_model.proofs.TagLemmas.{tags_less, apart_less}
use Rattle.hba_model.proofs.hba.Hba.clear_place.Goals as goal

pub invariant_of-self : goal.invariant_of-self
invariant_of-self c = record {
  each_tag = c.self.invariant.each_tag;
  each_place = simp length-set c.self.invariant.each_place;
  few_active = omega arith;
  few_finished = omega arith;
  few_failed = omega (arith, c.without_bit-self-inside.ensures.room, c.self.invariant.few_failed);
  apart = rw (c.without_bits-self-inside.ensures, c.without_bits-self-inside-2.ensures) (apart_less _ _ _ c.self.invariant.apart);
}

pub returns : goal.returns
returns c =
    let places = c.self.inside.places in
    let issued_there : bits_of 32 c.mask_of-issued_there.result ≡ map (is_issued_at c.args.place) places =
    bits_of_mask (map (is_issued_at c.args.place) places) 32 c.mask_of-issued_there.result
    (length-map places (is_issued_at c.args.place) ∙ c.self.invariant.each_tag)
    (c.mask_of-issued_there.ensures (is_issued_at c.args.place) (λ last told says. search rules)) in
    rw (
      ← c.self.view_is,
      c.without_bits-self-inside.ensures,
      c.without_bits-self-inside-2.ensures,
      issued_there,
      c.without_bit-self-inside.ensures.bits 15 (omega arith) (omega arith),
      c.get.ensures.value,
      c.get-2.ensures.value,
      tags_less,
    ) refl
