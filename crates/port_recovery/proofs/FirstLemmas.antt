-- The first of the places for which something holds.
use Rattle.std.proofs.Common.{◌≡◌, ◌∙◌, ℕ, ◌+◌, ◌-◌, ◌<◌, Bool, true, false, suc, Some, refl, ap, arith}
use Rattle.std.specs.Prelude.{find}
use Rattle.std.specs.List.{range_with_len}

-- the places from one on are that one and those from the next on
one_first :
    (at places : ℕ) → at < places → range_with_len at (places - at) ≡ range_with_len at (suc (places - (at + 1)))
one_first at places within =
    let one : places - at ≡ suc (places - (at + 1)) = omega arith in
    ap (range_with_len at) one

-- it holds for this one
pub found_here :
    (test : ℕ → Bool) (at places : ℕ) → at < places → test at ≡ true
    → find test (range_with_len at (places - at)) ≡ Some at
found_here test at places within holds = ap (find test) (one_first at places within) ∙ rw holds refl

-- it doesn't
pub found_later :
    (test : ℕ → Bool) (at places : ℕ) → at < places → test at ≡ false
    → find test (range_with_len at (places - at)) ≡ find test (range_with_len (at + 1) (places - (at + 1)))
found_later test at places within fails = ap (find test) (one_first at places within) ∙ rw fails refl
