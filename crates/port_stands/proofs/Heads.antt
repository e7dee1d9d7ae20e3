-- A direct port has one place.
use Rattle.std.proofs.Common.{◌≡◌, ℕ, Bool, true, false, ◌==◌, ◌||◌}
use Rattle.std.proofs.lemmas.Bool.{eqb-true}
use Rattle.ata_script.specs.declared.port_head.PortHead.{PortHead}

-- a head of a direct port has one place
pub record HasOnePlace (head : PortHead) : Type 0 where
  pub one_place : head.pmp ≡ false → head.places ≡ 1

is_direct : (pmp : Bool) (places : ℕ) → (pmp || places == 1) ≡ true → pmp ≡ false → places ≡ 1
is_direct true places fits direct = absurd (cc)
is_direct false places fits direct = eqb-true places 1 fits

-- so it is of each head
pub one_place : (head : PortHead) → HasOnePlace head
one_place head = record { one_place = is_direct head.pmp head.places head.direct }
