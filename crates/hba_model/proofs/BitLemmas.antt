-- The bits of a mask, as a list.
use Rattle.std.proofs.Common.{◌≡◌, ◌∙◌, ℕ, suc, zero, ◌+◌, ◌*◌, ◌-◌, ◌%◌, ◌<◌, ◌≤◌, ◌^◌, min, nat_eq, Bool, true, false, cond, not, ◌&&◌, List, [], ◌∷◌, length, get_or, set, replicate, refl, sym, ap, arith, bit_and, bit_or, inl, inr, pow-suc, add-one}
use Rattle.std.specs.Int.{bit_at, bit_not, w32}
use Rattle.std.specs.Simd.Lanes.{mask_l}
use Rattle.std.proofs.Math.Nat.{pow-le-pow_right, one-le-pow}
use Rattle.std.proofs.lemmas.Bool.{cases_eq}
use Rattle.std.proofs.lemmas.List.{get_or-set_same, get_or-set_other, length-set, length-replicate, get_or-replicate}
use Rattle.std.proofs.lemmas.List.FromFn.{length-map-range_with_len, get_or-map-range_with_len, fill_by_all}
use Rattle.std.proofs.lemmas.Nat.{or_lt}
use Rattle.std.proofs.lemmas.Nat.Bits.{bit_at-zero, bit_at-lt, bit_at_and, bit_at_not, bit_at_set_same, bit_at_set_other, bit_at_clear_same, bit_at_clear_other, same_from_bits_below}
use Rattle.std.proofs.lemmas.Simd.{mask_l-lt, bit_mask_l}
use Rattle.hba_model.specs.Bits.{has_bit, bits_of, bits_less}

-- so many bits are so many
pub length_bits_of : (count m : ℕ) → length (bits_of count m) ≡ count
unfolding bits_of
length_bits_of count m = length-map-range_with_len (has_bit m) 0 count

get_or_bits_of : (count m k : ℕ) → k < count → get_or (bits_of count m) k false ≡ has_bit m k
unfolding bits_of
get_or_bits_of count m k within = get_or-map-range_with_len (has_bit m) 0 count k k false within (omega arith)

-- a list of which each element is the bit of a mask
bits_by :
    (bits : List Bool) (count m : ℕ) → length bits ≡ count
    → ((k : ℕ) → k < count → get_or bits k false ≡ has_bit m k) → bits ≡ bits_of count m
unfolding bits_of
bits_by bits count m long each = fill_by_all (has_bit m) bits count false long each

-- 0 has no bits
pub bits_none : (count : ℕ) → bits_of count 0 ≡ replicate count false
bits_none count =
    sym (bits_by (replicate count false) count 0 (length-replicate count false)
    (λ k below. get_or-replicate count k false false below ∙ sym (ap (λ v. nat_eq v 1) (bit_at-zero k))))

-- ---- one bit more or less

bits_put :
    (count m w at : ℕ) (b : Bool) → at < count → has_bit w at ≡ b
    → ((k : ℕ) → k < count → (k ≡ at → ⊥) → bit_at w k ≡ bit_at m k)
    → bits_of count w ≡ set (bits_of count m) at b
bits_put count m w at b within same other =
    sym (bits_by (set (bits_of count m) at b) count w (length-set (bits_of count m) at b ∙ length_bits_of count m)
    (λ k below. elim (cases_eq k at) [
      | inl is ↦ rw is (get_or-set_same (bits_of count m) at b false (rw (length_bits_of count m) within) ∙ sym same)
      | inr differs ↦
          get_or-set_other (bits_of count m) at k b false differs
          ∙ get_or_bits_of count m k below
          ∙ ap (λ v. nat_eq v 1) (sym (other k below differs))
    ]))

pub bits_set :
    (count m at : ℕ) → at < count → count ≤ 32
    → bits_of count (bit_or m (1 * 2 ^ at % 2 ^ 32)) ≡ set (bits_of count m) at true
bits_set count m at within few =
    let small : at < 32 = omega arith in
    bits_put count m _ at true within (ap (λ v. nat_eq v 1) (bit_at_set_same w32 m at small))
    (λ k low differs. bit_at_set_other w32 m at small k differs)

pub bits_clear :
    (count m at : ℕ) → at < count → count ≤ 32
    → bits_of count (bit_and m (bit_not w32 (1 * 2 ^ at % 2 ^ 32))) ≡ set (bits_of count m) at false
bits_clear count m at within few =
    let small : at < 32 = omega arith in
    bits_put count m _ at false within (ap (λ v. nat_eq v 1) (bit_at_clear_same w32 m at small))
    (λ k low differs. bit_at_clear_other w32 m at small k (omega arith) differs)

-- a bit that is set leaves the room
pub room_set : (count m at : ℕ) → at < count → at < 32 → m < 2 ^ count → bit_or m (1 * 2 ^ at % 2 ^ 32) < 2 ^ count
room_set count m at within small room =
    let more : 2 ^ (at + 1) ≤ 2 ^ count = pow-le-pow_right {n = 2} (omega arith) {i = at + 1} {j = count} (omega arith) in
    let some : 1 ≤ 2 ^ at = one-le-pow at 2 (omega arith) in
    let twice : 2 ^ (at + 1) ≡ 2 ^ at * 2 = rw (add-one at) (pow-suc 2 at) in
    let below : 1 * 2 ^ at % 2 ^ 32 ≤ 2 ^ at = omega arith in
    or_lt count m _ room (omega arith)

-- ---- all bits of another mask less

length_less : (xs ys : List Bool) (n : ℕ) → length xs ≡ n → length ys ≡ n → length (bits_less xs ys) ≡ n
length_less [] ys n a b = a
length_less (x ∷ xs) [] n a b = absurd (omega (arith, a, b))
length_less (x ∷ xs) (y ∷ ys) zero a b = absurd (omega (arith, a))
length_less (x ∷ xs) (y ∷ ys) (suc n) a b = ap suc (length_less xs ys n (omega (arith, a)) (omega (arith, b)))

less_at :
    (xs ys : List Bool) (n k : ℕ) → length xs ≡ n → length ys ≡ n → k < n
    → get_or (bits_less xs ys) k false ≡ (get_or xs k false && not (get_or ys k false))
less_at [] ys n k a b within = refl
less_at (x ∷ xs) [] n k a b within = absurd (omega (arith, a, b))
less_at (x ∷ xs) (y ∷ ys) zero k a b within = absurd (omega (arith, a))
less_at (x ∷ xs) (y ∷ ys) (suc n) zero a b within = refl
less_at (x ∷ xs) (y ∷ ys) (suc n) (suc k) a b within = less_at xs ys n k (omega (arith, a)) (omega (arith, b)) (omega arith)

bit_less : (a b : ℕ) → a < 2 → b < 2 → nat_eq (min a (1 - b)) 1 ≡ (nat_eq a 1 && not (nat_eq b 1))
bit_less zero b small few = let none : min zero (1 - b) ≡ zero = omega arith in rw none refl
bit_less (suc zero) zero small few = refl
bit_less (suc zero) (suc zero) small few = refl
bit_less (suc zero) (suc (suc b)) small few = absurd (omega arith)
bit_less (suc (suc a)) b small few = absurd (omega arith)

pub bits_without :
    (m others : ℕ) → others < 2 ^ 32
    → bits_of 32 (bit_and m (bit_not w32 others)) ≡ bits_less (bits_of 32 m) (bits_of 32 others)
bits_without m others fits =
    let xs = bits_of 32 m in
    let ys = bits_of 32 others in
    let long = length_bits_of 32 m in
    let as_long = length_bits_of 32 others in
    sym (bits_by (bits_less xs ys) 32 (bit_and m (bit_not w32 others)) (length_less xs ys 32 long as_long)
    (λ k below.
    less_at xs ys 32 k long as_long below
    ∙ ap (λ b. b && not (get_or ys k false)) (get_or_bits_of 32 m k below)
    ∙ ap (λ b. has_bit m k && not b) (get_or_bits_of 32 others k below)
    ∙ sym (bit_less (bit_at m k) (bit_at others k) (bit_at-lt m k) (bit_at-lt others k))
    ∙ ap (λ v. nat_eq (min (bit_at m k) v) 1) (sym (bit_at_not w32 others k fits below))
    ∙ ap (λ v. nat_eq v 1) (sym (bit_at_and m (bit_not w32 others) k))))

-- ---- a mask and its bits

bit_back : (v : ℕ) → v < 2 → cond (nat_eq v 1) 1 0 ≡ v
bit_back zero small = refl
bit_back (suc zero) small = refl
bit_back (suc (suc v)) small = absurd (omega arith)

-- the mask of the bits of a number is that number
pub mask_of_bits : (count m : ℕ) → m < 2 ^ count → mask_l (bits_of count m) ≡ m
mask_of_bits count m room =
    let long = length_bits_of count m in
    same_from_bits_below count (mask_l (bits_of count m)) m (rw long at (mask_l-lt (bits_of count m))) room
    (λ k below.
    bit_mask_l (bits_of count m) k
    ∙ ap (λ b. cond b 1 0) (get_or_bits_of count m k below)
    ∙ bit_back (bit_at m k) (bit_at-lt m k))

bit_said : (b : Bool) → nat_eq (cond b 1 0) 1 ≡ b
bit_said true = refl
bit_said false = refl

-- the bits of the mask of a list are that list
pub bits_of_mask : (bits : List Bool) (count m : ℕ) → length bits ≡ count → m ≡ mask_l bits → bits_of count m ≡ bits
bits_of_mask bits count m long is =
    rw is (sym (bits_by bits count (mask_l bits) long
    (λ k below. sym (ap (λ v. nat_eq v 1) (bit_mask_l bits k) ∙ bit_said (get_or bits k false)))))
