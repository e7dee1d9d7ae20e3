-- Masks of lists, and their bits.
use Rattle.std.proofs.Common.{◌≡◌, ◌∙◌, ℕ, ◌+◌, ◌*◌, ◌/◌, ◌%◌, ◌<◌, ◌^◌, Bool, true, false, cond, List, [], ◌∷◌, suc, zero, length, get_or, drop, map, unwrap_or, slice_get, refl, sym, ap, IsTrue, ◌↔◌, IsBitSet, arith, add-one, drop-cons, pow-suc}
use Rattle.std.proofs.Math.Nat.{one-le-pow}
use mir.Val.{bool_byte}
use Rattle.std.proofs.lemmas.Simd.{bit_mask_l}
use Rattle.std.proofs.lemmas.Nat.Bits.{and_pow}
use Rattle.ata_base.specs.Masks.{mask_of, passes_at}

-- the value of a bit says whether it is set
pub bit_says : (m k : ℕ) (b : Bool) → m / 2 ^ k % 2 ≡ cond b 1 0 → IsBitSet m k ↔ IsTrue b
bit_says m k true e =
    (λ _. refl, λ _ none. omega (arith, none, one-le-pow k 2 (omega arith), rw e at (and_pow m k)))
bit_says m k false e = (λ set. absurd (set (omega (arith, rw e at (and_pow m k)))), λ no. absurd (cc))

tested_at : {A : Type 0} (test : A → Bool) (list : List A) (k : ℕ) → get_or (map test list) k false ≡ passes_at test list k
tested_at test [] k = refl
tested_at test (x ∷ xs) zero = refl
tested_at test (x ∷ xs) (suc k) = tested_at test xs k

-- a bit of a mask says whether the element passes the test
pub bit_of_mask :
    {A : Type 0} (test : A → Bool) (list : List A) (k m : ℕ) → m ≡ mask_of test list
    → IsBitSet m k ↔ IsTrue (passes_at test list k)
bit_of_mask test list k m is =
    bit_says m k _ (rw is (bit_mask_l (map test list) k) ∙ ap (λ b. cond b 1 0) (tested_at test list k))

passes_else : {A : Type 0} (test : A → Bool) (none : A) (list : List A) (k : ℕ) → test none ≡ false
    → passes_at test list k ≡ test (unwrap_or (slice_get list k) none)
passes_else test none [] k fails = sym fails
passes_else test none (x ∷ xs) zero fails = refl
passes_else test none (x ∷ xs) (suc k) fails = passes_else test none xs k fails

-- the same, where an element that isn't there is read as one that fails the test
pub bit_of_mask_else :
    {A : Type 0} (test : A → Bool) (none : A) (list : List A) (k m : ℕ) → test none ≡ false → m ≡ mask_of test list
    → IsBitSet m k ↔ IsTrue (test (unwrap_or (slice_get list k) none))
bit_of_mask_else test none list k m fails is =
    rw (sym (passes_else test none list k fails)) (bit_of_mask test list k m is)

added : (m : ℕ) (b : Bool) → 2 * m + bool_byte b ≡ cond b 1 0 + 2 * m
added m true = omega arith
added m false = omega arith

-- the mask of a list that begins one element earlier
pub mask_more :
    {A : Type 0} (test : A → Bool) (list : List A) (start next m : ℕ) (x : A) (b : Bool)
    → start < length list → next ≡ start + 1 → x ≡ get_or list start x → b ≡ test x
    → m ≡ mask_of test (drop next list) → 2 * m + bool_byte b ≡ mask_of test (drop start list)
mask_more test list start next m x b within one here told is =
    let rest : drop start list ≡ x ∷ drop next list =
    drop-cons list start x within ∙ rw (← here, one, add-one start) refl in
    added m b ∙ rw (rest, ← told, ← is) refl

-- there is room for one element more
pub mask_room : (m below : ℕ) (b : Bool) → m < 2 ^ below → 2 * m + bool_byte b < 2 ^ (below + 1)
mask_room m below true small = rw (add-one below) (omega (arith, pow-suc 2 below))
mask_room m below false small = rw (add-one below) (omega (arith, pow-suc 2 below))
