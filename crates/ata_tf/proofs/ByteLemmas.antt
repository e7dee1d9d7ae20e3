use Rattle.std.proofs.Common.{◌≡◌, ℕ, ◌<◌, ◌^◌, [], ◌∷◌, w16, w32, w64, arith}
use Rattle.std.specs.Int.{from_le_bytes}
use Rattle.ata_tf.specs.Bytes.{byte_of}

-- two bytes are those of the number that was read from them
pub two_bytes :
    (a b n : ℕ) → a < 256 → b < 256 → n ≡ from_le_bytes w16 (a ∷ b ∷ [])
    → (a ≡ byte_of n 0) × (b ≡ byte_of n 1)
two_bytes a b n ha hb is = (omega arith, omega arith)

-- four bytes are those of the number that was read from them
pub four_bytes :
    (a b c d n : ℕ) → a < 256 → b < 256 → c < 256 → d < 256
    → n ≡ from_le_bytes w32 (a ∷ b ∷ c ∷ d ∷ [])
    → (a ≡ byte_of n 0) × (b ≡ byte_of n 1) × (c ≡ byte_of n 2) × (d ≡ byte_of n 3)
four_bytes a b c d n ha hb hc hd is = (omega arith, omega arith, omega arith, omega arith)

-- six bytes are those of the number that was read from them and two zeros
pub six_bytes :
    (a b c d e f n : ℕ) → a < 256 → b < 256 → c < 256 → d < 256 → e < 256 → f < 256
    → n ≡ from_le_bytes w64 (a ∷ b ∷ c ∷ d ∷ e ∷ f ∷ 0 ∷ 0 ∷ [])
    → (a ≡ byte_of n 0) × (b ≡ byte_of n 1) × (c ≡ byte_of n 2) × (d ≡ byte_of n 3) × (e ≡ byte_of n 4)
    × (f ≡ byte_of n 5)
six_bytes a b c d e f n ha hb hc hd he hf is =
    (omega arith, omega arith, omega arith, omega arith, omega arith, omega arith)

-- two numbers of two bytes are equal where their bytes are
pub same_u16 :
    (n m : ℕ) → n < 2 ^ 16 → m < 2 ^ 16 → byte_of n 0 ≡ byte_of m 0 → byte_of n 1 ≡ byte_of m 1 → n ≡ m
same_u16 n m a b c d = omega arith

-- two numbers of four bytes are equal where their bytes are
pub same_u32 :
    (n m : ℕ) → n < 2 ^ 32 → m < 2 ^ 32 → byte_of n 0 ≡ byte_of m 0 → byte_of n 1 ≡ byte_of m 1
    → byte_of n 2 ≡ byte_of m 2 → byte_of n 3 ≡ byte_of m 3 → n ≡ m
same_u32 n m a b c d e f = omega arith

-- two numbers of six bytes are equal where their bytes are
pub same_u48 :
    (n m : ℕ) → n < 2 ^ 48 → m < 2 ^ 48 → byte_of n 0 ≡ byte_of m 0 → byte_of n 1 ≡ byte_of m 1
    → byte_of n 2 ≡ byte_of m 2 → byte_of n 3 ≡ byte_of m 3 → byte_of n 4 ≡ byte_of m 4
    → byte_of n 5 ≡ byte_of m 5 → n ≡ m
same_u48 n m a b c d e f g h = omega arith
