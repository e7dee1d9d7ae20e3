-- The sum that the pages are checked by, and the byte that makes it 0.
use Rattle.std.specs.Prelude.{ℕ, ◌-◌, ◌%◌, List, [], ◌∷◌, ◌++◌, sum}

-- the sum of all bytes modulo 256
abbrev pub byte_sum : List ℕ → ℕ
byte_sum bytes = sum bytes % 256

-- the bytes with the one behind them that makes the sum of all 0 modulo 256
abbrev pub sealed : List ℕ → List ℕ
sealed bytes = bytes ++ (256 - byte_sum bytes) % 256 ∷ []
