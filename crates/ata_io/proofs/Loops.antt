use Rattle.std.specs.Prelude.{◌≡◌, ℕ, ◌+◌, ◌-◌, ◌≤◌, List, length, take, drop, Option}
use Rattle.std.specs.Io.KnownBytes.{Appends, Consumes}
use Rattle.std.proofs.KnownBytes.{Appends-trans}
use Rattle.std.proofs.Common.{take-add}
use Rattle.std.proofs.lemmas.List.{take_rest}

-- so many bytes were read so far, and the count of faults stayed
pub record ReadSome (before after : Option (List ℕ)) (count now_count : ℕ) (bytes : List ℕ) (limit : ℕ) : Type 0 where
  pub within : length bytes ≤ limit
  pub consumes : Consumes before after bytes
  pub kept : now_count ≡ count

-- the first bytes of the piece were written so far, and the count of faults stayed
pub record WroteSome (before after : Option (List ℕ)) (count now_count : ℕ) (piece : List ℕ) (at : ℕ) : Type 0 where
  pub within : at ≤ length piece
  pub appends : Appends before after (take at piece)
  pub kept : now_count ≡ count

-- the first bytes were written, and then the first ones of the rest
pub wrote_more : (a b c : Option (List ℕ)) (piece : List ℕ) (at n : ℕ)
    → Appends a b (take at piece) → Appends b c (take n (take (length piece - at) (drop at piece)))
    → Appends a c (take (at + n) piece)
wrote_more a b c piece at n p q = rw (take-add at n piece) (Appends-trans a b c _ _ p (rw take_rest at q))
