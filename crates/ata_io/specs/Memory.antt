use Rattle.std.specs.Prelude.{ℕ, List, Contains}
use Rattle.ata_io.specs.Faults.{one_more}

-- a source in memory: the bytes still to come, the most that a call gives, the number of calls so
-- far, the numbers of the calls that fail, and the count of faults
pub record MemSourceView : Type 0 where
  pub left : List ℕ
  pub most : ℕ
  pub calls : ℕ
  pub fails : List ℕ
  pub faults : ℕ

-- a sink in memory: the bytes written, the room for more, the number of calls so far, the numbers
-- of the calls that fail, and the count of faults
pub record MemSinkView : Type 0 where
  pub written : List ℕ
  pub room : ℕ
  pub calls : ℕ
  pub fails : List ℕ
  pub faults : ℕ

-- the call that comes after so many calls is one of those that fail
abbrev pub IsFailing : List ℕ → ℕ → Type 0
IsFailing fails calls = Contains fails (one_more calls)
