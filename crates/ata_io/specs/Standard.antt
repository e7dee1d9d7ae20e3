use Rattle.std.specs.Prelude.{ℕ, List, Option}

-- a source over a reader: the bytes still to come, where the reader tells, and the count of faults
pub record StdSourceView : Type 0 where
  pub left : Option (List ℕ)
  pub faults : ℕ

-- a sink over a writer: the bytes handed in, where the writer tells, those of them that the writer
-- has not been given yet, and the count of faults
pub record StdSinkView : Type 0 where
  pub written : Option (List ℕ)
  pub waiting : List ℕ
  pub faults : ℕ
