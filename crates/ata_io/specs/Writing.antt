use Rattle.std.specs.Prelude.{ℕ, ◌≤◌, List, Option, Result, length, take, OnOk, OnErr}
use Rattle.std.specs.Io.KnownBytes.{Appends}
use Rattle.ata_io.specs.Faults.{HasCause}

-- a sink took the first bytes of a text
abbrev pub WritesPart : Option (List ℕ) → Option (List ℕ) → List ℕ → Type 0
WritesPart before after text = (n : ℕ) × (n ≤ length text) × Appends before after (take n text)

-- a call that is to write a text: where it succeeded, the sink took the text and counted no fault;
-- where it failed, the sink took the first bytes of it and counted one. The sink's bytes and faults
-- are told by these two functions of it
pub record Writes {K T E : Type 0} (written : K → Option (List ℕ)) (faults : K → ℕ) (before after : K) (result : Result T E) (text : List ℕ) : Type 0 where
  pub ok : OnOk result (Appends (written before) (written after) text)
  pub part : OnErr result (WritesPart (written before) (written after) text)
  pub cause : HasCause (faults before) (faults after) result
