use Rattle.std.specs.Prelude.{ℕ, List}
use Rattle.ata_trace.specs.Entries.{EntryView}

-- all entries of a port, the last of them open, and for how many more acts that one has room
pub record OpenView : Type 0 where
  pub entries : List EntryView
  pub room : ℕ
