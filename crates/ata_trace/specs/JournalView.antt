use Rattle.std.specs.Prelude.{ℕ, List}
use Rattle.ata_trace.specs.Entries.{EntryView}

-- what a journal holds: its entries in order, and for how many more entries and acts it has room
pub record JournalView : Type 0 where
  pub entries : List EntryView
  pub entry_room : ℕ
  pub act_room : ℕ
