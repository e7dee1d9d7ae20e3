use Rattle.std.specs.Prelude.{◌≡◌, ℕ, ◌+◌, ◌≤◌, List}
use Rattle.ata_script.specs.declared.port_head.PortHead.{PortHead}
use Rattle.ata_trace.specs.Entries.{EntryView, past_of}
use Rattle.ata_trace.specs.Event.{Event}

-- a ledger: the head of its port, the entries that it has told, for how many more entries there is room, and for how many
-- more acts of the last
pub record LedgerView : Type 0 where
  pub head : PortHead
  pub entries : List EntryView
  pub begins : ℕ
  pub room : ℕ

-- the past that it tells
abbrev pub past : LedgerView → List Event
past ledger = past_of ledger.entries

-- a ledger begins an entry, which has room for 128 acts, and tells this past from then on
pub record Begins (before after : LedgerView) (events : List Event) : Type 0 where
  pub past : past_of after.entries ≡ events
  pub head : after.head ≡ before.head
  pub begins : after.begins + 1 ≡ before.begins
  pub room : after.room ≡ 128

-- a ledger goes on to this past, at the cost of room for so many entries and exactly so many acts
pub record Goes (before after : LedgerView) (entries acts : ℕ) (events : List Event) : Type 0 where
  pub past : past_of after.entries ≡ events
  pub head : after.head ≡ before.head
  pub begins : before.begins ≤ after.begins + entries
  pub room : before.room ≡ after.room + acts
