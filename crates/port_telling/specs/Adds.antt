use Rattle.std.specs.Prelude.{◌≡◌, ◌+◌, List, length}
use Rattle.ata_trace.specs.Entries.{past_of}
use Rattle.ata_trace.specs.Event.{onto}
use Rattle.ata_trace.specs.declared.act.Act.{Act}
use Rattle.port_ledger.specs.LedgerView.{LedgerView}

-- a ledger tells these acts, each at the cost of room for one
pub record Adds (before after : LedgerView) (acts : List Act) : Type 0 where
  pub past : past_of after.entries ≡ onto (past_of before.entries) acts
  pub head : after.head ≡ before.head
  pub room : before.room ≡ after.room + length acts
