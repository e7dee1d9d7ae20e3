use Rattle.std.specs.Prelude.{ℕ, List}
use Rattle.ata_script.specs.declared.port_head.PortHead.{PortHead}
use Rattle.ata_trace.specs.Entries.{EntryView}

-- a port: its number, its head, the entries of its journal, and for how many more steps it has room
pub record PortView : Type 0 where
  pub number : ℕ
  pub head : PortHead
  pub entries : List EntryView
  pub spare : ℕ
