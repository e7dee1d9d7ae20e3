-- The last entry, as settling looks at it.
use Rattle.std.specs.Prelude.{Bool, List}
use Rattle.std.specs.List.{list_all}
use Rattle.ata_trace.specs.Entries.{EntryView}
use Rattle.ata_trace.specs.OpenEntries.{last_acts}
use Rattle.port_rules.specs.Settle.{is_idle_act}

-- whether the last entry has only acts of an idle round
abbrev pub is_idle_last : List EntryView → Bool
is_idle_last entries = list_all is_idle_act (last_acts entries)
