use Rattle.std.specs.Prelude.{◌≡◌, ◌<◌, ◌≤◌}
use Rattle.port_core.specs.declared.port.Port.TheInside.{Inside}

-- the journal has what the machine has told, and a spare is room in it too
pub record IsJournaled (p : Inside) : Type 0 where
  pub same : p.journal.entries ≡ p.machine.entries
  pub entry_room : p.machine.spare ≡ 1 → 0 < p.journal.entry_room
  pub act_room : p.machine.spare ≡ 1 → 128 ≤ p.journal.act_room
