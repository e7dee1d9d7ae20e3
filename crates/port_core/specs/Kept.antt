use Rattle.std.specs.Prelude.{◌≡◌, ◌<◌}
use Rattle.port_core.specs.declared.machine.Machine.TheInside.{Inside}
use Rattle.port_rules.specs.Legal.{IsLegal}

-- what was told is legal for the head of the port, and a spare is room for a step
pub record IsKept (p : Inside) : Type 0 where
  pub legal : IsLegal p.ledger.head p.ledger.entries
  pub begins : p.spare ≡ 1 → 0 < p.ledger.begins
