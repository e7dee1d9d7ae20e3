-- When two identities are those of one drive.
use Rattle.std.specs.Prelude.{◌≡◌}
use Rattle.ata_base.specs.declared.identity.Identity.{Identity}

-- model, serial and sectors are equal
pub record IsSameDrive (a b : Identity) : Type 0 where
  pub model : a.model ≡ b.model
  pub serial : a.serial ≡ b.serial
  pub sectors : a.sectors ≡ b.sectors
