use Rattle.std.proofs.Common.{◌≡◌}
use Rattle.ata_base.specs.declared.regs.Regs.{Regs}

-- registers are the same where each of them is
pub same_regs :
    (a b : Regs) → a.status ≡ b.status → a.error ≡ b.error → a.lba ≡ b.lba → a.device ≡ b.device
    → a.count ≡ b.count → a ≡ b
same_regs a b status error lba device count =
    λ i. record { status = status i; error = error i; lba = lba i; device = device i; count = count i }
