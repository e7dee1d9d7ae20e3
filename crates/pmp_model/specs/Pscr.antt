use Rattle.std.specs.Prelude.{ℕ, ◌*◌, ◌^◌, ◌==◌, Option, None, Some, if◌then◌else◌}
use Rattle.link_model.specs.LinkView.{LinkView}
use Rattle.link_model.specs.SStatus.{sstatus}

-- The registers of a device port of a port multiplier (Serial ATA 3.x, Port Multiplier, Port Status and
-- Control Registers).

-- the SControl register of a link (Serial ATA 3.x, SControl register): SPD in bits 7:4 is the speed limit
abbrev pub scontrol : LinkView → ℕ
scontrol link = 2 ^ 4 * link.limit

-- a port's register by its number, None where there is none of that number: 0 is SStatus, 1 SError and
-- 2 SControl
abbrev pub pscr : LinkView → ℕ → ℕ → Option ℕ
pscr link generation reg =
    if reg == 0 then Some (sstatus link generation)
    else if reg == 1 then Some link.serror
    else if reg == 2 then Some (scontrol link)
    else None
