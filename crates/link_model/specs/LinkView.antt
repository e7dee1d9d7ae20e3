use Rattle.std.specs.Prelude.{ℕ, ◌≤◌, ◌^◌, Bool, false, Option, None, is_some, if◌then◌else◌}
use Rattle.std.specs.Int.RustNames.{bit_or}
use Rattle.ata_base.specs.Limits.{fastest_generation}
use Rattle.ata_base.specs.SerrorBits.{serror_bit}
use Rattle.ata_base.specs.declared.fault.SerrorBit.TheVariants.{Phy}

-- a link: the drive that is plugged, whether it is linked, the SError register (Serial ATA 3.x, SError
-- register) and the speed limit, as the number of a generation
pub record LinkView : Type 0 where
  pub plugged : Option ℕ
  pub linked : Bool
  pub serror : ℕ
  pub limit : ℕ

-- the link of an empty place: the limit is the highest generation, so it limits nothing
abbrev pub empty_link : LinkView
empty_link = record { plugged = None; linked = false; serror = 0; limit = fastest_generation }

-- a speed limit is one of the generations 1 to 3
abbrev pub IsGeneration : ℕ → Type 0
IsGeneration g = (1 ≤ g) × (g ≤ fastest_generation)

-- the drive that is linked, None where there is none
abbrev pub linked_drive : LinkView → Option ℕ
linked_drive link = if link.linked then link.plugged else None

-- a bit of the SError register is set, and the others stay
abbrev pub with_serror : ℕ → LinkView → LinkView
with_serror bit link = record link { serror = bit_or link.serror (2 ^ bit) }

-- a drive is plugged or unplugged: the link ends, and SError tells that PhyRdy changed
abbrev pub with_plugged : Option ℕ → LinkView → LinkView
with_plugged drive link = with_serror (serror_bit Phy) (record link { plugged = drive; linked = false })

-- a reset links the drive that is plugged
abbrev pub after_reset : LinkView → LinkView
after_reset link = record link { linked = is_some link.plugged }
