-- The NCQ Command Error log page of a failed queued command (ACS-3, NCQ Command Error log, log address 10h).
use Rattle.std.specs.Prelude.{ℕ, ◌/◌, ◌%◌, ◌^◌, List, [], ◌∷◌, ◌++◌, replicate}
use Rattle.byteorder.specs.Endian.{little_bytes}
use Rattle.ata_base.specs.declared.regs.Regs.{Regs}
use Rattle.ata_lanes.specs.Sum.{sealed}

-- bytes 0 to 13: the tag and the registers, each number with its low byte first
abbrev pub head_bytes : ℕ → Regs → List ℕ
head_bytes tag r =
    tag ∷ 0 ∷ []  -- 0, the tag, with NQ (bit 7) clear; 1, reserved
    ++ r.status ∷ r.error ∷ []  -- 2, status; 3, error
    ++ little_bytes 3 (r.lba % 2 ^ 24)  -- 4 to 6, LBA 23:0
    ++ r.device ∷ []  -- 7, device
    ++ little_bytes 3 (r.lba / 2 ^ 24)  -- 8 to 10, LBA 47:24
    ++ 0 ∷ []  -- 11, reserved
    ++ little_bytes 2 r.count  -- 12 and 13, count

-- bytes 14 to 510 are 0
unfoldable pub blank_bytes : List ℕ
blank_bytes = replicate 497 0

-- the page of a tag and registers
abbrev pub log_page : ℕ → Regs → List ℕ
log_page tag r = sealed (head_bytes tag r ++ blank_bytes)
