-- What an NCQ Command Error log page says (ACS-3, NCQ Command Error log, log address 10h).
use Rattle.std.specs.Prelude.{ℕ, ◌+◌, ◌*◌, ◌%◌, ◌^◌, ◌==◌, not, nat_le, if◌then◌else◌, List, slice_index, slice_range, Result, Ok, Err}
use Rattle.byteorder.specs.Endian.{little_number}
use Rattle.ata_base.specs.declared.regs.Regs.{Regs}
use Rattle.ata_lanes.specs.Sum.{byte_sum}
use Rattle.ata_log.specs.declared.error.LogError.{LogError}
use Rattle.ata_log.specs.declared.error.LogError.TheVariants.{BadSum, NotQueued}

-- bits 4:0 of byte 0
abbrev pub tag_in : List ℕ → ℕ
tag_in page = slice_index page 0 % 32

-- bytes 4 to 6 are LBA 23:0, bytes 8 to 10 are LBA 47:24
abbrev pub lba_in : List ℕ → ℕ
lba_in page = little_number 3 (slice_range page 4 7) + 2 ^ 24 * little_number 3 (slice_range page 8 11)

-- the registers in a page
abbrev pub regs_in : List ℕ → Regs
regs_in page = record {
  status = slice_index page 2;
  error = slice_index page 3;
  lba = lba_in page;
  device = slice_index page 7;
  count = little_number 2 (slice_range page 12 14);
}

-- what a page is read as: refused by its sum, then by NQ (byte 0 bit 7), which says that no queued command failed,
-- else the tag and the registers in it
abbrev pub reading_of : List ℕ → Result (ℕ × Regs) LogError
reading_of page =
    if not (byte_sum page == 0) then Err BadSum
    else if nat_le 128 (slice_index page 0) then Err NotQueued
    else Ok (tag_in page, regs_in page)
