-- The IDENTIFY DEVICE page of an identity (ACS-3, IDENTIFY DEVICE data): 256 words of two bytes, the low one first.
use Rattle.std.specs.Prelude.{ℕ, ◌+◌, ◌-◌, ◌*◌, ◌^◌, ◌%◌, ◌<◌, ◌≤◌, ◌==◌, if◌then◌else◌, List, [], ◌∷◌, ◌++◌, replicate, IsTrue}
use Rattle.byteorder.specs.Endian.{little_bytes}
use Rattle.ata_base.specs.declared.identity.Identity.{Identity}
use Rattle.ata_lanes.specs.Sum.{sealed}
use Rattle.ata_ident.specs.Text.{is_plain, text_bytes}

-- a page can hold this identity
pub record FitsPage (i : Identity) : Type 0 where
  pub model : IsTrue (is_plain i.model)
  pub serial : IsTrue (is_plain i.serial)
  pub firmware : IsTrue (is_plain i.firmware)
  pub sectors : (0 < i.sectors) × (i.sectors < 2 ^ 48)
  pub depth : i.depth ≤ 32
  pub generation : (1 ≤ i.gen_no) × (i.gen_no ≤ 3)
  pub modes : i.udma < 128

-- so many words that are 0
unfoldable pub blank_words : ℕ → List ℕ
blank_words n = replicate (2 * n) 0

-- word 76, Serial ATA capabilities: bit 8 where there is a queue, and bits 1, 2, 3 for every generation up to
-- the drive's
abbrev pub capabilities : ℕ → ℕ → ℕ
capabilities depth gen_no = (if depth == 0 then 0 else 256) + (2 ^ (gen_no + 1) - 2)

-- words 0 to 46
abbrev pub texts_part : Identity → List ℕ
texts_part i =
    blank_words 10  -- 0 to 9
    ++ text_bytes 20 i.serial  -- 10 to 19, serial number
    ++ blank_words 3  -- 20 to 22
    ++ text_bytes 8 i.firmware  -- 23 to 26, firmware revision
    ++ text_bytes 40 i.model  -- 27 to 46, model number

-- words 47 to 254
abbrev pub numbers_part : Identity → List ℕ
numbers_part i =
    blank_words 28  -- 47 to 74
    ++ little_bytes 2 (i.depth - 1)  -- 75, queue depth minus 1
    ++ little_bytes 2 (capabilities i.depth i.gen_no)  -- 76, Serial ATA capabilities
    ++ blank_words 6  -- 77 to 82
    ++ little_bytes 2 17408  -- 83, 4400h: 48-bit addressing
    ++ blank_words 4  -- 84 to 87
    ++ little_bytes 2 i.udma  -- 88, Ultra DMA modes
    ++ blank_words 11  -- 89 to 99
    ++ little_bytes 8 i.sectors  -- 100 to 103, number of sectors
    ++ blank_words 151  -- 104 to 254

-- the words with the integrity word behind them (word 255): A5h, and the byte that makes the sum of all 0 modulo 256
abbrev pub with_integrity : List ℕ → List ℕ
with_integrity words = sealed (words ++ 165 ∷ [])

-- the page of an identity
unfoldable pub identity_page : Identity → List ℕ
identity_page i = with_integrity (texts_part i ++ numbers_part i)
