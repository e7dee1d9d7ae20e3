-- What an IDENTIFY DEVICE page says (ACS-3, IDENTIFY DEVICE data).
use Rattle.std.specs.Prelude.{ℕ, ◌+◌, ◌*◌, ◌%◌, ◌^◌, ◌==◌, ◌&&◌, not, Bool, if◌then◌else◌, List, drop, slice_index, slice_range, Result, Ok, Err}
use Rattle.std.specs.Int.RustNames.{bit_and}
use Rattle.byteorder.specs.Endian.{little_number}
use Rattle.ata_base.specs.declared.identity.Identity.{Identity}
use Rattle.ata_lanes.specs.Sum.{byte_sum}
use Rattle.ata_ident.specs.declared.error.IdentError.{IdentError}
use Rattle.ata_ident.specs.declared.error.IdentError.TheVariants.{BadSum, NoLba48, NoSectors}
use Rattle.ata_ident.specs.Text.{text_in}

-- word k of a page: two bytes, the low one first
abbrev pub word_at : List ℕ → ℕ → ℕ
word_at page k = little_number 2 (drop (2 * k) page)

-- whether a bit of a word is set
abbrev pub has_bit : ℕ → ℕ → Bool
has_bit word k = not (bit_and word (2 ^ k) == 0)

-- words 100 to 103, the low word first: the number of sectors
abbrev pub sectors_in : List ℕ → ℕ
sectors_in page = little_number 8 (slice_range page 200 208)

-- words 75 and 76: the depth of the queue, 0 without NCQ (word 76 bit 8)
abbrev pub depth_in : List ℕ → ℕ
depth_in page = if has_bit (word_at page 76) 8 then word_at page 75 % 32 + 1 else 0

-- word 76: the greatest generation that is set, 1 where none is
abbrev pub generation_in : List ℕ → ℕ
generation_in page = if has_bit (word_at page 76) 3 then 3 else if has_bit (word_at page 76) 2 then 2 else 1

-- the identity in a page
abbrev pub identity_in : List ℕ → Identity
identity_in page = record {
  model = text_in (slice_range page 54 94);
  serial = text_in (slice_range page 20 40);
  firmware = text_in (slice_range page 46 54);
  sectors = sectors_in page;
  depth = depth_in page;
  gen_no = generation_in page;
  udma = word_at page 88 % 128;
}

-- whether a page has the low byte A5h of word 255, and a sum that isn't 0
abbrev pub has_bad_sum : List ℕ → Bool
has_bad_sum page = slice_index page 510 == 165 && not (byte_sum page == 0)

-- what a page is read as: the first refusal that fits, else the identity in it
unfoldable pub reading_of : List ℕ → Result Identity IdentError
reading_of page =
    if has_bad_sum page then Err BadSum
    else if not (has_bit (word_at page 83) 10) then Err NoLba48
    else if sectors_in page == 0 then Err NoSectors
    else Ok (identity_in page)
