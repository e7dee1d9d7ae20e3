use Rattle.std.specs.Prelude.{◌≡◌, ◌≢◌, ℕ, ◌+◌, ◌/◌, ◌<◌, ◌^◌, ◌⊎◌, List, [], ◌∷◌, slice_index}
use Rattle.std.specs.Int.RustNames.{bit_and}
use Rattle.ata_tf.specs.Bytes.{byte_of}

-- the frame of finished queued commands (Serial ATA 3.x, Set Device Bits FIS): I is set, N is clear,
-- and the tags that are finished are the bits of SActive
abbrev pub sdb_frame : ℕ → ℕ → ℕ → ℕ → List ℕ
sdb_frame status error port sactive =
    0xa1 ∷ (0x40 + port) ∷ status ∷ error
    ∷ byte_of sactive 0 ∷ byte_of sactive 1 ∷ byte_of sactive 2 ∷ byte_of sactive 3 ∷ []

-- the status bits that the frame has no place for: bit 7 (BSY) and bit 3 (DRQ)
abbrev pub busy_bits : ℕ → ℕ
busy_bits status = bit_and status 0x88

-- no Set Device Bits frame has these bytes: another type of frame, I clear or N or a reserved bit set,
-- or a status bit that the frame has no place for
abbrev pub IsNoSdb : List ℕ → Type 0
IsNoSdb bytes =
    (slice_index bytes 0 ≢ 0xa1) ⊎ (slice_index bytes 1 / 16 ≢ 4) ⊎ (busy_bits (slice_index bytes 2) ≢ 0)

-- the values have room in the frame's fields
pub record FitsSdb (status port sactive : ℕ) : Type 0 where
  pub busy : busy_bits status ≡ 0
  pub multiplier : port < 16
  pub tags : sactive < 2 ^ 32
