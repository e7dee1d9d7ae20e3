use Rattle.std.specs.Prelude.{◌≢◌, ℕ, ◌+◌, ◌/◌, ◌<◌, ◌^◌, ◌⊎◌, List, [], ◌∷◌, slice_index}
use Rattle.ata_base.specs.declared.regs.Regs.{Regs}
use Rattle.ata_tf.specs.Bytes.{byte_of}

-- the frame of a drive's registers, from this port of a multiplier (Serial ATA 3.x, Register Device
-- to Host FIS): I is set, the reserved bytes are 0
abbrev pub d2h_frame : Regs → ℕ → List ℕ
d2h_frame r port =
    0x34 ∷ (0x40 + port) ∷ r.status ∷ r.error
    ∷ byte_of r.lba 0 ∷ byte_of r.lba 1 ∷ byte_of r.lba 2 ∷ r.device
    ∷ byte_of r.lba 3 ∷ byte_of r.lba 4 ∷ byte_of r.lba 5 ∷ 0
    ∷ byte_of r.count 0 ∷ byte_of r.count 1 ∷ 0 ∷ 0
    ∷ 0 ∷ 0 ∷ 0 ∷ 0 ∷ []

-- no frame of a drive's registers has these bytes: another type of frame, I clear or a reserved bit
-- set, or a reserved byte that isn't 0
abbrev pub IsNoD2h : List ℕ → Type 0
IsNoD2h bytes =
    (slice_index bytes 0 ≢ 0x34) ⊎ (slice_index bytes 1 / 16 ≢ 4) ⊎ (slice_index bytes 11 ≢ 0)
    ⊎ (slice_index bytes 14 ≢ 0) ⊎ (slice_index bytes 15 ≢ 0) ⊎ (slice_index bytes 16 ≢ 0)
    ⊎ (slice_index bytes 17 ≢ 0) ⊎ (slice_index bytes 18 ≢ 0) ⊎ (slice_index bytes 19 ≢ 0)

-- the registers and the port have room in the frame's fields
pub record FitsD2h (r : Regs) (port : ℕ) : Type 0 where
  pub lba : r.lba < 2 ^ 48
  pub count : r.count < 2 ^ 16
  pub multiplier : port < 16
