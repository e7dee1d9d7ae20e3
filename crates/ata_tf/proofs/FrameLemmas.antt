use Rattle.std.proofs.Common.{◌≡◌, ℕ, arith}
use Rattle.ata_base.specs.declared.regs.Regs.{Regs}
use Rattle.ata_base.proofs.RegsLemmas.{same_regs}
use Rattle.ata_tf.specs.declared.taskfile.Taskfile.{Taskfile}
use Rattle.ata_tf.specs.HostToDevice.{h2d_frame, FitsH2d}
use Rattle.ata_tf.specs.DeviceToHost.{d2h_frame, FitsD2h}
use Rattle.ata_tf.specs.SetDeviceBits.{sdb_frame, FitsSdb}
use Rattle.ata_tf.proofs.ByteLemmas.{same_u16, same_u32, same_u48}

same_taskfile :
    (t u : Taskfile) → t.command ≡ u.command → t.features ≡ u.features → t.lba ≡ u.lba
    → t.count ≡ u.count → t.device ≡ u.device → t ≡ u
same_taskfile t u a b c d e =
    λ i. record { command = a i; features = b i; lba = c i; count = d i; device = e i }

-- a command's frame is that of one taskfile and one port alone
pub h2d_frame-injective :
    (t u : Taskfile) (p q : ℕ) → FitsH2d t p → FitsH2d u q → h2d_frame t p ≡ h2d_frame u q
    → (t ≡ u) × (p ≡ q)
h2d_frame-injective t u p q a b e = (
  same_taskfile t u (cc) (same_u16 _ _ a.features b.features (cc) (cc))
      (same_u48 _ _ a.lba b.lba (cc) (cc) (cc) (cc) (cc) (cc))
      (same_u16 _ _ a.count b.count (cc) (cc)) (cc),
  grind arith,
)

-- a frame of registers is that of one set of registers and one port alone
pub d2h_frame-injective :
    (r s : Regs) (p q : ℕ) → FitsD2h r p → FitsD2h s q → d2h_frame r p ≡ d2h_frame s q
    → (r ≡ s) × (p ≡ q)
d2h_frame-injective r s p q a b e = (
  same_regs r s (cc) (cc) (same_u48 _ _ a.lba b.lba (cc) (cc) (cc) (cc) (cc) (cc)) (cc)
      (same_u16 _ _ a.count b.count (cc) (cc)),
  grind arith,
)

-- a Set Device Bits frame is that of its four values alone
pub sdb_frame-injective :
    (s r e f p q m n : ℕ) → FitsSdb s p m → FitsSdb r q n → sdb_frame s e p m ≡ sdb_frame r f q n
    → (s ≡ r) × (e ≡ f) × (p ≡ q) × (m ≡ n)
sdb_frame-injective s r e f p q m n a b same =
    (cc, cc, grind arith, same_u32 _ _ a.tags b.tags (cc) (cc) (cc) (cc))
