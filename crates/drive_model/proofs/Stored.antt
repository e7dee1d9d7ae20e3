-- How many sectors a write leaves, and what it leaves in each.
use Rattle.std.proofs.Common.{◌≡◌, ◌⊎◌, inl, inr, ℕ, ◌+◌, ◌<◌, ◌≤◌, List, [], ◌∷◌, suc, zero, length, slice_index, refl, arith}
use Rattle.ata_base.specs.declared.op.Op.{Op}
use Rattle.ata_base.specs.declared.op.Op.TheVariants.{Read, Write, Verify, Flush, Power}
use Rattle.drive_model.specs.Sectors.{stored, written}

-- as many sectors as before
written_long : (lba count value : ℕ) (xs : List ℕ) → length (written lba count value xs) ≡ length xs
written_long zero zero value [] = refl
written_long zero zero value (x ∷ xs) = refl
written_long zero (suc count) value [] = refl
written_long zero (suc count) value (x ∷ xs) = omega (arith, written_long zero count value xs)
written_long (suc lba) count value [] = refl
written_long (suc lba) count value (x ∷ xs) = omega (arith, written_long lba count value xs)

-- those that are written have the value
pub written_here :
    (lba count value : ℕ) (xs : List ℕ) (s : ℕ) → lba ≤ s → s < lba + count → s < length xs
    → slice_index (written lba count value xs) s ≡ value
written_here lba count value [] s from to within = absurd (omega (arith, within))
written_here zero zero value (x ∷ xs) s from to within = absurd (omega (arith, to))
written_here zero (suc count) value (x ∷ xs) zero from to within = refl
written_here zero (suc count) value (x ∷ xs) (suc s) from to within =
    written_here zero count value xs s (omega arith) (omega (arith, to)) (omega (arith, within))
written_here (suc lba) count value (x ∷ xs) zero from to within = absurd (omega (arith, from))
written_here (suc lba) count value (x ∷ xs) (suc s) from to within =
    written_here lba count value xs s (omega (arith, from)) (omega (arith, to)) (omega (arith, within))

-- the others stay
pub written_there :
    (lba count value : ℕ) (xs : List ℕ) (s : ℕ) → (s < lba) ⊎ (lba + count ≤ s)
    → slice_index (written lba count value xs) s ≡ slice_index xs s
written_there zero zero value [] s out = refl
written_there zero zero value (x ∷ xs) s out = refl
written_there zero (suc count) value [] s out = refl
written_there zero (suc count) value (x ∷ xs) zero (inl before) = absurd (omega (arith, before))
written_there zero (suc count) value (x ∷ xs) zero (inr after) = absurd (omega (arith, after))
written_there zero (suc count) value (x ∷ xs) (suc s) (inl before) = absurd (omega (arith, before))
written_there zero (suc count) value (x ∷ xs) (suc s) (inr after) = written_there zero count value xs s (inr (omega (arith, after)))
written_there (suc lba) count value [] s out = refl
written_there (suc lba) count value (x ∷ xs) zero out = refl
written_there (suc lba) count value (x ∷ xs) (suc s) (inl before) = written_there lba count value xs s (inl (omega (arith, before)))
written_there (suc lba) count value (x ∷ xs) (suc s) (inr after) = written_there lba count value xs s (inr (omega (arith, after)))

-- so it is of what an operation stores
pub stored_long : (op : Op) (xs : List ℕ) → length (stored op xs) ≡ length xs
stored_long (Write lba count stamp) xs = written_long lba count stamp xs
stored_long (Read lba count) xs = refl
stored_long (Verify lba count) xs = refl
stored_long Flush xs = refl
stored_long Power xs = refl
