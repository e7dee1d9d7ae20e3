-- The sectors of a drive: by number the stamp of each, and whether it is bad.
use Rattle.std.specs.Prelude.{ℕ, zero, suc, ◌+◌, ◌-◌, ◌≤◌, Bool, true, false, List, [], ◌∷◌, ◌++◌, Option, length, option_map, take, drop, replicate, position, slice_set}
use Rattle.ata_base.specs.Limits.{most_sectors}
use Rattle.ata_base.specs.declared.op.Op.{Op}
use Rattle.ata_base.specs.declared.op.Op.TheVariants.{Read, Write}

-- No part of the rules of a port, but words of the code: IsShort, SectorsView, stamps_of.

-- an operation that gives at most 16 stamps, as many as the answer of one command has
abbrev pub IsShort : Op → Type 0
IsShort (Read lba count) = count ≤ most_sectors
IsShort _ = Unit {0}

-- so many of these from there on are replaced by one value; what is past the end isn't written
abbrev pub written : {A : Type 0} → ℕ → ℕ → A → List A → List A
written (suc lba) count value (x ∷ rest) = x ∷ written lba count value rest
written zero (suc count) value (x ∷ rest) = value ∷ written zero count value rest
written _ _ value rest = rest

-- a write gives its stamp to each of its sectors
abbrev pub stored : Op → List ℕ → List ℕ
stored (Write lba count stamp) was = written lba count stamp was
stored _ was = was

-- a write makes each of its sectors good
abbrev pub healed : Op → List Bool → List Bool
healed (Write lba count stamp) was = written lba count false was
healed _ was = was

-- so many of these from there on, and 0 for each that is past the end
abbrev pub found : ℕ → ℕ → List ℕ → List ℕ
found lba count stamps = take count (take count (drop lba stamps) ++ replicate count 0)

-- a read gives the stamps of its sectors, nothing else gives any
abbrev pub stamps_read : Op → List ℕ → List ℕ
stamps_read (Read lba count) stamps = found lba count stamps
stamps_read _ stamps = []

-- the least bad sector among so many from there on
abbrev pub least_bad : ℕ → ℕ → List Bool → Option ℕ
least_bad lba count bad = option_map (λ k. lba + k) (position (λ b. b) (take count (drop lba bad)))

-- a sector is bad from now on
abbrev pub spoiled : ℕ → List Bool → List Bool
spoiled lba bad = slice_set bad lba true

-- the sectors of a drive: the stamp of each, and whether it is bad
pub record SectorsView : Type 0 where
  pub stamps : List ℕ
  pub bad : List Bool

-- so many stamps, of which the first are kept and each other one is 0
abbrev pub stamps_of : List ℕ → ℕ → List ℕ
stamps_of kept count = kept ++ replicate (count - length kept) 0
