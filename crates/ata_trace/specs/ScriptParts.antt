-- An operation of a script by its parts: which one it is, and its numbers, 0 for those that it doesn't have.
use Rattle.std.specs.Prelude.{ℕ, ◌≡◌, refl}
use Rattle.ata_base.specs.declared.op.Op.{Op}
use Rattle.ata_base.specs.declared.op.Op.TheVariants.{Read, Write, Verify, Flush, Power}
use Rattle.ata_trace.specs.ScriptRanges.{IsScriptOp}
use Rattle.ata_trace.specs.declared.script_op.Kind.{Kind}
use Rattle.ata_trace.specs.declared.script_op.Kind.TheVariants as kinds

-- the operation of these parts
abbrev pub operation : Kind → ℕ → ℕ → ℕ → Op
operation kinds.Read lba count stamp = Read lba count
operation kinds.Write lba count stamp = Write lba count stamp
operation kinds.Verify lba count stamp = Verify lba count
operation kinds.Flush lba count stamp = Flush
operation kinds.Power lba count stamp = Power

-- which one an operation is
abbrev pub kind_of : Op → Kind
kind_of (Read lba count) = kinds.Read
kind_of (Write lba count stamp) = kinds.Write
kind_of (Verify lba count) = kinds.Verify
kind_of Flush = kinds.Flush
kind_of Power = kinds.Power

-- its first sector
abbrev pub lba_of : Op → ℕ
lba_of (Read lba count) = lba
lba_of (Write lba count stamp) = lba
lba_of (Verify lba count) = lba
lba_of Flush = 0
lba_of Power = 0

-- its number of sectors
abbrev pub count_of : Op → ℕ
count_of (Read lba count) = count
count_of (Write lba count stamp) = count
count_of (Verify lba count) = count
count_of Flush = 0
count_of Power = 0

-- the stamp that it writes
abbrev pub stamp_of : Op → ℕ
stamp_of (Read lba count) = 0
stamp_of (Write lba count stamp) = stamp
stamp_of (Verify lba count) = 0
stamp_of Flush = 0
stamp_of Power = 0

-- these numbers are those of an operation that a script may ask for
abbrev pub AreParts : Kind → ℕ → ℕ → ℕ → Type 0
AreParts kind lba count stamp =
    IsScriptOp (operation kind lba count stamp)
    × (lba_of (operation kind lba count stamp) ≡ lba)
    × (count_of (operation kind lba count stamp) ≡ count)
    × (stamp_of (operation kind lba count stamp) ≡ stamp)

-- an operation of this kind is of this kind
pub kind_back : (kind : Kind) → (lba count stamp : ℕ) → kind_of (operation kind lba count stamp) ≡ kind
kind_back kinds.Read lba count stamp = refl
kind_back kinds.Write lba count stamp = refl
kind_back kinds.Verify lba count stamp = refl
kind_back kinds.Flush lba count stamp = refl
kind_back kinds.Power lba count stamp = refl
