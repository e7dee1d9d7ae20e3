-- The ranges that a script has for the numbers of an operation and of a fault.
use Rattle.std.specs.Prelude.{ℕ, ◌<◌, ◌≤◌, ◌^◌, ⊤}
use Rattle.ata_base.specs.declared.fault.Fault.{Fault}
use Rattle.ata_base.specs.declared.fault.Fault.TheVariants.{Media, Hang, Icrc, Abort, Df, BadStat, Idnf, LogFail, LogSum, LogNq, LogIdle, IdentFail, Serr}
use Rattle.ata_base.specs.declared.op.Op.{Op}
use Rattle.ata_base.specs.declared.op.Op.TheVariants.{Read, Write, Verify, Flush, Power}

-- a sector that 48 bits can name
abbrev pub IsSector : ℕ → Type 0
IsSector lba = lba < 2 ^ 48

-- the first sector of an operation is one
abbrev pub IsScriptOp : Op → Type 0
IsScriptOp (Read lba count) = IsSector lba
IsScriptOp (Write lba count stamp) = IsSector lba
IsScriptOp (Verify lba count) = IsSector lba
IsScriptOp Flush = ⊤
IsScriptOp Power = ⊤

-- how often a fault may come
abbrev pub AreTimes : ℕ → Type 0
AreTimes k = (1 ≤ k) × (k ≤ 100)

-- a bad sector is one that 48 bits can name, and a fault that comes several times comes 1 to 100 times
abbrev pub IsScriptFault : Fault → Type 0
IsScriptFault (Media lba) = IsSector lba
IsScriptFault (Hang k) = AreTimes k
IsScriptFault (Icrc k) = AreTimes k
IsScriptFault (Abort k) = AreTimes k
IsScriptFault (Df k) = AreTimes k
IsScriptFault (BadStat k) = AreTimes k
IsScriptFault (Idnf k) = AreTimes k
IsScriptFault (LogFail k) = AreTimes k
IsScriptFault (LogSum k) = AreTimes k
IsScriptFault (LogNq k) = AreTimes k
IsScriptFault (LogIdle k) = AreTimes k
IsScriptFault (IdentFail k) = AreTimes k
IsScriptFault (Serr bit) = ⊤
