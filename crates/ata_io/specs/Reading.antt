use Rattle.std.specs.Prelude.{ℕ, Result, Ok, Err}
use Rattle.ata_io.specs.Faults.{one_more}
use Rattle.ata_io.specs.declared.reading.ReadError.{ReadError}
use Rattle.ata_io.specs.declared.reading.ReadError.TheVariants.{Fault, TooLong, Memory}

-- the count of a source's faults after a read to its end: one more with the answer that a read
-- failed, and the same with each other
abbrev pub faults_after : {T : Type 0} → Result T ReadError → ℕ → ℕ
faults_after (Ok value) count = count
faults_after (Err Fault) count = one_more count
faults_after (Err TooLong) count = count
faults_after (Err Memory) count = count
