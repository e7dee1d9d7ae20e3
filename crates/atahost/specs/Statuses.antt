use Rattle.std.specs.Prelude.{ℕ, Bool, true, false}
use Rattle.ata_io.specs.Faults.{one_more}
use Rattle.atahost.specs.declared.status.Status.{Status}
use Rattle.atahost.specs.declared.status.Status.TheVariants.{Done, Usage, Left, BadScript, TooLong, ReadFault, WriteFault, OutOfMemory}

-- the exit status of the program
abbrev pub exit_number : Status → ℕ
exit_number Done = 0
exit_number Usage = 2
exit_number (Left k) = 3
exit_number (BadScript line rule) = 4
exit_number TooLong = 5
exit_number ReadFault = 6
exit_number WriteFault = 7
exit_number OutOfMemory = 8

-- whether the call ended before the first line was to be written
abbrev pub is_unprinted : Status → Bool
is_unprinted Done = false
is_unprinted (Left k) = false
is_unprinted WriteFault = false
is_unprinted _ = true

-- the count of a source's faults after a call with this status: one more with `ReadFault` alone
abbrev pub read_faults_after : Status → ℕ → ℕ
read_faults_after ReadFault count = one_more count
read_faults_after _ count = count

-- the count of a sink's faults after a call with this status: one more with `WriteFault` alone
abbrev pub write_faults_after : Status → ℕ → ℕ
write_faults_after WriteFault count = one_more count
write_faults_after _ count = count
