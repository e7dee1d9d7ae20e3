use Rattle.std.specs.Prelude.{◌≡◌, ◌≤◌, ◌<◌, ℕ, List, Option, Some, IfSome, IsTrue, ⊤, length, take}
use Rattle.std.specs.Io.KnownBytes.{Appends, IsAtEnd}
use Rattle.ata_trace.specs.Entries.{EntryView}
use Rattle.ata_script.specs.Grammar.{fault_of}
use Rattle.atahost.specs.Statuses.{is_unprinted, read_faults_after, write_faults_after}
use Rattle.atahost.specs.declared.status.Status.{Status}
use Rattle.atahost.specs.declared.status.Status.TheVariants.{Done, Usage, Left, BadScript, TooLong, ReadFault, WriteFault, OutOfMemory}
use Rattle.port_core.specs.Hosts.{lives_of}
use Rattle.port_core.specs.Text.{texts_of}
use Rattle.port_core.specs.Told.{AreInRange}

-- the most bytes that a script may have
abbrev pub most_bytes : ℕ
most_bytes = 4194304

-- what was left to read is at most the most bytes, journals are of these bytes, their texts were written in the order of the
-- ports, and so many of their commands are live at the end; all that the texts tell is in the ranges of its types, so they are
-- those of no other journals; where the source or the sink doesn't tell, nothing is said of it. Which journals are of some
-- bytes is for the command to say
pub record Replayed (AreOf : List ℕ → List (List EntryView) → Type 0) (left before after : Option (List ℕ)) (k : ℕ) : Type 0 where
  pub bytes : List ℕ
  pub journals : List (List EntryView)
  pub read : IfSome left (λ all. all ≡ bytes)
  pub within : length bytes ≤ most_bytes
  pub made : AreOf bytes journals
  pub ranges : AreInRange journals
  pub written : Appends before after (texts_of journals)
  pub live : k ≡ lives_of journals

-- what was left to read is at most the most bytes, journals are of these bytes, and the first bytes of their texts were
-- written
pub record CutShort (AreOf : List ℕ → List (List EntryView) → Type 0) (left before after : Option (List ℕ)) : Type 0 where
  pub bytes : List ℕ
  pub journals : List (List EntryView)
  pub read : IfSome left (λ all. all ≡ bytes)
  pub within : length bytes ≤ most_bytes
  pub made : AreOf bytes journals
  pub ranges : AreInRange journals
  pub count : ℕ
  pub part : count ≤ length (texts_of journals)
  pub written : Appends before after (take count (texts_of journals))

-- at most the most bytes of a script, whose first fault is at this line by this rule
pub record IsRefused (line rule : ℕ) (bytes : List ℕ) : Type 0 where
  pub within : length bytes ≤ most_bytes
  pub fault : fault_of bytes ≡ Some (line, rule)

-- more than the most bytes of a script
abbrev pub IsTooLong : List ℕ → Type 0
IsTooLong bytes = most_bytes < length bytes

-- what a status tells of the bytes that were left to read, of those that are left now, and of those
-- that were written before and after
abbrev pub Tells : (List ℕ → List (List EntryView) → Type 0) → Option (List ℕ) → Option (List ℕ) → Option (List ℕ) → Option (List ℕ) → Status → Type 0
Tells AreOf left rest before after Done = Replayed AreOf left before after 0 × IsAtEnd rest
Tells AreOf left rest before after (Left k) = (0 < k) × Replayed AreOf left before after k × IsAtEnd rest
Tells AreOf left rest before after (BadScript line rule) = IfSome left (IsRefused line rule) × IsAtEnd rest
Tells AreOf left rest before after TooLong = IfSome left IsTooLong
Tells AreOf left rest before after WriteFault = CutShort AreOf left before after × IsAtEnd rest
Tells AreOf left rest before after Usage = ⊤
Tells AreOf left rest before after ReadFault = ⊤
Tells AreOf left rest before after OutOfMemory = ⊤

-- a call that reads a script and prints journals of it: what its status tells holds, a fault was counted exactly where it
-- says so, and nothing was written where it ended before the first line. The source and the sink are told by these functions
-- of them
pub record Replays {S K : Type 0} (AreOf : List ℕ → List (List EntryView) → Type 0) (left : S → Option (List ℕ)) (read_faults : S → ℕ) (written : K → Option (List ℕ)) (write_faults : K → ℕ) (source rest : S) (sink after : K) (status : Status) : Type 0 where
  pub told : Tells AreOf (left source) (left rest) (written sink) (written after) status
  pub read : read_faults rest ≡ read_faults_after status (read_faults source)
  pub write : write_faults after ≡ write_faults_after status (write_faults sink)
  pub nothing_written : IsTrue (is_unprinted status) → after ≡ sink
