-- What is told of a generated script.
use Rattle.std.specs.Prelude.{◌≡◌, ℕ, List, Option, IsTrue, ⊤}
use Rattle.ata_gen.specs.Generated.{script_made}
use Rattle.ata_script.specs.Scripts.{script_said}
use Rattle.ata_script.specs.declared.script.Script.{Script}
use Rattle.ata_trace.specs.Entries.{EntryView}
use Rattle.atahost.specs.Printing.{Prints}
use Rattle.atahost.specs.Statuses.{is_unprinted, write_faults_after}
use Rattle.atahost.specs.declared.status.Status.{Status}
use Rattle.atahost.specs.declared.status.Status.TheVariants.{OutOfMemory}
use Rattle.host_summary.specs.Summary.{summary_of, summary_text}
use Rattle.port_core.specs.Hosts.{lives_of}
use Rattle.port_core.specs.Weave.{journals_of}

-- a script is that of a number; the journals of its ports, each settled with at most so many rounds, were summed up, and this
-- is how the printing of the summary ended
pub record IsSummedUp (rounds n : ℕ) (before after : Option (List ℕ)) (status : Status) : Type 0 where
  pub script : Script
  pub journals : List (List EntryView)
  pub generated : script_said script ≡ script_made n
  pub made : journals ≡ journals_of rounds script.head script.steps
  pub printed : Prints before after (summary_text (summary_of script.steps journals)) (lives_of journals) status

-- what a status tells of the script of a number, and of the bytes that were written before and after
abbrev pub TellsOf : ℕ → ℕ → Option (List ℕ) → Option (List ℕ) → Status → Type 0
TellsOf rounds n before after OutOfMemory = ⊤
TellsOf rounds n before after status = IsSummedUp rounds n before after status

-- a call that prints the summary of the script of a number: what its status tells holds, a fault was counted exactly where it
-- says so, and nothing was written where it ended before the first line. The sink is told by these functions of it
pub record Generates {K : Type 0} (rounds n : ℕ) (written : K → Option (List ℕ)) (write_faults : K → ℕ) (sink after : K) (status : Status) : Type 0 where
  pub told : TellsOf rounds n (written sink) (written after) status
  pub write : write_faults after ≡ write_faults_after status (write_faults sink)
  pub nothing_written : IsTrue (is_unprinted status) → after ≡ sink
