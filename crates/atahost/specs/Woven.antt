-- The journals of a run: its actors take their steps at each port in whatever order the port serves them.
use Rattle.std.specs.Prelude.{◌≡◌, ℕ, List}
use Rattle.ata_script.specs.Scripts.{IsScript}
use Rattle.ata_script.specs.declared.port_head.PortHead.{PortHead}
use Rattle.ata_script.specs.declared.script.Script.{Script}
use Rattle.ata_trace.specs.Entries.{EntryView}
use Rattle.ata_trace.specs.declared.step.Step.{Step}
use Rattle.host_core.specs.Calm.{AreCalmSteps, AreWellEnded, HaveAtMost}
use Rattle.port_core.specs.Hosts.{settled_in}
use Rattle.port_core.specs.PortView.{PortView}
use Rattle.port_core.specs.Weave.{AreLegalFor}
use Rattle.port_threads.specs.Weave.{IsRunOf}

-- of ports with these heads, at which the actors of these lines took their steps, each in the order of its lines: the journals,
-- each settled with at most so many rounds. They are legal; and where no step disturbs a port, and no more commands were
-- accepted at any port than there are rounds, each ends well: no command is live, and each accepted one is answered `ok`
pub record IsSettledRun (rounds : ℕ) (heads : List PortHead) (lines : List (ℕ × ℕ × Step)) (journals : List (List EntryView)) : Type 0 where
  pub ports : List PortView
  pub run : IsRunOf heads lines ports
  pub made : journals ≡ settled_in rounds ports
  pub legal : AreLegalFor heads journals
  pub calm : AreCalmSteps lines → HaveAtMost rounds journals → AreWellEnded journals

-- the bytes are a script, and these are journals of a run of it
pub record AreWovenOf (rounds : ℕ) (bytes : List ℕ) (journals : List (List EntryView)) : Type 0 where
  pub script : Script
  pub read : IsScript bytes script
  pub run : IsSettledRun rounds script.head script.steps journals
