use Rattle.std.specs.Prelude.{◌≡◌, ℕ, List}
use Rattle.ata_script.specs.Scripts.{IsScript}
use Rattle.ata_script.specs.declared.script.Script.{Script}
use Rattle.ata_trace.specs.Entries.{EntryView}
use Rattle.port_core.specs.Weave.{journals_of}

-- the bytes are a script, and these are the journals of its ports in their order, each the one that its steps at the
-- port make, settled with at most so many rounds
pub record AreJournalsOf (rounds : ℕ) (bytes : List ℕ) (journals : List (List EntryView)) : Type 0 where
  pub script : Script
  pub read : IsScript bytes script
  pub made : journals ≡ journals_of rounds script.head script.steps
