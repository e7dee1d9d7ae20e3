-- What is promised where nothing fails.
use Rattle.std.specs.Prelude.{◌≡◌, ◌≤◌, ◌<◌, ◌-◌, ◌^◌, ℕ, List, Option, Some, length, ⊤}
use Rattle.ata_script.specs.Scripts.{IsScript}
use Rattle.ata_script.specs.declared.script.Script.{Script}
use Rattle.atahost.specs.Headline.{most_bytes}
use Rattle.atahost.specs.declared.status.Status.{Status}
use Rattle.atahost.specs.declared.status.Status.TheVariants.{Done, Left, OutOfMemory}
use Rattle.host_core.specs.Calm.{AreCalmSteps, AreWellEnded, HaveAtMost}
use Rattle.port_core.specs.Weave.{journals_of}

-- what is left to read is a script of at most the most bytes
pub record HasScript (left : Option (List ℕ)) : Type 0 where
  pub bytes : List ℕ
  pub script : Script
  pub told : left ≡ Some bytes
  pub within : length bytes ≤ most_bytes
  pub text : IsScript bytes script

-- a count of faults stays as it was, below its last value
pub record Stays (before after : ℕ) : Type 0 where
  pub same : after ≡ before
  pub below : before < 2 ^ 64 - 1

-- all was printed, or memory was wanted
abbrev pub IsWhole : Status → Type 0
IsWhole Done = ⊤
IsWhole (Left k) = ⊤
IsWhole OutOfMemory = ⊤
IsWhole _ = ⊥

-- what is left to read is a script no step of which disturbs a port, and no more commands are accepted at any of its ports
-- than there are rounds
pub record HasCalmScript (rounds : ℕ) (left : Option (List ℕ)) : Type 0 where
  pub bytes : List ℕ
  pub script : Script
  pub told : left ≡ Some bytes
  pub text : IsScript bytes script
  pub calm : AreCalmSteps script.steps
  pub enough : HaveAtMost rounds (journals_of rounds script.head script.steps)

-- the status tells of no live command
abbrev pub IsNotLeft : Status → Type 0
IsNotLeft (Left k) = ⊥
IsNotLeft _ = ⊤

-- a calm script ends well: no command is left live, and each that was accepted is answered `ok`
pub record EndsCalmly {rounds : ℕ} {left : Option (List ℕ)} (calm : HasCalmScript rounds left) (status : Status) : Type 0 where
  pub none_left : IsNotLeft status
  pub answered : AreWellEnded (journals_of rounds calm.script.head calm.script.steps)
