use Rattle.std.specs.Prelude.{ℕ, List, []}
use Rattle.ata_base.specs.declared.cmd.Cmd.{Cmd}

-- what waits at one place: the commands, the first in front, and how many more can be put in without
-- memory
pub record QueueView : Type 0 where
  pub commands : List Cmd
  pub spare : ℕ

-- nothing waits, and there is no room
abbrev pub empty_queue : QueueView
empty_queue = record { commands = []; spare = 0 }
