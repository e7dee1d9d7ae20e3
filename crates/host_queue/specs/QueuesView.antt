use Rattle.std.specs.Prelude.{ℕ, List}
use Rattle.ata_base.specs.declared.cmd.Cmd.{Cmd}

-- what waits at the places of a port: for each place in order its commands, the first in front, and how
-- many more can be put in without memory
pub record QueuesView : Type 0 where
  pub lists : List (List Cmd)
  pub spares : List ℕ
