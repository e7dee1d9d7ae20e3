use Rattle.std.specs.Prelude.{◌≡◌, ℕ, ◌<◌, ◌≤◌, List, All, length}
use Rattle.ata_base.specs.Limits.{most_places}
use Rattle.ata_base.specs.declared.cmd.Cmd.{Cmd}
use Rattle.host_queue.specs.Waiting.{waiting_at, spare_at}
use Rattle.port_ledger.specs.Commands.{CanServe}

-- what waits by place, from the front of each queue on; the commands that this recovery retried so far; and for how many
-- more commands each place has room beside those
pub record CommandQueuesView : Type 0 where
  pub lists : List (List Cmd)
  pub retried : List Cmd
  pub room : ℕ

-- there is a spare for each of 15 places, and none is below this room
pub record HasRoom (room : ℕ) (spares : List ℕ) : Type 0 where
  pub places : length spares ≡ most_places
  pub each : (place : ℕ) → place < most_places → room ≤ spare_at spares place

-- each of these commands can be served
abbrev pub AllServe : List Cmd → Type 0
AllServe commands = All CanServe commands

-- there is a queue for each of 15 places, and what waits in each can be served
pub record EachServes (lists : List (List Cmd)) : Type 0 where
  pub places : length lists ≡ most_places
  pub each : (place : ℕ) → AllServe (waiting_at lists place)

-- so many places have this room, and none has less than before
pub record IsReserved (n room : ℕ) (before spares : List ℕ) : Type 0 where
  pub places : length spares ≡ most_places
  pub reserved : (p : ℕ) → p < n → room ≤ spare_at spares p
  pub grown : (p : ℕ) → spare_at before p ≤ spare_at spares p
