-- The commands that a drive is given, as their frames say them.
use Rattle.std.specs.Prelude.{◌≡◌, ℕ, List, Option}
use Rattle.ata_base.specs.declared.op.Op.{Op}
use Rattle.ata_tf.specs.CommandCodes.{taskfile_of, command_frame, IsCommand}
use Rattle.ata_tf.specs.HostToDevice.{FitsH2d}
use Rattle.drive_model.specs.Sectors.{IsShort}

-- these bytes are the frame in which the table of commands gives an operation, queued under a tag or unqueued, to the
-- drive behind some port of a multiplier
pub record Gives (fis : List ℕ) (op : Op) (queued : Option ℕ) : Type 0 where
  pub port : ℕ
  pub fits : FitsH2d (taskfile_of op queued) port
  pub command : IsCommand op queued
  pub frame : command_frame op queued port ≡ fis

-- these bytes give a command of the table, a read one of at most 16 sectors
pub record IsCommandFrame (fis : List ℕ) : Type 0 where
  pub op : Op
  pub queued : Option ℕ
  pub given : Gives fis op queued
  pub short : IsShort op
