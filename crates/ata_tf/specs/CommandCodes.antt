-- The commands, by their codes.
use Rattle.std.specs.Prelude.{◌≢◌, ℕ, ◌*◌, ◌/◌, ◌<◌, ◌==◌, nat_lt, List, Option, None, Some, IsSome, IfSome, IsTrue, if◌then◌else◌}
use Rattle.ata_base.specs.declared.op.Op.{Op}
use Rattle.ata_base.specs.declared.op.Op.TheVariants.{Read, Write, Verify, Flush, Power}
use Rattle.ata_base.specs.Operations.{is_data}
use Rattle.ata_tf.specs.declared.taskfile.Taskfile.{Taskfile}
use Rattle.ata_tf.specs.HostToDevice.{h2d_frame}

-- the first sector of an operation, 0 where it names no sectors
abbrev pub lba_of : Op → ℕ
lba_of (Read lba count) = lba
lba_of (Write lba count stamp) = lba
lba_of (Verify lba count) = lba
lba_of _ = 0

-- an unqueued command has its count in the count field, and no features
abbrev pub unqueued_taskfile : ℕ → ℕ → ℕ → Taskfile
unqueued_taskfile command lba count =
    record { command = command; features = 0; lba = lba; count = count; device = 0x40 }

-- a queued command has its count in the features field, and its tag in bits 7:3 of the count field
abbrev pub queued_taskfile : ℕ → ℕ → ℕ → ℕ → Taskfile
queued_taskfile command lba count tag =
    record { command = command; features = count; lba = lba; count = 8 * tag; device = 0x40 }

-- where a frame has its command
abbrev pub command_byte : ℕ
command_byte = 2

-- READ FPDMA QUEUED
abbrev pub read_fpdma_queued : ℕ
read_fpdma_queued = 0x60

-- WRITE FPDMA QUEUED
abbrev pub write_fpdma_queued : ℕ
write_fpdma_queued = 0x61

-- the table of commands: the registers of an operation, unqueued or queued under a tag (ACS-3,
-- READ DMA EXT, READ FPDMA QUEUED, WRITE DMA EXT, WRITE FPDMA QUEUED, READ VERIFY SECTOR(S) EXT,
-- FLUSH CACHE EXT, CHECK POWER MODE); the last three have no queued command
abbrev pub taskfile_of : Op → Option ℕ → Taskfile
taskfile_of (Read lba count) None = unqueued_taskfile 0x25 lba count
taskfile_of (Read lba count) (Some tag) = queued_taskfile read_fpdma_queued lba count tag
taskfile_of (Write lba count stamp) None = unqueued_taskfile 0x35 lba count
taskfile_of (Write lba count stamp) (Some tag) = queued_taskfile write_fpdma_queued lba count tag
taskfile_of (Verify lba count) queued = unqueued_taskfile 0x42 lba count
taskfile_of Flush queued = unqueued_taskfile 0xea 0 0
taskfile_of Power queued = unqueued_taskfile 0xe5 0 0

-- the frame with which an operation is given to the drive behind this port of a multiplier
abbrev pub command_frame : Op → Option ℕ → ℕ → List ℕ
command_frame op queued port = h2d_frame (taskfile_of op queued) port

-- a command of the table: only a read and a write can be queued, under one of the 32 tags
pub record IsCommand (op : Op) (queued : Option ℕ) : Type 0 where
  pub queueable : IsSome queued → IsTrue (is_data op)
  pub tag : IfSome queued (λ tag. tag < 32)

-- these registers give no command of the table
abbrev pub IsNoCommand : Taskfile → Type 0
IsNoCommand t = (op : Op) (queued : Option ℕ) → IsCommand op queued → taskfile_of op queued ≢ t

-- an operation whose write stores this stamp, which no register carries
abbrev pub stamped : ℕ → Op → Op
stamped stamp (Write lba count was) = Write lba count stamp
stamped stamp op = op

-- the tag in the count field of a queued command, in bits 7:3
abbrev pub tag_in : Taskfile → Option ℕ
tag_in t = if nat_lt (t.count / 8) 32 then Some (t.count / 8) else None

-- No part of the rules of a port, but words of the code: under_tag, command_in.

-- a queued operation, None where there is no tag
abbrev pub under_tag : Op → Option ℕ → Option (Op × Option ℕ)
under_tag op None = None
under_tag op (Some tag) = Some (op, Some tag)

-- what registers ask for, by the command code alone
abbrev pub command_in : Taskfile → ℕ → Option (Op × Option ℕ)
command_in t stamp =
    if t.command == 0x25 then Some (Read t.lba t.count, None)
    else if t.command == read_fpdma_queued then under_tag (Read t.lba t.features) (tag_in t)
    else if t.command == 0x35 then Some (Write t.lba t.count stamp, None)
    else if t.command == write_fpdma_queued then under_tag (Write t.lba t.features stamp) (tag_in t)
    else if t.command == 0x42 then Some (Verify t.lba t.count, None)
    else if t.command == 0xea then Some (Flush, None)
    else if t.command == 0xe5 then Some (Power, None)
    else None
