-- The script of a number.
use Rattle.std.specs.Prelude.{ℕ, zero, suc, ◌+◌, ◌*◌, ◌/◌, ◌%◌, ◌==◌, true, false, nat_lt, Some, List, [], ◌∷◌, ◌++◌, codes, if◌then◌else◌}
use Rattle.std.specs.List.{flat_map, range_with_len}
use Rattle.ata_base.specs.declared.fault.Fault.TheVariants.{Icrc, Media}
use Rattle.ata_base.specs.declared.op.Op.{Op}
use Rattle.ata_base.specs.declared.op.Op.TheVariants.{Read, Write, Flush}
use Rattle.ata_script.specs.Draft.{DraftView, identity_said}
use Rattle.ata_script.specs.Heads.{DriveSaid, PortSaid}
use Rattle.ata_trace.specs.declared.step.Step.{Step}
use Rattle.ata_trace.specs.declared.step.Step.TheVariants.{Submit, Kick, Work, Irq, Drop, Recover, Inject}

-- ---- its ports

-- the serial number of a drive: `S` and its number, 0 to 9
abbrev pub serial_made : ℕ → List ℕ
serial_made number = 83 ∷ (48 + number) ∷ []

-- the drive of a number, of the make `GEN`, at a place: 65,536 sectors, and ready at once
abbrev pub drive_made : ℕ → ℕ → ℕ → ℕ → DriveSaid
drive_made place number depth generation =
    record { place = Some place; identity = identity_said (codes "GEN") (serial_made number) 65536 depth generation; ready = 0 }

-- a direct port with a drive
abbrev pub direct_made : PortSaid
direct_made = record { places = 1; pmp = false; fbs = false; drain = false; drives = drive_made 0 0 32 3 ∷ [] }

-- a multiplier with three, of which the last has no queue
abbrev pub multiplier_made : PortSaid
multiplier_made = record {
  places = 3;
  pmp = true;
  fbs = false;
  drain = false;
  drives = drive_made 0 1 32 2 ∷ drive_made 1 2 32 2 ∷ drive_made 2 3 0 1 ∷ [];
}

abbrev pub ports_made : List PortSaid
ports_made = direct_made ∷ multiplier_made ∷ []

-- ---- its steps

-- the linear congruence
abbrev pub next_number : ℕ → ℕ
next_number x = (x * 1103515245 + 12345) % 2147483648

-- the number of the i-th commands, from the script's number on
abbrev pub number_at : ℕ → ℕ → ℕ
number_at n zero = n
number_at n (suc i) = next_number (number_at n i)

-- what the i-th commands are drawn from
abbrev pub drawn : ℕ → ℕ → ℕ
drawn n i = number_at n i / 65536

-- their port, place, first sector and count
abbrev pub port_drawn : ℕ → ℕ
port_drawn v = v % 2

abbrev pub place_drawn : ℕ → ℕ
place_drawn v = if v % 2 == 0 then 0 else v / 2 % 3

abbrev pub sector_drawn : ℕ → ℕ
sector_drawn v = 2 * v % 65520

abbrev pub count_drawn : ℕ → ℕ
count_drawn v = 1 + v % 16

-- the operation of the i-th commands: of eight four are reads, three are writes with the stamp i, and one is a flush
abbrev pub op_drawn : ℕ → ℕ → Op
op_drawn v i =
    if nat_lt (v / 8 % 8) 4 then Read (sector_drawn v) (count_drawn v)
    else if nat_lt (v / 8 % 8) 7 then Write (sector_drawn v) (count_drawn v) i else Flush

-- a step where i is a multiple, and else none
abbrev pub step_each : ℕ → ℕ → ℕ × ℕ × Step → List (ℕ × ℕ × Step)
step_each every i taken = if i % every == 0 then taken ∷ [] else []

-- the interrupt of the i-th commands: each hundredth is lost
abbrev pub interrupt_at : ℕ → Step
interrupt_at i = if i % 100 == 0 then Drop else Irq

-- the faults of the i-th lines, drawn from v: every fiftieth a bad frame, every seventieth a bad sector
abbrev pub faults_drawn : ℕ → ℕ → List (ℕ × ℕ × Step)
faults_drawn v i =
    step_each 50 i (1, port_drawn v, Inject (place_drawn v) (Icrc 1))
    ++ step_each 70 i (1, port_drawn v, Inject (place_drawn v) (Media (sector_drawn v)))

-- the command of the i-th lines, on its way
abbrev pub served_drawn : ℕ → ℕ → List (ℕ × ℕ × Step)
served_drawn v i =
    (0, port_drawn v, Submit i (place_drawn v) (op_drawn v i) 5 30000)
    ∷ (0, port_drawn v, Kick (place_drawn v))
    ∷ (0, port_drawn v, Work (place_drawn v) 0)
    ∷ (2, port_drawn v, interrupt_at i)
    ∷ (3, port_drawn v, Recover) ∷ []

-- the i-th lines, drawn from v
abbrev pub lines_drawn : ℕ → ℕ → List (ℕ × ℕ × Step)
lines_drawn v i = faults_drawn v i ++ served_drawn v i

-- the i-th lines of the script of n
abbrev pub lines_at : ℕ → ℕ → List (ℕ × ℕ × Step)
lines_at n i = lines_drawn (drawn n i) i

-- its steps
abbrev pub steps_made : ℕ → List (ℕ × ℕ × Step)
steps_made n = flat_map (lines_at n) (range_with_len 1 n)

-- what the script of n says
abbrev pub script_made : ℕ → DraftView
script_made n = record { version = 1; ports = ports_made; steps = steps_made n }
