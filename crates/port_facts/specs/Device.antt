use Rattle.std.specs.Prelude.{ℕ, List, Option, option_map}
use Rattle.ata_base.specs.declared.cmd.Cmd.{Cmd}
use Rattle.port_past.specs.Commands.{command_of}

-- what never changes of an accepted command: its place, and the detachments of that place at its acceptance
abbrev pub device_of : ℕ → List Cmd → Option (ℕ × ℕ)
device_of id commands = option_map (λ c. (c.place, c.attachment)) (command_of id commands)
