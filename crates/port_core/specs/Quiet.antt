-- Tags and queues that hold nothing.
use Rattle.std.specs.Prelude.{Bool, true, false, Option, List, [], ◌∷◌, is_none}
use Rattle.std.specs.List.{list_all}
use Rattle.ata_base.specs.declared.cmd.Cmd.{Cmd}
use Rattle.host_tags.specs.declared.in_flight.InFlight.{InFlight}

-- whether no issue is in flight
abbrev pub are_free : List (Option InFlight) → Bool
are_free slots = list_all is_none slots

-- whether no command waits in a queue
abbrev pub has_none : List Cmd → Bool
has_none [] = true
has_none (command ∷ rest) = false

-- whether none waits in any
abbrev pub are_empty : List (List Cmd) → Bool
are_empty queues = list_all has_none queues
