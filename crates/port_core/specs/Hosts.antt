use Rattle.std.specs.Prelude.{◌≡◌, ℕ, zero, suc, ◌+◌, ◌≤◌, List, [], ◌∷◌, ◌++◌, length, map}
use Rattle.std.specs.List.{sum_by}
use Rattle.ata_script.specs.declared.port_head.PortHead.{PortHead}
use Rattle.ata_trace.specs.Entries.{EntryView, past_of}
use Rattle.ata_trace.specs.declared.step.Step.{Step}
use Rattle.ata_trace.specs.declared.who.Who.{Who}
use Rattle.port_core.specs.PortView.{PortView}
use Rattle.port_past.specs.Live.{live}
use Rattle.port_rules.specs.Legal.{entry_after}
use Rattle.port_rules.specs.Settle.{settling}

-- the ports are numbered one after the other, from this number on
abbrev pub AreNumbered : ℕ → List PortView → Type 0
AreNumbered number [] = Unit {0}
AreNumbered number (port ∷ rest) = (port.number ≡ number) × AreNumbered (number + 1) rest

-- the ports of a host: at most 8, numbered from 0
pub record AreOfHost (ports : List PortView) : Type 0 where
  pub numbered : AreNumbered 0 ports
  pub few : length ports ≤ 8

-- a port with room for one step
abbrev pub with_room : PortView → PortView
with_room port = record port { spare = 1 }

-- a port after a step, the `seq`-th of `who`
abbrev pub stepped : Who → ℕ → Step → PortView → PortView
stepped who seq step port =
    record port { entries = port.entries ++ entry_after port.head (past_of port.entries) who seq step ∷ []; spare = 0 }

-- one of the ports changes, all others stay; past the last port nothing changes
abbrev pub at_port : ℕ → (PortView → PortView) → List PortView → List PortView
at_port number change [] = []
at_port zero change (port ∷ rest) = change port ∷ rest
at_port (suc number) change (port ∷ rest) = port ∷ at_port number change rest

-- the heads of ports
abbrev pub heads_in : List PortView → List PortHead
heads_in ports = map (λ port. port.head) ports

-- the journals of ports
abbrev pub journals_in : List PortView → List (List EntryView)
journals_in ports = map (λ port. port.entries) ports

-- the journal of a port with the settling entries after it, of at most so many rounds
abbrev pub settled_of : ℕ → PortView → List EntryView
settled_of rounds port = port.entries ++ settling port.head rounds (past_of port.entries)

-- the journals of ports, each with its settling
abbrev pub settled_in : ℕ → List PortView → List (List EntryView)
settled_in rounds ports = map (settled_of rounds) ports

-- how many commands are live in a journal
abbrev pub lives_in : List EntryView → ℕ
lives_in entries = length (live (past_of entries))

-- how many commands are live in all journals
abbrev pub lives_of : List (List EntryView) → ℕ
lives_of journals = sum_by lives_in journals
