-- Calm steps and ports, and journals that end well.
use Rattle.std.specs.Prelude.{◌≡◌, ◌≤◌, ℕ, true, List, [], All, length}
use Rattle.ata_trace.specs.Entries.{EntryView, past_of}
use Rattle.ata_trace.specs.declared.step.Step.{Step}
use Rattle.port_calm.specs.Calm.{IsCalmJournal, is_among, is_calm_step, well_answered}
use Rattle.port_core.specs.PortView.{PortView}
use Rattle.port_past.specs.Commands.{commands, is_accepted}
use Rattle.port_past.specs.Live.{live}

-- a step of an actor at a port disturbs nothing: it is no drop, stray, tick, plug, unplug or inject
abbrev pub IsCalmTaken : ℕ × ℕ × Step → Type 0
IsCalmTaken taken = is_calm_step taken.2 ≡ true

-- no step of these disturbs a port
abbrev pub AreCalmSteps : List (ℕ × ℕ × Step) → Type 0
AreCalmSteps steps = All IsCalmTaken steps

-- a journal that ends well: no step behind the boot entry disturbs the port, so there is no tick, no command is live,
-- and each that was accepted is answered `ok`
pub record IsWellEnded (entries : List EntryView) : Type 0 where
  pub calm : IsCalmJournal entries
  pub none_live : live (past_of entries) ≡ []
  pub answered : (id : ℕ) → is_accepted id (commands (past_of entries)) ≡ true → is_among id (well_answered (past_of entries)) ≡ true

-- each of these journals ends well
abbrev pub AreWellEnded : List (List EntryView) → Type 0
AreWellEnded journals = All IsWellEnded journals

-- a port that nothing has disturbed
abbrev pub IsCalmPort : PortView → Type 0
IsCalmPort port = IsCalmJournal port.entries

-- each of these ports is such
abbrev pub AreCalmPorts : List PortView → Type 0
AreCalmPorts ports = All IsCalmPort ports

-- at most so many commands were accepted in a journal
abbrev pub HasAtMost : ℕ → List EntryView → Type 0
HasAtMost rounds entries = length (commands (past_of entries)) ≤ rounds

-- and in each of these
abbrev pub HaveAtMost : ℕ → List (List EntryView) → Type 0
HaveAtMost rounds journals = All (HasAtMost rounds) journals
