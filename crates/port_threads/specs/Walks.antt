-- What walks add to the passes of the ports.
use Rattle.std.specs.Prelude.{◌≡◌, ℕ, ◌<◌, nat_le, if◌then◌else◌, List, [], length}
use mathlib.Core.List.{IsPrefix}
use Rattle.ata_trace.specs.declared.step.Step.{Step}
use Rattle.port_core.specs.Weave.{steps_at, steps_of}
use Rattle.port_threads.specs.Held.{Held, Grew, held_at}
use Rattle.turnstile.specs.Weaves.{numbered, entries_at, IsWoven}
use Rattle.turnstile.specs.declared.entry.Entry.{Entry}

-- an actor's steps at a port, in the order of their lines
abbrev pub steps_by : ℕ → List (ℕ × ℕ × Step) → ℕ → List Step
steps_by port lines actor = steps_of actor (steps_at port lines)

-- an actor's entries at a port: its steps there, each once, numbered from 0
abbrev pub entries_of : ℕ → List (ℕ × ℕ × Step) → ℕ → List (Entry Step)
entries_of actor lines port = numbered actor 0 (steps_by port lines actor)

-- as many passes as before, each with all entries of the actor at its port behind the old ones
pub record Walked (actor : ℕ) (lines : List (ℕ × ℕ × Step)) (old new : List Held) : Type 0 where
  pub count : length new ≡ length old
  pub each : (port : ℕ) → port < length old → Grew (held_at old port) (entries_of actor lines port) (held_at new port)

-- the same with the first of these entries alone
pub record WalkedSome (actor : ℕ) (lines : List (ℕ × ℕ × Step)) (old new : List Held) : Type 0 where
  pub count : length new ≡ length old
  pub each : (port : ℕ) → port < length old → (front : List (Entry Step)) × IsPrefix front (entries_of actor lines port) × Grew (held_at old port) front (held_at new port)

-- the steps of the actors from one number on
abbrev pub steps_from : ℕ → ℕ → List (ℕ × ℕ × Step) → ℕ → List Step
steps_from from port lines actor = if nat_le from actor then steps_by port lines actor else []

-- a pass of the same turnstile with the same share, whose own entries are those of the actors from one number on at the
-- port, each actor's in order
pub record IsWovenFrom (from port : ℕ) (lines : List (ℕ × ℕ × Step)) (old new : Held) : Type 0 where
  pub at : new.at ≡ old.at
  pub share : new.share ≡ old.share
  pub woven : IsWoven (steps_from from port lines) (entries_at new.own)

-- the same port by port
pub record AreWovenFrom (from : ℕ) (lines : List (ℕ × ℕ × Step)) (old new : List Held) : Type 0 where
  pub count : length new ≡ length old
  pub each : (port : ℕ) → port < length old → IsWovenFrom from port lines (held_at old port) (held_at new port)
