-- What actors leave in the journals of the ports, in whatever order they take their steps.
use Rattle.std.specs.Prelude.{◌≡◌, ℕ, ◌+◌, List, [], ◌∷◌, drop}
use Rattle.ata_script.specs.declared.port_head.PortHead.{PortHead}
use Rattle.ata_trace.specs.Entries.{EntryView}
use Rattle.ata_trace.specs.declared.step.Step.{Step}
use Rattle.ata_trace.specs.declared.who.Who.TheVariants.{Actor}
use Rattle.port_core.specs.Hosts.{heads_in, journals_in}
use Rattle.port_core.specs.PortView.{PortView}
use Rattle.port_core.specs.Weave.{asked_by, asked_in, steps_at, steps_of}
use Rattle.port_rules.specs.Legal.{IsLegal}
use Rattle.port_rules.specs.Run.{numbered}
use Rattle.port_threads.specs.Moves.{AreOfActors}

-- a legal journal of a port with this head and number. Behind the boot entry there are entries of actors alone, and each
-- actor's are its steps at this port in the order of their lines, each once, numbered from 0
pub record IsWeave (head : PortHead) (number : ℕ) (lines : List (ℕ × ℕ × Step)) (entries : List EntryView) : Type 0 where
  pub legal : IsLegal head entries
  pub actors : AreOfActors entries
  pub each : (actor : ℕ) → asked_by actor (asked_in (drop 1 entries)) ≡ numbered (Actor actor) 0 (steps_of actor (steps_at number lines))

-- each of these journals is such, of the ports with these heads, which are numbered on from this number
abbrev pub AreWeaves : ℕ → List PortHead → List (ℕ × ℕ × Step) → List (List EntryView) → Type 0
AreWeaves number [] lines [] = Unit {0}
AreWeaves number (head ∷ heads) lines (entries ∷ journals) = IsWeave head number lines entries × AreWeaves (number + 1) heads lines journals
AreWeaves _ _ _ _ = ⊥

-- a port for each head, at which the actors of these lines took their steps
pub record IsRunOf (heads : List PortHead) (lines : List (ℕ × ℕ × Step)) (ports : List PortView) : Type 0 where
  pub same : heads_in ports ≡ heads
  pub woven : AreWeaves 0 heads lines (journals_in ports)
