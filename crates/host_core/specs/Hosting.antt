use Rattle.std.specs.Prelude.{◌≡◌, ◌<◌, ◌+◌, ◌*◌, ℕ, List, length, slice_index}
use Rattle.ata_script.specs.declared.port_head.PortHead.{PortHead}
use Rattle.ata_trace.specs.declared.step.Step.{Step}
use Rattle.port_core.specs.Hosts.{heads_in, journals_in}
use Rattle.port_core.specs.PortView.{PortView}
use Rattle.port_core.specs.Weave.{count_of, journals_of, runs_of, steps_at}

-- a port for each head, at which these steps were taken, and none is settled
pub record IsPlayed (heads : List PortHead) (steps : List (ℕ × ℕ × Step)) (ports : List PortView) : Type 0 where
  pub same : heads_in ports ≡ heads
  pub journals : journals_in ports ≡ runs_of heads steps

-- a port for each head, at which these steps were taken and which is settled with at most so many rounds
pub record IsHostOf (rounds : ℕ) (heads : List PortHead) (steps : List (ℕ × ℕ × Step)) (ports : List PortView) : Type 0 where
  pub same : heads_in ports ≡ heads
  pub journals : journals_in ports ≡ journals_of rounds heads steps

-- by port and actor, how many of these steps each actor took at each port
pub record AreCounted (counts : List ℕ) (steps : List (ℕ × ℕ × Step)) : Type 0 where
  pub all : length counts ≡ 256
  pub each : (port actor : ℕ) → port < 8 → actor < 32 → slice_index counts (32 * port + actor) ≡ count_of actor (steps_at port steps)
