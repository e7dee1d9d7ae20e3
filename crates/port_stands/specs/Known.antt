-- What waits and what flies is of accepted commands.
use Rattle.std.specs.Prelude.{◌≡◌, ℕ, List, Some}
use Rattle.ata_base.specs.declared.cmd.Cmd.{Cmd}
use Rattle.ata_trace.specs.Event.{Event}
use Rattle.host_queue.specs.Waiting.{waiting_at}
use Rattle.port_past.specs.Commands.{commands, command_of}
use Rattle.port_past.specs.Queues.{queues, retried}
use Rattle.port_past.specs.Slots.{slots}
use Rattle.port_stands.specs.Gate.{AreAll}
use Rattle.ata_base.specs.Each.{Each}

-- a command of this number was accepted, for this place
pub record IsKnown (commands : List Cmd) (id place : ℕ) : Type 0 where
  pub cmd : Cmd
  pub found : command_of id commands ≡ Some cmd
  pub there : cmd.place ≡ place

-- a command that waits at a place was accepted for it, at the same attachment
pub record IsWaiting (commands : List Cmd) (place : ℕ) (c : Cmd) : Type 0 where
  pub known : IsKnown commands c.id c.place
  pub there : c.place ≡ place
  pub attachment : known.cmd.attachment ≡ c.attachment

-- what flies, what waits and what is about to return is of accepted commands, at their places
pub record AreKnown (past : List Event) : Type 0 where
  pub flying : AreAll (λ f. IsKnown (commands past) f.id f.place) (slots past)
  pub waiting : (place : ℕ) → Each (IsWaiting (commands past) place) (waiting_at (queues past) place)
  pub returning : Each (λ c. IsWaiting (commands past) c.place c) (retried past)
