-- The turnstiles of the ports at the beginning and at the end of a run.
use Rattle.std.specs.Prelude.{◌≡◌, ℕ, ◌+◌, ◌<◌, List, [], ◌∷◌, ◌++◌, length, slice_index_or}
use Rattle.ata_script.specs.declared.port_head.PortHead.{PortHead}
use Rattle.ata_trace.specs.declared.step.Step.{Step}
use Rattle.port_core.specs.PortView.{PortView}
use Rattle.port_rules.specs.Legal.{IsLegal}
use Rattle.port_threads.specs.Held.{Held, held_at, newcomer}
use Rattle.port_threads.specs.Moves.{AreOfActors, moves_in}
use Rattle.turnstile.specs.Passes.{place, opening}
use Rattle.turnstile.specs.Weaves.{entries_at}
use Rattle.turnstile.specs.declared.turnstile.Turnstile.{Turnstile}

-- a turnstile round a port
abbrev pub Stile : Type 0
Stile = Turnstile PortView Step (ℕ × PortHead)

-- the first pass of a turnstile
abbrev pub first_pass : Stile → Held
first_pass desk = newcomer (place desk)

-- a turnstile round a port with this number and head, at which no actor took a step yet
pub record IsNew (n : ℕ) (h : PortHead) (desk : Stile) : Type 0 where
  pub number : (opening desk).number ≡ n
  pub head : (opening desk).head ≡ h
  pub fresh : moves_in (opening desk).entries ≡ []

-- one for each head, numbered on from this number
abbrev pub AllNew : ℕ → List PortHead → List Stile → Type 0
AllNew number [] [] = Unit {0}
AllNew number (head ∷ heads) (desk ∷ desks) = IsNew number head desk × AllNew (number + 1) heads desks
AllNew _ _ _ = ⊥

-- the number of the port that a turnstile was made round
abbrev pub number_of : Stile → ℕ
number_of desk = (opening desk).number

-- these ports are numbered from 0
abbrev pub AreInOrder : List Stile → Type 0
AreInOrder desks = (port : ℕ) (desk : Stile) → port < length desks → number_of (slice_index_or desks port desk) ≡ port

-- the port that a turnstile gives back: number and head are as they were, its moves are the first ones and then the own
-- entries of the pass, and its journal is legal and has entries of actors behind the boot entry alone
pub record IsClosed (desk : Stile) (h : Held) (port : PortView) : Type 0 where
  pub number : port.number ≡ (opening desk).number
  pub head : port.head ≡ (opening desk).head
  pub moves : moves_in port.entries ≡ moves_in (opening desk).entries ++ entries_at h.own
  pub legal : IsLegal port.head port.entries
  pub actors : AreOfActors port.entries

-- one for each turnstile
pub record AllClosed (desks : List Stile) (passes : List Held) (ports : List PortView) : Type 0 where
  pub count : length ports ≡ length desks
  pub each : (place : ℕ) (desk : Stile) (port : PortView) → place < length desks → IsClosed (slice_index_or desks place desk) (held_at passes place) (slice_index_or ports place port)
