-- What stands of every legal past between its entries, and carries all laws from one entry to the next.
use Rattle.std.specs.Prelude.{◌≡◌, true, false, List}
use Rattle.ata_script.specs.declared.port_head.PortHead.{PortHead}
use Rattle.ata_trace.specs.Event.{Event}
use Rattle.port_past.specs.PortState.{is_running, is_recovering}
use Rattle.port_past.specs.Slots.{slots}
use Rattle.port_facts.specs.Allowed.{IsAllowed}
use Rattle.host_tags.specs.EachFlight.{AreOwned, EachFlight}

-- a running recovery owns each issue in flight
abbrev pub RunsOwned : List Event → Type 0
RunsOwned past = is_running past ≡ true → AreOwned (slots past)

-- a port that isn't recovering owns no issue in flight
abbrev pub IdleFree : List Event → Type 0
IdleFree past = is_recovering past ≡ false → EachFlight (λ f. f.owned ≡ false) (slots past)

-- between entries a running recovery owns each issue in flight, and a port that isn't recovering owns none
pub record IsSettled (past : List Event) : Type 0 where
  pub owned : RunsOwned past
  pub free : IdleFree past

-- all that a legal past has between its entries: each event is allowed, and it is settled
pub record IsReached (head : PortHead) (past : List Event) : Type 0 where
  pub allowed : IsAllowed head past
  pub between : IsSettled past
