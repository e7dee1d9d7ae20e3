-- What each kind of act finds in the past of a legal journal. It stands between the rules and the laws.
use Rattle.ata_script.specs.declared.port_head.PortHead.{PortHead}
use Rattle.ata_trace.specs.Event.{Event, onto}
use Rattle.ata_trace.specs.Event.Event.{Told}
use Rattle.ata_trace.specs.declared.act.Act.{Act}
use Rattle.port_facts.specs.Allowed.{AreAllowed, IsAllowed}
use Rattle.std.proofs.Common.{◌+◌, List, [], ◌∷◌, ◌++◌}
use Rattle.port_rules.specs.Told.{or_nothing}

pub allowed_onto :
    (head : PortHead) (past : List Event) (acts : List Act) → IsAllowed head past → AreAllowed head past acts
    → IsAllowed head (onto past acts)
allowed_onto head past [] h allowed = h
allowed_onto head past (act ∷ rest) h allowed = allowed_onto head (Told act ∷ past) rest (allowed.0, h) allowed.1

pub allowed_append :
    (head : PortHead) (past : List Event) (acts more : List Act) → AreAllowed head past acts
    → AreAllowed head (onto past acts) more → AreAllowed head past (acts ++ more)
allowed_append head past [] more first later = later
allowed_append head past (act ∷ rest) more first later =
    (first.0, allowed_append head (Told act ∷ past) rest more first.1 later)

pub or_nothing_allowed : (head : PortHead) (p : List Event) (acts : List Act) → AreAllowed head p acts → AreAllowed head p (or_nothing acts)
or_nothing_allowed head p [] allowed = (tt, tt)
or_nothing_allowed head p (act ∷ rest) allowed = allowed
