use Rattle.std.specs.Prelude.{List, [], ◌∷◌, codes}
use Rattle.ata_base.specs.declared.op.Op.TheVariants.{Read}
use Rattle.ata_trace.specs.Entries.{past_of}
use Rattle.ata_trace.specs.Event.{Event, onto}
use Rattle.ata_trace.specs.declared.act.Act.{Act}
use Rattle.ata_trace.specs.declared.step.Step.{Step}
use Rattle.ata_trace.specs.declared.step.Step.TheVariants.{Submit, Kick, Work}
use Rattle.port_rules.specs.Legal.{legal_acts}
use Rattle.port_rules.specs.Run.{run}
use Rattle.port_worked.specs.Acts.{issued, answered_ok}
use Rattle.port_worked.specs.Heads.{unqueued}
use Rattle.port_worked.specs.Rows.{calls}

-- one read of one sector waits
abbrev pub one_waits : List Event
one_waits = past_of (run unqueued (calls ((0, Submit 1 0 (Read 0 1) 5 30000, []) ∷ [])))

-- the same read is issued and done, and its interrupt has come up
abbrev pub one_is_done : List Event
one_is_done = past_of (run unqueued (calls (
    (0, Submit 1 0 (Read 0 1) 5 30000, []) ∷ (0, Kick 0, []) ∷ (0, Work 0 0, []) ∷ [])))

-- the legal acts of a step, where these acts were told last
abbrev pub acts_behind : List Event → List Act → Step → List Act
acts_behind past told step = legal_acts unqueued (onto past told) step

-- how the waiting read is issued
abbrev pub its_issue : List Act
its_issue = issued 1 1 0 30000 (codes "2780250000000040000000000100000000000000") ∷ []

-- how the read that is done is answered
abbrev pub its_answer : List Act
its_answer = answered_ok 1 1 0x40 0 0 0 (0 ∷ []) ∷ []
