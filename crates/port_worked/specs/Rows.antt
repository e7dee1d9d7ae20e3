use Rattle.std.specs.Prelude.{ℕ, ◌+◌, List, [], ◌∷◌}
use Rattle.ata_trace.specs.Entries.{EntryView}
use Rattle.ata_trace.specs.declared.act.Act.{Act}
use Rattle.ata_trace.specs.declared.step.Step.{Step}
use Rattle.ata_trace.specs.declared.step.Step.TheVariants.{Boot}
use Rattle.ata_trace.specs.declared.who.Who.{Who}
use Rattle.ata_trace.specs.declared.who.Who.TheVariants.{Actor, Boot as ByBoot}
use Rattle.port_rules.specs.Run.{StepCall}

-- a row of a worked run: the time before a step, the step, and the acts that it has to have
abbrev pub Row : Type 0
Row = ℕ × Step × List Act

-- a step on an account, the how many of that account's
abbrev pub call : Who → (seq : ℕ) → Step → StepCall
call who seq step = record { who = who; seq = seq; step = step }

-- an entry of a journal
abbrev pub entry : (time : ℕ) → Who → (seq : ℕ) → Step → List Act → EntryView
entry time who seq step acts = record { at = time; who = who; seq = seq; step = step; acts = acts }

-- what the rows ask for, on the account of actor 0, numbered on from here
abbrev pub calls_from : ℕ → List Row → List StepCall
calls_from seq [] = []
calls_from seq (row ∷ rest) = call (Actor 0) seq row.1 ∷ calls_from (seq + 1) rest

-- what the rows ask for
abbrev pub calls : List Row → List StepCall
calls rows = calls_from 0 rows

-- the entries that the rows write down, numbered on from here
abbrev pub entries_from : ℕ → List Row → List EntryView
entries_from seq [] = []
entries_from seq (row ∷ rest) = entry row.0 (Actor 0) seq row.1 row.2 ∷ entries_from (seq + 1) rest

-- the journal that the rows write down after a boot with these acts
abbrev pub journal : List Act → List Row → List EntryView
journal boot rows = entry 0 ByBoot 0 Boot boot ∷ entries_from 0 rows
