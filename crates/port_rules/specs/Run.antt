use Rattle.std.specs.Prelude.{ℕ, ◌+◌, List, [], ◌∷◌}
use Rattle.ata_script.specs.declared.port_head.PortHead.{PortHead}
use Rattle.ata_trace.specs.Entries.{EntryView, grown}
use Rattle.ata_trace.specs.Event.{Event}
use Rattle.ata_trace.specs.declared.step.Step.{Step}
use Rattle.ata_trace.specs.declared.who.Who.{Who}
use Rattle.port_rules.specs.Boot.{boot_entry}
use Rattle.port_rules.specs.Legal.{entry_after}

-- a step that a port is asked for: on whose account, the how many of that account's, and the step
pub record StepCall : Type 0 where
  pub who : Who
  pub seq : ℕ
  pub step : Step

-- these steps of one account, numbered on from here
abbrev pub numbered : Who → ℕ → List Step → List StepCall
numbered who seq [] = []
numbered who seq (step ∷ rest) = record { who = who; seq = seq; step = step } ∷ numbered who (seq + 1) rest

-- the entries that these steps make after this past
abbrev pub run_from : PortHead → List Event → List StepCall → List EntryView
run_from head past [] = []
run_from head past (asked ∷ rest) =
    let entry : EntryView = entry_after head past asked.who asked.seq asked.step in
    entry ∷ run_from head (grown past entry) rest

-- the one legal journal of these steps at a port with this head
abbrev pub run : PortHead → List StepCall → List EntryView
run head asked = boot_entry head ∷ run_from head (grown [] (boot_entry head)) asked
