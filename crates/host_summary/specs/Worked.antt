-- A small script and two journals, summed up by hand.
use Rattle.std.specs.Prelude.{ℕ, List, [], ◌∷◌}
use Rattle.ata_base.specs.declared.op.Op.TheVariants.{Flush, Read}
use Rattle.ata_trace.specs.Entries.{EntryView}
use Rattle.ata_trace.specs.declared.act.Act.TheVariants.{Accepted, AnsweredNodev, Attached, Begun, Ended, Refused}
use Rattle.ata_trace.specs.declared.refusal.Refusal.TheVariants.{NoDevice}
use Rattle.ata_trace.specs.declared.step.Step.{Step}
use Rattle.ata_trace.specs.declared.step.Step.TheVariants.{Boot, Kick, Recover, Submit}
use Rattle.ata_trace.specs.declared.who.Who.TheVariants.{Actor, Boot as ByBoot}
use Rattle.host_summary.specs.declared.summary.Summary.{Summary}

-- three submits, a kick and a recover
abbrev pub few_steps : List (ℕ × ℕ × Step)
few_steps =
    (0, 0, Submit 1 0 (Read 0 8) 5 30000) ∷ (0, 0, Kick 0) ∷ (1, 0, Submit 2 1 Flush 5 30000) ∷ (1, 0, Recover) ∷ (0, 0, Submit 3 0 Flush 5 30000) ∷ []

-- the first of two ports boots, takes command 1, answers it without a device, refuses 2, recovers and takes 3
abbrev pub first_port : List EntryView
first_port =
    record { at = 0; who = ByBoot; seq = 0; step = Boot; acts = Attached 0 ∷ [] }
    ∷ record { at = 0; who = Actor 0; seq = 0; step = Submit 1 0 (Read 0 8) 5 30000; acts = Accepted 1 ∷ [] }
    ∷ record { at = 0; who = Actor 0; seq = 1; step = Kick 0; acts = AnsweredNodev 1 (record { n = 0 }) ∷ [] }
    ∷ record { at = 0; who = Actor 1; seq = 0; step = Submit 2 1 Flush 5 30000; acts = Refused 2 NoDevice ∷ [] }
    ∷ record { at = 0; who = Actor 1; seq = 1; step = Recover; acts = Begun ∷ Ended ∷ [] }
    ∷ record { at = 0; who = Actor 0; seq = 2; step = Submit 3 0 Flush 5 30000; acts = Accepted 3 ∷ [] }
    ∷ []

-- the second boots without a drive
abbrev pub second_port : List EntryView
second_port = record { at = 0; who = ByBoot; seq = 0; step = Boot; acts = [] } ∷ []

-- what these come to
abbrev pub few_counts : Summary
few_counts = record {
  commands = 3;
  accepted = 2;
  refused = 1;
  issued = 0;
  ok = 0;
  failed = 0;
  nodev = 1;
  retried = 0;
  runs = 1;
  recorded = 0;
  entries = 7;
  live = 1;
}
