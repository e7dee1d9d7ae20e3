-- The settling of a port, a round at a time, and a part of it.
use Rattle.std.specs.Prelude.{◌≡◌, ◌⊎◌, ◌≤◌, ℕ, Bool, List, [], ◌∷◌, ◌++◌, length, take}
use Rattle.std.specs.List.{list_all}
use Rattle.ata_script.specs.declared.port_head.PortHead.{PortHead}
use Rattle.ata_trace.specs.Entries.{EntryView, past_of}
use Rattle.ata_trace.specs.Event.{Event}
use Rattle.ata_trace.specs.declared.step.Step.{Step}
use Rattle.ata_trace.specs.declared.who.Who.TheVariants.{Settle}
use Rattle.port_core.specs.Hosts.{journals_in, settled_of}
use Rattle.port_core.specs.PortView.{PortView}
use Rattle.port_past.specs.Settlings.{settle_count}
use Rattle.port_rules.specs.Legal.{entry_after}
use Rattle.port_rules.specs.Run.{run_from}
use Rattle.port_rules.specs.Settle.{calls_from, is_idle_act, round_steps, settling}

-- the entry of the next step of the settling
abbrev pub settle_entry : PortHead → List Event → Step → EntryView
settle_entry head past step = entry_after head past Settle (settle_count past) step

-- whether an entry has only acts of an idle round
abbrev pub is_idle_entry : EntryView → Bool
is_idle_entry entry = list_all is_idle_act entry.acts

-- the entries that these steps of the settling make after some entries
abbrev pub made_after : PortHead → List EntryView → List Step → List EntryView
made_after head entries steps = run_from head (past_of entries) (calls_from (settle_count (past_of entries)) steps)

-- the entries of a round after some entries
abbrev pub round_after : PortHead → List EntryView → List EntryView
round_after head entries = made_after head entries (round_steps head)

-- entries are the first of all, and at least those before
pub record IsPartOf (all before after : List EntryView) : Type 0 where
  pub part : after ≡ take (length after) all
  pub kept : length before ≤ length after

-- the entries after a settling that was cut short are the first of those before it and of the settling entries
abbrev pub IsSettledInPart : PortHead → ℕ → List EntryView → List EntryView → Type 0
IsSettledInPart head rounds before after = IsPartOf (before ++ settling head rounds (past_of before)) before after

-- ports keep their numbers and their heads
abbrev pub AreSamePorts : List PortView → List PortView → Type 0
AreSamePorts [] [] = Unit {0}
AreSamePorts (before ∷ rest) (after ∷ later) =
    (after.number ≡ before.number) × (after.head ≡ before.head) × AreSamePorts rest later
AreSamePorts _ _ = ⊥

-- of these ports one has a part of its settling, those before it are settled and those after it stay
abbrev pub AreCutShort : ℕ → List PortView → List PortView → Type 0
AreCutShort rounds (before ∷ rest) (after ∷ later) =
    ((after.entries ≡ settled_of rounds before) × AreCutShort rounds rest later)
    ⊎ (IsSettledInPart before.head rounds before.entries after.entries × (journals_in later ≡ journals_in rest))
AreCutShort rounds _ _ = ⊥
