-- The entries behind the first of a journal, as moves of actors.
use Rattle.std.specs.Prelude.{◌≡◌, ℕ, List, [], ◌∷◌, map, All}
use Rattle.ata_trace.specs.Entries.{EntryView}
use Rattle.ata_trace.specs.declared.step.Step.{Step}
use Rattle.ata_trace.specs.declared.who.Who.{Who}
use Rattle.ata_trace.specs.declared.who.Who.TheVariants.{Actor}
use Rattle.turnstile.specs.declared.entry.Entry.{Entry}

-- the number of an actor; no other account has one, and 0 stands for it
abbrev pub actor_of : Who → ℕ
actor_of (Actor actor) = actor
actor_of _ = 0

-- which actor made an entry, under which number, and the step
abbrev pub move_of : EntryView → Entry Step
move_of entry = record { actor = actor_of entry.who; seq = entry.seq; step = entry.step }

-- the moves of the entries behind the first
abbrev pub moves_in : List EntryView → List (Entry Step)
moves_in [] = []
moves_in (boot ∷ rest) = map move_of rest

-- an entry is an actor's
abbrev pub IsOfActor : EntryView → Type 0
IsOfActor entry = (actor : ℕ) × (entry.who ≡ Actor actor)

-- each entry behind the first is an actor's
abbrev pub AreOfActors : List EntryView → Type 0
AreOfActors [] = Unit {0}
AreOfActors (boot ∷ rest) = All IsOfActor rest
