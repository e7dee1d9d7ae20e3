-- What a pass has, as plain data.
use Rattle.std.specs.Prelude.{◌≡◌, ℕ, ◌-◌, ◌+◌, ◌^◌, List, [], ◌∷◌, ◌++◌, slice_index_or, All}
use mathlib.Core.List.{IsPrefix}
use Rattle.ata_trace.specs.declared.step.Step.{Step}
use Rattle.atomic_table.specs.Seated.{TableId}
use Rattle.turnstile.specs.Places.{merged, longer, Rises}
use Rattle.turnstile.specs.Weaves.{entries_at}
use Rattle.turnstile.specs.declared.entry.Entry.{Entry}

-- the turnstile at which a pass was made, its share, what it has seen, and its own entries with their places
pub record Held : Type 0 where
  pub at : TableId
  pub share : ℕ
  pub seen : List (Entry Step)
  pub own : List (ℕ × Entry Step)

-- where there is no pass
abbrev pub nothing : Held
nothing = record {
  at = record { words = 0; slots = 0; views_name = 0; atom = 0; block = 0; offset = 0; slot_names = [] };
  share = 0;
  seen = [];
  own = [];
}

-- what the pass of a port has
abbrev pub held_at : List Held → ℕ → Held
held_at passes port = slice_index_or passes port nothing

-- where it was made
abbrev pub at_of : Held → TableId
at_of h = h.at

-- the first pass of a turnstile
abbrev pub newcomer : TableId → Held
newcomer place = record { at = place; share = 2 ^ 32; seen = []; own = [] }

-- a pass that gave a share away
abbrev pub lessened : Held → Held
lessened h = record { at = h.at; share = h.share - 1; seen = h.seen; own = h.own }

-- the pass that got it
abbrev pub single : Held → Held
single h = record { at = h.at; share = 1; seen = h.seen; own = [] }

-- two passes in one
abbrev pub joined : Held → Held → Held
joined h k = record { at = h.at; share = h.share + k.share; seen = longer h.seen k.seen; own = merged h.own k.own }

-- the same port by port
abbrev pub joined_all : List Held → List Held → List Held
joined_all [] ks = []
joined_all (h ∷ hs) [] = []
joined_all (h ∷ hs) (k ∷ ks) = joined h k ∷ joined_all hs ks

-- own entries stand in the order of their places
abbrev pub AllRise : List Held → Type 0
AllRise passes = All (λ h. Rises 0 h.own) passes

-- a pass of the same turnstile with the same share, which has seen what the old one has, and has these entries of its own
-- more, behind the old ones
pub record Grew (old : Held) (more : List (Entry Step)) (new : Held) : Type 0 where
  pub at : new.at ≡ old.at
  pub share : new.share ≡ old.share
  pub seen : IsPrefix old.seen new.seen
  pub own : entries_at new.own ≡ entries_at old.own ++ more
