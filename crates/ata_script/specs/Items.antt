-- What a line of a script says, and its words.
use Rattle.std.specs.Prelude.{ℕ, Bool, true, false, List, [], ◌∷◌, ◌++◌, codes, decimal, Option, Some, None}
use Rattle.ata_trace.specs.Text.{step_words}
use Rattle.ata_trace.specs.declared.step.Step.{Step}

-- the next port with its places, whether a multiplier is there, and what version 2 may add; the next drive
-- of a port, where it stands and what it tells; or a step of an actor at a port
pub data Item : Type 0 where
  Port : (number places : ℕ) → (pmp fbs drain : Bool) → Item
  Drive : (port number : ℕ) → (place : Option ℕ) → (model serial : List ℕ) → (sectors depth generation ready : ℕ) → Item
  Taken : (actor port : ℕ) → (step : Step) → Item

-- a place, or `-` where there is none
abbrev pub place_word : Option ℕ → List ℕ
place_word None = codes "-"
place_word (Some place) = decimal place

-- a word where it is so
abbrev pub word_if : Bool → List ℕ → List (List ℕ)
word_if false word = []
word_if true word = word ∷ []

-- how a port is linked
abbrev pub link_words : ℕ → Bool → List (List ℕ)
link_words places false = codes "direct" ∷ []
link_words places true = codes "pmp" ∷ decimal places ∷ []

-- the words of the line of an item
abbrev pub item_words : Item → List (List ℕ)
item_words (Port number places pmp fbs drain) =
    codes "port" ∷ decimal number ∷ (link_words places pmp ++ word_if fbs (codes "fbs") ++ word_if drain (codes "drain"))
item_words (Drive port number place model serial sectors depth generation ready) =
    codes "drive" ∷ decimal port ∷ decimal number ∷ place_word place ∷ model ∷ serial
    ∷ decimal sectors ∷ decimal depth ∷ decimal generation ∷ decimal ready ∷ []
item_words (Taken actor port step) = decimal actor ∷ decimal port ∷ step_words step
