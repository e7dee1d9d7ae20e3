-- What a block of acts leaves of the issues in flight, told number by number.
use Rattle.std.proofs.Common.{◌≡◌, ℕ, ◌||◌, ◌⊎◌, inl, inr, Bool, true, false, List, [], ◌∷◌, ◌++◌, Option, None, Some, refl}
use Rattle.ata_trace.specs.Event.{Event, onto}
use Rattle.ata_trace.specs.Event.Event.{Told}
use Rattle.ata_trace.specs.declared.act.Act.{Act}
use Rattle.host_tags.specs.declared.in_flight.InFlight.{InFlight}
use Rattle.port_past.specs.Slots.{slots}
use Rattle.ata_base.specs.Each.{Each}
use Rattle.host_tags.specs.EachFlight.{EachFlight}
use Rattle.ata_base.proofs.Truth.{either_true}

-- this holds of the issue of a number, if it is in flight
abbrev pub HoldsOf : (InFlight → Type 0) → ℕ → List (Option InFlight) → Type 0
HoldsOf R n slots = EachFlight (λ f. f.number.n ≡ n → R f) slots

-- whether one of these acts names a number
abbrev pub is_named : (ℕ → Act → Bool) → ℕ → List Act → Bool
is_named names n [] = false
is_named names n (act ∷ rest) = names n act || is_named names n rest

either_step : (x y z w : Bool) → y ≡ (z || w) → (x || y) ≡ ((x || z) || w)
either_step true y z w is = refl
either_step false y z w is = is

pub named_append :
    (names : ℕ → Act → Bool) (n : ℕ) (acts more : List Act)
    → is_named names n (acts ++ more) ≡ (is_named names n acts || is_named names n more)
named_append names n [] more = refl
named_append names n (act ∷ rest) more = either_step (names n act) _ _ _ (named_append names n rest more)

-- where each act of a block keeps what holds, and makes it hold of a number that it names, it holds after the block of
-- each number that is named or of which it held before
pub block_onto :
    (R : InFlight → Type 0) (IsOf : Act → Type 0) (names : ℕ → Act → Bool)
    → ((n : ℕ) (past : List Event) (act : Act) → IsOf act → HoldsOf R n (slots past) → HoldsOf R n (slots (Told act ∷ past)))
    → ((n : ℕ) (past : List Event) (act : Act) → names n act ≡ true → HoldsOf R n (slots (Told act ∷ past)))
    → (n : ℕ) (past : List Event) (acts : List Act) → Each IsOf acts → (is_named names n acts ≡ true) ⊎ HoldsOf R n (slots past)
    → HoldsOf R n (slots (onto past acts))
block_onto R IsOf names stays becomes n past [] of (inl none) = absurd (cc)
block_onto R IsOf names stays becomes n past [] of (inr was) = was
block_onto R IsOf names stays becomes n past (act ∷ rest) of (inr was) =
    block_onto R IsOf names stays becomes n (Told act ∷ past) rest of.1 (inr (stays n past act of.0 was))
block_onto R IsOf names stays becomes n past (act ∷ rest) of (inl some) =
    elim (either_true (names n act) (is_named names n rest) some) [
      | inl here ↦ block_onto R IsOf names stays becomes n (Told act ∷ past) rest of.1 (inr (becomes n past act here))
      | inr later ↦ block_onto R IsOf names stays becomes n (Told act ∷ past) rest of.1 (inl later)
    ]

-- what holds of each number holds of each issue
pub holds_each : (R : InFlight → Type 0) (slots : List (Option InFlight)) → ((n : ℕ) → HoldsOf R n slots) → EachFlight R slots
holds_each R [] holds = tt
holds_each R (None ∷ slots) holds = holds_each R slots holds
holds_each R (Some f ∷ slots) holds = ((holds f.number.n).0 refl, holds_each R slots (λ n. (holds n).1))
