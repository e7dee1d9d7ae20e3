-- What is kept by tag, and what holds of each issue in flight.
use Rattle.std.specs.Prelude.{◌≡◌, ℕ, true, List, [], ◌∷◌, Option, None, Some, unwrap_or, slice_get}
use Rattle.host_tags.specs.declared.in_flight.InFlight.{InFlight}

-- what a list by tag keeps under a tag
abbrev pub kept_at : {A : Type 0} → List (Option A) → ℕ → Option A
kept_at xs tag = unwrap_or (slice_get xs tag) None

-- what holds of each issue in flight
abbrev pub EachFlight : (InFlight → Type 0) → List (Option InFlight) → Type 0
EachFlight P [] = Unit {0}
EachFlight P (None ∷ slots) = EachFlight P slots
EachFlight P (Some f ∷ slots) = P f × EachFlight P slots

-- recovery owns each issue in flight
abbrev pub AreOwned : List (Option InFlight) → Type 0
AreOwned slots = EachFlight (λ f. f.owned ≡ true) slots

-- no issue is in flight
abbrev pub AreNone : List (Option InFlight) → Type 0
AreNone slots = EachFlight (λ f. ⊥) slots
