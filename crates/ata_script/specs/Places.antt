-- Where the drives of a port stand.
use Rattle.std.specs.Prelude.{ℕ, Bool, true, false, ◌&&◌, ◌||◌, not, nat_eq, nat_lt, List, [], ◌∷◌, Option, Some, None}

-- whether a place is this one
abbrev pub is_place : ℕ → Option ℕ → Bool
is_place place None = false
is_place place (Some other) = nat_eq place other

-- whether one of these is that place
abbrev pub is_taken : ℕ → List (Option ℕ) → Bool
is_taken place [] = false
is_taken place (other ∷ rest) = is_place place other || is_taken place rest

-- whether it is a place of a port with so many; a spare drive has none
abbrev pub is_within : ℕ → Option ℕ → Bool
is_within places None = true
is_within places (Some place) = nat_lt place places

-- whether it is a place at which none of these stands
abbrev pub is_free : List (Option ℕ) → Option ℕ → Bool
is_free taken None = true
is_free taken (Some place) = not (is_taken place taken)

-- whether each is a place of a port with so many
abbrev pub are_within : ℕ → List (Option ℕ) → Bool
are_within places [] = true
are_within places (place ∷ rest) = is_within places place && are_within places rest

-- whether no two are the same place
abbrev pub are_apart : List (Option ℕ) → Bool
are_apart [] = true
are_apart (place ∷ rest) = is_free rest place && are_apart rest
