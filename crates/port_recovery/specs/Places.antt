-- What an autopsy has told once it went over some places.
use Rattle.std.specs.Prelude.{◌≡◌, ℕ, ◌+◌, ◌*◌, ◌≤◌, ◌&&◌, nat_lt, List, [], ◌∷◌, Option, Some, None, flat_map, if◌then◌else◌}
use Rattle.std.specs.List.{range_with_len}
use Rattle.host_tags.specs.declared.in_flight.InFlight.{InFlight}
use Rattle.port_ledger.specs.LedgerView.{LedgerView}
use Rattle.port_rules.specs.Autopsy.{examined_acts}
use Rattle.port_rules.specs.Blame.{is_owned_by}
use Rattle.port_telling.specs.Adds.{Adds}
use Rattle.port_telling.specs.Walks.{slots_in}
use Rattle.port_recovery.specs.Findings.{view_in}

-- how many issues of a place recovery owns
abbrev pub owned_of : ℕ → List (Option InFlight) → ℕ
owned_of place [] = 0
owned_of place (None ∷ slots) = owned_of place slots
owned_of place (Some f ∷ slots) = (if is_owned_by place f then 1 else 0) + owned_of place slots

-- how many issues of the places below this recovery owns
abbrev pub owned_below : ℕ → List (Option InFlight) → ℕ
owned_below place [] = 0
owned_below place (None ∷ slots) = owned_below place slots
owned_below place (Some f ∷ slots) = (if f.owned && nat_lt f.place place then 1 else 0) + owned_below place slots

-- the places below this have their autopsies, at the cost of room for at most four acts a place and one for each issue,
-- and what is seen at the others is as it was at first
pub record IsExaminedUpTo (place : ℕ) (first later : LedgerView) : Type 0 where
  pub adds : Adds first later (flat_map (λ p. examined_acts (view_in first p)) (range_with_len 0 place))
  pub views : (other : ℕ) → place ≤ other → view_in later other ≡ view_in first other
  pub spare : first.room ≤ later.room + 4 * place + owned_below place (slots_in first)
  pub few : owned_below place (slots_in first) ≤ 32
