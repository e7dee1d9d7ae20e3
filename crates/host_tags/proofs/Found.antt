-- What is found by its number, and what isn't.
use Rattle.std.proofs.Common.{◌≡◌, ℕ, ◌<◌, ◌≤◌, Bool, true, false, cond, nat_lt, List, [], ◌∷◌, Option, None, Some, suc, length, get_or, refl, arith}
use Rattle.std.specs.List.{position_or_len}
use Rattle.std.proofs.lemmas.Bool.{eqb-true, eq-eqb, ltb-false}
use Rattle.std.proofs.lemmas.List.Sums.{fails_before_first}
use Rattle.host_tags.specs.Numbers.{is_issue, tag_of, IsFresh}
use Rattle.host_tags.specs.declared.in_flight.InFlight.{InFlight}

-- what isn't found by its number isn't in flight
fresh_of :
    (n : ℕ) (slots : List (Option InFlight)) → ((k : ℕ) → k < length slots → is_issue n (get_or slots k None) ≡ false) → IsFresh n slots
fresh_of n [] none = tt
fresh_of n (None ∷ slots) none = fresh_of n slots (λ k within. none (suc k) (omega (arith, within)))
fresh_of n (Some f ∷ slots) none = (
  λ same. absurd (cc (none 0 (omega arith), eq-eqb f.number.n n same)),
  fresh_of n slots (λ k within. none (suc k) (omega (arith, within))),
)

not_found : (b : Bool) (k : ℕ) → cond b (Some k) None ≡ None → b ≡ false
not_found true k is = absurd (cc)
not_found false k is = refl

pub fresh_unfound : (n : ℕ) (slots : List (Option InFlight)) → tag_of n slots ≡ None → IsFresh n slots
fresh_unfound n slots is =
    let first = position_or_len (is_issue n) slots in
    let past_end : length slots ≤ first = ltb-false first (length slots) (not_found (nat_lt first (length slots)) first is) in
    fresh_of n slots (λ k within. fails_before_first (is_issue n) slots k None (omega (arith, within, past_end)))

-- the issue in a slot that has this number
pub named : (n : ℕ) (slot : Option InFlight) → is_issue n slot ≡ true → (f : InFlight) × ((slot ≡ Some f) × (f.number.n ≡ n))
named n None is = absurd (cc)
named n (Some f) is = (f, (refl, eqb-true f.number.n n is))
