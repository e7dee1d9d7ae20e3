use Rattle.std.proofs.Common.{◌≡◌, ℕ, ◌+◌, ◌<◌, min, nat_lt, Bool, true, false, List, [], ◌∷◌, ◌++◌, Option, None, Some, length, take, get_or, filter, filter_map, option_map, refl, ap, if◌then◌else◌}
use Rattle.std.specs.List.{reduce, cons_option}
use Rattle.std.proofs.lemmas.List.{append-nil, take_more}
use Rattle.std.proofs.lemmas.List.Elements.{filter-append, filter_map-append}
use Rattle.std.proofs.lemmas.List.Sums.{fold-append}
use Rattle.host_tags.specs.declared.in_flight.InFlight.{InFlight}
use Rattle.host_timer.specs.Due.{drain_time}
use Rattle.host_timer.specs.Coming.{deadline_in, coming_of, time_above, lesser}

-- the least of some times and of one more, if there is one more
least_more : (xs : List ℕ) (more : Option ℕ) → reduce min (xs ++ cons_option more []) ≡ lesser (reduce min xs) more
least_more [] None = refl
least_more [] (Some y) = refl
least_more (x ∷ xs) None = rw (append-nil xs) refl
least_more (x ∷ xs) (Some y) = ap Some (fold-append min x xs (y ∷ []))

kept : (time : ℕ) (above : Bool) → (if above then time ∷ [] else []) ≡ cons_option (if above then Some time else None) []
kept time true = refl
kept time false = refl

above_one : (clock : ℕ) (time : Option ℕ) → filter (nat_lt clock) (cons_option time []) ≡ cons_option (time_above clock time) []
above_one clock None = refl
above_one clock (Some time) = kept time (nat_lt clock time)

-- the least time of a list above the clock, and of one time more
pub above_more :
    (clock : ℕ) (times : List ℕ) (time : Option ℕ)
    → reduce min (filter (nat_lt clock) (times ++ cons_option time []))
    ≡ lesser (reduce min (filter (nat_lt clock) times)) (time_above clock time)
above_more clock times time =
    rw (filter-append (nat_lt clock) times (cons_option time []), above_one clock time)
    (least_more (filter (nat_lt clock) times) (time_above clock time))

-- the least deadline above the clock of the first slots, and of one slot more
pub coming_more :
    (clock : ℕ) (slots : List (Option InFlight)) (tag : ℕ) (slot : Option InFlight) → tag < length slots
    → reduce min (filter (nat_lt clock) (filter_map deadline_in (take (tag + 1) slots)))
    ≡ lesser (reduce min (filter (nat_lt clock) (filter_map deadline_in (take tag slots))))
    (time_above clock (deadline_in (get_or slots tag slot)))
coming_more clock slots tag slot within =
    rw (take_more slots tag slot within, filter_map-append deadline_in (take tag slots) (get_or slots tag slot ∷ []))
    (above_more clock (filter_map deadline_in (take tag slots)) (deadline_in (get_or slots tag slot)))

-- the least time of all slots, and that of giving up
pub coming_all :
    (clock : ℕ) (quiet : Option ℕ) (slots : List (Option InFlight))
    → coming_of clock quiet slots
    ≡ lesser (reduce min (filter (nat_lt clock) (filter_map deadline_in slots))) (time_above clock (option_map drain_time quiet))
coming_all clock None slots = above_more clock (filter_map deadline_in slots) None
coming_all clock (Some since) slots = above_more clock (filter_map deadline_in slots) (Some (drain_time since))
