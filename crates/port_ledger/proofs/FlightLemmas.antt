-- Issues in flight, of which one is found by its number.
use Rattle.std.proofs.Common.{cond, ◌∙◌, ◌+◌, add-one, subst, drop, length, ◌≡◌, ℕ, ◌<◌, ◌≤◌, Bool, true, false, IsTrue, List, [], ◌∷◌, Option, None, Some, suc, zero, refl, sym, arith}
use Rattle.std.proofs.lemmas.Grind.{common_steps}
use Rattle.std.proofs.lemmas.List.{drop_all, take_all}
use Rattle.std.specs.List.{position, position_or_len}
use Rattle.std.proofs.lemmas.Bool.{eq-eqb, eqb-true}
use Rattle.ata_base.specs.declared.err_mask.ErrMask.{ErrMask}
use Rattle.host_tags.specs.declared.in_flight.InFlight.{InFlight}
use Rattle.host_tags.specs.Marks.{condemned, expired}
use Rattle.host_tags.specs.Numbers.{is_issue, flight_of, tag_of, without, changed_by_number, IsFresh, AreApart, AreUpTo, KeepsNumber}
use Rattle.host_tags.specs.Slots.{flight_at, free_below, is_busy, lowest_free, no_flights, put, released, marked}
use Rattle.host_tags.proofs.NumberLemmas.{apart_marked, fresh_at, flight_of_here, other_issue, without_here, changed_here}

-- no issue at all is apart
pub apart_none : AreApart no_flights
apart_none = tt

-- ---- a tag whose issue has the number

pub issue_here : (n : ℕ) (slot : Option InFlight) (P : Option InFlight → Type 0) → is_issue n slot ≡ true
    → ((f : InFlight) → f.number.n ≡ n → P (Some f)) → P slot
issue_here n None P is use_it = absurd (cc)
issue_here n (Some f) P is use_it = use_it f (eqb-true _ _ is)

-- it is busy
pub busy_found : (t n : ℕ) (slots : List (Option InFlight)) → is_issue n (flight_at slots t) ≡ true → IsTrue (is_busy slots t)
busy_found t n slots is =
    issue_here n (flight_at slots t) (λ slot. flight_at slots t ≡ slot → IsTrue (is_busy slots t)) is
    (λ f same here. rw here refl) refl

-- the issue of a number stands under its tag
pub flight_found :
    (t n : ℕ) (slots : List (Option InFlight)) → AreApart slots → is_issue n (flight_at slots t) ≡ true
    → flight_of n slots ≡ flight_at slots t
flight_found t n slots apart is =
    issue_here n (flight_at slots t) (λ slot. flight_at slots t ≡ slot → flight_of n slots ≡ slot) is
    (λ f same here. rw (← same) (flight_of_here t f slots apart here)) refl

-- and nowhere, where no issue has the number
pub flight_fresh : (n : ℕ) (slots : List (Option InFlight)) → IsFresh n slots → flight_of n slots ≡ None
flight_fresh n [] h = refl
flight_fresh n (None ∷ slots) h = flight_fresh n slots h
flight_fresh n (Some g ∷ slots) h = rw (other_issue n g h.0) (flight_fresh n slots h.1)

-- the issue of a number leaves by its tag
pub without_found :
    (t n : ℕ) (slots : List (Option InFlight)) → AreApart slots → is_issue n (flight_at slots t) ≡ true
    → without n slots ≡ released t slots
without_found t n slots apart is =
    issue_here n (flight_at slots t) (λ slot. flight_at slots t ≡ slot → without n slots ≡ released t slots) is
    (λ f same here. rw (← same) (without_here t f slots apart here)) refl

-- it is changed by its tag
pub changed_found :
    (t n : ℕ) (change : InFlight → InFlight) (slots : List (Option InFlight)) → AreApart slots
    → is_issue n (flight_at slots t) ≡ true → changed_by_number change n slots ≡ marked change t slots
changed_found t n change slots apart is =
    issue_here n (flight_at slots t) (λ slot. flight_at slots t ≡ slot → changed_by_number change n slots ≡ marked change t slots) is
    (λ f same here. rw (← same) (changed_here t f change slots apart here)) refl

-- a condemned one is put under its tag
pub condemned_found :
    (t n : ℕ) (kinds : ErrMask) (f : InFlight) (slots : List (Option InFlight)) → AreApart slots
    → is_issue n (flight_at slots t) ≡ true → flight_at slots t ≡ Some f
    → changed_by_number (condemned kinds) n slots ≡ put t (condemned kinds f) slots
condemned_found t n kinds f slots apart is here = rw (changed_found t n (condemned kinds) slots apart is, here) refl

pub condemned_apart :
    (t : ℕ) (kinds : ErrMask) (f : InFlight) (slots : List (Option InFlight)) → AreApart slots → flight_at slots t ≡ Some f
    → AreApart (put t (condemned kinds f) slots)
condemned_apart t kinds f slots apart here = rw here at (apart_marked t (condemned kinds) slots (λ g. refl) apart)

pub expired_apart :
    (t : ℕ) (slots : List (Option InFlight)) → AreApart slots → AreApart (marked expired t slots)
expired_apart t slots apart = apart_marked t expired slots (λ f. refl) apart

-- a number that no slot from a tag on has, and the slot before neither
pub fresh_from :
    (n t : ℕ) (slots : List (Option InFlight)) → is_issue n (flight_at slots t) ≡ false
    → IsFresh n (drop (t + 1) slots) → IsFresh n (drop t slots)
fresh_from n zero [] other rest = tt
fresh_from n (suc t) [] other rest = tt
fresh_from n zero (None ∷ slots) other rest = rest
fresh_from n zero (Some f ∷ slots) other rest = (λ e. absurd (let yes = eq-eqb _ _ e in cc), rest)
fresh_from n (suc t) (slot ∷ slots) other rest =
    fresh_from n t slots other (subst (λ k. IsFresh n (drop k slots)) (sym (add-one t)) (rw (add-one (suc t)) at rest))

-- no slot is past the last one
pub fresh_past :
    (n t : ℕ) (slots : List (Option InFlight)) → length slots ≤ t → IsFresh n (drop t slots)
fresh_past n t slots past = rw (drop_all t slots past) tt

-- ---- no number is above the last one, once an issue has left or is changed

up_to_if_left : (last : ℕ) (b : Bool) (f : InFlight) (rest : List (Option InFlight)) → f.number.n ≤ last → AreUpTo last rest → AreUpTo last ((cond b None (Some f)) ∷ rest)
up_to_if_left last true f rest le up = up
up_to_if_left last false f rest le up = (le, up)

pub up_to_without : (last n : ℕ) (slots : List (Option InFlight)) → AreUpTo last slots → AreUpTo last (without n slots)
up_to_without last n [] up = tt
up_to_without last n (None ∷ slots) up = up_to_without last n slots up
up_to_without last n (Some f ∷ slots) up = up_to_if_left last (is_issue n (Some f)) f (without n slots) up.0 (up_to_without last n slots up.1)

up_to_if_changed : (last : ℕ) (b : Bool) (f g : InFlight) (rest : List (Option InFlight)) → f.number.n ≤ last → g.number.n ≤ last → AreUpTo last rest → AreUpTo last ((cond b (Some g) (Some f)) ∷ rest)
up_to_if_changed last true f g rest le less up = (less, up)
up_to_if_changed last false f g rest le less up = (le, up)

up_to_changed : (last n : ℕ) (change : InFlight → InFlight) (slots : List (Option InFlight)) → KeepsNumber change → AreUpTo last slots → AreUpTo last (changed_by_number change n slots)
up_to_changed last n change [] keeps up = tt
up_to_changed last n change (None ∷ slots) keeps up = up_to_changed last n change slots keeps up
up_to_changed last n change (Some f ∷ slots) keeps up =
    up_to_if_changed last (is_issue n (Some f)) f (change f) (changed_by_number change n slots) up.0 (rw (keeps f) up.0) (up_to_changed last n change slots keeps up.1)

pub up_to_condemned : (last n : ℕ) (kinds : ErrMask) (slots : List (Option InFlight)) → AreUpTo last slots → AreUpTo last (changed_by_number (condemned kinds) n slots)
up_to_condemned last n kinds slots up = up_to_changed last n (condemned kinds) slots (λ f. refl) up

pub up_to_expired : (last n : ℕ) (slots : List (Option InFlight)) → AreUpTo last slots → AreUpTo last (changed_by_number expired n slots)
up_to_expired last n slots up = up_to_changed last n expired slots (λ f. refl) up

-- none is above the last number where no issue is in flight
pub up_to_none : (last : ℕ) → AreUpTo last no_flights
up_to_none last = tt

-- ---- the tag of an issue

pub not_this : (n : ℕ) (g : InFlight) (t : ℕ) (slots : List (Option InFlight)) → IsFresh g.number.n slots → is_issue n (flight_at slots t) ≡ true → is_issue n (Some g) ≡ false
not_this n g t slots fresh is =
    issue_here n (flight_at slots t) (λ slot. flight_at slots t ≡ slot → is_issue n (Some g) ≡ false) is
    (λ f same here. other_issue n g (λ e. fresh_at g.number.n t f slots fresh here (same ∙ sym e))) refl

found_by : (p : Option InFlight → Bool) (slots : List (Option InFlight)) (t : ℕ) → position_or_len p slots ≡ t → t < length slots → position p slots ≡ Some t
found_by p slots t is within = grind (arith, common_steps)

none_by : (p : Option InFlight → Bool) (slots : List (Option InFlight)) → position_or_len p slots ≡ length slots → position p slots ≡ None
none_by p slots is = grind (arith, common_steps)

-- where the issue of a number stands
stands_at : (t n : ℕ) (slots : List (Option InFlight)) → AreApart slots → is_issue n (flight_at slots t) ≡ true → (position_or_len (is_issue n) slots ≡ t) × (t < length slots)
stands_at t n [] apart is = absurd (cc)
stands_at zero n (slot ∷ slots) apart is = (rw is refl, omega arith)
stands_at (suc t) n (None ∷ slots) apart is = let rest = stands_at t n slots apart is in (omega (arith, rest.0), omega (arith, rest.1))
stands_at (suc t) n (Some g ∷ slots) apart is =
    let rest = stands_at t n slots apart.1 is in
    (rw (not_this n g t slots apart.0 is) (omega (arith, rest.0)), omega (arith, rest.1))

stands_nowhere : (n : ℕ) (slots : List (Option InFlight)) → IsFresh n slots → position_or_len (is_issue n) slots ≡ length slots
stands_nowhere n [] h = refl
stands_nowhere n (None ∷ slots) h = omega (arith, stands_nowhere n slots h)
stands_nowhere n (Some g ∷ slots) h = rw (other_issue n g h.0) (omega (arith, stands_nowhere n slots h.1))

-- the issue of a number has its tag
pub tag_found : (t n : ℕ) (slots : List (Option InFlight)) → AreApart slots → is_issue n (flight_at slots t) ≡ true → tag_of n slots ≡ Some t
tag_found t n slots apart is = let at = stands_at t n slots apart is in found_by (is_issue n) slots t at.0 at.1

-- and none, where no issue has the number
pub tag_fresh : (n : ℕ) (slots : List (Option InFlight)) → IsFresh n slots → tag_of n slots ≡ None
tag_fresh n slots fresh = none_by (is_issue n) slots (stands_nowhere n slots fresh)

-- a tag of all is a tag below 32
pub all_free : (slots : List (Option InFlight)) → length slots ≡ 32 → free_below 32 slots ≡ lowest_free slots
all_free slots size = rw (take_all 32 slots (omega arith)) refl
