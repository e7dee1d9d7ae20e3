-- What an answer leaves in flight, and what it leaves of a walk from a tag on.
use Rattle.std.proofs.Common.{◌≡◌, ◌∙◌, ℕ, ◌==◌, Bool, true, false, List, [], ◌∷◌, Option, None, Some, suc, zero, drop, refl, sym, ap, subst, if◌then◌else◌}
use Rattle.std.proofs.lemmas.Bool.{eqb-true}
use Rattle.host_tags.specs.Numbers.{is_issue, without, IsFresh}
use Rattle.host_tags.specs.declared.in_flight.InFlight.{InFlight}
use Rattle.port_past.specs.Answers.{issue_told}
use Rattle.port_past.specs.ByTag.{set_where}
use Rattle.port_past.specs.Slots.{without_left}
use Rattle.host_tags.specs.EachFlight.{EachFlight}
use Rattle.host_tags.proofs.FlightLemmas.{each_without}
use Rattle.host_tags.proofs.NumberLemmas.{other_issue, without_fresh}

-- what an answer leaves that may be of no issue
each_told_by :
    (P : InFlight → Type 0) (n : ℕ) (b : Bool) (slots : List (Option InFlight)) → EachFlight P slots
    → EachFlight P (without_left (if b then None else Some n) slots)
each_told_by P n true slots all = all
each_told_by P n false slots all = each_without P n slots all

pub each_told :
    (P : InFlight → Type 0) (n : ℕ) (slots : List (Option InFlight)) → EachFlight P slots
    → EachFlight P (without_left (issue_told n) slots)
each_told P n slots all = each_told_by P n (n == 0) slots all

told_by :
    (n : ℕ) (b : Bool) (slots : List (Option InFlight)) → (n == 0) ≡ b → IsFresh 0 slots
    → without_left (if b then None else Some n) slots ≡ without n slots
told_by n true slots is fresh = subst (λ m. slots ≡ without m slots) (sym (eqb-true n 0 is)) (sym (without_fresh 0 slots fresh))
told_by n false slots is fresh = refl

-- where no issue has the number 0, an answer leaves what it leaves by its number
pub told_leaves : (n : ℕ) (slots : List (Option InFlight)) → IsFresh 0 slots → without_left (issue_told n) slots ≡ without n slots
told_leaves n slots fresh = told_by n (n == 0) slots refl fresh

set_where_none :
    {A : Type 0} (test : Option InFlight → Bool) (value : A) (xs : List A) → set_where test value [] xs ≡ xs
set_where_none test value [] = refl
set_where_none test value (x ∷ xs) = refl

set_where_nothing :
    {A : Type 0} (test : Option InFlight → Bool) (value : A) (slots : List (Option InFlight))
    → set_where test value slots [] ≡ []
set_where_nothing test value [] = refl
set_where_nothing test value (slot ∷ slots) = refl

drop_set_where :
    {A : Type 0} (test : Option InFlight → Bool) (value : A) (k : ℕ) (slots : List (Option InFlight)) (xs : List A)
    → drop k (set_where test value slots xs) ≡ set_where test value (drop k slots) (drop k xs)
drop_set_where test value zero slots xs = refl
drop_set_where test value (suc k) [] xs =
    ap (drop (suc k)) (set_where_none test value xs) ∙ sym (set_where_none test value (drop (suc k) xs))
drop_set_where test value (suc k) (slot ∷ slots) [] = sym (set_where_nothing test value (drop k slots))
drop_set_where test value (suc k) (slot ∷ slots) (x ∷ xs) = drop_set_where test value k slots xs

set_where_free :
    {A : Type 0} (n : ℕ) (value : A) (slots : List (Option InFlight)) (xs : List A) → IsFresh n slots
    → set_where (is_issue n) value slots xs ≡ xs
set_where_free n value [] [] h = refl
set_where_free n value [] (x ∷ xs) h = refl
set_where_free n value (slot ∷ slots) [] h = refl
set_where_free n value (None ∷ slots) (x ∷ xs) h = ap (λ ys. x ∷ ys) (set_where_free n value slots xs h)
set_where_free n value (Some g ∷ slots) (x ∷ xs) h = rw (other_issue n g h.0, set_where_free n value slots xs h.1) refl

pub rest_set_where :
    {A : Type 0} (n : ℕ) (value : A) (k : ℕ) (slots rest : List (Option InFlight)) (xs more : List A)
    → drop k slots ≡ rest → drop k xs ≡ more → IsFresh n rest → drop k (set_where (is_issue n) value slots xs) ≡ more
rest_set_where n value k slots rest xs more is same fresh =
    drop_set_where (is_issue n) value k slots xs
    ∙ ap (λ s. set_where (is_issue n) value s (drop k xs)) is
    ∙ ap (set_where (is_issue n) value rest) same
    ∙ set_where_free n value rest more fresh
