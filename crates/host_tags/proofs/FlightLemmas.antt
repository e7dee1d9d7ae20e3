-- What holds of each issue in flight, and what a walk over the slots finds once the acts of earlier tags are told.
use Rattle.std.proofs.Common.{◌≡◌, ◌≢◌, ◌∙◌, ℕ, ◌==◌, Bool, true, false, List, [], ◌∷◌, Option, None, Some, option_map, suc, zero, drop, refl, ap, subst, if◌then◌else◌}
use Rattle.host_tags.specs.Numbers.{without, changed_by_number, IsFresh, AreApart}
use Rattle.host_tags.specs.Slots.{flight_at, put}
use Rattle.host_tags.specs.declared.in_flight.InFlight.{InFlight}
use Rattle.host_tags.specs.EachFlight.{kept_at, EachFlight}
use Rattle.host_tags.proofs.NumberLemmas.{without_fresh}

-- ---- each issue in flight

pub each_at :
    (P : InFlight → Type 0) (slots : List (Option InFlight)) (tag : ℕ) (f : InFlight) → EachFlight P slots
    → flight_at slots tag ≡ Some f → P f
each_at P [] tag f all here = absurd (cc)
each_at P (None ∷ slots) zero f all here = absurd (cc)
each_at P (Some g ∷ slots) zero f all here = let same : g ≡ f = cc in subst P same all.0
each_at P (None ∷ slots) (suc tag) f all here = each_at P slots tag f all here
each_at P (Some g ∷ slots) (suc tag) f all here = each_at P slots tag f all.1 here

pub each_weaker :
    (P Q : InFlight → Type 0) → ((f : InFlight) → P f → Q f) → (slots : List (Option InFlight)) → EachFlight P slots
    → EachFlight Q slots
each_weaker P Q weaker [] all = tt
each_weaker P Q weaker (None ∷ slots) all = each_weaker P Q weaker slots all
each_weaker P Q weaker (Some f ∷ slots) all = (weaker f all.0, each_weaker P Q weaker slots all.1)

pub each_both :
    (P Q R : InFlight → Type 0) → ((f : InFlight) → P f → Q f → R f) → (slots : List (Option InFlight))
    → EachFlight P slots → EachFlight Q slots → EachFlight R slots
each_both P Q R both [] all other = tt
each_both P Q R both (None ∷ slots) all other = each_both P Q R both slots all other
each_both P Q R both (Some f ∷ slots) all other = (both f all.0 other.0, each_both P Q R both slots all.1 other.1)

pub each_put :
    (P : InFlight → Type 0) (tag : ℕ) (f : InFlight) (slots : List (Option InFlight)) → EachFlight P slots → P f
    → EachFlight P (put tag f slots)
each_put P tag f [] all new = tt
each_put P zero f (None ∷ slots) all new = (new, all)
each_put P zero f (Some g ∷ slots) all new = (new, all.1)
each_put P (suc tag) f (None ∷ slots) all new = each_put P tag f slots all new
each_put P (suc tag) f (Some g ∷ slots) all new = (all.0, each_put P tag f slots all.1 new)

each_without_by :
    (P : InFlight → Type 0) (b : Bool) (f : InFlight) (rest : List (Option InFlight)) → P f → EachFlight P rest
    → EachFlight P ((if b then None else Some f) ∷ rest)
each_without_by P true f rest one all = all
each_without_by P false f rest one all = (one, all)

pub each_without :
    (P : InFlight → Type 0) (n : ℕ) (slots : List (Option InFlight)) → EachFlight P slots → EachFlight P (without n slots)
each_without P n [] all = tt
each_without P n (None ∷ slots) all = each_without P n slots all
each_without P n (Some f ∷ slots) all =
    each_without_by P (f.number.n == n) f (without n slots) all.0 (each_without P n slots all.1)

each_marked_by :
    (P Q : InFlight → Type 0) (change : InFlight → InFlight) (b : Bool) (f : InFlight) (rest : List (Option InFlight))
    → (b ≡ true → P f → Q (change f)) → (b ≡ false → P f → Q f) → P f → EachFlight Q rest
    → EachFlight Q ((if b then option_map change (Some f) else Some f) ∷ rest)
each_marked_by P Q change true f rest new old one all = (new refl one, all)
each_marked_by P Q change false f rest new old one all = (old refl one, all)

-- the issue of a number is changed, the others aren't
pub each_marked :
    (P Q : InFlight → Type 0) (change : InFlight → InFlight) (n : ℕ) (slots : List (Option InFlight))
    → ((f : InFlight) → (f.number.n == n) ≡ true → P f → Q (change f)) → ((f : InFlight) → (f.number.n == n) ≡ false → P f → Q f)
    → EachFlight P slots → EachFlight Q (changed_by_number change n slots)
each_marked P Q change n [] new old all = tt
each_marked P Q change n (None ∷ slots) new old all = each_marked P Q change n slots new old all
each_marked P Q change n (Some f ∷ slots) new old all =
    each_marked_by P Q change (f.number.n == n) f (changed_by_number change n slots) (new f) (old f) all.0
    (each_marked P Q change n slots new old all.1)

pub each_changed :
    (P : InFlight → Type 0) (change : InFlight → InFlight) (n : ℕ) (slots : List (Option InFlight))
    → ((f : InFlight) → P f → P (change f)) → EachFlight P slots → EachFlight P (changed_by_number change n slots)
each_changed P change n slots keeps all =
    each_marked P P change n slots (λ f same. keeps f) (λ f other one. one) all

-- ---- numbers apart

pub fresh_each : (n : ℕ) (slots : List (Option InFlight)) → EachFlight (λ f. f.number.n ≢ n) slots → IsFresh n slots
fresh_each n [] all = tt
fresh_each n (None ∷ slots) all = fresh_each n slots all
fresh_each n (Some f ∷ slots) all = (all.0, fresh_each n slots all.1)

pub each_fresh : (n : ℕ) (slots : List (Option InFlight)) → IsFresh n slots → EachFlight (λ f. f.number.n ≢ n) slots
each_fresh n [] all = tt
each_fresh n (None ∷ slots) all = each_fresh n slots all
each_fresh n (Some f ∷ slots) all = (all.0, each_fresh n slots all.1)

apart_without_by :
    (b : Bool) (f : InFlight) (rest : List (Option InFlight)) → IsFresh f.number.n rest → AreApart rest
    → AreApart ((if b then None else Some f) ∷ rest)
apart_without_by true f rest fresh h = h
apart_without_by false f rest fresh h = (fresh, h)

pub apart_without : (n : ℕ) (slots : List (Option InFlight)) → AreApart slots → AreApart (without n slots)
apart_without n [] h = tt
apart_without n (None ∷ slots) h = apart_without n slots h
apart_without n (Some f ∷ slots) h =
    apart_without_by (f.number.n == n) f (without n slots)
    (fresh_each f.number.n (without n slots) (each_without (λ g. g.number.n ≢ f.number.n) n slots (each_fresh f.number.n slots h.0)))
    (apart_without n slots h.1)

-- ---- a walk from a tag on

-- what stands in front of a walk over what is kept by tag
pub at_front :
    {A : Type 0} (xs : List (Option A)) (k : ℕ) (x : Option A) (rest : List (Option A))
    → drop k xs ≡ x ∷ rest → kept_at xs k ≡ x
at_front [] zero x rest is = absurd (cc)
at_front [] (suc k) x rest is = absurd (cc)
at_front (y ∷ xs) zero x rest is = cc
at_front (y ∷ xs) (suc k) x rest is = at_front xs k x rest is

pub at_rest :
    {A : Type 0} (xs : List (Option A)) (k : ℕ) (x : Option A) (rest : List (Option A))
    → drop k xs ≡ x ∷ rest → drop (suc k) xs ≡ rest
at_rest [] zero x rest is = absurd (cc)
at_rest [] (suc k) x rest is = absurd (cc)
at_rest (y ∷ xs) zero x rest is = cc
at_rest (y ∷ xs) (suc k) x rest is = at_rest xs k x rest is

-- the later slots stay where an issue leaves whose number none of them has
drop_without : (n k : ℕ) (slots : List (Option InFlight)) → drop k (without n slots) ≡ without n (drop k slots)
drop_without n zero slots = refl
drop_without n (suc k) [] = refl
drop_without n (suc k) (slot ∷ slots) = drop_without n k slots

pub rest_without :
    (n k : ℕ) (slots rest : List (Option InFlight)) → drop k slots ≡ rest → IsFresh n rest → drop k (without n slots) ≡ rest
rest_without n k slots rest is fresh =
    drop_without n k slots ∙ ap (without n) is ∙ without_fresh n rest fresh

-- numbers are apart from a tag on
pub apart_drop : (k : ℕ) (slots : List (Option InFlight)) → AreApart slots → AreApart (drop k slots)
apart_drop zero slots h = h
apart_drop (suc k) [] h = h
apart_drop (suc k) (None ∷ slots) h = apart_drop k slots h
apart_drop (suc k) (Some f ∷ slots) h = apart_drop k slots h.1
