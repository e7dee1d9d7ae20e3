-- Lists of which one place is changed.
use Rattle.std.proofs.Common.{◌≡◌, ◌∙◌, ℕ, ◌+◌, ◌<◌, Bool, true, false, List, [], ◌∷◌, ◌++◌, Option, None, Some, suc, zero, length, get_or, replicate, take, slice_set, refl, sym, ap, arith, add-one, if◌then◌else◌}
use Rattle.host_tags.specs.declared.in_flight.InFlight.{InFlight}
use Rattle.host_tags.specs.Slots.{flight_at}
use Rattle.host_tags.specs.Numbers.{is_issue, IsFresh, AreApart}
use Rattle.host_tags.proofs.NumberLemmas.{other_issue}
use Rattle.std.proofs.lemmas.Bool.{eqb-true}
use Rattle.link_model.specs.LinkView.{LinkView, empty_link}
use Rattle.port_past.specs.ByTag.{set_where}
use Rattle.port_past.specs.declared.place_told.PlaceTold.{PlaceTold}
use Rattle.port_past.specs.declared.place_told.PlaceTold.TheVariants.{NotBegun}
use Rattle.port_past.specs.Places.{changed_at}
use Rattle.port_ledger.proofs.FlightLemmas.{not_this}
use Rattle.eh_reval.specs.declared.probe_times.ProbeTimes.{ProbeTimes}
use Rattle.eh_reval.specs.Probes.{no_probes}

-- to change what stands at a place is to set what it becomes
pub changed_is : {A : Type 0} (at : ℕ) (f : A → A) (xs : List A) (d : A) → changed_at at f xs ≡ slice_set xs at (f (get_or xs at d))
changed_is zero f [] d = refl
changed_is (suc at) f [] d = refl
changed_is zero f (x ∷ xs) d = refl
changed_is (suc at) f (x ∷ xs) d = ap (λ ys. x ∷ ys) (changed_is at f xs d)

pub changed_number : (at : ℕ) (f : ℕ → ℕ) (xs : List ℕ) → changed_at at f xs ≡ slice_set xs at (f (get_or xs at 0))
changed_number at f xs = changed_is at f xs 0

pub changed_link : (at : ℕ) (f : LinkView → LinkView) (xs : List LinkView) → changed_at at f xs ≡ slice_set xs at (f (get_or xs at empty_link))
changed_link at f xs = changed_is at f xs empty_link

-- ---- a list that reaches further

past_all : {A : Type 0} (n k : ℕ) (d : A) → get_or (replicate n d) k d ≡ d
past_all zero k d = refl
past_all (suc n) zero d = refl
past_all (suc n) (suc k) d = past_all n k d

-- what is read past its end is what it is filled with
pub read_padded : {A : Type 0} (xs : List A) (n k : ℕ) (d : A) → get_or (xs ++ replicate n d) k d ≡ get_or xs k d
read_padded [] n k d = past_all n k d
read_padded (x ∷ xs) n zero d = refl
read_padded (x ∷ xs) n (suc k) d = read_padded xs n k d

-- ---- by tag, where an issue's number is

-- nowhere, where no issue has it
pub where_fresh : {A : Type 0} (n : ℕ) (v : A) (slots : List (Option InFlight)) (xs : List A) → IsFresh n slots → set_where (is_issue n) v slots xs ≡ xs
where_fresh n v [] xs fresh = refl
where_fresh n v (None ∷ slots) [] fresh = refl
where_fresh n v (Some f ∷ slots) [] fresh = refl
where_fresh n v (None ∷ slots) (x ∷ rest) fresh = ap (λ ys. x ∷ ys) (where_fresh n v slots rest fresh)
where_fresh n v (Some f ∷ slots) (x ∷ rest) fresh = rw (other_issue n f fresh.0, where_fresh n v slots rest fresh.1) refl

-- at its tag, where it is in flight
pub where_found : {A : Type 0} (n t : ℕ) (v : A) (slots : List (Option InFlight)) (xs : List A) → AreApart slots → is_issue n (flight_at slots t) ≡ true → set_where (is_issue n) v slots xs ≡ slice_set xs t v
where_found n t v [] xs apart is = absurd (cc)
where_found n zero v (None ∷ slots) xs apart is = absurd (cc)
where_found n zero v (Some f ∷ slots) [] apart is = refl
where_found n zero v (Some f ∷ slots) (x ∷ rest) apart is =
    let fresh : IsFresh n slots = rw (eqb-true _ _ is) at apart.0 in
    rw (is, where_fresh n v slots rest fresh) refl
where_found n (suc t) v (None ∷ slots) [] apart is = refl
where_found n (suc t) v (Some g ∷ slots) [] apart is = refl
where_found n (suc t) v (None ∷ slots) (x ∷ rest) apart is = ap (λ ys. x ∷ ys) (where_found n t v slots rest apart is)
where_found n (suc t) v (Some g ∷ slots) (x ∷ rest) apart is =
    rw (not_this n g t slots apart.0 is, where_found n t v slots rest apart.1 is) refl

head_in : {A : Type 0} (h : A) (b : Bool) (one other : List A) → h ∷ (if b then one else other) ≡ (if b then h ∷ one else h ∷ other)
head_in h true one other = refl
head_in h false one other = refl

same_in : {A : Type 0} (b : Bool) (one other : List A) → one ≡ other → other ≡ (if b then one else other)
same_in true one other same = sym same
same_in false one other same = refl

tail_in : {A : Type 0} (b : Bool) (v x : A) (rest : List A) → (if b then v else x) ∷ rest ≡ (if b then v ∷ rest else x ∷ rest)
tail_in true v x rest = refl
tail_in false v x rest = refl

more_from : {A : Type 0} (test : Option InFlight → Bool) (v : A) (t : ℕ) (slots : List (Option InFlight)) (xs : List A) → t < length slots → set_where test v (take (suc t) slots) xs ≡ (if test (flight_at slots t) then slice_set (set_where test v (take t slots) xs) t v else set_where test v (take t slots) xs)
more_from test v t [] xs within = absurd (omega arith)
more_from test v zero (slot ∷ slots) [] within = same_in (test slot) [] [] refl
more_from test v zero (slot ∷ slots) (x ∷ rest) within = tail_in (test slot) v x rest
more_from test v (suc t) (slot ∷ slots) [] within = same_in (test (flight_at slots t)) [] [] refl
more_from test v (suc t) (slot ∷ slots) (x ∷ rest) within =
    ap (λ ys. (if test slot then v else x) ∷ ys) (more_from test v t slots rest (omega arith))
    ∙ head_in (if test slot then v else x) (test (flight_at slots t)) (slice_set (set_where test v (take t slots) rest) t v) (set_where test v (take t slots) rest)

-- one slot more of those that pass a test
pub where_more : {A : Type 0} (test : Option InFlight → Bool) (v : A) (t : ℕ) (slots : List (Option InFlight)) (xs : List A) → t < length slots → set_where test v (take (t + 1) slots) xs ≡ (if test (flight_at slots t) then slice_set (set_where test v (take t slots) xs) t v else set_where test v (take t slots) xs)
where_more test v t slots xs within = rw (add-one t) (more_from test v t slots xs within)

-- no slot is nothing to set
pub where_nothing : {A : Type 0} (test : Option InFlight → Bool) (v : A) (slots : List (Option InFlight)) (xs : List A) → set_where test v (take 0 slots) xs ≡ xs
where_nothing test v [] xs = refl
where_nothing test v (slot ∷ slots) xs = refl

pub changed_told : (at : ℕ) (f : PlaceTold → PlaceTold) (xs : List PlaceTold) → changed_at at f xs ≡ slice_set xs at (f (get_or xs at NotBegun))
changed_told at f xs = changed_is at f xs NotBegun

pub changed_probes : (at : ℕ) (f : ProbeTimes → ProbeTimes) (xs : List ProbeTimes) → changed_at at f xs ≡ slice_set xs at (f (get_or xs at no_probes))
changed_probes at f xs = changed_is at f xs no_probes

pub changed_flag : (at : ℕ) (f : Bool → Bool) (xs : List Bool) → changed_at at f xs ≡ slice_set xs at (f (get_or xs at false))
changed_flag at f xs = changed_is at f xs false
