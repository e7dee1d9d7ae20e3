-- What holds of each element of a list, by its place.
use Rattle.std.proofs.Common.{◌≡◌, ◌≢◌, ℕ, List, [], ◌∷◌, Option, None, Some, suc, zero, slice_get, slice_set, refl, subst, arith, replicate}
use Rattle.ata_base.specs.Each.{Each}
use Rattle.port_past.specs.Places.{changed_at, changed_at_some}

-- what holds of each element, by its place
abbrev pub EachAt : {A : Type 0} → (ℕ → A → Type 0) → List A → Type 0
EachAt P [] = Unit {0}
EachAt P (x ∷ xs) = P 0 x × EachAt (λ k. P (suc k)) xs

pub at_get : {A : Type 0} (P : ℕ → A → Type 0) (xs : List A) (k : ℕ) (x : A) → EachAt P xs → slice_get xs k ≡ Some x → P k x
at_get P [] k x all is = absurd (cc)
at_get P (y ∷ xs) zero x all is = let same : y ≡ x = cc in subst (P 0) same all.0
at_get P (y ∷ xs) (suc k) x all is = at_get (λ j. P (suc j)) xs k x all.1 is

pub at_weaker : {A : Type 0} (P Q : ℕ → A → Type 0) → ((k : ℕ) (x : A) → P k x → Q k x) → (xs : List A) → EachAt P xs → EachAt Q xs
at_weaker P Q weaker [] all = tt
at_weaker P Q weaker (x ∷ xs) all =
    (weaker 0 x all.0, at_weaker (λ k. P (suc k)) (λ k. Q (suc k)) (λ k. weaker (suc k)) xs all.1)

-- one element is changed
pub at_changed :
    {A : Type 0} (P Q : ℕ → A → Type 0) (at : ℕ) (change : A → A) (xs : List A)
    → ((x : A) → slice_get xs at ≡ Some x → P at x → Q at (change x)) → ((k : ℕ) (x : A) → k ≢ at → P k x → Q k x)
    → EachAt P xs → EachAt Q (changed_at at change xs)
at_changed P Q at change [] new old all = tt
at_changed P Q zero change (x ∷ xs) new old all = (
  new x refl all.0,
  at_weaker (λ k. P (suc k)) (λ k. Q (suc k)) (λ k y. old (suc k) y (λ e. absurd (omega (arith, e)))) xs all.1,
)
at_changed P Q (suc at) change (x ∷ xs) new old all = (
  old 0 x (λ e. absurd (omega (arith, e))) all.0,
  at_changed (λ k. P (suc k)) (λ k. Q (suc k)) at change xs new (λ k y other. old (suc k) y (λ e. other (omega (arith, e)))) all.1,
)

pub at_changed_if :
    {A : Type 0} (P Q : ℕ → A → Type 0) (at : Option ℕ) (change : A → A) (xs : List A)
    → ((k : ℕ) (x : A) → P k x → Q k (change x)) → ((k : ℕ) (x : A) → P k x → Q k x)
    → EachAt P xs → EachAt Q (changed_at_some at change xs)
at_changed_if P Q None change xs new old all = at_weaker P Q old xs all
at_changed_if P Q (Some at) change xs new old all =
    at_changed P Q at change xs (λ x here. new at x) (λ k x other. old k x) all

-- ---- readings by place

-- one element is written
pub at_set : {A : Type 0} (P : ℕ → A → Type 0) (xs : List A) (x : ℕ) (value : A) → EachAt P xs → P x value → EachAt P (slice_set xs x value)
at_set P [] x value all new = tt
at_set P (y ∷ xs) zero value all new = (new, all.1)
at_set P (y ∷ xs) (suc x) value all new = (all.0, at_set (λ k. P (suc k)) xs x value all.1 new)

-- all elements are the same
pub at_same : {A : Type 0} (P : ℕ → A → Type 0) (n : ℕ) (value : A) → ((k : ℕ) → P k value) → EachAt P (replicate n value)
at_same P zero value same = tt
at_same P (suc n) value same = (same 0, at_same (λ k. P (suc k)) n value (λ k. same (suc k)))

-- ---- what holds of each element, wherever it stands

-- one element is changed
pub every_changed :
    {A : Type 0} (P : A → Type 0) (at : ℕ) (change : A → A) (xs : List A)
    → ((x : A) → P x → P (change x)) → Each P xs → Each P (changed_at at change xs)
every_changed P at change [] keeps all = tt
every_changed P zero change (x ∷ xs) keeps all = (keeps x all.0, all.1)
every_changed P (suc at) change (x ∷ xs) keeps all = (all.0, every_changed P at change xs keeps all.1)

-- one element is changed, if there is one
pub every_changed_some :
    {A : Type 0} (P : A → Type 0) (at : Option ℕ) (change : A → A) (xs : List A)
    → ((x : A) → P x → P (change x)) → Each P xs → Each P (changed_at_some at change xs)
every_changed_some P None change xs keeps all = all
every_changed_some P (Some at) change xs keeps all = every_changed P at change xs keeps all
