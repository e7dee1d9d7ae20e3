-- Lists with one element read, written or changed.
use Rattle.std.proofs.Common.{◌⊎◌, inl, inr, ◌≡◌, ◌≢◌, ◌∙◌, ℕ, ◌<◌, Bool, true, false, ◌||◌, List, [], ◌∷◌, ◌++◌, Some, suc, zero, length, slice_get, slice_set, unwrap_or, refl, ap, arith}
use Rattle.std.specs.List.{list_any}
use Rattle.std.specs.Option.{option_map_or}
use Rattle.port_past.specs.Places.{changed_at}
use Rattle.ata_base.proofs.Truth.{either_true, or_true}

-- an element of a changed list is the changed one, or another as it was
pub data Changed {A : Type 0} (at : ℕ) (change : A → A) (xs : List A) (i : ℕ) (y : A) : Type 0 where
  It : (x : A) → i ≡ at → slice_get xs i ≡ Some x → y ≡ change x → Changed at change xs i y
  Other : i ≢ at → slice_get xs i ≡ Some y → Changed at change xs i y

changed_later :
    {A : Type 0} (at : ℕ) (change : A → A) (x : A) (xs : List A) (i : ℕ) (y : A)
    → Changed at change xs i y → Changed (suc at) change (x ∷ xs) (suc i) y
changed_later at change x xs i y (It was here is same) = It was (ap suc here) is same
changed_later at change x xs i y (Other other is) = Other (λ e. other (omega (arith, e))) is

pub changed_get :
    {A : Type 0} (at : ℕ) (change : A → A) (xs : List A) (i : ℕ) (y : A)
    → slice_get (changed_at at change xs) i ≡ Some y → Changed at change xs i y
changed_get at change [] i y is = absurd (cc)
changed_get zero change (x ∷ xs) zero y is = It x refl refl (cc)
changed_get zero change (x ∷ xs) (suc i) y is = Other (λ e. omega (arith, e)) is
changed_get (suc at) change (x ∷ xs) zero y is = Other (λ e. omega (arith, e)) is
changed_get (suc at) change (x ∷ xs) (suc i) y is =
    changed_later at change x xs i y (changed_get at change xs i y is)

-- a test that a change keeps
pub changed_keeps :
    {A : Type 0} (test : A → Bool) (at : ℕ) (change : A → A) (xs : List A) (i : ℕ)
    → ((x : A) → test x ≡ true → test (change x) ≡ true)
    → option_map_or test (slice_get xs i) false ≡ true
    → option_map_or test (slice_get (changed_at at change xs) i) false ≡ true
changed_keeps test at change [] i keeps is = is
changed_keeps test zero change (x ∷ xs) zero keeps is = keeps x is
changed_keeps test zero change (x ∷ xs) (suc i) keeps is = is
changed_keeps test (suc at) change (x ∷ xs) zero keeps is = is
changed_keeps test (suc at) change (x ∷ xs) (suc i) keeps is = changed_keeps test at change xs i keeps is

-- a test that a change brings
pub changed_brings :
    {A : Type 0} (test : A → Bool) (at : ℕ) (change : A → A) (xs : List A)
    → ((x : A) → test (change x) ≡ true) → at < length xs
    → option_map_or test (slice_get (changed_at at change xs) at) false ≡ true
changed_brings test at change [] brings within = absurd (omega arith)
changed_brings test zero change (x ∷ xs) brings within = brings x
changed_brings test (suc at) change (x ∷ xs) brings within = changed_brings test at change xs brings (omega arith)

-- ---- a list of which one element is written

-- what is read where one was written is that, or what stood there
pub read_set :
    {A : Type 0} (P : A → Type 0) (xs : List A) (i : ℕ) (v : A) (k : ℕ) (d : A)
    → (k ≡ i → P v) → P (unwrap_or (slice_get xs k) d) → P (unwrap_or (slice_get (slice_set xs i v) k) d)
read_set P [] i v k d new was = was
read_set P (x ∷ xs) zero v zero d new was = new refl
read_set P (x ∷ xs) zero v (suc k) d new was = was
read_set P (x ∷ xs) (suc i) v zero d new was = was
read_set P (x ∷ xs) (suc i) v (suc k) d new was = read_set P xs i v k d (λ e. new (ap suc e)) was

pub read_set_same :
    {A : Type 0} (xs : List A) (i : ℕ) (v d : A) → i < length xs → unwrap_or (slice_get (slice_set xs i v) i) d ≡ v
read_set_same [] i v d within = absurd (omega arith)
read_set_same (x ∷ xs) zero v d within = refl
read_set_same (x ∷ xs) (suc i) v d within = read_set_same xs i v d (omega arith)

pub read_set_other :
    {A : Type 0} (xs : List A) (i k : ℕ) (v d : A) → k ≢ i
    → unwrap_or (slice_get (slice_set xs i v) k) d ≡ unwrap_or (slice_get xs k) d
read_set_other [] i k v d other = refl
read_set_other (x ∷ xs) zero zero v d other = absurd (other refl)
read_set_other (x ∷ xs) zero (suc k) v d other = refl
read_set_other (x ∷ xs) (suc i) zero v d other = refl
read_set_other (x ∷ xs) (suc i) (suc k) v d other = read_set_other xs i k v d (λ e. other (ap suc e))

-- ---- tests over a list

pub any_push : {A : Type 0} (test : A → Bool) (xs : List A) (x : A) → list_any test xs ≡ true → list_any test (xs ++ x ∷ []) ≡ true
any_push test [] x is = absurd (cc)
any_push test (y ∷ xs) x is = any_cond test (test y) xs x is (any_push test xs x) where
  any_cond :
      {A : Type 0} (test : A → Bool) (b : Bool) (xs : List A) (x : A) → (b || list_any test xs) ≡ true
      → (list_any test xs ≡ true → list_any test (xs ++ x ∷ []) ≡ true) → (b || list_any test (xs ++ x ∷ [])) ≡ true
  any_cond test true xs x is later = refl
  any_cond test false xs x is later = later is

pub any_pushed : {A : Type 0} (test : A → Bool) (xs : List A) (x : A) → test x ≡ true → list_any test (xs ++ x ∷ []) ≡ true
any_pushed test [] x is = ap (λ b. b || false) is
any_pushed test (y ∷ xs) x is = ap (λ b. test y || b) (any_pushed test xs x is) ∙ or_true (test y)

pub or_either : (a b : Bool) → ((a ≡ true) ⊎ (b ≡ true)) → (a || b) ≡ true
or_either true b is = refl
or_either false b (inl is) = absurd (cc)
or_either false b (inr is) = is

-- what passes in a longer list passes in the list, or is the last
pub any_of_push :
    {A : Type 0} (test : A → Bool) (xs : List A) (x : A) → list_any test (xs ++ x ∷ []) ≡ true
    → (list_any test xs ≡ true) ⊎ (test x ≡ true)
any_of_push test [] x is = elim (either_true (test x) false is) [ inl a ↦ inr a | inr b ↦ absurd (cc) ]
any_of_push test (y ∷ xs) x is =
    elim (either_true (test y) _ is) [
      | inl a ↦ inl (or_either (test y) _ (inl a))
      | inr b ↦ elim (any_of_push test xs x b) [
        | inl c ↦ inl (or_either (test y) _ (inr c))
        | inr c ↦ inr c
      ]
    ]
