-- What holds of each element of a list holds of a part of it, of more of it, and of what is found in it.
use Rattle.std.proofs.Common.{◌≡◌, ℕ, Bool, true, false, cond, List, [], ◌∷◌, ◌++◌, find, filter, Option, Some, suc, zero, drop, slice_get, slice_set, replicate, refl, subst, if◌then◌else◌, ◌<◌, length, arith}
use Rattle.ata_base.specs.Each.{Each}

pub every_weaker : {A : Type 0} (P Q : A → Type 0) → ((x : A) → P x → Q x) → (xs : List A) → Each P xs → Each Q xs
every_weaker P Q weaker [] all = tt
every_weaker P Q weaker (x ∷ xs) all = (weaker x all.0, every_weaker P Q weaker xs all.1)

pub every_append : {A : Type 0} (P : A → Type 0) (xs ys : List A) → Each P xs → Each P ys → Each P (xs ++ ys)
every_append P [] ys all more = more
every_append P (x ∷ xs) ys all more = (all.0, every_append P xs ys all.1 more)

pub every_at : {A : Type 0} (P : A → Type 0) (xs : List A) (i : ℕ) (x : A) → Each P xs → slice_get xs i ≡ Some x → P x
every_at P [] i x all is = absurd (cc)
every_at P (y ∷ xs) zero x all is = let same : y ≡ x = cc in subst P same all.0
every_at P (y ∷ xs) (suc i) x all is = every_at P xs i x all.1 is

pub every_rest : {A : Type 0} (P : A → Type 0) (xs : List A) → Each P xs → Each P (drop 1 xs)
every_rest P [] all = tt
every_rest P (x ∷ xs) all = all.1

pub every_both : {A : Type 0} (P Q R : A → Type 0) → ((x : A) → P x → Q x → R x) → (xs : List A) → Each P xs → Each Q xs → Each R xs
every_both P Q R both [] all other = tt
every_both P Q R both (x ∷ xs) all other = (both x all.0 other.0, every_both P Q R both xs all.1 other.1)

filter_by : {A : Type 0} (P : A → Type 0) (b : Bool) (x : A) (rest : List A) → P x → Each P rest → Each P (if b then x ∷ rest else rest)
filter_by P true x rest one all = (one, all)
filter_by P false x rest one all = all

pub every_filter : {A : Type 0} (P : A → Type 0) (test : A → Bool) (xs : List A) → Each P xs → Each P (filter test xs)
every_filter P test [] all = tt
every_filter P test (x ∷ xs) all = filter_by P (test x) x (filter test xs) all.0 (every_filter P test xs all.1)

find_by : {A : Type 0} (P : A → Type 0) (test : A → Bool) (b : Bool) (x y : A) (rest : Option A) → test x ≡ b → cond b (Some x) rest ≡ Some y
    → P x → (rest ≡ Some y → P y × (test y ≡ true)) → P y × (test y ≡ true)
find_by P test true x y rest passes is one later =
    let same : x ≡ y = cc in (subst P same one, subst (λ z. test z ≡ true) same passes)
find_by P test false x y rest passes is one later = later is

-- what is found passes the test, and what holds of each holds of it
pub every_found : {A : Type 0} (P : A → Type 0) (test : A → Bool) (xs : List A) (y : A) → Each P xs → find test xs ≡ Some y → P y × (test y ≡ true)
every_found P test [] y all is = absurd (cc)
every_found P test (x ∷ xs) y all is =
    find_by P test (test x) x y (find test xs) refl is all.0 (every_found P test xs y all.1)

pub every_front : {A : Type 0} (P : A → Type 0) (xs : List A) (x : A) → slice_get xs 0 ≡ Some x → Each P xs → P x
every_front P [] x is each = absurd (cc)
every_front P (y ∷ xs) x is each = let same : y ≡ x = cc in subst P same each.0

pub every_push : {A : Type 0} (P : A → Type 0) (xs : List A) (x : A) → Each P xs → P x → Each P (xs ++ x ∷ [])
every_push P [] x h new = (new, tt)
every_push P (y ∷ xs) x h new = (h.0, every_push P xs x h.1 new)

filter_cond :
    {A : Type 0} (P : A → Type 0) (test : A → Bool) (b : Bool) (x : A) (xs : List A) → test x ≡ b → P x
    → Each (λ y. P y × (test y ≡ true)) xs → Each (λ y. P y × (test y ≡ true)) (cond b (x ∷ xs) xs)
filter_cond P test true x xs is here later = ((here, is), later)
filter_cond P test false x xs is here later = later

-- what a filter keeps passes its test
pub every_kept :
    {A : Type 0} (P : A → Type 0) (test : A → Bool) (xs : List A) → Each P xs
    → Each (λ y. P y × (test y ≡ true)) (filter test xs)
every_kept P test [] h = tt
every_kept P test (x ∷ xs) h = filter_cond P test (test x) x (filter test xs) refl h.0 (every_kept P test xs h.1)

-- one element is written
pub every_set : {A : Type 0} (P : A → Type 0) (xs : List A) (i : ℕ) (x : A) → Each P xs → P x → Each P (slice_set xs i x)
every_set P [] i x all new = tt
every_set P (y ∷ xs) zero x all new = (new, all.1)
every_set P (y ∷ xs) (suc i) x all new = (all.0, every_set P xs i x all.1 new)

-- all elements are the same
pub every_same : {A : Type 0} (P : A → Type 0) (n : ℕ) (x : A) → P x → Each P (replicate n x)
every_same P zero x one = tt
every_same P (suc n) x one = (one, every_same P n x one)

pub get_within : {A : Type 0} (xs : List A) (i : ℕ) → i < length xs → (x : A) × (slice_get xs i ≡ Some x)
get_within [] i within = absurd (omega arith)
get_within (x ∷ xs) zero within = (x, refl)
get_within (x ∷ xs) (suc i) within = get_within xs i (omega arith)
