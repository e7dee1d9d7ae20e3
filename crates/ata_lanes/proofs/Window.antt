-- The window of a ring, found eight entries at a time.
use Rattle.std.proofs.Common.{◌≡◌, ℕ, suc, zero, ◌+◌, ◌-◌, ◌<◌, ◌≤◌, ◌&&◌, leb, ltb, Bool, true, false, not, cond, List, [], ◌∷◌, ◌++◌, length, take, drop, refl, sym, ap, ap₂, ◌∙◌, arith, inl, inr}
use Rattle.std.specs.Prelude.{min, zip}
use Rattle.std.specs.List.{prefix_len}
use Rattle.std.proofs.Math.Seq.{take-take}
use Rattle.std.proofs.lemmas.Bool.{cases_lt, lt-ltb, le-ltb, le-leb, lt-leb, eq-eqb, ne_eqb}
use Rattle.std.proofs.lemmas.List.{take-append-drop, length-take-le, drop-take}
use Rattle.std.proofs.lemmas.List.Sums.{prefix_len-le-length}
use Rattle.std.proofs.lemmas.List.Folds.{prefix_len-append}
use lib.Lanes.{chunk}
use Rattle.ata_lanes.specs.Counts.{is_within, is_dubious, dubious_len, count_of, three_counts}

pub zip-drop : {X Y : Type 0} (n : ℕ) (xs : List X) (ys : List Y) → length xs ≡ length ys → zip (drop n xs) (drop n ys) ≡ drop n (zip xs ys)
zip-drop zero xs ys same = refl
zip-drop (suc n) [] [] same = refl
zip-drop (suc n) [] (y ∷ ys) same = absurd (omega (arith, same))
zip-drop (suc n) (x ∷ xs) [] same = absurd (omega (arith, same))
zip-drop (suc n) (x ∷ xs) (y ∷ ys) same = zip-drop n xs ys (omega (arith, same))

zip-take : {X Y : Type 0} (n : ℕ) (xs : List X) (ys : List Y) → zip (take n xs) (take n ys) ≡ take n (zip xs ys)
zip-take zero xs ys = refl
zip-take (suc n) [] ys = refl
zip-take (suc n) (x ∷ xs) [] = refl
zip-take (suc n) (x ∷ xs) (y ∷ ys) = ap (λ rest. (x, y) ∷ rest) (zip-take n xs ys)

pub chunk-zip : {X Y : Type 0} (i n : ℕ) (xs : List X) (ys : List Y) → length xs ≡ length ys
    → zip (chunk i n xs) (chunk i n ys) ≡ chunk i n (zip xs ys)
chunk-zip i n xs ys same = zip-take n (drop i xs) (drop i ys) ∙ ap (take n) (zip-drop i xs ys same)

-- where the first n all pass, the run goes on behind them
pub runs_on : {X : Type 0} (p : X → Bool) (xs : List X) (n run : ℕ) → n ≤ length xs → run ≡ prefix_len p (take n xs) → n ≤ run
    → (run ≡ n) × (prefix_len p xs ≡ n + prefix_len p (drop n xs))
runs_on p xs n run room is long =
    let size = length-take-le n xs room in
    let most = prefix_len-le-length p (take n xs) in
    let whole : prefix_len p (take n xs) ≡ length (take n xs) = omega arith in (
      omega arith,
      ap (prefix_len p) (sym (take-append-drop n xs)) ∙ prefix_len-append p (take n xs) (drop n xs)
          ∙ ap (λ b. cond b (length (take n xs) + prefix_len p (drop n xs)) (prefix_len p (take n xs))) (eq-eqb _ _ whole)
          ∙ ap (λ k. k + prefix_len p (drop n xs)) size,
    )

-- where one of the first n fails, the run ends there
pub runs_out : {X : Type 0} (p : X → Bool) (xs : List X) (n : ℕ) → n ≤ length xs → prefix_len p (take n xs) < n → prefix_len p xs ≡ prefix_len p (take n xs)
runs_out p xs n room short =
    let size = length-take-le n xs room in
    ap (prefix_len p) (sym (take-append-drop n xs)) ∙ prefix_len-append p (take n xs) (drop n xs)
    ∙ ap (λ b. cond b (length (take n xs) + prefix_len p (drop n xs)) (prefix_len p (take n xs))) (ne_eqb _ _ (omega (arith, size, short)))

one_more : (b : Bool) (r a n : ℕ) → r ≡ min a n → cond b (1 + r) 0 ≡ min (cond b (1 + a) 0) (suc n)
one_more true r a n is = omega (arith, is)
one_more false r a n is = omega arith

-- the run of a prefix
pub prefix_len-take : {X : Type 0} (p : X → Bool) (n : ℕ) (xs : List X) → prefix_len p (take n xs) ≡ min (prefix_len p xs) n
prefix_len-take p zero xs = omega arith
prefix_len-take p (suc n) [] = omega arith
prefix_len-take p (suc n) (x ∷ xs) = one_more (p x) (prefix_len p (take n xs)) (prefix_len p xs) n (prefix_len-take p n xs)

below_is : (a b : ℕ) → ltb a b ≡ not (leb b a)
below_is a b =
    elim (cases_lt a b) [
      | inl below ↦ lt-ltb a b below ∙ ap not (sym (lt-leb b a below))
      | inr above ↦ le-ltb a b above ∙ ap not (sym (le-leb b a above))
    ]

at_most_is : (a b : ℕ) → leb a b ≡ not (ltb b a)
at_most_is a b =
    elim (cases_lt b a) [
      | inl below ↦ lt-leb a b below ∙ ap not (sym (lt-ltb b a below))
      | inr above ↦ le-leb a b above ∙ ap not (sym (le-ltb b a above))
    ]

both : (p q : Bool) (r a b : ℕ) → r ≡ min a b → cond (p && q) (1 + r) 0 ≡ min (cond p (1 + a) 0) (cond q (1 + b) 0)
both true true r a b is = omega (arith, is)
both true false r a b is = omega arith
both false q r a b is = omega arith

-- the window ends at the first old entry or the first early one
pub two_runs : (since : ℕ) (cats times : List ℕ) → length cats ≡ length times
    → prefix_len (is_within since) (zip cats times) ≡ min (prefix_len (λ cat. not (leb 8 cat)) cats) (prefix_len (λ time. not (ltb time since)) times)
two_runs since [] [] same = refl
two_runs since [] (t ∷ ts) same = absurd (omega (arith, same))
two_runs since (c ∷ cs) [] same = absurd (omega (arith, same))
two_runs since (c ∷ cs) (t ∷ ts) same =
    let rest = prefix_len (is_within since) (zip cs ts) in
    ap₂ (λ p q. cond (p && q) (1 + rest) 0) (below_is c 8) (at_most_is since t)
    ∙ both (not (leb 8 c)) (not (ltb t since)) rest _ _ (two_runs since cs ts (omega (arith, same)))

-- the dubious ones of a window and the others, as places of the whole list
pub halves : (cats : List ℕ) (n end dubious run : ℕ) → end ≡ run → end ≤ n → (most : ℕ) → most ≡ dubious_len cats → dubious ≡ min most end
    → (take (dubious_len (take run (take n cats))) (take run (take n cats)) ≡ take (dubious - 0) (drop 0 cats))
    × (drop (dubious_len (take run (take n cats))) (take run (take n cats)) ≡ take (end - dubious) (drop dubious cats))
halves cats n end dubious run is few most most_is dubious_is =
    let seen : take run (take n cats) ≡ take end cats = ap (λ k. take k (take n cats)) (sym is) ∙ take-take end n cats few in
    let size : dubious_len (take run (take n cats)) ≡ dubious =
    ap dubious_len seen ∙ prefix_len-take is_dubious end cats ∙ ap (λ k. min k end) (sym most_is) ∙ sym dubious_is in
    let less : dubious ≤ end = omega (arith, dubious_is) in
    let split : dubious + (end - dubious) ≡ end = omega (arith, less) in
    let none : dubious - 0 ≡ dubious = omega arith in (
      ap₂ take size seen ∙ take-take dubious end cats less ∙ ap (λ k. take k cats) (sym none),
      ap₂ drop size seen ∙ ap (λ k. drop dubious (take k cats)) (sym split) ∙ drop-take dubious (end - dubious) cats,
    )

triple : {a b c x y z : ℕ} → a ≡ x → b ≡ y → c ≡ z → a ∷ b ∷ c ∷ [] ≡ x ∷ y ∷ z ∷ []
triple p q r = ap₂ (λ a bc. a ∷ bc) p (ap₂ (λ b c. b ∷ c ∷ []) q r)

pub six_from : {a b c d e f : ℕ} {xs ys us vs : List ℕ} → a ≡ count_of 1 us → b ≡ count_of 2 us → c ≡ count_of 3 us
    → d ≡ count_of 1 vs → e ≡ count_of 2 vs → f ≡ count_of 3 vs → xs ≡ us → ys ≡ vs
    → a ∷ b ∷ c ∷ d ∷ e ∷ f ∷ [] ≡ three_counts xs ++ three_counts ys
six_from a b c d e f xs ys =
    ap₂ (λ p q. p ++ q) (triple a b c) (triple d e f) ∙ ap₂ (λ us vs. three_counts us ++ three_counts vs) (sym xs) (sym ys)
