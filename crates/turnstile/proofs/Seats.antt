-- A seat from step to step: what allows the next one, and what is known after it.
use Rattle.std.proofs.Common.{◌≡◌, ℕ, ◌+◌, ◌-◌, ◌%◌, ◌^◌, ◌≤◌, List, [], ◌∷◌, ◌++◌, length, refl, sym, ap, ◌∙◌, subst, Option, None, Some, Result, MatchResult, length-append, append-nil, arith}
use Rattle.std.specs.declared.result.Result.TheVariants.{Ok, Err}
use Rattle.std.specs.Option.{option_to_list}
use Rattle.std.specs.Prelude.{IfSome, IsSomeAnd}
use mathlib.Core.List.{IsPrefix}
use mathlib.Core.Option.{some, some-injective}
use lib.ListN.{get_elem?}
use Rattle.atomic_table.specs.Table.{Me, Allows, Splits, Joins, rest}
use Rattle.turnstile.specs.Places.{EndsWith, placed, merged, longer}
use Rattle.turnstile.specs.Stages.{idle, turn}
use Rattle.turnstile.specs.Views.{view, at_stage, spent, single, lessened, added}
use Rattle.turnstile.specs.Rule.{Ruled}
use Rattle.turnstile.specs.Steps.{IsIdle, IsWaiting, IsInTurn, IsMade, Drew, Admitted, Looked, Marked, Served, Learned, Left}
use Rattle.turnstile.specs.declared.seat_view.Stage.{Stage}
use Rattle.turnstile.specs.declared.seat_view.Stage.TheVariants.{Idle, Told, Waiting, InTurn, Made}
use Rattle.turnstile.specs.declared.seat_view.SeatView.{SeatView}
use Rattle.turnstile.proofs.Histories.{prefix_longer}
use Rattle.turnstile.proofs.Keeps.{draws, looks, marks, serves, learns, splits, joins}

-- what a turn leaves: the entry, or nothing
abbrev pub made_by : {E T : Type 0} {X : Type 0} → Result T X → E → Option E
made_by (Ok t) e = Some e
made_by (Err x) e = None

none_held : {M : Type 0} (l : List (ℕ × Option M)) → length l ≡ 0 → l ≡ []
none_held [] e = refl
none_held (x ∷ xs) e = absurd (omega (arith, e))

-- the value in the slot, or d
abbrev held_or : {M : Type 0} → Option M → List (ℕ × Option M) → Option M
held_or d [] = d
held_or d (x ∷ xs) = x.1

-- what is taken out of the slot is what was at home
pub given_is : {M : Type 0} (xs : List (Option M)) (x : M) (r : Option M) → get_elem? xs 0 ≡ some (Some x) → get_elem? xs 0 ≡ some r → r ≡ Some x
given_is xs x r home e = some-injective r (Some x) (sym e ∙ home)

-- what the machine's history tells of the turn
pub more_by : {E X T : Type 0} (before after : List E) (r : Result T X) (e : E) → MatchResult r (λ _. after ≡ before ++ e ∷ []) (λ _. after ≡ before) → after ≡ before ++ option_to_list (made_by r e)
more_by before after (Ok t) e h = h
more_by before after (Err x) e h = h ∙ sym (append-nil before)

module _ {E M : Type 0} where
  -- in turn after a wait, with the machine x as it was found, and z in the slot
  abbrev pub InHand : SeatView E M → Me (Option M) (SeatView E M) → M → Option M → Type 0
  InHand v m x z = (n : ℕ) × (log : List E) × IsPrefix v.seen log × (m ≡ (view v.share (InTurn n x) log v.own, (0, z) ∷ []))

  -- the same, and y names the entry that was made
  abbrev pub InMade : SeatView E M → Me (Option M) (SeatView E M) → M → Option M → Option E → Type 0
  InMade v m x z y = (n : ℕ) × (log : List E) × IsPrefix v.seen log × (m ≡ (view v.share (Made n x y) log v.own, (0, z) ∷ []))

  stage_idle : (t : Stage E M) → idle t ≡ 1 → t ≡ Idle
  stage_idle Idle e = refl
  stage_idle (Told t) e = absurd (omega (arith, e))
  stage_idle (Waiting n) e = absurd (omega (arith, e))
  stage_idle (InTurn n x) e = absurd (omega (arith, e))
  stage_idle (Made n x y) e = absurd (omega (arith, e))

  pub idle_is : (m : Me (Option M) (SeatView E M)) → idle m.0.stage ≡ 1 → length m.1 ≡ 0 → IsIdle m
  idle_is m a b = λ i. (at_stage m.0 (stage_idle m.0.stage a i), none_held m.1 b i)

  staged : (m : Me (Option M) (SeatView E M)) (q : ℕ) (t : Stage E M) (seen : List E) (own : List (ℕ × E)) (l : List (ℕ × Option M)) → m ≡ (view q t seen own, l) → m ≡ (at_stage m.0 t, l)
  staged m q t seen own l e = subst (λ (o : Me (Option M) (SeatView E M)). o ≡ (at_stage o.0 t, l)) (sym e) refl

  pub idle_turn : (t : Stage E M) → idle t ≡ 1 → turn t ≡ 0
  idle_turn t e = ap turn (stage_idle t e)

  pub drew_is : (m : Me (Option M) (SeatView E M)) (found : ℕ) (m' : Me (Option M) (SeatView E M)) → Drew m found m' → IsWaiting m' found
  drew_is m found m' d = (d.0, staged m' m.0.share (Waiting d.0) m.0.seen m.0.own [] d.2, d.1)

  pub drew_view : (m : Me (Option M) (SeatView E M)) (found : ℕ) (m' : Me (Option M) (SeatView E M)) → Drew m found m' → at_stage m'.0 Idle ≡ at_stage m.0 Idle
  drew_view m found m' d = ap (λ (o : Me (Option M) (SeatView E M)). at_stage o.0 Idle) d.2

  pub admitted_in : (v : SeatView E M) (m : Me (Option M) (SeatView E M)) (a : Admitted v m) → InHand v m a.2 (Some a.2)
  admitted_in v m a = (a.0, a.1, a.3, a.4)

  -- the slot that is held, with its value
  pub held_is : (m : Me (Option M) (SeatView E M)) (v : SeatView E M) (z : Option M) → m ≡ (v, (0, z) ∷ []) → m.1 ≡ (0, z) ∷ rest m.1
  held_is m v z e = subst (λ (o : Me (Option M) (SeatView E M)). o.1 ≡ (0, z) ∷ rest o.1) (sym e) refl

  pub taken_is : (m : Me (Option M) (SeatView E M)) (v : SeatView E M) (z y : Option M) → m ≡ (v, (0, z) ∷ []) → m.1 ≡ (0, y) ∷ rest m.1 → y ≡ z
  taken_is m v z y e d = sym (ap (held_or z) d) ∙ ap (λ (o : Me (Option M) (SeatView E M)). held_or z o.1) e

  pub put_in : (v : SeatView E M) (m m' : Me (Option M) (SeatView E M)) (x : M) (y z : Option M) → InHand v m x y → m' ≡ (m.0, (0, z) ∷ rest m.1) → InHand v m' x z
  put_in v m m' x y z h e = (h.0, h.1, h.2, e ∙ ap (λ (o : Me (Option M) (SeatView E M)). (o.0, (0, z) ∷ rest o.1)) h.3)

  pub hand_in_turn : (v : SeatView E M) (m : Me (Option M) (SeatView E M)) (x : M) (z : Option M) → InHand v m x z → IsInTurn m x z
  hand_in_turn v m x z h = (h.0, staged m v.share (InTurn h.0 x) h.1 v.own ((0, z) ∷ []) h.3)

  pub made_is : (v : SeatView E M) (m : Me (Option M) (SeatView E M)) (x : M) (z : Option M) (y : Option E) → InMade v m x z y → IsMade m x z y
  made_is v m x z y h = (h.0, staged m v.share (Made h.0 x y) h.1 v.own ((0, z) ∷ []) h.3)

  pub marked_in : (history : M → List E) (v : SeatView E M) (m m' : Me (Option M) (SeatView E M)) (x z : M) (y : Option E) → InHand v m x (Some z) → history z ≡ history x ++ option_to_list y → Marked history m m' → InMade v m' x (Some z) y
  marked_in history v m m' x z y h more told =
      let t = told x z y (hand_in_turn v m x (Some z) h) more in
      (t.0, h.1, h.2, t.1 ∙ ap (λ (o : Me (Option M) (SeatView E M)). (at_stage o.0 (Made t.0 x y), (0, Some z) ∷ [])) h.3)

  pub served_in : (v : SeatView E M) (m m' : Me (Option M) (SeatView E M)) (x z : M) (y : Option E) → InMade v m x (Some z) y → Served m m' → Left v y m'
  served_in v m m' x z y h told =
      (h.1, h.2, told.1 x z y (made_is v m x (Some z) y h) ∙ ap (λ (o : Me (Option M) (SeatView E M)). (view o.0.share Idle (o.0.seen ++ option_to_list y) (o.0.own ++ placed (length o.0.seen) y), [])) h.3)

  pub left_idle : (v : SeatView E M) (y : Option E) (m : Me (Option M) (SeatView E M)) → Left v y m → idle m.0.stage ≡ 1
  left_idle v y m l = ap (λ (o : Me (Option M) (SeatView E M)). idle o.0.stage) l.2

  pub left_bare : (v : SeatView E M) (y : Option E) (m : Me (Option M) (SeatView E M)) → Left v y m → length m.1 ≡ 0
  left_bare v y m l = ap (λ (o : Me (Option M) (SeatView E M)). length o.1) l.2

  pub left_share : (v : SeatView E M) (y : Option E) (m : Me (Option M) (SeatView E M)) → Left v y m → m.0.share ≡ v.share
  left_share v y m l = ap (λ (o : Me (Option M) (SeatView E M)). o.0.share) l.2

  pub left_seen : (v : SeatView E M) (y : Option E) (m : Me (Option M) (SeatView E M)) → Left v y m → IsPrefix v.seen m.0.seen
  left_seen v y m l = subst (λ (o : Me (Option M) (SeatView E M)). IsPrefix v.seen o.0.seen) (sym l.2) (prefix_longer v.seen l.0 (option_to_list y) l.1)

  pub left_last : (v : SeatView E M) (e : E) (m : Me (Option M) (SeatView E M)) → Left v (Some e) m → EndsWith m.0.seen e
  left_last v e m l = (l.0, ap (λ (o : Me (Option M) (SeatView E M)). o.0.seen) l.2)

  pub left_own : (v : SeatView E M) (e : E) (m : Me (Option M) (SeatView E M)) → Left v (Some e) m → m.0.own ≡ v.own ++ (length m.0.seen - 1, e) ∷ []
  left_own v e m l =
      let at : length l.0 ≡ length (l.0 ++ e ∷ []) - 1 = omega (arith, length-append l.0 (e ∷ [])) in
      subst (λ (o : Me (Option M) (SeatView E M)). o.0.own ≡ v.own ++ (length o.0.seen - 1, e) ∷ []) (sym l.2) (ap (λ n. v.own ++ (n, e) ∷ []) at)

  pub left_kept : (v : SeatView E M) (m : Me (Option M) (SeatView E M)) → Left v None m → m.0.own ≡ v.own
  left_kept v m l = ap (λ (o : Me (Option M) (SeatView E M)). o.0.own) l.2 ∙ append-nil v.own

  -- a seat that was joined was told what the other had seen
  pub joined_told : (m a b : Me (Option M) (SeatView E M)) → IsIdle a → m ≡ (added a.0 b.0, a.1) → m ≡ (at_stage m.0 (Told b.0.seen), [])
  joined_told m a b is e =
      staged m (a.0.share + b.0.share) (Told b.0.seen) a.0.seen (merged a.0.own b.0.own) [] (e ∙ ap (λ (o : Me (Option M) (SeatView E M)). (added a.0 b.0, o.1)) is)

  pub joined_is : (m a b m' : Me (Option M) (SeatView E M)) → IsIdle a → m ≡ (added a.0 b.0, a.1) → Learned m m' → m' ≡ (view (a.0.share + b.0.share) Idle (longer a.0.seen b.0.seen) (merged a.0.own b.0.own), [])
  joined_is m a b m' is e told =
      (told.1 b.0.seen (joined_told m a b is e)).0 ∙ ap (λ (o : Me (Option M) (SeatView E M)). (view o.0.share Idle (longer o.0.seen b.0.seen) o.0.own, [])) e

  pub joined_begun : (m a b m' : Me (Option M) (SeatView E M)) → IsIdle a → m ≡ (added a.0 b.0, a.1) → Learned m m' → IsPrefix a.0.seen m'.0.seen × IsPrefix b.0.seen m'.0.seen
  joined_begun m a b m' is e told =
      let t = told.1 b.0.seen (joined_told m a b is e) in
      let seen : m.0.seen ≡ a.0.seen = ap (λ (o : Me (Option M) (SeatView E M)). o.0.seen) e in
      let now : m'.0.seen ≡ longer m.0.seen b.0.seen = ap (λ (o : Me (Option M) (SeatView E M)). o.0.seen) t.0 in (
        subst (λ (l : List E). IsPrefix a.0.seen l) (sym now) (subst (λ (l : List E). IsPrefix l (longer m.0.seen b.0.seen)) seen t.1),
        subst (λ (l : List E). IsPrefix b.0.seen l) (sym now) t.2,
      )

  pub left_by : {X T : Type 0} (v : SeatView E M) (m : Me (Option M) (SeatView E M)) (r : Result T X) (e : E) → Left v (made_by r e) m → MatchResult r (λ _. Left v (Some e) m) (λ _. Left v None m)
  left_by v m (Ok t) e l = l
  left_by v m (Err x) e l = l

  -- the machine was lent where it lies, and stepped
  pub lent_in : {F X T : Type 0} (history : M → List E) (fixed : M → F) (v : SeatView E M) (m : Me (Option M) (SeatView E M)) (lent left : Option M) (r : Result T X) (e : E) → Admitted v m → m.1 ≡ (0, lent) ∷ rest m.1
      → IfSome lent (λ x. IsSomeAnd left (λ z. (fixed z ≡ fixed x) × MatchResult r (λ _. history z ≡ history x ++ e ∷ []) (λ _. history z ≡ history x)))
      → (z : M) × (o : M) × InHand v (m.0, (0, left) ∷ rest m.1) o (Some z) × (history z ≡ history o ++ option_to_list (made_by r e)) × (fixed z ≡ fixed o)
  lent_in history fixed v m lent left r e a held stepped =
      let found : lent ≡ Some a.2 = taken_is m (view v.share (InTurn a.0 a.2) a.1 v.own) (Some a.2) lent a.4 held in
      by_left left (subst (λ (l : Option M). IfSome l (λ x. IsSomeAnd left (λ z. (fixed z ≡ fixed x) × MatchResult r (λ _. history z ≡ history x ++ e ∷ []) (λ _. history z ≡ history x)))) found stepped)
    where
      by_left : (o : Option M) → IsSomeAnd o (λ z. (fixed z ≡ fixed a.2) × MatchResult r (λ _. history z ≡ history a.2 ++ e ∷ []) (λ _. history z ≡ history a.2))
          → (z : M) × (x : M) × InHand v (m.0, (0, o) ∷ rest m.1) x (Some z) × (history z ≡ history x ++ option_to_list (made_by r e)) × (fixed z ≡ fixed x)
      by_left None t = absurd t
      by_left (Some z) t = (z, a.2, put_in v m (m.0, (0, Some z) ∷ rest m.1) a.2 (Some a.2) (Some z) (admitted_in v m a) refl, more_by (history a.2) (history z) r e t.1, t.0)

module _ {E M F : Type 0} (history : M → List E) (fixed : M → F) (first : List E) (part : F) where
  pub draws_as : (slots id : ℕ) (m : Me (Option M) (SeatView E M)) → IsIdle m → 1 ≤ m.0.share
      → Allows (Ruled history fixed first part) slots id m 1 (λ n. (n + 1) % 2 ^ 64) (λ found m'. Drew m found m')
  draws_as slots id m is some_share =
      subst (λ (o : Me (Option M) (SeatView E M)). Allows (Ruled history fixed first part) slots id o 1 (λ n. (n + 1) % 2 ^ 64) (λ found m'. Drew o found m')) (sym is)
      (draws history fixed first part slots id m.0.share m.0.seen m.0.own some_share)

  pub looks_as : (slots id : ℕ) (m : Me (Option M) (SeatView E M)) (t : ℕ) → IsWaiting m t
      → Allows (Ruled history fixed first part) slots id m 0 (λ i. i) (λ found m'. Looked m found m')
  looks_as slots id m t is =
      subst (λ (o : Me (Option M) (SeatView E M)). Allows (Ruled history fixed first part) slots id o 0 (λ i. i) (λ found m'. Looked o found m')) (sym is.1)
      (looks history fixed first part slots id m.0.share is.0 m.0.seen m.0.own)

  pub marks_as : (slots id : ℕ) (m : Me (Option M) (SeatView E M)) (x z : M) (y : Option E) → IsInTurn m x (Some z) → history z ≡ history x ++ option_to_list y
      → Allows (Ruled history fixed first part) slots id m 0 (λ i. i) (λ _ m'. Marked history m m')
  marks_as slots id m x z y is more =
      subst (λ (o : Me (Option M) (SeatView E M)). Allows (Ruled history fixed first part) slots id o 0 (λ i. i) (λ _ m'. Marked history o m')) (sym is.1)
      (marks history fixed first part slots id m.0.share is.0 m.0.seen m.0.own x z y more)

  pub serves_as : (slots id : ℕ) (m : Me (Option M) (SeatView E M)) (x z : M) (y : Option E) → IsMade m x (Some z) y → history z ≡ history x ++ option_to_list y → fixed z ≡ fixed x
      → Allows (Ruled history fixed first part) slots id m 0 (λ i. (i + 1) % 2 ^ 64) (λ _ m'. Served m m')
  serves_as slots id m x z y is more kept =
      subst (λ (o : Me (Option M) (SeatView E M)). Allows (Ruled history fixed first part) slots id o 0 (λ i. (i + 1) % 2 ^ 64) (λ _ m'. Served o m')) (sym is.1)
      (serves history fixed first part slots id m.0.share is.0 m.0.seen m.0.own x z y more kept)

  pub learns_as : (slots id : ℕ) (m : Me (Option M) (SeatView E M)) (t : List E) → m ≡ (at_stage m.0 (Told t), [])
      → Allows (Ruled history fixed first part) slots id m 0 (λ i. i) (λ _ m'. Learned m m')
  learns_as slots id m t is =
      subst (λ (o : Me (Option M) (SeatView E M)). Allows (Ruled history fixed first part) slots id o 0 (λ i. i) (λ _ m'. Learned o m')) (sym is)
      (learns history fixed first part slots id m.0.share m.0.seen t m.0.own)

  pub splits_as : (id : ℕ) (m : Me (Option M) (SeatView E M)) → IsIdle m → 2 ≤ m.0.share
      → Splits (Ruled history fixed first part) id m.0 (lessened m.0) (single m.0)
  splits_as id m is two =
      subst (λ (o : Me (Option M) (SeatView E M)). Splits (Ruled history fixed first part) id o.0 (lessened o.0) (single o.0)) (sym is)
      (splits history fixed first part id m.0.share m.0.seen m.0.own two)

  pub joins_as : (id : ℕ) (m : Me (Option M) (SeatView E M)) (other : ℕ) (o : Me (Option M) (SeatView E M)) → IsIdle m → IsIdle o
      → Joins (Ruled history fixed first part) id m.0 other o.0 (added m.0 o.0) spent
  joins_as id m other o is its =
      subst (λ (a : Me (Option M) (SeatView E M)). Joins (Ruled history fixed first part) id a.0 other o.0 (added a.0 o.0) spent) (sym is)
      (subst (λ (b : Me (Option M) (SeatView E M)). Joins (Ruled history fixed first part) id (at_stage m.0 Idle) other b.0 (added (at_stage m.0 Idle) b.0) spent) (sym its)
      (joins history fixed first part id m.0.share other o.0.share m.0.seen o.0.seen m.0.own o.0.own))
