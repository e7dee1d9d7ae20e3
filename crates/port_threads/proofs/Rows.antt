-- Rows of passes as lists: one of them is changed, or each in turn.
use Rattle.std.proofs.Common.{◌≡◌, ℕ, zero, suc, ◌+◌, ◌<◌, ◌≤◌, List, [], ◌∷◌, ◌++◌, map, length, take, drop, get_or, set, refl, sym, ap, ◌∙◌, subst, Option, None, Some, append-nil, add-one, length-set, length-take-le, arith}
use Rattle.std.specs.Prelude.{IsSome}
use Rattle.std.proofs.lemmas.List.{get_or-set_same, get_or-map, map-set, length-map, map_more}
use Rattle.std.proofs.lemmas.List.Elements.{All-set, All-from_get_or}
use Rattle.std.proofs.lemmas.List.{map-append}
use mathlib.Core.List.{IsPrefix}
use Rattle.turnstile.specs.declared.entry.Entry.{Entry}
use Rattle.turnstile.specs.declared.pass.Pass.{Pass}
use Rattle.port_threads.specs.Stiles.{Stile}
use Rattle.turnstile.specs.Passes.{at, share, seen, own, place}
use Rattle.turnstile.specs.Places.{Rises}
use Rattle.turnstile.proofs.Weaves.{entries_at-snoc}
use Rattle.ata_script.specs.declared.port_head.PortHead.{PortHead}
use Rattle.port_core.specs.PortView.{PortView}
use Rattle.ata_trace.specs.declared.step.Step.{Step}
use Rattle.port_threads.specs.Held.{Held, Grew, nothing, held_at, joined, joined_all, at_of, AllRise}
use Rattle.port_threads.specs.PassesHeld.{of_pass, held, AllThere}

module _ {A : Type 0} where
  pub set-set : (xs : List A) (i : ℕ) (x y : A) → set (set xs i x) i y ≡ set xs i y
  set-set [] i x y = refl
  set-set (z ∷ zs) zero x y = refl
  set-set (z ∷ zs) (suc i) x y = ap (λ l. z ∷ l) (set-set zs i x y)

-- what stands in a list that a loop has gone over as far as i
pub unvisited : (f : Held → Held) (hs : List Held) (i : ℕ) → i < length hs → held_at (map f (take i hs) ++ drop i hs) i ≡ held_at hs i
unvisited f [] i lt = absurd (omega (arith, lt))
unvisited f (h ∷ hs) zero lt = refl
unvisited f (h ∷ hs) (suc i) lt = unvisited f hs i (omega (arith, lt))

pub row_more : (f : Held → Held) (hs ys : List Held) (i : ℕ) → i < length hs → ys ≡ map f (take i hs) ++ drop i hs → set ys i (f (held_at hs i)) ≡ map f (take (suc i) hs) ++ drop (suc i) hs
row_more f [] ys i lt e = absurd (omega (arith, lt))
row_more f (h ∷ hs) ys zero lt e = ap (λ l. set l 0 (f h)) e
row_more f (h ∷ hs) ys (suc i) lt e =
    ap (λ l. set l (suc i) (f (held_at hs i))) e ∙ ap (λ l. f h ∷ l) (row_more f hs (map f (take i hs) ++ drop i hs) i (omega (arith, lt)) refl)

pub join_unvisited : (hs ks : List Held) (i : ℕ) → i < length hs → i < length ks → held_at (joined_all (take i hs) (take i ks) ++ drop i hs) i ≡ held_at hs i
join_unvisited [] ks i lt lk = absurd (omega (arith, lt))
join_unvisited (h ∷ hs) [] i lt lk = absurd (omega (arith, lk))
join_unvisited (h ∷ hs) (k ∷ ks) zero lt lk = refl
join_unvisited (h ∷ hs) (k ∷ ks) (suc i) lt lk = join_unvisited hs ks i (omega (arith, lt)) (omega (arith, lk))

pub join_more : (hs ks ys : List Held) (i : ℕ) → i < length hs → i < length ks → ys ≡ joined_all (take i hs) (take i ks) ++ drop i hs
    → set ys i (joined (held_at hs i) (held_at ks i)) ≡ joined_all (take (suc i) hs) (take (suc i) ks) ++ drop (suc i) hs
join_more [] ks ys i lt lk e = absurd (omega (arith, lt))
join_more (h ∷ hs) [] ys i lt lk e = absurd (omega (arith, lk))
join_more (h ∷ hs) (k ∷ ks) ys zero lt lk e = ap (λ l. set l 0 (joined h k)) e
join_more (h ∷ hs) (k ∷ ks) ys (suc i) lt lk e =
    ap (λ l. set l (suc i) (joined (held_at hs i) (held_at ks i))) e
    ∙ ap (λ l. joined h k ∷ l) (join_more hs ks (joined_all (take i hs) (take i ks) ++ drop i hs) i (omega (arith, lt)) (omega (arith, lk)) refl)

-- one pass is lent and put back
pub put_view : {g : _} (xs ys zs : List (Option (Pass PortView Step (ℕ × PortHead) g))) (hs : List Held) (port : ℕ) (q : Pass PortView Step (ℕ × PortHead) g)
    → map held xs ≡ hs → ys ≡ set xs port None → zs ≡ set ys port (Some q) → map held zs ≡ set hs port (of_pass q)
put_view xs ys zs hs port q view lent put =
    ap (map held) (put ∙ ap (λ l. set l port (Some q)) lent ∙ set-set xs port None (Some q)) ∙ map-set held xs port (Some q) ∙ ap (λ l. set l port (of_pass q)) view

pub put_there : {g : _} (xs ys zs : List (Option (Pass PortView Step (ℕ × PortHead) g))) (port : ℕ) (q : Pass PortView Step (ℕ × PortHead) g)
    → AllThere xs → ys ≡ set xs port None → zs ≡ set ys port (Some q) → AllThere zs
put_there xs ys zs port q all lent put =
    subst AllThere (sym (put ∙ ap (λ l. set l port (Some q)) lent ∙ set-set xs port None (Some q))) (All-set (λ p. IsSome p) xs port (Some q) refl all)

pub lent_view : {g : _} (xs : List (Option (Pass PortView Step (ℕ × PortHead) g))) (hs : List Held) (port : ℕ) (p : Pass PortView Step (ℕ × PortHead) g)
    → port < length hs → map held xs ≡ hs → get_or xs port None ≡ Some p → held_at hs port ≡ of_pass p
lent_view xs hs port p lt view is =
    ap (λ l. held_at l port) (sym view) ∙ get_or-map held xs port None nothing (omega (arith, lt, ap length view, length-map xs held)) ∙ ap held is

pub put_at : (hs vs : List Held) (port : ℕ) (h : Held) → port < length hs → vs ≡ set hs port h → held_at vs port ≡ h
put_at hs vs port h lt e = ap (λ l. held_at l port) e ∙ get_or-set_same hs port h nothing lt

pub put_stays : (hs vs : List Held) (port : ℕ) (h : Held) → port < length hs → vs ≡ set hs port h → vs ≡ set hs port (held_at vs port)
put_stays hs vs port h lt e = e ∙ ap (λ k. set hs port k) (sym (put_at hs vs port h lt e))

pub grew_by : {g : _} (p q : Pass PortView Step (ℕ × PortHead) g) (n : ℕ) (e : Entry Step) → at q ≡ at p → share q ≡ share p → IsPrefix (seen p) (seen q) → own q ≡ own p ++ (n, e) ∷ [] → Grew (of_pass p) (e ∷ []) (of_pass q)
grew_by p q n e made same saw more = record { at = made; share = same; seen = saw; own = ap entries more ∙ entries_at-snoc (own p) n e }
  where
    entries : List (ℕ × Entry Step) → List (Entry Step)
    entries ps = Rattle.turnstile.specs.Weaves.entries_at ps

pub grew_none : {g : _} (p q : Pass PortView Step (ℕ × PortHead) g) → at q ≡ at p → share q ≡ share p → IsPrefix (seen p) (seen q) → own q ≡ own p → Grew (of_pass p) [] (of_pass q)
grew_none p q made same saw kept = record { at = made; share = same; seen = saw; own = ap (λ ps. Rattle.turnstile.specs.Weaves.entries_at ps) kept ∙ sym (append-nil (Rattle.turnstile.specs.Weaves.entries_at (own p))) }

pub grew_put : (hs vs : List Held) (port : ℕ) (h k : Held) (more : List (Entry Step)) → port < length hs → held_at hs port ≡ h → vs ≡ set hs port k → Grew h more k → Grew (held_at hs port) more (held_at vs port)
grew_put hs vs port h k more lt was put grew = subst (λ x. Grew x more (held_at vs port)) (sym was) (subst (Grew h more) (sym (put_at hs vs port k lt put)) grew)

-- the passes were made at the desks of their places
pub made_at : (hs : List Held) (desks : List (Stile)) (port : ℕ) (d : Stile) → map at_of hs ≡ map place desks → port < length hs → port < length desks
    → (held_at hs port).at ≡ place (get_or desks port d)
made_at hs desks port d made lt ld =
    sym (get_or-map at_of hs port nothing nothing.at lt) ∙ ap (λ l. get_or l port nothing.at) made ∙ get_or-map place desks port d nothing.at ld

rise_at : {g : _} (xs : List (Option (Pass PortView Step (ℕ × PortHead) g))) (i : ℕ) → Rises 0 (held_at (map held xs) i).own
rise_at [] i = tt
rise_at (None ∷ xs) zero = tt
rise_at (Some p ∷ xs) zero = p.in_order
rise_at (x ∷ xs) (suc i) = rise_at xs i

pub rise_all : {g : _} (xs : List (Option (Pass PortView Step (ℕ × PortHead) g))) (hs : List Held) → map held xs ≡ hs → AllRise hs
rise_all xs hs view = All-from_get_or (λ (h : Held). Rises 0 h.own) hs nothing (λ i lt. subst (λ l. Rises 0 (held_at l i).own) view (rise_at xs i))

-- a pass that a loop lends is the one that its row began with
pub lent_row : {g : _} (xs : List (Option (Pass PortView Step (ℕ × PortHead) g))) (vs hs : List Held) (i : ℕ) (p : Pass PortView Step (ℕ × PortHead) g)
    → i < length xs → map held xs ≡ vs → held_at vs i ≡ held_at hs i → get_or xs i None ≡ Some p → of_pass p ≡ held_at hs i
lent_row xs vs hs i p lt view same is =
    ap held (sym is) ∙ sym (get_or-map held xs i None nothing lt) ∙ ap (λ l. held_at l i) view ∙ same

pub one_more : {g : _} (f : Held → Held) (xs ys : List (Option (Pass PortView Step (ℕ × PortHead) g))) (hs : List Held) (i : ℕ) (p : Pass PortView Step (ℕ × PortHead) g)
    → i < length hs → map held xs ≡ map f (take i hs) → ys ≡ xs ++ Some p ∷ [] → of_pass p ≡ f (held_at hs i) → map held ys ≡ map f (take (i + 1) hs)
one_more f xs ys hs i p lt view pushed is =
    ap (map held) pushed ∙ map-append held xs (Some p ∷ []) ∙ ap (λ l. l ++ of_pass p ∷ []) view ∙ ap (λ h. map f (take i hs) ++ h ∷ []) is ∙ sym (map_more f hs i nothing lt)

pub same_length : (hs : List Held) (desks : List (Stile)) → map at_of hs ≡ map place desks → length hs ≡ length desks
same_length hs desks made =
    let a : length (map at_of hs) ≡ length hs = length-map hs at_of in
    let b : length (map (λ (d : Stile). place d) desks) ≡ length desks = length-map desks (λ (d : Stile). place d) in
    sym a ∙ ap length made ∙ b

pub held_same : (a b : Held) → a.at ≡ b.at → a.share ≡ b.share → a.seen ≡ b.seen → a.own ≡ b.own → a ≡ b
held_same a b e f s o = λ i. record { at = e i; share = f i; seen = s i; own = o i }

pub view_length : {g : _} (xs : List (Option (Pass PortView Step (ℕ × PortHead) g))) (hs : List Held) → map held xs ≡ hs → length xs ≡ length hs
view_length xs hs view = sym (length-map xs held) ∙ ap length view

pub given_length : {g : _} (f : Held → Held) (xs : List (Option (Pass PortView Step (ℕ × PortHead) g))) (hs : List Held) (i : ℕ) → i ≤ length hs → map held xs ≡ map f (take i hs) → length xs ≡ i
given_length f xs hs i le view = sym (length-map xs held) ∙ ap length view ∙ length-map (take i hs) f ∙ length-take-le i hs le

pub put_length : {g : _} (xs ys zs : List (Option (Pass PortView Step (ℕ × PortHead) g))) (port : ℕ) (q : Pass PortView Step (ℕ × PortHead) g)
    → ys ≡ set xs port None → zs ≡ set ys port (Some q) → length zs ≡ length xs
put_length xs ys zs port q lent put = ap length put ∙ length-set ys port (Some q) ∙ ap length lent ∙ length-set xs port None

-- the step of a loop that changes each pass of a row in turn
pub row_step : {g : _} (f : Held → Held) (xs ys zs : List (Option (Pass PortView Step (ℕ × PortHead) g))) (hs : List Held) (i : ℕ) (q : Pass PortView Step (ℕ × PortHead) g)
    → i < length hs → map held xs ≡ map f (take i hs) ++ drop i hs → ys ≡ set xs i None → zs ≡ set ys i (Some q) → of_pass q ≡ f (held_at hs i)
    → map held zs ≡ map f (take (i + 1) hs) ++ drop (i + 1) hs
row_step f xs ys zs hs i q lt view lent put is =
    put_view xs ys zs (map held xs) i q refl lent put ∙ ap (set (map held xs) i) is ∙ row_more f hs (map held xs) i lt view
    ∙ ap (λ n. map f (take n hs) ++ drop n hs) (sym (add-one i))

pub join_step : {g : _} (xs ys zs : List (Option (Pass PortView Step (ℕ × PortHead) g))) (hs ks : List Held) (i : ℕ) (q : Pass PortView Step (ℕ × PortHead) g)
    → i < length hs → i < length ks → map held xs ≡ joined_all (take i hs) (take i ks) ++ drop i hs → ys ≡ set xs i None → zs ≡ set ys i (Some q) → of_pass q ≡ joined (held_at hs i) (held_at ks i)
    → map held zs ≡ joined_all (take (i + 1) hs) (take (i + 1) ks) ++ drop (i + 1) hs
join_step xs ys zs hs ks i q lt lk view lent put is =
    put_view xs ys zs (map held xs) i q refl lent put ∙ ap (set (map held xs) i) is ∙ join_more hs ks (map held xs) i lt lk view
    ∙ ap (λ n. joined_all (take n hs) (take n ks) ++ drop n hs) (sym (add-one i))
