-- The steps of an actor at a port, line by line.
use Rattle.std.proofs.Common.{◌≡◌, ◌≢◌, ℕ, ◌+◌, ◌==◌, ◌<◌, ◌≤◌, Bool, true, false, cond, List, [], ◌∷◌, ◌++◌, length, take, drop, get_or, refl, sym, ap, ◌∙◌, subst, append-nil, length-take-le, eq-eqb, ne_eqb, arith}
use Rattle.std.proofs.lemmas.List.{take_more, take_all, take-append-drop}
use Rattle.std.proofs.lemmas.List.Elements.{All-push}
use Rattle.std.specs.Prelude.{All}
use Rattle.ata_trace.specs.declared.step.Step.{Step}
use Rattle.port_core.specs.Weave.{steps_at, steps_of}
use Rattle.port_threads.specs.Walks.{steps_by}

pub steps_by-append : (port actor : ℕ) (xs ys : List (ℕ × ℕ × Step)) → steps_by port (xs ++ ys) actor ≡ steps_by port xs actor ++ steps_by port ys actor
steps_by-append port actor [] ys = refl
steps_by-append port actor (x ∷ xs) ys = there (x.1 == port) (steps_by-append port actor xs ys) where
  mine : (b : Bool) → steps_by port (xs ++ ys) actor ≡ steps_by port xs actor ++ steps_by port ys actor
      → cond b (x.2 ∷ steps_by port (xs ++ ys) actor) (steps_by port (xs ++ ys) actor) ≡ cond b (x.2 ∷ steps_by port xs actor) (steps_by port xs actor) ++ steps_by port ys actor
  mine true rest = ap (λ l. x.2 ∷ l) rest
  mine false rest = rest

  there : (b : Bool) → steps_by port (xs ++ ys) actor ≡ steps_by port xs actor ++ steps_by port ys actor
      → steps_of actor (cond b ((x.0, x.2) ∷ steps_at port (xs ++ ys)) (steps_at port (xs ++ ys))) ≡ steps_of actor (cond b ((x.0, x.2) ∷ steps_at port xs) (steps_at port xs)) ++ steps_by port ys actor
  there true rest = mine (x.0 == actor) rest
  there false rest = rest

-- a line of another actor
pub line_of_other : (port actor : ℕ) (x : ℕ × ℕ × Step) (xs : List (ℕ × ℕ × Step)) → x.0 ≢ actor → steps_by port (x ∷ xs) actor ≡ steps_by port xs actor
line_of_other port actor x xs ne = there (x.1 == port) where
  there : (b : Bool) → steps_of actor (cond b ((x.0, x.2) ∷ steps_at port xs) (steps_at port xs)) ≡ steps_by port xs actor
  there true = ap (λ b. cond b (x.2 ∷ steps_by port xs actor) (steps_by port xs actor)) (ne_eqb x.0 actor ne)
  there false = refl

-- a line at another port
pub line_elsewhere : (port actor : ℕ) (x : ℕ × ℕ × Step) (xs : List (ℕ × ℕ × Step)) → x.1 ≢ port → steps_by port (x ∷ xs) actor ≡ steps_by port xs actor
line_elsewhere port actor x xs ne = ap (λ b. steps_of actor (cond b ((x.0, x.2) ∷ steps_at port xs) (steps_at port xs))) (ne_eqb x.1 port ne)

-- a line of the actor at the port
line_here : (port actor : ℕ) (x : ℕ × ℕ × Step) (xs : List (ℕ × ℕ × Step)) → x.0 ≡ actor → x.1 ≡ port → steps_by port (x ∷ xs) actor ≡ x.2 ∷ steps_by port xs actor
line_here port actor x xs mine there =
    ap (λ b. steps_of actor (cond b ((x.0, x.2) ∷ steps_at port xs) (steps_at port xs))) (eq-eqb x.1 port there)
    ∙ ap (λ b. cond b (x.2 ∷ steps_by port xs actor) (steps_by port xs actor)) (eq-eqb x.0 actor mine)

-- the steps as far as the line x, which stands at i
steps_more : (port actor : ℕ) (lines : List (ℕ × ℕ × Step)) (i : ℕ) (x d : ℕ × ℕ × Step) → i < length lines → x ≡ get_or lines i d
    → steps_by port (take (i + 1) lines) actor ≡ steps_by port (take i lines) actor ++ steps_by port (x ∷ []) actor
steps_more port actor lines i x d lt is =
    ap (λ l. steps_by port l actor) (take_more lines i d lt ∙ ap (λ y. take i lines ++ y ∷ []) (sym is)) ∙ steps_by-append port actor (take i lines) (x ∷ [])

pub steps_here : (port actor : ℕ) (lines : List (ℕ × ℕ × Step)) (i : ℕ) (x d : ℕ × ℕ × Step) → i < length lines → x ≡ get_or lines i d → x.0 ≡ actor → x.1 ≡ port
    → steps_by port (take (i + 1) lines) actor ≡ steps_by port (take i lines) actor ++ x.2 ∷ []
steps_here port actor lines i x d lt is mine there =
    steps_more port actor lines i x d lt is ∙ ap (λ l. steps_by port (take i lines) actor ++ l) (line_here port actor x [] mine there)

pub steps_other : (port actor : ℕ) (lines : List (ℕ × ℕ × Step)) (i : ℕ) (x d : ℕ × ℕ × Step) → i < length lines → x ≡ get_or lines i d → x.0 ≢ actor
    → steps_by port (take (i + 1) lines) actor ≡ steps_by port (take i lines) actor
steps_other port actor lines i x d lt is ne =
    steps_more port actor lines i x d lt is ∙ ap (λ l. steps_by port (take i lines) actor ++ l) (line_of_other port actor x [] ne) ∙ append-nil (steps_by port (take i lines) actor)

pub steps_elsewhere : (port actor : ℕ) (lines : List (ℕ × ℕ × Step)) (i : ℕ) (x d : ℕ × ℕ × Step) → i < length lines → x ≡ get_or lines i d → x.1 ≢ port
    → steps_by port (take (i + 1) lines) actor ≡ steps_by port (take i lines) actor
steps_elsewhere port actor lines i x d lt is ne =
    steps_more port actor lines i x d lt is ∙ ap (λ l. steps_by port (take i lines) actor ++ l) (line_elsewhere port actor x [] ne) ∙ append-nil (steps_by port (take i lines) actor)

few_steps : (port actor : ℕ) (lines : List (ℕ × ℕ × Step)) → length (steps_by port lines actor) ≤ length lines
few_steps port actor [] = omega arith
few_steps port actor (x ∷ xs) = there (x.1 == port) (few_steps port actor xs) where
  mine : (b : Bool) → length (steps_by port xs actor) ≤ length xs → length (cond b (x.2 ∷ steps_by port xs actor) (steps_by port xs actor)) ≤ length (x ∷ xs)
  mine true few = omega (arith, few)
  mine false few = omega (arith, few)

  there : (b : Bool) → length (steps_by port xs actor) ≤ length xs → length (steps_of actor (cond b ((x.0, x.2) ∷ steps_at port xs) (steps_at port xs))) ≤ length (x ∷ xs)
  there true few = mine (x.0 == actor) few
  there false few = omega (arith, few)

-- an actor has at most as many steps as there are lines
pub length-steps : (port actor : ℕ) (lines : List (ℕ × ℕ × Step)) (i : ℕ) → i ≤ length lines → length (steps_by port (take i lines) actor) ≤ i
length-steps port actor lines i le = omega (arith, few_steps port actor (take i lines), length-take-le i lines le)

-- the steps of the first lines are the first of all
pub steps_split : (port actor : ℕ) (lines : List (ℕ × ℕ × Step)) (i : ℕ) → steps_by port (take i lines) actor ++ steps_by port (drop i lines) actor ≡ steps_by port lines actor
steps_split port actor lines i = sym (steps_by-append port actor (take i lines) (drop i lines)) ∙ ap (λ l. steps_by port l actor) (take-append-drop i lines)

-- the actor of one line more is below 32
pub few_more : (lines : List (ℕ × ℕ × Step)) (i : ℕ) (x : ℕ × ℕ × Step) → i < length lines → x ≡ get_or lines i x → x.0 < 32
    → All (λ (line : ℕ × ℕ × Step). line.0 < 32) (take i lines) → All (λ (line : ℕ × ℕ × Step). line.0 < 32) (take (i + 1) lines)
few_more lines i x lt is low few =
    subst (All (λ (line : ℕ × ℕ × Step). line.0 < 32)) (sym (take_more lines i x lt ∙ ap (λ y. take i lines ++ y ∷ []) (sym is)))
    (All-push (λ (line : ℕ × ℕ × Step). line.0 < 32) (take i lines) x few low)

-- so it is in all lines
pub few_all : (lines : List (ℕ × ℕ × Step)) (i : ℕ) → length lines ≤ i → All (λ (line : ℕ × ℕ × Step). line.0 < 32) (take i lines) → All (λ (line : ℕ × ℕ × Step). line.0 < 32) lines
few_all lines i le few = subst (All (λ (line : ℕ × ℕ × Step). line.0 < 32)) (take_all i lines le) few
