-- The turnstiles at the beginning and at the end of a run.
use Rattle.std.proofs.Common.{◌≡◌, ℕ, suc, zero, ◌+◌, ◌<◌, ◌^◌, List, [], ◌∷◌, ◌++◌, map, length, take, drop, get_or, refl, sym, ap, ap₂, ◌∙◌, subst, length-drop, length-take-le, add-one, le-leb, cond, arith}
use Rattle.std.specs.Prelude.{All}
use Rattle.std.proofs.lemmas.List.{get_or-drop, get_or_append_left, take_more, length-map}
use Rattle.std.proofs.lemmas.List.Elements.{All-from_get_or}
use Rattle.std.proofs.Math.Seq.{get_or-append_seam}
use mathlib.Core.Logic.{dite}
use native.Mathlib.Decide.{ℕ_discrete}
use Rattle.ata_script.specs.declared.port_head.PortHead.{PortHead}
use Rattle.ata_trace.specs.declared.step.Step.{Step}
use Rattle.port_core.specs.Hosts.{heads_in, journals_in}
use Rattle.port_core.specs.PortView.{PortView}
use Rattle.port_threads.proofs.Journals.{is_weave}
use Rattle.port_threads.specs.Held.{Held, held_at, nothing, at_of}
use Rattle.port_threads.specs.Moves.{moves_in}
use Rattle.port_threads.specs.Stiles.{Stile, first_pass, IsNew, AllNew, AreInOrder, IsClosed, AllClosed}
use Rattle.port_threads.specs.Walks.{steps_by, steps_from, AreWovenFrom}
use Rattle.port_threads.specs.Weave.{IsWeave, AreWeaves, IsRunOf}
use Rattle.turnstile.specs.Passes.{place}
use Rattle.turnstile.specs.Weaves.{entries_at, numbered, of_actor, IsWoven}

new_snoc : (n : ℕ) (hs : List PortHead) (ts : List Stile) (h : PortHead) (t : Stile) → AllNew n hs ts → IsNew (n + length hs) h t → AllNew n (hs ++ h ∷ []) (ts ++ t ∷ [])
new_snoc n [] [] h t all one =
    let here : n + 0 ≡ n = omega arith in
    (subst (λ k. IsNew k h t) here one, tt)
new_snoc n [] (u ∷ us) h t all one = absurd all
new_snoc n (k ∷ ks) [] h t all one = absurd all
new_snoc n (k ∷ ks) (u ∷ us) h t all one =
    let here : n + length (k ∷ ks) ≡ n + 1 + length ks = omega arith in
    (all.0, new_snoc (n + 1) ks us h t all.1 (subst (λ m. IsNew m h t) here one))

-- the turnstile of the next port
pub new_more : (heads : List PortHead) (i : ℕ) (h : PortHead) (ts : List Stile) (t : Stile) → i < length heads → h ≡ get_or heads i h → AllNew 0 (take i heads) ts → IsNew i h t
    → AllNew 0 (take (i + 1) heads) (ts ++ t ∷ [])
new_more heads i h ts t lt is all one =
    let count : i ≡ 0 + length (take i heads) = omega (arith, length-take-le i heads (omega (arith, lt))) in
    subst (λ l. AllNew 0 l (ts ++ t ∷ [])) (sym (take_more heads i h lt ∙ ap (λ k. take i heads ++ k ∷ []) (sym is)))
    (new_snoc 0 (take i heads) ts h t all (subst (λ n. IsNew n h t) count one))

new_length_from : (n : ℕ) (hs : List PortHead) (ts : List Stile) → AllNew n hs ts → length ts ≡ length hs
new_length_from n [] [] all = refl
new_length_from n [] (u ∷ us) all = absurd all
new_length_from n (k ∷ ks) [] all = absurd all
new_length_from n (k ∷ ks) (u ∷ us) all = ap suc (new_length_from (n + 1) ks us all.1)

pub new_length : (hs : List PortHead) (ts : List Stile) → AllNew 0 hs ts → length ts ≡ length hs
new_length hs ts all = new_length_from 0 hs ts all

new_at : (n : ℕ) (hs : List PortHead) (ts : List Stile) (i : ℕ) (h : PortHead) (t : Stile) → AllNew n hs ts → i < length ts → IsNew (n + i) (get_or hs i h) (get_or ts i t)
new_at n [] [] i h t all lt = absurd (omega (arith, lt))
new_at n [] (u ∷ us) i h t all lt = absurd all
new_at n (k ∷ ks) [] i h t all lt = absurd all
new_at n (k ∷ ks) (u ∷ us) zero h t all lt =
    let here : n ≡ n + 0 = omega arith in
    subst (λ m. IsNew m k u) here all.0
new_at n (k ∷ ks) (u ∷ us) (suc i) h t all lt =
    let here : n + 1 + i ≡ n + suc i = omega arith in
    subst (λ m. IsNew m (get_or ks i h) (get_or us i t)) here (new_at (n + 1) ks us i h t all.1 (omega (arith, lt)))

head_some : (hs : List PortHead) (i : ℕ) → i < length hs → PortHead
head_some [] i lt = absurd (omega (arith, lt))
head_some (h ∷ hs) i lt = h

stile_some : (ts : List Stile) (i : ℕ) → i < length ts → Stile
stile_some [] i lt = absurd (omega (arith, lt))
stile_some (t ∷ ts) i lt = t

-- the ports of new turnstiles are numbered from 0
pub new_in_order : (hs : List PortHead) (ts : List Stile) → AllNew 0 hs ts → AreInOrder ts
new_in_order hs ts all i t lt =
    let h = head_some hs i (omega (arith, lt, new_length hs ts all)) in
    let same : 0 + i ≡ i = omega arith in
    (new_at 0 hs ts i h t all lt).number ∙ same

-- the first passes
pub first_ats : (ts : List Stile) → map at_of (map first_pass ts) ≡ map place ts
first_ats [] = refl
first_ats (t ∷ ts) = ap (λ l. place t ∷ l) (first_ats ts)

pub first_shares : (ts : List Stile) → All (λ (h : Held). h.share ≡ 2 ^ 32) (map first_pass ts)
first_shares ts = All-from_get_or (λ (h : Held). h.share ≡ 2 ^ 32) (map first_pass ts) nothing (λ i lt. at ts i (omega (arith, lt, length-map ts first_pass)))
  where
    at : (ts : List Stile) (i : ℕ) → i < length ts → (get_or (map first_pass ts) i nothing).share ≡ 2 ^ 32
    at [] i lt = absurd (omega (arith, lt))
    at (t ∷ ts) zero lt = refl
    at (t ∷ ts) (suc i) lt = at ts i (omega (arith, lt))

pub first_fresh : (ts : List Stile) → All (λ (h : Held). h.own ≡ []) (map first_pass ts)
first_fresh ts = All-from_get_or (λ (h : Held). h.own ≡ []) (map first_pass ts) nothing (λ i lt. at ts i)
  where
    at : (ts : List Stile) (i : ℕ) → (get_or (map first_pass ts) i nothing).own ≡ []
    at [] i = refl
    at (t ∷ ts) zero = refl
    at (t ∷ ts) (suc i) = at ts i

-- a loop that takes the elements of a list in turn, and has t and rest still to come at i
pub turn_room : {A : Type 0} (ts : List A) (i : ℕ) (t : A) (rest : List A) → drop i ts ≡ t ∷ rest → i < length ts
turn_room ts i t rest e = omega (arith, ap length e, length-drop i ts)

pub turn_at : {A : Type 0} (ts : List A) (i : ℕ) (t : A) (rest : List A) → drop i ts ≡ t ∷ rest → (d : A) → get_or ts i d ≡ t
turn_at ts i t rest e d =
    let zero_more : i + 0 ≡ i = omega arith in
    ap (λ n. get_or ts n d) (sym zero_more) ∙ sym (get_or-drop i ts 0 d) ∙ ap (λ l. get_or l 0 d) e

pub turn_rest : {A : Type 0} (ts : List A) (i : ℕ) (t : A) (rest : List A) → drop i ts ≡ t ∷ rest → rest ≡ drop (i + 1) ts
turn_rest {A = A} ts i t rest e = ap (drop 1) (sym e) ∙ drop_one ts i ∙ ap (λ n. drop n ts) (sym (add-one i))
  where
    drop_one : (ts : List A) (i : ℕ) → drop 1 (drop i ts) ≡ drop (suc i) ts
    drop_one [] zero = refl
    drop_one [] (suc i) = refl
    drop_one (x ∷ xs) zero = refl
    drop_one (x ∷ xs) (suc i) = drop_one xs i

-- one port more is given back
pub closed_more : (desks : List Stile) (passes : List Held) (ports : List PortView) (i : ℕ) (desk : Stile) (x : PortView) → length ports ≡ i → ((d : Stile) → get_or desks i d ≡ desk) → IsClosed desk (held_at passes i) x
    → ((k : ℕ) (t : Stile) (p : PortView) → k < i → IsClosed (get_or desks k t) (held_at passes k) (get_or ports k p))
    → (k : ℕ) (t : Stile) (p : PortView) → k < i + 1 → IsClosed (get_or desks k t) (held_at passes k) (get_or (ports ++ x ∷ []) k p)
closed_more desks passes ports i desk x len is one all k t p lt = dite (ℕ_discrete k i)
    (λ e.
    let last : get_or (ports ++ x ∷ []) k p ≡ x = ap (λ n. get_or (ports ++ x ∷ []) n p) (e ∙ sym len) ∙ get_or-append_seam ports x [] p in
    subst (IsClosed (get_or desks k t) (held_at passes k)) (sym last)
    (subst (λ n. IsClosed (get_or desks n t) (held_at passes n) x) (sym e) (subst (λ u. IsClosed u (held_at passes i) x) (sym (is t)) one)))
    (λ ne.
    subst (IsClosed (get_or desks k t) (held_at passes k)) (sym (get_or_append_left ports (x ∷ []) p k (omega (arith, len, lt, ne))))
    (all k t p (omega (arith, lt, ne))))

-- ports with these heads, each with a weave, are those of a run
run_from : (n : ℕ) (heads : List PortHead) (lines : List (ℕ × ℕ × Step)) (ports : List PortView) → length ports ≡ length heads
    → ((k : ℕ) (h : PortHead) (p : PortView) → k < length heads → ((get_or ports k p).head ≡ get_or heads k h) × IsWeave (get_or heads k h) (n + k) lines (get_or ports k p).entries)
    → (heads_in ports ≡ heads) × AreWeaves n heads lines (journals_in ports)
run_from n [] lines [] len each = (refl, tt)
run_from n [] lines (p ∷ ps) len each = absurd (omega (arith, len))
run_from n (h ∷ hs) lines [] len each = absurd (omega (arith, len))
run_from n (h ∷ hs) lines (p ∷ ps) len each =
    let here : n + 0 ≡ n = omega arith in
    let first = each 0 h p (omega arith) in
    let later = run_from (n + 1) hs lines ps (omega (arith, len))
    (λ k g q lt.
    let there : n + suc k ≡ n + 1 + k = omega arith in
    let next = each (suc k) g q (omega (arith, lt)) in
    (next.0, subst (λ m. IsWeave (get_or hs k g) m lines (get_or ps k q).entries) there next.1)) in
    (ap₂ ◌∷◌ first.0 later.0, (subst (λ m. IsWeave h m lines p.entries) here first.1, later.1))

steps_from_first : (lines : List (ℕ × ℕ × Step)) (port actor : ℕ) → steps_from 0 port lines actor ≡ steps_by port lines actor
steps_from_first lines port actor = ap (λ b. cond b (steps_by port lines actor) []) (le-leb 0 actor (omega arith))

-- the moves of a port that was given back are woven of the steps there
closed_woven : (lines : List (ℕ × ℕ × Step)) (port n : ℕ) (head : PortHead) (desk : Stile) (h : Held) (x : PortView)
    → IsNew n head desk → IsClosed desk h x → IsWoven (steps_from 0 port lines) (entries_at h.own) → IsWoven (steps_by port lines) (moves_in x.entries)
closed_woven lines port n head desk h x new closed woven actor =
    ap (of_actor actor) (closed.moves ∙ ap (λ l. l ++ entries_at h.own) new.fresh) ∙ woven actor ∙ ap (numbered actor 0) (steps_from_first lines port actor)

-- the ports after a run
pub run_done : (heads : List PortHead) (lines : List (ℕ × ℕ × Step)) (desks : List Stile) (passes : List Held) (ports : List PortView)
    → AllNew 0 heads desks → AreWovenFrom 0 lines (map first_pass desks) passes → AllClosed desks passes ports → IsRunOf heads lines ports
run_done heads lines desks passes ports new woven ends =
    let count : length desks ≡ length heads = new_length heads desks new in
    let all = run_from 0 heads lines ports (ends.count ∙ count)
    (λ k h p lt.
    let within : k < length desks = omega (arith, lt, count) in
    let same : 0 + k ≡ k = omega arith in
    let t = stile_some desks k within in
    let was = new_at 0 heads desks k h t new within in
    let closed = ends.each k t p within in
    let head : (get_or ports k p).head ≡ get_or heads k h = closed.head ∙ was.head in
    let made = (woven.each k (omega (arith, within, length-map desks first_pass))).woven in
    let weave : IsWeave (get_or ports k p).head k lines (get_or ports k p).entries =
    is_weave (get_or ports k p).head k lines (get_or ports k p).entries closed.legal closed.actors
    (closed_woven lines k (0 + k) (get_or heads k h) (get_or desks k t) (held_at passes k) (get_or ports k p) was closed made) in
    (head, subst (λ m. IsWeave (get_or heads k h) m lines (get_or ports k p).entries) (sym same) (subst (λ g. IsWeave g k lines (get_or ports k p).entries) head weave))) in
    record { same = all.0; woven = all.1 }

pub woven_only : (lines : List (ℕ × ℕ × Step)) (old new : List Held) → AreWovenFrom 0 lines old new → All (λ (h : Held). h.share ≡ 2 ^ 32) old → All (λ (h : Held). h.share ≡ 2 ^ 32) new
woven_only lines old new w shares = All-from_get_or (λ (h : Held). h.share ≡ 2 ^ 32) new nothing (λ i lt. let le : i < length old = omega (arith, lt, w.count) in (w.each i le).share ∙ shares i nothing le)
