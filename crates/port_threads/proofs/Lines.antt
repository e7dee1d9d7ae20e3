-- A walk line by line: what it adds to the pass of each port.
use Rattle.std.proofs.Common.{◌≡◌, ◌≢◌, ℕ, suc, ◌+◌, ◌<◌, List, [], ◌∷◌, ◌++◌, map, length, take, drop, get_or, set, refl, sym, ap, ap₂, ◌∙◌, subst, append-nil, append_assoc, length-append, arith}
use Rattle.std.specs.Prelude.{slice_index, All}
use Rattle.std.proofs.lemmas.List.{get_or-set_same, get_or-set_other, length-set}
use Rattle.std.proofs.lemmas.List.Elements.{All-from_get_or}
use mathlib.Core.List.{IsPrefix}
use mathlib.Core.Logic.{dite}
use native.Mathlib.Decide.{ℕ_discrete}
use Rattle.ata_trace.specs.declared.step.Step.{Step}
use Rattle.ata_trace.specs.declared.step.Step.TheVariants.{Irq}
use Rattle.port_threads.proofs.ActorSteps.{steps_here, steps_elsewhere, steps_split}
use Rattle.port_threads.specs.Held.{Held, Grew, held_at, nothing, at_of}
use Rattle.port_threads.specs.Walks.{entries_of, steps_by, Walked, WalkedSome}
use Rattle.turnstile.proofs.Weaves.{numbered-snoc}
use Rattle.turnstile.specs.Passes.{entry_of}
use Rattle.turnstile.specs.Weaves.{numbered, entries_at}
use Rattle.turnstile.specs.declared.entry.Entry.{Entry}

-- what stands where there is no line
abbrev pub blank : ℕ × ℕ × Step
blank = (0, 0, Irq)

IsPrefix-trans : {A : Type 0} (xs ys zs : List A) → IsPrefix xs ys → IsPrefix ys zs → IsPrefix xs zs
IsPrefix-trans xs ys zs p q = (p.0 ++ q.0, sym (append_assoc xs p.0 q.0) ∙ ap (λ l. l ++ q.0) p.1 ∙ q.1)

pub Grew-same : (h : Held) → Grew h [] h
Grew-same h = record { at = refl; share = refl; seen = ([], append-nil h.seen); own = sym (append-nil (entries_at h.own)) }

Grew-trans : (a b c : Held) (xs ys zs : List (Entry Step)) → Grew a xs b → Grew b ys c → zs ≡ xs ++ ys → Grew a zs c
Grew-trans a b c xs ys zs g h all = record {
  at = h.at ∙ g.at;
  share = h.share ∙ g.share;
  seen = IsPrefix-trans a.seen b.seen c.seen g.seen h.seen;
  own = h.own ∙ ap (λ l. l ++ ys) g.own ∙ append_assoc (entries_at a.own) xs ys ∙ ap (λ l. entries_at a.own ++ l) (sym all);
}

held_other : (now new : List Held) (at port : ℕ) (h : Held) → new ≡ set now at h → port ≢ at → held_at new port ≡ held_at now port
held_other now new at port h put ne = ap (λ l. held_at l port) put ∙ get_or-set_other now at port h nothing ne

pub walk_none : (actor : ℕ) (lines : List (ℕ × ℕ × Step)) (old : List Held) → Walked actor (take 0 lines) old old
walk_none actor lines old = record { count = refl; each = λ port lt. Grew-same (held_at old port) }

-- a line of the actor: its step is made at the port p
pub walk_here : (actor : ℕ) (lines : List (ℕ × ℕ × Step)) (i : ℕ) (x d : ℕ × ℕ × Step) (p seq : ℕ) (old now new : List Held) → i < length lines → x ≡ get_or lines i d → x.0 ≡ actor → p ≡ x.1
    → seq ≡ length (steps_by p (take i lines) actor) → Walked actor (take i lines) old now → new ≡ set now p (held_at new p)
    → Grew (held_at now p) (entry_of actor seq x.2 ∷ []) (held_at new p) → Walked actor (take (i + 1) lines) old new
walk_here actor lines i x d p seq old now new lt is mine at number w put grew = record {
  count = ap length put ∙ length-set now p (held_at new p) ∙ w.count;
  each = λ port le. dite (ℕ_discrete p port) (λ e. here port le e) (λ ne. there port le ne);
}
  where
    more : (port : ℕ) → p ≡ port → entries_of actor (take (i + 1) lines) port ≡ entries_of actor (take i lines) port ++ entry_of actor seq x.2 ∷ []
    more port e =
        let moves : List Step = steps_by port (take i lines) actor in
        let same : 0 + length moves ≡ seq = omega (arith, number, ap (λ k. length (steps_by k (take i lines) actor)) e) in
        ap (numbered actor 0) (steps_here port actor lines i x d lt is mine (sym at ∙ e)) ∙ numbered-snoc actor 0 moves x.2
        ∙ ap (λ n. numbered actor 0 moves ++ entry_of actor n x.2 ∷ []) same

    here : (port : ℕ) → port < length old → p ≡ port → Grew (held_at old port) (entries_of actor (take (i + 1) lines) port) (held_at new port)
    here port le e =
        Grew-trans (held_at old port) (held_at now port) (held_at new port) (entries_of actor (take i lines) port) (entry_of actor seq x.2 ∷ []) (entries_of actor (take (i + 1) lines) port)
        (w.each port le) (subst (λ k. Grew (held_at now k) (entry_of actor seq x.2 ∷ []) (held_at new k)) e grew) (more port e)

    there : (port : ℕ) → port < length old → p ≢ port → Grew (held_at old port) (entries_of actor (take (i + 1) lines) port) (held_at new port)
    there port le ne =
        subst (λ h. Grew (held_at old port) (entries_of actor (take (i + 1) lines) port) h) (sym (held_other now new p port (held_at new p) put (λ e. ne (sym e))))
        (subst (λ l. Grew (held_at old port) (numbered actor 0 l) (held_at now port)) (sym (steps_elsewhere port actor lines i x d lt is (λ e. ne (at ∙ e)))) (w.each port le))

-- a line that has no step of the actor at any of the ports
pub walk_past : (actor : ℕ) (lines : List (ℕ × ℕ × Step)) (i : ℕ) (old now : List Held)
    → ((port : ℕ) → port < length old → steps_by port (take (i + 1) lines) actor ≡ steps_by port (take i lines) actor)
    → Walked actor (take i lines) old now → Walked actor (take (i + 1) lines) old now
walk_past actor lines i old now same w = record {
  count = w.count;
  each = λ port le. subst (λ l. Grew (held_at old port) (numbered actor 0 l) (held_at now port)) (sym (same port le)) (w.each port le);
}

numbered-append : (actor n : ℕ) (xs ys : List Step) → numbered actor n (xs ++ ys) ≡ numbered actor n xs ++ numbered actor (n + length xs) ys
numbered-append actor n [] ys = ap (λ k. numbered actor k ys) (omega arith)
numbered-append actor n (x ∷ xs) ys =
    let next : n + 1 + length xs ≡ n + length (x ∷ xs) = omega arith in
    ap (λ l. entry_of actor n x ∷ l) (numbered-append actor (n + 1) xs ys ∙ ap (λ k. numbered actor (n + 1) xs ++ numbered actor k ys) next)

entries-prefix : (actor : ℕ) (lines : List (ℕ × ℕ × Step)) (i port : ℕ) → IsPrefix (entries_of actor (take i lines) port) (entries_of actor lines port)
entries-prefix actor lines i port =
    let xs : List Step = steps_by port (take i lines) actor in
    let ys : List Step = steps_by port (drop i lines) actor in
    (numbered actor (0 + length xs) ys, sym (numbered-append actor 0 xs ys) ∙ ap (numbered actor 0) (steps_split port actor lines i))

-- no memory at a line: what was made until then stands
pub walk_short : (actor : ℕ) (lines : List (ℕ × ℕ × Step)) (i at : ℕ) (old now new : List Held) → Walked actor (take i lines) old now
    → new ≡ set now at (held_at new at) → Grew (held_at now at) [] (held_at new at) → WalkedSome actor lines old new
walk_short actor lines i at old now new w put grew = record {
  count = ap length put ∙ length-set now at (held_at new at) ∙ w.count;
  each = λ port le. (entries_of actor (take i lines) port, entries-prefix actor lines i port, dite (ℕ_discrete port at) (λ e. here port le e) (λ ne. there port le ne));
}
  where
    here : (port : ℕ) → port < length old → port ≡ at → Grew (held_at old port) (entries_of actor (take i lines) port) (held_at new port)
    here port le e =
        Grew-trans (held_at old port) (held_at now port) (held_at new port) (entries_of actor (take i lines) port) [] (entries_of actor (take i lines) port) (w.each port le)
        (subst (λ p. Grew (held_at now p) [] (held_at new p)) (sym e) grew) (sym (append-nil (entries_of actor (take i lines) port)))

    there : (port : ℕ) → port < length old → port ≢ at → Grew (held_at old port) (entries_of actor (take i lines) port) (held_at new port)
    there port le ne = subst (λ h. Grew (held_at old port) (entries_of actor (take i lines) port) h) (sym (held_other now new at port (held_at new at) put ne)) (w.each port le)

-- the numbers of the next steps, port by port
pub count_here : (actor : ℕ) (lines : List (ℕ × ℕ × Step)) (i : ℕ) (x d : ℕ × ℕ × Step) (p : ℕ) (counts after : List ℕ) (ports : ℕ) → i < length lines → x ≡ get_or lines i d → x.0 ≡ actor → p ≡ x.1
    → p < length counts → p < ports → ((port : ℕ) → port < ports → slice_index counts port ≡ length (steps_by port (take i lines) actor))
    → after ≡ set counts p (slice_index counts p + 1)
    → (port : ℕ) → port < ports → slice_index after port ≡ length (steps_by port (take (i + 1) lines) actor)
count_here actor lines i x d p counts after ports lt is mine at room lp same put port le = dite (ℕ_discrete p port)
    (λ e.
    let n : slice_index after port ≡ slice_index counts port + 1 =
    ap (λ l. slice_index l port) put ∙ subst (λ k. slice_index (set counts p (slice_index counts p + 1)) k ≡ slice_index counts k + 1) e (get_or-set_same counts p (slice_index counts p + 1) 0 room) in
    omega (arith, n, same port le, ap length (steps_here port actor lines i x d lt is mine (sym at ∙ e)), length-append (steps_by port (take i lines) actor) (x.2 ∷ [])))
    (λ ne.
    ap (λ l. slice_index l port) put ∙ get_or-set_other counts p port (slice_index counts p + 1) 0 (λ e. ne (sym e)) ∙ same port le
    ∙ ap length (sym (steps_elsewhere port actor lines i x d lt is (λ e. ne (at ∙ e)))))

pub count_past : (actor : ℕ) (lines : List (ℕ × ℕ × Step)) (i : ℕ) (counts : List ℕ) (ports : ℕ)
    → ((port : ℕ) → port < ports → steps_by port (take (i + 1) lines) actor ≡ steps_by port (take i lines) actor)
    → ((port : ℕ) → port < ports → slice_index counts port ≡ length (steps_by port (take i lines) actor))
    → (port : ℕ) → port < ports → slice_index counts port ≡ length (steps_by port (take (i + 1) lines) actor)
count_past actor lines i counts ports stays same port le = same port le ∙ ap length (sym (stays port le))

pub ats_same : (old new : List Held) → length new ≡ length old → ((port : ℕ) → port < length old → (held_at new port).at ≡ (held_at old port).at) → map at_of new ≡ map at_of old
ats_same [] [] len each = refl
ats_same [] (k ∷ ks) len each = absurd (omega (arith, len))
ats_same (h ∷ hs) [] len each = absurd (omega (arith, len))
ats_same (h ∷ hs) (k ∷ ks) len each = ap₂ ◌∷◌ (each 0 (omega arith)) (ats_same hs ks (omega (arith, len)) (λ port lt. each (suc port) (omega (arith, lt))))

pub walked_ats : (actor : ℕ) (lines : List (ℕ × ℕ × Step)) (old new : List Held) → Walked actor lines old new → map at_of new ≡ map at_of old
walked_ats actor lines old new w = ats_same old new w.count (λ port lt. (w.each port lt).at)

pub short_ats : (actor : ℕ) (lines : List (ℕ × ℕ × Step)) (old new : List Held) → WalkedSome actor lines old new → map at_of new ≡ map at_of old
short_ats actor lines old new w = ats_same old new w.count (λ port lt. (w.each port lt).2.at)

pub short_shares : (actor n : ℕ) (lines : List (ℕ × ℕ × Step)) (old new : List Held) → WalkedSome actor lines old new → All (λ (h : Held). h.share ≡ n) old → All (λ (h : Held). h.share ≡ n) new
short_shares actor n lines old new w shares = All-from_get_or (λ (h : Held). h.share ≡ n) new nothing (λ i lt. let le : i < length old = omega (arith, lt, w.count) in (w.each i le).2.share ∙ shares i nothing le)
