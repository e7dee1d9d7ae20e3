-- Actor after actor: how the weaves of their entries come together.
use Rattle.std.proofs.Common.{◌≡◌, ◌≢◌, ℕ, zero, suc, ◌+◌, ◌-◌, ◌<◌, ◌≤◌, Bool, true, false, cond, leb, List, [], ◌∷◌, ◌++◌, map, filter, length, refl, sym, ap, ◌∙◌, subst, le-leb, ne_eqb, eqb, ◌&&◌, arith}
use Rattle.std.specs.Prelude.{All}
use Rattle.std.proofs.lemmas.Bool.Decides.{nat_tests}
use Rattle.std.proofs.lemmas.List.{get_or-map, length-map}
use Rattle.std.proofs.lemmas.List.Elements.{All-head, All-tail, All-map, All-weaker}
use mathlib.Core.Logic.{dite}
use native.Mathlib.Decide.{ℕ_discrete}
use Rattle.turnstile.specs.declared.entry.Entry.{Entry}
use Rattle.turnstile.specs.Places.{merged, Rises}
use Rattle.turnstile.specs.Weaves.{of_actor, numbered, entries_at, IsWoven}
use Rattle.turnstile.proofs.Weaves.{of_actor-merged-left, of_actor-merged-right, of_actor-numbered, of_other-numbered}
use Rattle.ata_trace.specs.declared.step.Step.{Step}
use Rattle.port_threads.specs.Held.{Held, held_at, nothing, at_of, lessened, single, joined, joined_all, AllRise}
use Rattle.port_threads.specs.Walks.{entries_of, Walked, steps_by, steps_from, IsWovenFrom, AreWovenFrom}
use Rattle.port_threads.proofs.ActorSteps.{line_of_other}
use Rattle.port_threads.proofs.Lines.{ats_same}

leb_next : (n k : ℕ) → k ≢ n → leb n k ≡ leb (n + 1) k
leb_next n k ne = grind (arith, nat_tests)

leb_above : (n k : ℕ) → k < n → leb n k ≡ false
leb_above n k lt = grind (arith, nat_tests)

steps_from_at : (from port : ℕ) (lines : List (ℕ × ℕ × Step)) → steps_from from port lines from ≡ steps_by port lines from
steps_from_at from port lines = ap (λ b. cond b (steps_by port lines from) []) (le-leb from from (omega arith))

steps_from_next : (from port : ℕ) (lines : List (ℕ × ℕ × Step)) (actor : ℕ) → actor ≢ from → steps_from from port lines actor ≡ steps_from (from + 1) port lines actor
steps_from_next from port lines actor ne = ap (λ b. cond b (steps_by port lines actor) []) (leb_next from actor ne)

steps_from_above : (from port : ℕ) (lines : List (ℕ × ℕ × Step)) (actor : ℕ) → actor < from → steps_from from port lines actor ≡ []
steps_from_above from port lines actor lt = ap (λ b. cond b (steps_by port lines actor) []) (leb_above from actor lt)

-- an actor that has no line has no step
steps_none : (port actor : ℕ) (lines : List (ℕ × ℕ × Step)) → All (λ (line : ℕ × ℕ × Step). line.0 ≢ actor) lines → steps_by port lines actor ≡ []
steps_none port actor [] none = refl
steps_none port actor (x ∷ xs) none =
    line_of_other port actor x xs (All-head (λ (line : ℕ × ℕ × Step). line.0 ≢ actor) x xs none)
    ∙ steps_none port actor xs (All-tail (λ (line : ℕ × ℕ × Step). line.0 ≢ actor) x xs none)

-- no actor is left
pub woven_end : (from : ℕ) (lines : List (ℕ × ℕ × Step)) (hs : List Held) → 32 ≤ from → All (λ (line : ℕ × ℕ × Step). line.0 < 32) lines → All (λ (h : Held). h.own ≡ []) hs → AreWovenFrom from lines hs hs
woven_end from lines hs end few fresh = record {
  count = refl;
  each = λ port lt. record {
    at = refl;
    share = refl;
    woven = λ actor. ap (λ l. of_actor actor (entries_at l)) (fresh port nothing lt) ∙ sym (ap (numbered actor 0) (none port actor));
  };
}
  where
    none : (port actor : ℕ) → steps_from from port lines actor ≡ []
    none port actor = by_test (leb from actor) refl
      where
        by_test : (b : Bool) → leb from actor ≡ b → cond b (steps_by port lines actor) [] ≡ []
        by_test false e = refl
        by_test true e = steps_none port actor lines (All-weaker (λ (line : ℕ × ℕ × Step). line.0 < 32) (λ (line : ℕ × ℕ × Step). line.0 ≢ actor) (λ l low same. high e (omega (arith, low, same))) lines few)
          where
            high : leb from actor ≡ true → actor ≤ 31 → ⊥
            high e low = absurd (omega (arith, end, low, Rattle.std.proofs.Common.leb-true from actor e))

-- the actor has no line
pub woven_past : (from : ℕ) (lines : List (ℕ × ℕ × Step)) (old new : List Held) → All (λ (line : ℕ × ℕ × Step). line.0 ≢ from) lines → AreWovenFrom (from + 1) lines old new → AreWovenFrom from lines old new
woven_past from lines old new none w = record {
  count = w.count;
  each = λ port lt. let e = w.each port lt in record {
    at = e.at;
    share = e.share;
    woven = λ actor. e.woven actor ∙ ap (numbered actor 0) (sym (same port actor));
  };
}
  where
    same : (port actor : ℕ) → steps_from from port lines actor ≡ steps_from (from + 1) port lines actor
    same port actor = dite (ℕ_discrete actor from)
        (λ e.
        subst (λ k. steps_from from port lines k ≡ steps_from (from + 1) port lines k) (sym e)
        (steps_from_at from port lines ∙ steps_none port from lines none ∙ sym (steps_from_above (from + 1) port lines from (omega arith))))
        (λ ne. steps_from_next from port lines actor ne)

joined_at : (hs ks : List Held) (port : ℕ) → port < length hs → port < length ks → held_at (joined_all hs ks) port ≡ joined (held_at hs port) (held_at ks port)
joined_at [] ks port lh lk = absurd (omega (arith, lh))
joined_at (h ∷ hs) [] port lh lk = absurd (omega (arith, lk))
joined_at (h ∷ hs) (k ∷ ks) zero lh lk = refl
joined_at (h ∷ hs) (k ∷ ks) (suc port) lh lk = joined_at hs ks port (omega (arith, lh)) (omega (arith, lk))

length-joined : (hs ks : List Held) → length hs ≡ length ks → length (joined_all hs ks) ≡ length hs
length-joined [] ks len = refl
length-joined (h ∷ hs) [] len = absurd (omega (arith, len))
length-joined (h ∷ hs) (k ∷ ks) len = ap suc (length-joined hs ks (omega (arith, len)))

-- the entries of one actor and those of the actors after it, put together
weave_more : (from port : ℕ) (lines : List (ℕ × ℕ × Step)) (rest mine : List (ℕ × Entry Step)) → Rises 0 rest → Rises 0 mine
    → IsWoven (steps_from (from + 1) port lines) (entries_at rest) → entries_at mine ≡ entries_of from lines port
    → IsWoven (steps_from from port lines) (entries_at (merged rest mine))
weave_more from port lines rest mine rr rm woven own actor = dite (ℕ_discrete actor from)
    (λ e.
    subst (λ k. of_actor k (entries_at (merged rest mine)) ≡ numbered k 0 (steps_from from port lines k)) (sym e)
    (of_actor-merged-right from rest mine rr rm (woven from ∙ ap (numbered from 0) (steps_from_above (from + 1) port lines from (omega arith)))
    ∙ ap (of_actor from) own ∙ of_actor-numbered from 0 (steps_by port lines from) ∙ ap (numbered from 0) (sym (steps_from_at from port lines))))
    (λ ne.
    of_actor-merged-left actor rest mine rr rm (ap (of_actor actor) own ∙ of_other-numbered actor from 0 (steps_by port lines from) (λ e. ne (sym e)))
    ∙ woven actor ∙ ap (numbered actor 0) (sym (steps_from_next from port lines actor ne)))

-- the actor has walked, and so have those after it
pub woven_join : (from : ℕ) (lines : List (ℕ × ℕ × Step)) (hs mine rest all : List Held) → All (λ (h : Held). 1 ≤ h.share) hs
    → Walked from lines (map single hs) mine → AreWovenFrom (from + 1) lines (map lessened hs) rest → AllRise rest × AllRise mine → all ≡ joined_all rest mine → AreWovenFrom from lines hs all
woven_join from lines hs mine rest all shares walked woven rise is =
    let len_mine : length mine ≡ length hs = walked.count ∙ length-map hs single in
    let len_rest : length rest ≡ length hs = woven.count ∙ length-map hs lessened in
    record {
      count = ap length is ∙ length-joined rest mine (len_rest ∙ sym len_mine) ∙ len_rest;
      each = λ port lt.
          let in_mine : port < length mine = omega (arith, lt, len_mine) in
          let in_rest : port < length rest = omega (arith, lt, len_rest) in
          let was : Held = held_at hs port in
          let one : held_at (map single hs) port ≡ single was = get_or-map single hs port nothing nothing lt in
          let less : held_at (map lessened hs) port ≡ lessened was = get_or-map lessened hs port nothing nothing lt in
          let w = walked.each port (omega (arith, lt, length-map hs single)) in
          let r = woven.each port (omega (arith, lt, length-map hs lessened)) in
          let both : held_at all port ≡ joined (held_at rest port) (held_at mine port) = ap (λ l. held_at l port) is ∙ joined_at rest mine port in_rest in_mine in
          let some : 1 ≤ was.share = shares port nothing lt in
          let left : (held_at rest port).share ≡ was.share - 1 = r.share ∙ ap (λ (h : Held). h.share) less in
          let right : (held_at mine port).share ≡ 1 = w.share ∙ ap (λ (h : Held). h.share) one in
          subst (IsWovenFrom from port lines was) (sym both)
          record {
            at = r.at ∙ ap (λ (h : Held). h.at) less;
            share = omega (arith, left, right, some);
            woven = weave_more from port lines (held_at rest port).own (held_at mine port).own (rise.0 port nothing in_rest) (rise.1 port nothing in_mine) r.woven
                (w.own ∙ ap (λ (h : Held). entries_at h.own ++ entries_of from lines port) one);
          };
    }

pub woven_ats : (from : ℕ) (lines : List (ℕ × ℕ × Step)) (old new : List Held) → AreWovenFrom from lines old new → map at_of new ≡ map at_of old
woven_ats from lines old new w = ats_same old new w.count (λ port lt. (w.each port lt).at)

pub ats_single : (hs : List Held) → map at_of (map single hs) ≡ map at_of hs
ats_single [] = refl
ats_single (h ∷ hs) = ap (λ l. h.at ∷ l) (ats_single hs)

pub ats_lessened : (hs : List Held) → map at_of (map lessened hs) ≡ map at_of hs
ats_lessened [] = refl
ats_lessened (h ∷ hs) = ap (λ l. h.at ∷ l) (ats_lessened hs)

pub shares_lessened : (from : ℕ) (hs : List Held) → from ≤ 31 → All (λ (h : Held). 33 ≤ h.share + from) hs → All (λ (h : Held). 33 ≤ h.share + (from + 1)) (map lessened hs)
shares_lessened from hs few shares = All-map (λ (h : Held). 33 ≤ h.share + (from + 1)) lessened hs (All-weaker (λ (h : Held). 33 ≤ h.share + from) (λ (h : Held). 33 ≤ h.share - 1 + (from + 1)) (λ h le. omega (arith, few, le)) hs shares)

pub fresh_lessened : (hs : List Held) → All (λ (h : Held). h.own ≡ []) hs → All (λ (h : Held). h.own ≡ []) (map lessened hs)
fresh_lessened hs fresh = All-map (λ (h : Held). h.own ≡ []) lessened hs fresh
