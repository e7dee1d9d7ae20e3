use Rattle.std.proofs.Common.{◌≡◌, ◌≢◌, ◌∙◌, ℕ, ◌<◌, ◌==◌, Bool, true, false, ◌||◌, ◌&&◌, List, [], ◌∷◌, ◌++◌, Some, length, map, replicate, slice_set, if◌then◌else◌, refl, ap, arith}
use Rattle.std.specs.List.{filter, list_any}
use Rattle.std.proofs.lemmas.Bool.Decides.{nat_tests}
use Rattle.std.proofs.lemmas.List.{get_or-set_same, get_or-set_other}
use Rattle.std.proofs.lemmas.List.Elements.{filter-append}
use Rattle.std.proofs.lemmas.Map.Views.{any-filter_same}
use Rattle.port_past.specs.Live.{but_answered}
use Rattle.ata_base.specs.declared.cmd.Cmd.{Cmd}
use Rattle.port_past.specs.Commands.{counted, is_accepted}
use Rattle.port_ledger.proofs.ListLemmas.{read_padded}
use Rattle.port_ledger.specs.LiveFlags.{ids_of, is_flagged, live_of}

either_false : (a b : Bool) → (a || b) ≡ false → (a ≡ false) × (b ≡ false)
either_false true b h = absurd (cc)
either_false false b h = (refl, h)

other_number : (x id : ℕ) → (x == id) ≡ false → x ≢ id
other_number x id h = grind (arith, nat_tests)

same_number : (x id : ℕ) → (x == id) ≡ true → x ≡ id
same_number x id h = grind (arith, nat_tests)

-- two tests that agree at the front, and keep the same of the rest, keep the same
filter_one : (p q : ℕ → Bool) (x : ℕ) (xs : List ℕ) → p x ≡ q x → filter p xs ≡ filter q xs → filter p (x ∷ xs) ≡ filter q (x ∷ xs)
filter_one p q x xs e rest = cc

-- ---- one flag is set

-- the flags of all numbers but one are the same
record AreSameBut (id : ℕ) (flags new : List Bool) : Type 0 where
  pub others : (k : ℕ) → k ≢ id → is_flagged new k ≡ is_flagged flags k

-- a flag of a number that isn't in the order changes nothing
live_of_fresh : (flags new : List Bool) (order : List ℕ) (id : ℕ) → AreSameBut id flags new → list_any (λ c. c == id) order ≡ false → live_of new order ≡ live_of flags order
live_of_fresh flags new [] id same fresh = refl
live_of_fresh flags new (x ∷ rest) id same fresh =
    let parts = either_false (x == id) (list_any (λ c. c == id) rest) fresh in
    filter_one _ _ x rest (same.others x (other_number x id parts.0)) (live_of_fresh flags new rest id same parts.1)

-- an accepted number is live behind the others
live_of_accept : (flags new : List Bool) (order : List ℕ) (id : ℕ) → is_flagged new id ≡ true → AreSameBut id flags new → list_any (λ c. c == id) order ≡ false → live_of new (order ++ id ∷ []) ≡ live_of flags order ++ id ∷ []
live_of_accept flags new order id flagged same fresh =
    rw (filter-append, live_of_fresh flags new order id same fresh, flagged) refl

answer_one : (flags new : List Bool) (x id : ℕ) (rest : List ℕ) → is_flagged new id ≡ false → AreSameBut id flags new → (b : Bool) → (x == id) ≡ b → live_of new rest ≡ but_answered (Some id) (live_of flags rest) → live_of new (x ∷ rest) ≡ but_answered (Some id) (live_of flags (x ∷ rest))
answer_one flags new x id rest here same true e rest_same =
    let cleared : is_flagged new x ≡ false = rw (same_number x id e) here in
    elim (is_flagged flags x) as (λ f. is_flagged flags x ≡ f → live_of new (x ∷ rest) ≡ but_answered (Some id) (live_of flags (x ∷ rest))) [
      | true ↦ λ f. rw (f, cleared, e) rest_same
      | false ↦ λ f. rw (f, cleared) rest_same
    ] refl
answer_one flags new x id rest here same false e rest_same =
    let kept : is_flagged new x ≡ is_flagged flags x = same.others x (other_number x id e) in
    elim (is_flagged flags x) as (λ f. is_flagged flags x ≡ f → live_of new (x ∷ rest) ≡ but_answered (Some id) (live_of flags (x ∷ rest))) [
      | true ↦ λ f. rw (kept, f, e, rest_same) refl
      | false ↦ λ f. rw (kept, f) rest_same
    ] refl

-- an answered number is live no longer
pub live_of_answer : (flags new : List Bool) (order : List ℕ) (id : ℕ) → is_flagged new id ≡ false → ((k : ℕ) → k ≢ id → is_flagged new k ≡ is_flagged flags k) → live_of new order ≡ but_answered (Some id) (live_of flags order)
live_of_answer flags new [] id here others = refl
live_of_answer flags new (x ∷ rest) id here others =
    answer_one flags new x id rest here (record { others = others }) (x == id) refl (live_of_answer flags new rest id here others)

-- the flag of a number in a table that reaches it
pub flag_here : (flags : List Bool) (n id : ℕ) (v : Bool) → id < length (flags ++ replicate n false) → is_flagged (slice_set (flags ++ replicate n false) id v) id ≡ v
flag_here flags n id v within = get_or-set_same (flags ++ replicate n false) id v false within

pub flag_other : (flags : List Bool) (n id k : ℕ) (v : Bool) → k ≢ id → is_flagged (slice_set (flags ++ replicate n false) id v) k ≡ is_flagged flags k
flag_other flags n id k v other = get_or-set_other (flags ++ replicate n false) id k v false other ∙ read_padded flags n k false

-- whether a number is among the live ones
pub any_live : (flags : List Bool) (order : List ℕ) (id : ℕ) → list_any (λ c. c == id) (live_of flags order) ≡ (is_flagged flags id && list_any (λ c. c == id) order)
any_live flags order id =
    any-filter_same (λ c. c == id) (λ c. is_flagged flags c) (is_flagged flags id) (λ c e. ap (is_flagged flags) (same_number c id e)) order

-- ---- the numbers of commands

-- those of commands and one more
ids_push : (list : List Cmd) (c : Cmd) → ids_of (list ++ c ∷ []) ≡ ids_of list ++ c.id ∷ []
ids_push [] c = refl
ids_push (d ∷ rest) c = ap (λ ids. d.id ∷ ids) (ids_push rest c)

-- a number is among those of commands where a command of it was accepted
among_ids : (id : ℕ) (list : List Cmd) → list_any (λ n. n == id) (ids_of list) ≡ is_accepted id list
among_ids id [] = refl
among_ids id (d ∷ rest) = ap (λ more. (d.id == id) || more) (among_ids id rest)

-- a command that is accepted is live behind the others
pub live_of_accepted : (flags new : List Bool) (list : List Cmd) (c : Cmd) → is_flagged new c.id ≡ true → ((k : ℕ) → k ≢ c.id → is_flagged new k ≡ is_flagged flags k) → is_accepted c.id list ≡ false → live_of new (ids_of (list ++ c ∷ [])) ≡ live_of flags (ids_of list) ++ c.id ∷ []
live_of_accepted flags new list c here others fresh =
    rw (ids_push list c) (live_of_accept flags new (ids_of list) c.id here (record { others = others }) (rw (among_ids c.id list) fresh))

-- a command's number is live where it was accepted and is flagged
pub is_live_there : (flags : List Bool) (list : List Cmd) (id : ℕ) → list_any (λ c. c == id) (live_of flags (ids_of list)) ≡ (is_flagged flags id && is_accepted id list)
is_live_there flags list id = any_live flags (ids_of list) id ∙ ap (λ b. is_flagged flags id && b) (among_ids id list)

count_if : (b : Bool) (x : ℕ) (xs : List ℕ) (c : Cmd) (cs : List Cmd) → length xs ≡ length cs → length (if b then x ∷ xs else xs) ≡ length (if b then c ∷ cs else cs)
count_if true x xs c cs same = omega (arith, same)
count_if false x xs c cs same = same

-- as many numbers are live as commands
pub live_count : (flags : List Bool) (list : List Cmd) → length (live_of flags (ids_of list)) ≡ length (filter (λ c. is_flagged flags c.id) list)
live_count flags [] = refl
live_count flags (c ∷ rest) =
    count_if (is_flagged flags c.id) c.id (live_of flags (ids_of rest)) c (filter (λ c. is_flagged flags c.id) rest) (live_count flags rest)

ids_if : (b : Bool) (raised : Bool) (c : Cmd) → (if b then counted raised c else c).id ≡ c.id
ids_if true raised c = refl
ids_if false raised c = refl

-- a command that is retried keeps its number
pub ids_retried : (id : ℕ) (raised : Bool) (list : List Cmd) → ids_of (map (λ c. if c.id == id then counted raised c else c) list) ≡ ids_of list
ids_retried id raised [] = refl
ids_retried id raised (d ∷ rest) = rw (ids_if (d.id == id) raised d, ids_retried id raised rest) refl
