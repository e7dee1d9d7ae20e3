-- The table that says where the command of a number stands.
use Rattle.std.proofs.Common.{◌≡◌, ◌∙◌, ℕ, ◌+◌, ◌-◌, ◌<◌, ◌==◌, ◌||◌, Bool, true, false, cond, List, [], ◌∷◌, ◌++◌, None, Some, suc, zero, ◌≤◌, length, get_or, map, slice_set, slice_index, replicate, refl, sym, ap, subst, arith, add-one, if◌then◌else◌}
use Rattle.std.proofs.lemmas.Bool.{eqb-true, eq-eqb}
use Rattle.std.proofs.lemmas.Bool.Decides.{nat_tests}
use Rattle.std.proofs.lemmas.List.{get_or-set_same, get_or-set_other, length-append, length-set, length-replicate}
use Rattle.std.proofs.lemmas.List.Folds.{sum_by-replicate}
use Rattle.std.proofs.lemmas.List.Sums.{count_by-le-length, sum_by-append, sum_by-set}
use Rattle.std.specs.List.{count_by}
use Rattle.std.proofs.lemmas.List.Elements.{All-push, All-nil, All-set, All-get_or}
use Rattle.ata_base.specs.declared.cmd.Cmd.{Cmd}
use Rattle.ata_base.specs.declared.op.Op.{Op}
use Rattle.ata_base.specs.declared.op.Op.TheVariants.{Read, Write, Verify, Flush, Power}
use Rattle.ata_trace.specs.ScriptRanges.{IsScriptOp}
use Rattle.drive_model.specs.Sectors.{IsShort}
use Rattle.port_past.specs.Commands.{command_of, counted, is_accepted}
use Rattle.port_ledger.specs.Commands.{index_of, one_more, says_place, AreApart, AsksForFew, CanServe, IsIndex}
use Rattle.port_ledger.proofs.ListLemmas.{read_padded}

-- what an index says of a list
pub record Found (id : ℕ) (list : List Cmd) (k : ℕ) : Type 0 where
  pub within : k < length list
  pub command : (d : Cmd) → command_of id list ≡ Some (get_or list k d)
  pub accepted : is_accepted id list ≡ true

pub record Missing (id : ℕ) (list : List Cmd) : Type 0 where
  pub command : command_of id list ≡ None
  pub accepted : is_accepted id list ≡ false

abbrev Says : ℕ → List Cmd → ℕ → Type 0
Says id list zero = Missing id list
Says id list (suc k) = Found id list k

says_more : (id : ℕ) (c : Cmd) (rest : List Cmd) (n : ℕ) → (c.id == id) ≡ false → Says id rest n → Says id (c ∷ rest) (one_more n)
says_more id c rest zero other says = record { command = rw other says.command; accepted = rw other says.accepted }
says_more id c rest (suc k) other says = record {
  within = omega (arith, says.within);
  command = λ d. rw other (says.command d);
  accepted = rw other says.accepted;
}

says_here : (id : ℕ) (c : Cmd) (rest : List Cmd) (b : Bool) → (c.id == id) ≡ b → Says id rest (index_of id rest) → Says id (c ∷ rest) (cond b 1 (one_more (index_of id rest)))
says_here id c rest true is says = record { within = omega arith; command = λ d. rw is refl; accepted = rw is refl }
says_here id c rest false is says = says_more id c rest (index_of id rest) is says

-- an index says where the command stands
says : (id : ℕ) (list : List Cmd) → Says id list (index_of id list)
says id [] = record { command = refl; accepted = refl }
says id (c ∷ rest) = says_here id c rest (c.id == id) refl (says id rest)

-- a number without a place has no command
pub no_command : (id : ℕ) (list : List Cmd) → index_of id list ≡ 0 → command_of id list ≡ None
no_command id list none = (let h : Missing id list = rw none at (says id list) in h.command)

found_at : (id i : ℕ) (list : List Cmd) → index_of id list ≡ i → 0 < i → Found id list (i - 1)
found_at id zero list is some = absurd (omega arith)
found_at id (suc k) list is some =
    let h : Found id list k = rw is at (says id list) in
    let e : suc k - 1 ≡ k = omega arith in
    rw e h

-- one with a place has the command there
pub command_at : (id : ℕ) (list : List Cmd) (c : Cmd) → 0 < index_of id list → c ≡ get_or list (index_of id list - 1) c → command_of id list ≡ Some c
command_at id list c some is = (found_at id (index_of id list) list refl some).command c ∙ ap (λ x. Some x) (sym is)

pub index_within : (id : ℕ) (list : List Cmd) → 0 < index_of id list → index_of id list - 1 < length list
index_within id list some = (found_at id (index_of id list) list refl some).within

pub accepted_at : (id : ℕ) (list : List Cmd) → 0 < index_of id list → is_accepted id list ≡ true
accepted_at id list some = (found_at id (index_of id list) list refl some).accepted

pub accepted_none : (id : ℕ) (list : List Cmd) → index_of id list ≡ 0 → is_accepted id list ≡ false
accepted_none id list none = (let h : Missing id list = rw none at (says id list) in h.accepted)

-- ---- one command more

-- neither of two holds
head_false : (a b : Bool) → (a || b) ≡ false → a ≡ false
head_false true b none = none
head_false false b none = refl

tail_false : (a b : Bool) → (a || b) ≡ false → b ≡ false
tail_false true b none = absurd (cc)
tail_false false b none = none

push_same : (c : Cmd) (list : List Cmd) → is_accepted c.id list ≡ false → index_of c.id (list ++ c ∷ []) ≡ suc (length list)
push_same c [] fresh = rw (eq-eqb c.id c.id refl) refl
push_same c (d ∷ rest) fresh =
    rw (head_false (d.id == c.id) (is_accepted c.id rest) fresh, push_same c rest (tail_false (d.id == c.id) (is_accepted c.id rest) fresh)) refl

push_other : (id : ℕ) (c : Cmd) (list : List Cmd) → (c.id == id) ≡ false → index_of id (list ++ c ∷ []) ≡ index_of id list
push_other id c [] other = rw other refl
push_other id c (d ∷ rest) other = ap (λ n. cond (d.id == id) 1 (one_more n)) (push_other id c rest other)

accepted_push : (id : ℕ) (c : Cmd) (list : List Cmd) → (c.id == id) ≡ false → is_accepted id list ≡ false → is_accepted id (list ++ c ∷ []) ≡ false
accepted_push id c [] other none = rw other refl
accepted_push id c (d ∷ rest) other none =
    rw (head_false (d.id == id) (is_accepted id rest) none, accepted_push id c rest other (tail_false (d.id == id) (is_accepted id rest) none)) refl

by_cases : (b : Bool) → (b ≡ true → ⊥) → b ≡ false
by_cases true never = absurd (never refl)
by_cases false never = refl

turned : (a b : ℕ) → (a == b) ≡ false → (b == a) ≡ false
turned a b differs = by_cases (b == a) (λ yes. let same : b ≡ a = eqb-true b a yes in let again : (a == b) ≡ true = eq-eqb a b (sym same) in cc)

apart_push : (c : Cmd) (list : List Cmd) → is_accepted c.id list ≡ false → AreApart list → AreApart (list ++ c ∷ [])
apart_push c [] fresh apart = (refl, tt)
apart_push c (d ∷ rest) fresh apart =
    let other : (c.id == d.id) ≡ false = turned d.id c.id (head_false (d.id == c.id) (is_accepted c.id rest) fresh) in
    (accepted_push d.id c rest other apart.0, apart_push c rest (tail_false (d.id == c.id) (is_accepted c.id rest) fresh) apart.1)

stands_push : (table : List ℕ) (list : List Cmd) (c : Cmd) (id : ℕ) → c.id < length table → slice_index table id ≡ index_of id list → is_accepted c.id list ≡ false
    → (b : Bool) → (c.id == id) ≡ b → get_or (slice_set table c.id (length list + 1)) id 0 ≡ index_of id (list ++ c ∷ [])
stands_push table list c id within was fresh true is =
    let same : c.id ≡ id = eqb-true _ _ is in
    subst (λ i. get_or (slice_set table c.id (length list + 1)) i 0 ≡ index_of i (list ++ c ∷ [])) same
    (get_or-set_same table c.id (length list + 1) 0 within ∙ add-one (length list) ∙ sym (push_same c list fresh))
stands_push table list c id within was fresh false is =
    get_or-set_other table c.id id (length list + 1) 0 (λ e. let yes : (c.id == id) ≡ true = eq-eqb c.id id (sym e) in cc)
    ∙ was ∙ sym (push_other id c list is)

-- a number that wasn't accepted has no place
index_fresh : (id : ℕ) (list : List Cmd) → is_accepted id list ≡ false → index_of id list ≡ 0
index_fresh id [] fresh = refl
index_fresh id (c ∷ rest) fresh =
    rw (head_false (c.id == id) (is_accepted id rest) fresh, index_fresh id rest (tail_false (c.id == id) (is_accepted id rest) fresh)) refl

-- one number more has a place
counted_push : (table : List ℕ) (n at : ℕ) → at < length table → get_or table at 0 ≡ 0 → count_by says_place (slice_set table at (n + 1)) ≡ count_by says_place table + 1
counted_push table n at within none =
    let was : ◌≡◌ {A = ℕ} (cond (says_place (get_or table at 0)) 1 0) 0 = rw none refl in
    let some : (n + 1 == 0) ≡ false = grind (arith, nat_tests) in
    let is : ◌≡◌ {A = ℕ} (cond (says_place (n + 1)) 1 0) 1 = rw some refl in
    omega (arith, sum_by-set (λ k. cond (says_place k) 1 0) table at (n + 1) 0 within, was, is)

-- the table with one command more
pub index_push : (table : List ℕ) (list : List Cmd) (c : Cmd) (n : ℕ) → n ≡ length list → IsIndex table list → c.id < length table → is_accepted c.id list ≡ false → CanServe c → IsIndex (slice_set table c.id (n + 1)) (list ++ c ∷ [])
index_push table list c n is index within fresh served =
    let none : get_or table c.id 0 ≡ 0 = index.stands c.id ∙ index_fresh c.id list fresh in
    rw is (record {
      few = rw length-set index.few;
      stands = λ id. stands_push table list c id within (index.stands id) fresh (c.id == id) refl;
      counted = omega (arith, counted_push table (length list) c.id within none, index.counted, length-append list (c ∷ []));
      apart = apart_push c list fresh index.apart;
      served = All-push CanServe list c index.served served;
    })

-- a longer table says the same
pub index_reached : (table : List ℕ) (list : List Cmd) (n : ℕ) → length table + n ≤ 65536 → IsIndex table list → IsIndex (table ++ replicate n 0) list
index_reached table list n few index = record {
  few = omega (arith, few, length-append table (replicate n 0), length-replicate {A = ℕ} n 0);
  stands = λ id. read_padded table n id 0 ∙ index.stands id;
  counted = omega (arith, index.counted, sum_by-append (λ k. cond (says_place k) 1 0) table (replicate n 0), sum_by-replicate (λ k. cond (says_place k) 1 0) n 0);
  apart = index.apart;
  served = index.served;
}

-- the table of none
pub index_none : (table : List ℕ) (list : List Cmd) → table ≡ [] → list ≡ [] → IsIndex table list
index_none table list nothing none = rw (nothing, none) (record {
  few = omega arith;
  stands = λ id. refl;
  counted = refl;
  apart = tt;
  served = All-nil CanServe;
})

-- there are no more commands than numbers
pub few_commands : (table : List ℕ) (list : List Cmd) → IsIndex table list → length list ≤ 65536
few_commands table list index = omega (arith, index.few, index.counted, count_by-le-length says_place table)

-- ---- one command changed

map_none : (f : Cmd → Cmd) (id : ℕ) (list : List Cmd) → is_accepted id list ≡ false → map (λ c. if c.id == id then f c else c) list ≡ list
map_none f id [] none = refl
map_none f id (d ∷ rest) none =
    rw (head_false (d.id == id) (is_accepted id rest) none, map_none f id rest (tail_false (d.id == id) (is_accepted id rest) none)) refl

at_more : (n k : ℕ) → one_more n ≡ suc k → (m : ℕ) × (n ≡ suc m) × (k ≡ suc m)
at_more zero k is = absurd (cc)
at_more (suc m) k is = (m, refl, (let e : suc (suc m) ≡ suc k = is in omega arith))

map_by : (f : Cmd → Cmd) (id : ℕ) (d : Cmd) (rest : List Cmd) (k : ℕ) (c : Cmd) → AreApart (d ∷ rest) → (b : Bool) → (d.id == id) ≡ b → cond b 1 (one_more (index_of id rest)) ≡ suc k → c ≡ get_or (d ∷ rest) k c
    → ((m : ℕ) → index_of id rest ≡ suc m → c ≡ get_or rest m c → map (λ x. if x.id == id then f x else x) rest ≡ slice_set rest m (f c))
    → map (λ x. if x.id == id then f x else x) (d ∷ rest) ≡ slice_set (d ∷ rest) k (f c)
map_by f id d rest k c apart true is at here later =
    let first : k ≡ 0 = omega arith in
    let same : d.id ≡ id = eqb-true _ _ is in
    let none : is_accepted id rest ≡ false = rw same at apart.0 in
    let it : c ≡ d = rw first at here in
    rw (first, is, map_none f id rest none, it) refl
map_by f id d rest k c apart false is at here later =
    let m = at_more (index_of id rest) k at in
    rw (m.2, is, later m.0 m.1 (rw m.2 at here)) refl

map_at : (f : Cmd → Cmd) (id : ℕ) (list : List Cmd) (k : ℕ) (c : Cmd) → AreApart list → index_of id list ≡ suc k → c ≡ get_or list k c → map (λ x. if x.id == id then f x else x) list ≡ slice_set list k (f c)
map_at f id [] k c apart is here = absurd (cc)
map_at f id (d ∷ rest) k c apart is here =
    map_by f id d rest k c apart (d.id == id) refl is here (λ m next there. map_at f id rest m c apart.1 next there)

pred : (n : ℕ) → 0 < n → n ≡ suc (n - 1)
pred n some = omega arith

-- the command of a number is changed where it stands
pub map_found : (f : Cmd → Cmd) (id : ℕ) (list : List Cmd) (c : Cmd) → AreApart list → 0 < index_of id list → c ≡ get_or list (index_of id list - 1) c → map (λ x. if x.id == id then f x else x) list ≡ slice_set list (index_of id list - 1) (f c)
map_found f id list c apart some here = map_at f id list (index_of id list - 1) c apart (pred (index_of id list) some) here

-- no command of that number is there
pub map_missing : (f : Cmd → Cmd) (id : ℕ) (list : List Cmd) → index_of id list ≡ 0 → map (λ x. if x.id == id then f x else x) list ≡ list
map_missing f id list none = map_none f id list (accepted_none id list none)

index_set : (id k : ℕ) (list : List Cmd) (c new : Cmd) → c ≡ get_or list k c → new.id ≡ c.id → index_of id (slice_set list k new) ≡ index_of id list
index_set id k [] c new here same = refl
index_set id zero (d ∷ rest) c new here same = rw (same, here) refl
index_set id (suc k) (d ∷ rest) c new here same = ap (λ n. cond (d.id == id) 1 (one_more n)) (index_set id k rest c new here same)

accepted_set : (id k : ℕ) (list : List Cmd) (c new : Cmd) → c ≡ get_or list k c → new.id ≡ c.id → is_accepted id (slice_set list k new) ≡ is_accepted id list
accepted_set id k [] c new here same = refl
accepted_set id zero (d ∷ rest) c new here same = rw (same, here) refl
accepted_set id (suc k) (d ∷ rest) c new here same = ap (λ x. (d.id == id) || x) (accepted_set id k rest c new here same)

apart_set : (k : ℕ) (list : List Cmd) (c new : Cmd) → c ≡ get_or list k c → new.id ≡ c.id → AreApart list → AreApart (slice_set list k new)
apart_set k [] c new here same apart = tt
apart_set zero (d ∷ rest) c new here same apart = (rw (same, here) apart.0, apart.1)
apart_set (suc k) (d ∷ rest) c new here same apart =
    (accepted_set d.id k rest c new here same ∙ apart.0, apart_set k rest c new here same apart.1)

-- a command with the same operation and wait can be served too
served_same : (c new : Cmd) → new.op ≡ c.op → new.wait ≡ c.wait → CanServe c → CanServe new
served_same c new op wait s = record { few = rw op s.few; low = rw op s.low; wait = rw wait s.wait }

-- the table stays right
pub index_kept : (table : List ℕ) (list : List Cmd) (k : ℕ) (c new : Cmd) → IsIndex table list → c ≡ get_or list k c → k < length list → new.id ≡ c.id → new.op ≡ c.op → new.wait ≡ c.wait → IsIndex table (slice_set list k new)
index_kept table list k c new index here within same op wait = record {
  few = index.few;
  stands = λ id. index.stands id ∙ sym (index_set id k list c new here same);
  counted = simp length-set index.counted;
  apart = apart_set k list c new here same index.apart;
  served = All-set CanServe list k new (served_same c new op wait (subst CanServe (sym here) (All-get_or CanServe list k c within index.served))) index.served;
}

-- ---- commands that can be served

short_few : (op : Op) → AsksForFew op → IsShort op
short_few (Read lba count) few = few
short_few (Write lba count stamp) few = tt
short_few (Verify lba count) few = tt
short_few Flush few = tt
short_few Power few = tt

-- a read is of few sectors
pub short_served : (c : Cmd) → CanServe c → IsShort c.op
short_served c s = short_few c.op s.few

-- what a script asks for, of few sectors and with a short wait, can be served
pub can_serve : (c : Cmd) → AsksForFew c.op → IsScriptOp c.op → c.wait.n ≤ 1000000 → CanServe c
can_serve c few low wait = record { few = few; low = low; wait = wait }

-- a command that is counted stays where it was
pub index_counted : (table : List ℕ) (list : List Cmd) (k : ℕ) (c new : Cmd) (raised : Bool) → IsIndex table list → c ≡ get_or list k c → k < length list → new ≡ counted raised c → IsIndex table (slice_set list k new)
index_counted table list k c new raised index here within is = index_kept table list k c new index here within (rw is refl) (rw is refl) (rw is refl)

-- a command that is counted can be served as before
pub served_counted : (c new : Cmd) (raised : Bool) → CanServe c → new ≡ counted raised c → CanServe new
served_counted c new raised served is = served_same c new (rw is refl) (rw is refl) served
