-- What a port knows of itself as it settles.
use Rattle.std.proofs.Common.{◌≡◌, ℕ, ◌+◌, ◌<◌, ◌≤◌, ◌^◌, min, nat_lt, Bool, true, false, ◌==◌, List, [], ◌∷◌, fold, filter, Option, None, Some, option_map, length, refl, sym, subst, arith, if◌then◌else◌}
use Rattle.std.proofs.lemmas.Bool.Decides.{nat_tests}
use Rattle.std.specs.Prelude.{IfSome}
use Rattle.std.specs.List.{reduce}
use Rattle.ata_base.specs.declared.ms.Ms.{Ms}
use Rattle.ata_script.specs.declared.port_head.PortHead.{PortHead}
use Rattle.ata_trace.specs.Entries.{EntryView, past_of}
use Rattle.port_facts.proofs.Legal.{journal_allowed}
use Rattle.port_past.specs.Clock.{clock}
use Rattle.port_past.specs.Drain.{quiet_since}
use Rattle.port_rules.specs.Coming.{awaited_times, coming}
use Rattle.port_rules.specs.Legal.{IsLegal}
use Rattle.port_rules.specs.Settle.{is_empty}
use Rattle.port_stands.proofs.Coming.{coming_soon}
use Rattle.port_stands.proofs.Heads.{one_place}
use Rattle.port_stands.proofs.Timely.{journal_due}

-- none is live where their count is 0
pub none_live : (ids : List ℕ) → (length ids == 0) ≡ is_empty ids
none_live [] = refl
none_live (id ∷ ids) =
    let some : (length (id ∷ ids) == 0) ≡ false = grind (arith, nat_tests) in
    some

-- ---- the time for which a port waits comes later

later_both : (now x t : ℕ) → now < x → nat_lt now t ≡ true → now < min x t
later_both now x t late is =
    let next : now < t = grind (arith, nat_tests) in
    omega (arith, late, next)

least_late : (now x : ℕ) (times : List ℕ) → now < x → now < fold min x (filter (nat_lt now) times)
least_late now x [] late = late
least_late now x (t ∷ times) late = by (nat_lt now t) refl (λ y l. least_late now y times l) where
  by : (b : Bool) → nat_lt now t ≡ b → ((y : ℕ) → now < y → now < fold min y (filter (nat_lt now) times))
      → now < fold min x (if b then t ∷ filter (nat_lt now) times else filter (nat_lt now) times)
  by true is later = later (min x t) (later_both now x t late is)
  by false is later = later x late

first_late : (now t : ℕ) (times : List ℕ) → reduce min (filter (nat_lt now) times) ≡ Some t → now < t
first_late now t [] is = absurd (cc is)
first_late now t (x ∷ times) is = by (nat_lt now x) refl is (λ i. first_late now t times i) where
  by : (b : Bool) → nat_lt now x ≡ b → reduce min (if b then x ∷ filter (nat_lt now) times else filter (nat_lt now) times) ≡ Some t
      → (reduce min (filter (nat_lt now) times) ≡ Some t → now < t) → now < t
  by true above is later =
      let same : fold min x (filter (nat_lt now) times) ≡ t = cc is in
      let first : now < x = grind (arith, nat_tests) in
      subst (λ n. now < n) same (least_late now x times first)
  by false above is later = later is

-- the time for which it waits comes after the present
pub comes_late :
    (head : PortHead) (entries : List EntryView) (time : Option Ms)
    → option_map (λ (t : Ms). t.n) time ≡ coming head (past_of entries)
    → IfSome time (λ t. clock (past_of entries) < t.n)
comes_late head entries None is = tt
comes_late head entries (Some t) is =
    first_late (clock (past_of entries)) t.n (awaited_times head (past_of entries)) (sym is)

-- a port is quiet since a time that has been
pub quiet_early :
    (head : PortHead) (entries : List EntryView) → IsLegal head entries → clock (past_of entries) ≤ 2 ^ 62
    → quiet_since (past_of entries) ≤ 2 ^ 62
quiet_early head entries legal early =
    let timely = journal_due head (one_place head) entries legal in
    omega (arith, timely.quiet_since, early)

soon_by :
    (head : PortHead) (entries : List EntryView) (legal : IsLegal head entries) (time : Option ℕ)
    → coming head (past_of entries) ≡ time → IfSome time (λ t. t ≤ clock (past_of entries) + 1000000)
soon_by head entries legal None is = tt
soon_by head entries legal (Some t) is =
    coming_soon head (past_of entries) (journal_allowed head entries legal) (journal_due head (one_place head) entries legal) t is

-- the time for which it waits is at most the longest wait away
pub comes_soon :
    (head : PortHead) (entries : List EntryView) → IsLegal head entries → (time : Option Ms)
    → option_map (λ (t : Ms). t.n) time ≡ coming head (past_of entries)
    → IfSome time (λ t. t.n ≤ clock (past_of entries) + 1000000)
comes_soon head entries legal None is = tt
comes_soon head entries legal (Some t) is = soon_by head entries legal (Some t.n) (sym is)
