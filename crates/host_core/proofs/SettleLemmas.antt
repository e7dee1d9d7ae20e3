-- The settling of a port, round by round.
use Rattle.std.proofs.Common.{◌≡◌, ◌∙◌, ℕ, suc, ◌+◌, ◌-◌, ◌<◌, ◌≤◌, Bool, true, false, List, [], ◌∷◌, ◌++◌, Some, None, Result, Ok, Err, OnErr, length, take, refl, sym, ap, subst, arith, append_assoc, append-nil, length-append, length-take, if◌then◌else◌}
use Rattle.std.proofs.lemmas.List.{take-append-le}
use Rattle.ata_script.specs.declared.port_head.PortHead.{PortHead}
use Rattle.ata_trace.proofs.Pasts.{past_of_push, past_from_append}
use Rattle.ata_trace.specs.Entries.{EntryView, grown, past_from, past_of}
use Rattle.ata_trace.specs.declared.step.Step.{Step}
use Rattle.ata_trace.specs.declared.step.Step.TheVariants.{Tick}
use Rattle.host_core.proofs.RoundLemmas.{count_more, cut_at, pending_next}
use Rattle.host_core.specs.Settled.{IsPartOf, IsSettledInPart, made_after, round_after, settle_entry}
use Rattle.port_core.specs.PortView.{PortView}
use Rattle.port_past.specs.Clock.{clock}
use Rattle.port_past.specs.Settlings.{settle_count}
use Rattle.port_rules.specs.Coming.{coming}
use Rattle.port_rules.specs.Settle.{round_steps, are_idle, is_settled, after_round, after_tick, rounds_from, settling}

-- ---- what follows a round

-- the entries of a round are counted
count_made :
    (head : PortHead) (first : List EntryView) (steps : List Step)
    → settle_count (past_of (first ++ made_after head first steps)) ≡ settle_count (past_of first) + length (made_after head first steps)
count_made head first [] = ap (λ entries. settle_count (past_of entries)) (append-nil first) ∙ omega arith
count_made head first (step ∷ steps) =
    let entry : EntryView = settle_entry head (past_of first) step in
    let rest : List EntryView = made_after head (first ++ entry ∷ []) steps in
    let next : made_after head first (step ∷ steps) ≡ entry ∷ rest = pending_next head first step steps in
    let same : settle_count (past_of (first ++ made_after head first (step ∷ steps))) ≡ settle_count (past_of ((first ++ entry ∷ []) ++ rest)) =
    ap (λ more. settle_count (past_of (first ++ more))) next
    ∙ ap (λ entries. settle_count (past_of entries)) (sym (append_assoc first (entry ∷ []) rest)) in
    let later = count_made head (first ++ entry ∷ []) steps in
    let one : settle_count (past_of (first ++ entry ∷ [])) ≡ settle_count (past_of first) + 1 =
    ap settle_count (past_of_push first entry) ∙ count_more head (past_of first) step in
    let long : length (made_after head first (step ∷ steps)) ≡ length rest + 1 = ap length next ∙ omega arith in
    omega (arith, same, later, one, long)

-- a round of a port that isn't settled, and what follows it
unfolded :
    (head : PortHead) (rounds : ℕ) (first : List EntryView) (over : Bool) → over ≡ false
    → (if over then [] else
    round_after head first
    ++ after_round head (settle_count (past_of first) + length (round_after head first))
    (past_from (past_of first) (round_after head first)) (rounds_from head rounds)
    (are_idle (round_after head first)))
    ≡ round_after head first
    ++ after_round head (settle_count (past_of (first ++ round_after head first)))
    (past_of (first ++ round_after head first)) (rounds_from head rounds)
    (are_idle (round_after head first))
unfolded head rounds first true settled = cc settled
unfolded head rounds first false settled =
    let round : List EntryView = round_after head first in
    ap (λ seq. round ++ after_round head seq (past_from (past_of first) round) (rounds_from head rounds) (are_idle round))
    (sym (count_made head first (round_steps head)))
    ∙ ap (λ past. round ++ after_round head (settle_count (past_of (first ++ round))) past (rounds_from head rounds) (are_idle round))
    (sym (past_from_append [] first round))

-- so the entries with the settling that is left are the same before and after a round that isn't idle
pub busy_round :
    (head : PortHead) (rounds : ℕ) (first after : List EntryView) → is_settled (past_of first) ≡ false
    → after ≡ first ++ round_after head first → are_idle (round_after head first) ≡ false
    → after ++ settling head rounds (past_of after) ≡ first ++ settling head (suc rounds) (past_of first)
busy_round head rounds first after settled is idle =
    let round : List EntryView = round_after head first in
    let all = unfolded head rounds first (is_settled (past_of first)) settled in
    ap (λ entries. entries ++ settling head rounds (past_of entries)) is
    ∙ append_assoc first round (settling head rounds (past_of (first ++ round)))
    ∙ ap (λ more. first ++ more)
    (sym (all ∙ ap (λ b. round ++ after_round head (settle_count (past_of (first ++ round))) (past_of (first ++ round)) (rounds_from head rounds) b) idle))

-- after an idle round with no time to wait for there is nothing left
pub last_round :
    (head : PortHead) (rounds : ℕ) (first after : List EntryView) → is_settled (past_of first) ≡ false
    → after ≡ first ++ round_after head first → are_idle (round_after head first) ≡ true
    → coming head (past_of after) ≡ None
    → after ≡ first ++ settling head (suc rounds) (past_of first)
last_round head rounds first after settled is idle none =
    let round : List EntryView = round_after head first in
    let later : List EntryView = first ++ round in
    let all = unfolded head rounds first (is_settled (past_of first)) settled in
    let none_now : coming head (past_of later) ≡ None = ap (λ entries. coming head (past_of entries)) (sym is) ∙ none in
    is ∙ ap (λ more. first ++ more) (sym (append-nil round))
    ∙ ap (λ more. first ++ more)
    (sym (all
    ∙ ap (λ b. round ++ after_round head (settle_count (past_of later)) (past_of later) (rounds_from head rounds) b) idle
    ∙ ap (λ time. round ++ after_tick head (settle_count (past_of later)) (past_of later) (rounds_from head rounds) time) none_now))

-- and else a tick follows
pub ticked_round :
    (head : PortHead) (rounds time : ℕ) (first mid after : List EntryView) → is_settled (past_of first) ≡ false
    → mid ≡ first ++ round_after head first → are_idle (round_after head first) ≡ true
    → coming head (past_of mid) ≡ Some time
    → after ≡ mid ++ settle_entry head (past_of mid) (Tick (time - clock (past_of mid))) ∷ []
    → after ++ settling head rounds (past_of after) ≡ first ++ settling head (suc rounds) (past_of first)
ticked_round head rounds time first mid after settled is idle some taken =
    let round : List EntryView = round_after head first in
    let all = unfolded head rounds first (is_settled (past_of first)) settled in
    let seq : ℕ = settle_count (past_of mid) in
    let tick : EntryView = settle_entry head (past_of mid) (Tick (time - clock (past_of mid))) in
    let past : past_of (mid ++ tick ∷ []) ≡ grown (past_of mid) tick = past_of_push mid tick in
    let count : settle_count (past_of (mid ++ tick ∷ [])) ≡ seq + 1 =
    ap settle_count past ∙ count_more head (past_of mid) (Tick (time - clock (past_of mid))) in
    let settles : settling head rounds (past_of after) ≡ rounds_from head rounds (seq + 1) (grown (past_of mid) tick) =
    ap (λ entries. settling head rounds (past_of entries)) taken
    ∙ (λ i. rounds_from head rounds (count i) (past i)) in
    let follows : settling head (suc rounds) (past_of first) ≡ round ++ tick ∷ settling head rounds (past_of after) =
    all
    ∙ ap (λ entries. round ++ after_round head (settle_count (past_of entries)) (past_of entries) (rounds_from head rounds) (are_idle round)) (sym is)
    ∙ ap (λ b. round ++ after_round head seq (past_of mid) (rounds_from head rounds) b) idle
    ∙ ap (λ next. round ++ after_tick head seq (past_of mid) (rounds_from head rounds) next) some
    ∙ ap (λ more. round ++ tick ∷ more) (sym settles) in
    ap (λ entries. entries ++ settling head rounds (past_of after)) taken
    ∙ append_assoc mid (tick ∷ []) (settling head rounds (past_of after))
    ∙ ap (λ entries. entries ++ tick ∷ settling head rounds (past_of after)) is
    ∙ append_assoc first round (tick ∷ settling head rounds (past_of after))
    ∙ ap (λ more. first ++ more) (sym follows)

-- a port that is settled makes no round
pub no_round :
    (head : PortHead) (rounds : ℕ) (first : List EntryView) → is_settled (past_of first) ≡ true
    → first ≡ first ++ settling head (suc rounds) (past_of first)
no_round head rounds first settled = sym (append-nil first) ∙ ap (λ more. first ++ more) (sym (rw settled refl))

-- ---- a settling that was cut short

-- what holds, holds after want of memory
pub on_err_any : {T E P : Type 0} (r : Result T E) → P → OnErr r P
on_err_any (Ok x) p = tt
on_err_any (Err e) p = p

-- a part of a round is one of what follows the round
pub part_more :
    (all more before after : List EntryView) → length after ≤ length all → IsPartOf all before after → IsPartOf (all ++ more) before after
part_more all more before after fits part = record {
  part = part.part ∙ sym (take-append-le (length after) all more fits);
  kept = part.kept;
}

-- ---- a round, and what follows it

-- a part of a round is a part of the settling
pub round_part :
    (head : PortHead) (left : ℕ) (first after : List EntryView) → is_settled (past_of first) ≡ false
    → IsPartOf (first ++ round_after head first) first after → IsSettledInPart head (suc left) first after
round_part head left first after settled part =
    let round : List EntryView = round_after head first in
    let more : List EntryView = after_round head (settle_count (past_of (first ++ round))) (past_of (first ++ round)) (rounds_from head left) (are_idle round) in
    let whole : (first ++ round) ++ more ≡ first ++ settling head (suc left) (past_of first) =
    append_assoc first round more ∙ ap (λ entries. first ++ entries) (sym (unfolded head left first (is_settled (past_of first)) settled)) in
    let long = ap length part.part in
    let taken = length-take (length after) (first ++ round) in
    subst (λ all. IsPartOf all first after) whole (part_more (first ++ round) more first after (omega (arith, long, taken)) part)

-- so is a round that was played, where the tick after it isn't taken
pub played_part :
    (head : PortHead) (left : ℕ) (first mid after : List EntryView) → is_settled (past_of first) ≡ false
    → mid ≡ first ++ round_after head first → after ≡ mid → IsSettledInPart head (suc left) first after
played_part head left first mid after settled is same =
    let all : List EntryView = first ++ round_after head first in
    let long = ap length is in
    let both = length-append first (round_after head first) in
    round_part head left first after settled
    (subst (IsPartOf all first) (sym same)
    (cut_at first mid [] all (omega (arith, long, both)) (append-nil mid ∙ is)))

-- the tick after an idle round
pub tick_follows :
    (first mid after : PortView) (left time now ms : ℕ) → is_settled (past_of first.entries) ≡ false
    → mid.entries ≡ first.entries ++ round_after first.head first.entries → are_idle (round_after first.head first.entries) ≡ true
    → mid.head ≡ first.head → Some time ≡ coming mid.head (past_of mid.entries) → now ≡ clock (past_of mid.entries) → ms ≡ time - now
    → after.entries ≡ mid.entries ++ settle_entry mid.head (past_of mid.entries) (Tick ms) ∷ []
    → after.entries ++ settling first.head left (past_of after.entries) ≡ first.entries ++ settling first.head (suc left) (past_of first.entries)
tick_follows first mid after left time now ms settled is idle head some at lasts taken =
    ticked_round first.head left time first.entries mid.entries after.entries settled is idle
    (ap (λ h. coming h (past_of mid.entries)) (sym head) ∙ sym some)
    (taken
    ∙ ap (λ h. mid.entries ++ settle_entry h (past_of mid.entries) (Tick ms) ∷ []) head
    ∙ ap (λ (n : ℕ). mid.entries ++ settle_entry first.head (past_of mid.entries) (Tick n) ∷ []) (lasts ∙ ap (λ (n : ℕ). time - n) at))

-- ---- the rounds of a port that settles

-- so many rounds of a settling are done: what is left of it, after the entries so far, makes the settling
pub record IsSettling (rounds done : ℕ) (first now : PortView) : Type 0 where
  pub goes :
      now.entries ++ settling first.head (rounds - done) (past_of now.entries)
      ≡ first.entries ++ settling first.head rounds (past_of first.entries)
  pub kept : length first.entries ≤ length now.entries
  pub head : now.head ≡ first.head
  pub number : now.number ≡ first.number

pub settling_begins : (rounds : ℕ) (first : PortView) → IsSettling rounds 0 first first
settling_begins rounds first =
    let all : rounds - 0 ≡ rounds = omega arith in
    record {
      goes = ap (λ n. first.entries ++ settling first.head n (past_of first.entries)) all;
      kept = omega arith;
      head = refl;
      number = refl;
    }

-- what a round leaves to do
abbrev Leaves : PortView → PortView → Bool → Type 0
Leaves now after follows =
    (left : ℕ) → after.entries ++ (if follows then settling now.head left (past_of after.entries) else [])
    ≡ now.entries ++ settling now.head (suc left) (past_of now.entries)

left_of :
    (rounds done : ℕ) (first now : PortView) → IsSettling rounds done first now → done < rounds
    → now.entries ++ settling now.head (suc (rounds - (done + 1))) (past_of now.entries)
    ≡ first.entries ++ settling first.head rounds (past_of first.entries)
left_of rounds done first now so within =
    let one : suc (rounds - (done + 1)) ≡ rounds - done = omega (arith, within) in
    ap (λ h. now.entries ++ settling h (suc (rounds - (done + 1))) (past_of now.entries)) so.head
    ∙ ap (λ n. now.entries ++ settling first.head n (past_of now.entries)) one
    ∙ so.goes

-- one round more
pub settling_goes :
    (rounds done : ℕ) (first now after : PortView) (follows : Bool) → IsSettling rounds done first now → done < rounds → follows ≡ true
    → Leaves now after follows → after.head ≡ now.head → after.number ≡ now.number → IsSettling rounds (done + 1) first after
settling_goes rounds done first now after false so within yet leaves head number = cc yet
settling_goes rounds done first now after true so within yet leaves head number =
    let left : ℕ = rounds - (done + 1) in
    let none = ap length (leaves 0) in
    let before = length-append after.entries (settling now.head 0 (past_of after.entries)) in
    let behind = length-append now.entries (settling now.head (suc 0) (past_of now.entries)) in
    record {
      goes =
          ap (λ h. after.entries ++ settling h left (past_of after.entries)) (sym so.head)
          ∙ leaves left ∙ left_of rounds done first now so within;
      kept = omega (arith, none, before, behind, so.kept);
      head = head ∙ so.head;
      number = number ∙ so.number;
    }

-- no round follows
pub settling_stops :
    (rounds done : ℕ) (first now after : PortView) (follows : Bool) → IsSettling rounds done first now → done < rounds → follows ≡ false
    → Leaves now after follows → after.entries ≡ first.entries ++ settling first.head rounds (past_of first.entries)
settling_stops rounds done first now after true so within over leaves = cc over
settling_stops rounds done first now after false so within over leaves =
    sym (append-nil after.entries) ∙ leaves (rounds - (done + 1)) ∙ left_of rounds done first now so within

-- all rounds are done
pub settling_ends :
    (rounds done : ℕ) (first now : PortView) → IsSettling rounds done first now → rounds ≤ done
    → now.entries ≡ first.entries ++ settling first.head rounds (past_of first.entries)
settling_ends rounds done first now so past =
    let none : 0 ≡ rounds - done = omega (arith, past) in
    sym (append-nil now.entries) ∙ ap (λ n. now.entries ++ settling first.head n (past_of now.entries)) none ∙ so.goes

-- a round is cut short
pub settling_cut :
    (rounds done : ℕ) (first now after : PortView) → IsSettling rounds done first now → done < rounds
    → ((left : ℕ) → IsSettledInPart now.head (suc left) now.entries after.entries)
    → IsSettledInPart first.head rounds first.entries after.entries
settling_cut rounds done first now after so within cut =
    let part = cut (rounds - (done + 1)) in
    record {
      part = part.part ∙ ap (take (length after.entries)) (left_of rounds done first now so within);
      kept = omega (arith, part.kept, so.kept);
    }
