-- A round of the settling, step by step.
use Rattle.std.proofs.Common.{◌≡◌, ◌∙◌, ℕ, suc, ◌+◌, ◌-◌, ◌<◌, ◌≤◌, Bool, true, false, ◌&&◌, List, [], ◌∷◌, ◌++◌, length, map, take, refl, sym, ap, subst, arith, append_assoc, append-nil, length-append}
use Rattle.std.proofs.lemmas.List.{take-append-le, take_all}
use Rattle.std.specs.List.{list_all, range_with_len}
use Rattle.ata_script.specs.declared.port_head.PortHead.{PortHead}
use Rattle.ata_trace.proofs.Pasts.{past_of_push}
use Rattle.ata_trace.specs.Entries.{EntryView, grown, past_of}
use Rattle.ata_trace.specs.Event.{Event, onto}
use Rattle.ata_trace.specs.Event.Event.{Entered, Told}
use Rattle.ata_trace.specs.declared.act.Act.{Act}
use Rattle.ata_trace.specs.declared.step.Step.{Step}
use Rattle.ata_trace.specs.declared.step.Step.TheVariants.{Kick, Work, Irq, Expire, Recover}
use Rattle.ata_trace.specs.declared.who.Who.TheVariants.{Settle}
use Rattle.host_core.specs.Settled.{IsPartOf, is_idle_entry, made_after, round_after, settle_entry}
use Rattle.ata_trace.proofs.LastLemmas.{last_pushed}
use Rattle.port_core.specs.Idle.{is_idle_last}
use Rattle.port_core.specs.PortView.{PortView}
use Rattle.port_past.specs.Heads.{places_of}
use Rattle.port_past.specs.Settlings.{settle_count}
use Rattle.port_rules.specs.Legal.{entry_after}
use Rattle.port_rules.specs.Run.{run_from}
use Rattle.port_rules.specs.Settle.{calls_from, round_steps, are_idle, is_idle_act}

-- ---- the entries of the settling are counted

count_onto : (past : List Event) (acts : List Act) → settle_count (onto past acts) ≡ settle_count past
count_onto past [] = refl
count_onto past (act ∷ acts) = count_onto (Told act ∷ past) acts

pub count_more :
    (head : PortHead) (past : List Event) (step : Step)
    → settle_count (grown past (settle_entry head past step)) ≡ settle_count past + 1
count_more head past step =
    let entry : EntryView = settle_entry head past step in
    count_onto (Entered entry.at entry.who entry.seq entry.step ∷ past) entry.acts

-- ---- the steps of a round that are still to be taken

-- the first of them, and the others after it
pub pending_next :
    (head : PortHead) (now : List EntryView) (step : Step) (steps : List Step)
    → made_after head now (step ∷ steps)
    ≡ settle_entry head (past_of now) step ∷ made_after head (now ++ settle_entry head (past_of now) step ∷ []) steps
pending_next head now step steps =
    let entry : EntryView = settle_entry head (past_of now) step in
    let past : past_of (now ++ entry ∷ []) ≡ grown (past_of now) entry = past_of_push now entry in
    let count : settle_count (past_of (now ++ entry ∷ [])) ≡ settle_count (past_of now) + 1 =
    ap settle_count past ∙ count_more head (past_of now) step in
    ap (λ rest. entry ∷ rest)
    (sym ((λ i. run_from head (past i) (calls_from (count i) steps))))

-- these steps of a round are still to be taken: with the entries that they make the entries are those of the round, and
-- idle where these are
pub record IsInRound (head : PortHead) (first now : List EntryView) (idle : Bool) (steps : List Step) : Type 0 where
  pub goes : now ++ made_after head now steps ≡ first ++ round_after head first
  pub still : (idle && are_idle (made_after head now steps)) ≡ are_idle (round_after head first)
  pub kept : length first ≤ length now

pub round_begins : (head : PortHead) (first : List EntryView) → IsInRound head first first true (round_steps head)
round_begins head first = record { goes = refl; still = refl; kept = omega arith }

and_true : (a : Bool) → (a && true) ≡ a
and_true true = refl
and_true false = refl

and_assoc : (a b c : Bool) → (a && b && c) ≡ (a && (b && c))
and_assoc true b c = refl
and_assoc false b c = refl

idle_more : (entry : EntryView) (rest : List EntryView) → are_idle (entry ∷ rest) ≡ (is_idle_entry entry && are_idle rest)
idle_more entry rest = refl

-- one of them is taken
pub round_goes :
    (head : PortHead) (first now after : List EntryView) (idle : Bool) (step : Step) (steps : List Step)
    → IsInRound head first now idle (step ∷ steps)
    → after ≡ now ++ settle_entry head (past_of now) step ∷ []
    → IsInRound head first after (idle && is_idle_entry (settle_entry head (past_of now) step)) steps
round_goes head first now after idle step steps round taken =
    let entry : EntryView = settle_entry head (past_of now) step in
    let next : made_after head now (step ∷ steps) ≡ entry ∷ made_after head after steps =
    pending_next head now step steps ∙ ap (λ later. entry ∷ made_after head later steps) (sym taken) in
    record {
      goes =
          ap (λ later. later ++ made_after head after steps) taken ∙ append_assoc now (entry ∷ []) (made_after head after steps)
          ∙ ap (λ more. now ++ more) (sym next) ∙ round.goes;
      still =
          and_assoc idle (is_idle_entry entry) (are_idle (made_after head after steps))
          ∙ ap (λ more. idle && more) (sym (idle_more entry (made_after head after steps)))
          ∙ ap (λ more. idle && are_idle more) (sym next) ∙ round.still;
      kept = let long = ap length taken ∙ length-append now (entry ∷ []) in omega (arith, long, round.kept);
    }

-- none is left
pub round_ends :
    (head : PortHead) (first now : List EntryView) (idle : Bool) → IsInRound head first now idle []
    → (now ≡ first ++ round_after head first) × (idle ≡ are_idle (round_after head first))
round_ends head first now idle round =
    (sym (append-nil now) ∙ round.goes, sym (and_true idle) ∙ round.still)

-- ---- the steps of a round, place after place

-- the port's own steps
abbrev pub own_steps : List Step
own_steps = Irq ∷ Expire ∷ Recover ∷ []

-- the drives from a place on are still to work
abbrev pub works_from : PortHead → ℕ → List Step
works_from head k = map (λ (place : ℕ). Work place 0) (range_with_len k (head.places - k)) ++ own_steps

-- the places from one on are still to be kicked
abbrev pub kicks_from : PortHead → ℕ → List Step
kicks_from head k = map (λ (place : ℕ). Kick place) (range_with_len k (head.places - k)) ++ works_from head 0

steps_are : (head : PortHead) → round_steps head ≡ kicks_from head 0
steps_are head =
    let all : head.places - 0 ≡ head.places = omega arith in
    subst
    (λ n. round_steps head
    ≡ map (λ (place : ℕ). Kick place) (range_with_len 0 n) ++ (map (λ (place : ℕ). Work place 0) (range_with_len 0 n) ++ own_steps))
    (sym all)
    (append_assoc (map (λ (place : ℕ). Kick place) (places_of head)) (map (λ (place : ℕ). Work place 0) (places_of head)) own_steps)

-- the steps of a port that settles, so far: those that are still to be taken, and that it stays the port that it was
pub record IsRounding (first now : PortView) (idle : Bool) (steps : List Step) : Type 0 where
  pub round : IsInRound first.head first.entries now.entries idle steps
  pub head : now.head ≡ first.head
  pub number : now.number ≡ first.number

pub rounding_begins : (first : PortView) → IsRounding first first true (kicks_from first.head 0)
rounding_begins first = record {
  round = subst (IsInRound first.head first.entries first.entries true) (steps_are first.head) (round_begins first.head first.entries);
  head = refl;
  number = refl;
}

-- one of them is taken
pub rounding_goes :
    (first now after : PortView) (idle still : Bool) (step : Step) (steps : List Step) → IsRounding first now idle (step ∷ steps)
    → after.entries ≡ now.entries ++ settle_entry now.head (past_of now.entries) step ∷ []
    → still ≡ (idle && is_idle_entry (settle_entry now.head (past_of now.entries) step))
    → after.head ≡ now.head → after.number ≡ now.number → IsRounding first after still steps
rounding_goes first now after idle still step steps so taken stays head number =
    let same : settle_entry now.head (past_of now.entries) step ≡ settle_entry first.head (past_of now.entries) step =
    ap (λ h. settle_entry h (past_of now.entries) step) so.head in
    record {
      round =
          subst (λ b. IsInRound first.head first.entries after.entries b steps)
          (sym (stays ∙ ap (λ e. idle && is_idle_entry e) same))
          (round_goes first.head first.entries now.entries after.entries idle step steps so.round
          (taken ∙ ap (λ e. now.entries ++ e ∷ []) same));
      head = head ∙ so.head;
      number = number ∙ so.number;
    }

-- one place more is kicked
pub kick_goes :
    (first now after : PortView) (idle still : Bool) (k place : ℕ) → place ≡ k → k < first.head.places
    → IsRounding first now idle (kicks_from first.head k)
    → after.entries ≡ now.entries ++ settle_entry now.head (past_of now.entries) (Kick place) ∷ []
    → still ≡ (idle && is_idle_entry (settle_entry now.head (past_of now.entries) (Kick place)))
    → after.head ≡ now.head → after.number ≡ now.number → IsRounding first after still (kicks_from first.head (k + 1))
kick_goes first now after idle still k place at within so taken stays head number =
    let places : ℕ = first.head.places in
    let one : places - k ≡ suc (places - (k + 1)) = omega (arith, within) in
    let step : settle_entry now.head (past_of now.entries) (Kick place) ≡ settle_entry now.head (past_of now.entries) (Kick k) =
    ap (λ (n : ℕ). settle_entry now.head (past_of now.entries) (Kick n)) at in
    rounding_goes first now after idle still (Kick k) (kicks_from first.head (k + 1))
    (subst (λ n. IsRounding first now idle (map (λ (place : ℕ). Kick place) (range_with_len k n) ++ works_from first.head 0)) one so)
    (taken ∙ ap (λ e. now.entries ++ e ∷ []) step) (stays ∙ ap (λ e. idle && is_idle_entry e) step) head number

pub kicks_end :
    (first now : PortView) (idle : Bool) (k : ℕ) → first.head.places ≤ k → IsRounding first now idle (kicks_from first.head k)
    → IsRounding first now idle (works_from first.head 0)
kicks_end first now idle k past so =
    let none : first.head.places - k ≡ 0 = omega (arith, past) in
    subst (λ n. IsRounding first now idle (map (λ (place : ℕ). Kick place) (range_with_len k n) ++ works_from first.head 0)) none so

-- one drive more works
pub work_goes :
    (first now after : PortView) (idle still : Bool) (k place pick : ℕ) → place ≡ k → pick ≡ 0 → k < first.head.places
    → IsRounding first now idle (works_from first.head k)
    → after.entries ≡ now.entries ++ settle_entry now.head (past_of now.entries) (Work place pick) ∷ []
    → still ≡ (idle && is_idle_entry (settle_entry now.head (past_of now.entries) (Work place pick)))
    → after.head ≡ now.head → after.number ≡ now.number → IsRounding first after still (works_from first.head (k + 1))
work_goes first now after idle still k place pick at none within so taken stays head number =
    let places : ℕ = first.head.places in
    let one : places - k ≡ suc (places - (k + 1)) = omega (arith, within) in
    let step : settle_entry now.head (past_of now.entries) (Work place pick) ≡ settle_entry now.head (past_of now.entries) (Work k 0) =
    ap (λ (n : ℕ). settle_entry now.head (past_of now.entries) (Work n pick)) at
    ∙ ap (λ (n : ℕ). settle_entry now.head (past_of now.entries) (Work k n)) none in
    rounding_goes first now after idle still (Work k 0) (works_from first.head (k + 1))
    (subst (λ n. IsRounding first now idle (map (λ (place : ℕ). Work place 0) (range_with_len k n) ++ own_steps)) one so)
    (taken ∙ ap (λ e. now.entries ++ e ∷ []) step) (stays ∙ ap (λ e. idle && is_idle_entry e) step) head number

pub works_end :
    (first now : PortView) (idle : Bool) (k : ℕ) → first.head.places ≤ k → IsRounding first now idle (works_from first.head k)
    → IsRounding first now idle own_steps
works_end first now idle k past so =
    let none : first.head.places - k ≡ 0 = omega (arith, past) in
    subst (λ n. IsRounding first now idle (map (λ (place : ℕ). Work place 0) (range_with_len k n) ++ own_steps)) none so

-- entries that go on to all of them are a part
pub cut_at :
    (before now more all : List EntryView) → length before ≤ length now → now ++ more ≡ all → IsPartOf all before now
cut_at before now more all kept whole = record {
  part =
      sym (take_all (length now) now (omega arith)) ∙ sym (take-append-le (length now) now more (omega arith))
      ∙ ap (take (length now)) whole;
  kept = kept;
}

-- a round that is cut short
pub round_cut :
    (first now after : PortView) (idle : Bool) (steps : List Step) → IsRounding first now idle steps → after.entries ≡ now.entries
    → IsPartOf (first.entries ++ round_after first.head first.entries) first.entries after.entries
round_cut first now after idle steps so same =
    subst (IsPartOf (first.entries ++ round_after first.head first.entries) first.entries) (sym same)
    (cut_at first.entries now.entries (made_after first.head now.entries steps) _ so.round.kept so.round.goes)

-- the last of them is taken
pub last_entries :
    (first now after : PortView) (idle : Bool) (step : Step) → IsRounding first now idle (step ∷ [])
    → after.entries ≡ now.entries ++ settle_entry now.head (past_of now.entries) step ∷ []
    → after.entries ≡ first.entries ++ round_after first.head first.entries
last_entries first now after idle step so taken =
    let still : Bool = idle && is_idle_entry (settle_entry now.head (past_of now.entries) step) in
    let next : PortView = record now { entries = after.entries } in
    (round_ends first.head first.entries after.entries still
    (rounding_goes first now next idle still step [] so taken refl refl refl).round).0

pub last_idle :
    (first now : PortView) (idle still : Bool) (step : Step) → IsRounding first now idle (step ∷ [])
    → still ≡ (idle && is_idle_entry (settle_entry now.head (past_of now.entries) step))
    → still ≡ are_idle (round_after first.head first.entries)
last_idle first now idle still step so stays =
    let next : PortView = record now { entries = now.entries ++ settle_entry now.head (past_of now.entries) step ∷ [] } in
    (round_ends first.head first.entries next.entries still
    (rounding_goes first now next idle still step [] so refl stays refl refl).round).1

-- an entry that was appended is idle where its acts are
pub still_idle : (entries after : List EntryView) (entry : EntryView) → after ≡ entries ++ entry ∷ [] → is_idle_last after ≡ is_idle_entry entry
still_idle entries after entry taken = ap is_idle_last taken ∙ ap (list_all is_idle_act) (last_pushed entries entry)

pub take_idle :
    (before roomy after : PortView) (seq : ℕ) (step : Step) (idle still : Bool) → roomy ≡ record before { spare = 1 }
    → seq ≡ settle_count (past_of roomy.entries)
    → after.entries ≡ roomy.entries ++ entry_after roomy.head (past_of roomy.entries) Settle seq step ∷ []
    → still ≡ is_idle_last after.entries → idle ≡ true
    → still ≡ (idle && is_idle_entry (settle_entry before.head (past_of before.entries) step))
take_idle before roomy after seq step idle still room turn taken said so =
    said ∙ still_idle roomy.entries after.entries (entry_after roomy.head (past_of roomy.entries) Settle seq step) taken
    ∙ ap (λ (n : ℕ). is_idle_entry (entry_after roomy.head (past_of roomy.entries) Settle n step)) turn
    ∙ ap (λ (p : PortView). is_idle_entry (settle_entry p.head (past_of p.entries) step)) room
    ∙ ap (λ b. b && is_idle_entry (settle_entry before.head (past_of before.entries) step)) (sym so)
