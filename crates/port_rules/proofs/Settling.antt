-- What settling appends has legal acts, and its rounds have steps that a script can have.
use Rattle.std.proofs.Common.{ℕ, ◌+◌, ◌-◌, ◌≤◌, Bool, true, false, List, [], ◌∷◌, ◌++◌, map, Option, None, Some, length, suc, zero, if◌then◌else◌, refl, sym, subst, arith, append_assoc}
use Rattle.std.proofs.lemmas.List.Elements.{All-nil, All-cons, All-head, All-tail}
use Rattle.std.specs.List.{All, range_with_len}
use Rattle.ata_script.specs.declared.port_head.PortHead.{PortHead}
use Rattle.ata_trace.specs.Entries.{EntryView, grown, past_from, past_of}
use Rattle.ata_trace.specs.Event.{Event}
use Rattle.ata_trace.specs.declared.step.Step.{Step}
use Rattle.ata_trace.specs.declared.step.Step.TheVariants.{Kick, Work, Irq, Expire, Recover, Tick}
use Rattle.ata_trace.specs.declared.who.Who.TheVariants.{Settle}
use Rattle.port_past.specs.Clock.{clock}
use Rattle.port_past.specs.Heads.{places_of}
use Rattle.port_past.specs.Settlings.{settle_count}
use Rattle.port_rules.specs.Coming.{coming}
use Rattle.port_rules.specs.Legal.{entry_after, AreLegal, HasLegalActs}
use Rattle.port_rules.specs.Ranges.{IsScriptStep}
use Rattle.port_rules.specs.Run.{StepCall, run_from}
use Rattle.port_rules.specs.Settle.{round_steps, calls_from, are_idle, is_settled, after_tick, after_round, rounds_from, settling}

module _ (head : PortHead) where
  pub run_legal : (past : List Event) (asked : List StepCall) → AreLegal head past (run_from head past asked)
  run_legal past [] = tt
  run_legal past (a ∷ asked) = (refl, run_legal (grown past (entry_after head past a.who a.seq a.step)) asked)

  pub legal_both :
      (past : List Event) (entries more : List EntryView) → AreLegal head past entries → AreLegal head (past_from past entries) more
      → AreLegal head past (entries ++ more)
  legal_both past [] more h k = k
  legal_both past (r ∷ entries) more h k = (h.0, legal_both (grown past r) entries more h.1 k)

  tick_legal :
      (seq : ℕ) (past : List Event) (next : ℕ → List Event → List EntryView) (time : Option ℕ)
      → ((n : ℕ) (later : List Event) → AreLegal head later (next n later)) → AreLegal head past (after_tick head seq past next time)
  tick_legal seq past next None legal = tt
  tick_legal seq past next (Some time) legal =
      (refl, legal (seq + 1) (grown past (entry_after head past Settle seq (Tick (time - clock past)))))

  round_legal :
      (seq : ℕ) (past : List Event) (next : ℕ → List Event → List EntryView) (idle : Bool)
      → ((n : ℕ) (later : List Event) → AreLegal head later (next n later)) → AreLegal head past (after_round head seq past next idle)
  round_legal seq past next true legal = tick_legal seq past next (coming head past) legal
  round_legal seq past next false legal = legal seq past

  abbrev made : ℕ → List Event → List EntryView
  made seq past = run_from head past (calls_from seq (round_steps head))

  round_on :
      (rounds seq : ℕ) (past : List Event) (over : Bool)
      → ((n : ℕ) (later : List Event) → AreLegal head later (rounds_from head rounds n later))
      → AreLegal head past
      (if over then [] else
      made seq past
      ++ after_round head (seq + length (made seq past)) (past_from past (made seq past)) (rounds_from head rounds) (are_idle (made seq past)))
  round_on rounds seq past true legal = tt
  round_on rounds seq past false legal =
      legal_both past (made seq past)
      (after_round head (seq + length (made seq past)) (past_from past (made seq past)) (rounds_from head rounds) (are_idle (made seq past)))
      (run_legal past (calls_from seq (round_steps head)))
      (round_legal (seq + length (made seq past)) (past_from past (made seq past)) (rounds_from head rounds) (are_idle (made seq past)) legal)

  rounds_legal : (rounds seq : ℕ) (past : List Event) → AreLegal head past (rounds_from head rounds seq past)
  rounds_legal zero seq past = tt
  rounds_legal (suc rounds) seq past = round_on rounds seq past (is_settled past) (rounds_legal rounds)

-- the settling entries of a journal with legal acts have legal acts
pub settling_has_legal_acts :
    (head : PortHead) (journal : List EntryView) → HasLegalActs head journal → (rounds : ℕ)
    → HasLegalActs head (journal ++ settling head rounds (past_of journal))
settling_has_legal_acts head [] legal rounds = absurd legal
settling_has_legal_acts head (first ∷ rest) legal rounds = (
  legal.0,
  legal_both head (grown [] first) rest (settling head rounds (past_of (first ∷ rest))) legal.1
      (rounds_legal head rounds (settle_count (past_of (first ∷ rest))) (past_of (first ∷ rest))),
)

-- ---- the steps of a round

-- a step that a script can have
abbrev pub IsScriptEntry : EntryView → Type 0
IsScriptEntry e = IsScriptStep e.step

kicks_then :
    (most first count : ℕ) (rest : List Step) → most ≤ 15 → first + count ≤ most → All IsScriptStep rest
    → All IsScriptStep (map (λ (place : ℕ). Kick place) (range_with_len first count) ++ rest)
kicks_then most first zero rest few within each = each
kicks_then most first (suc count) rest few within each =
    All-cons IsScriptStep (Kick first) (map (λ (place : ℕ). Kick place) (range_with_len (first + 1) count) ++ rest)
    (record { low = omega arith; high = omega (arith, few, within); small = omega (arith, few, within) })
    (kicks_then most (first + 1) count rest few (omega (arith, within)) each)

works_then :
    (most first count : ℕ) (rest : List Step) → most ≤ 15 → first + count ≤ most → All IsScriptStep rest
    → All IsScriptStep (map (λ (place : ℕ). Work place 0) (range_with_len first count) ++ rest)
works_then most first zero rest few within each = each
works_then most first (suc count) rest few within each =
    All-cons IsScriptStep (Work first 0) (map (λ (place : ℕ). Work place 0) (range_with_len (first + 1) count) ++ rest)
    (record { low = omega arith; high = omega (arith, few, within); small = omega (arith, few, within) }, record { low = omega arith; high = omega arith; small = omega arith })
    (works_then most (first + 1) count rest few (omega (arith, within)) each)

own_steps : All IsScriptStep (Irq ∷ Expire ∷ Recover ∷ [])
own_steps =
    All-cons IsScriptStep Irq (Expire ∷ Recover ∷ []) tt
    (All-cons IsScriptStep Expire (Recover ∷ []) tt
    (All-cons IsScriptStep Recover [] tt (All-nil IsScriptStep)))

-- each step of a round is such
pub round_ranged : (head : PortHead) → All IsScriptStep (round_steps head)
round_ranged head =
    subst (All IsScriptStep)
    (sym (append_assoc (map (λ (place : ℕ). Kick place) (places_of head)) (map (λ (place : ℕ). Work place 0) (places_of head)) (Irq ∷ Expire ∷ Recover ∷ [])))
    (kicks_then head.places 0 head.places (map (λ (place : ℕ). Work place 0) (places_of head) ++ Irq ∷ Expire ∷ Recover ∷ []) head.most_places (omega arith)
    (works_then head.places 0 head.places (Irq ∷ Expire ∷ Recover ∷ []) head.most_places (omega arith) own_steps))

-- so are the entries that such steps make
pub run_ranged : (head : PortHead) (past : List Event) (seq : ℕ) (steps : List Step) → All IsScriptStep steps → All IsScriptEntry (run_from head past (calls_from seq steps))
run_ranged head past seq [] each = All-nil IsScriptEntry
run_ranged head past seq (step ∷ steps) each =
    All-cons IsScriptEntry (entry_after head past Settle seq step)
    (run_from head (grown past (entry_after head past Settle seq step)) (calls_from (seq + 1) steps))
    (All-head IsScriptStep step steps each)
    (run_ranged head (grown past (entry_after head past Settle seq step)) (seq + 1) steps (All-tail IsScriptStep step steps each))
