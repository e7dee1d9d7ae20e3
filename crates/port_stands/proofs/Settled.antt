-- A legal journal with its settling is legal.
use Rattle.std.proofs.Common.{◌≡◌, ℕ, ◌+◌, ◌-◌, ◌≤◌, Bool, true, false, List, [], ◌∷◌, ◌++◌, Option, None, Some, length, suc, zero, if◌then◌else◌, refl, sym, subst, arith, append_assoc, append-nil}
use Rattle.std.proofs.lemmas.List.Elements.{All-nil, All-cons, All-append}
use Rattle.std.specs.List.{All}
use Rattle.ata_script.specs.declared.port_head.PortHead.{PortHead}
use Rattle.ata_trace.proofs.Pasts.{past_from_append}
use Rattle.ata_trace.specs.Entries.{EntryView, grown, past_from, past_of}
use Rattle.ata_trace.specs.Event.{Event}
use Rattle.ata_trace.specs.declared.step.Step.TheVariants.{Tick}
use Rattle.ata_trace.specs.declared.who.Who.TheVariants.{Settle}
use Rattle.port_facts.proofs.Legal.{journal_allowed}
use Rattle.port_past.specs.Clock.{clock}
use Rattle.port_past.specs.Settlings.{settle_count}
use Rattle.port_rules.proofs.Settling.{IsScriptEntry, legal_both, round_ranged, run_legal, run_ranged}
use Rattle.port_rules.specs.Coming.{coming}
use Rattle.port_rules.specs.Legal.{entry_after, AreLegal, HasLegalActs, IsLegal}
use Rattle.port_rules.specs.Run.{run_from}
use Rattle.port_rules.specs.Settle.{round_steps, calls_from, are_idle, is_settled, after_tick, after_round, rounds_from, settling}
use Rattle.port_stands.proofs.Coming.{coming_soon}
use Rattle.port_stands.proofs.Heads.{one_place}
use Rattle.port_stands.proofs.Timely.{journal_due}
use Rattle.port_stands.specs.Timely.{longest_wait}

acts_more :
    (head : PortHead) (journal entries : List EntryView) → HasLegalActs head journal → AreLegal head (past_of journal) entries
    → HasLegalActs head (journal ++ entries)
acts_more head [] entries legal more = absurd legal
acts_more head (first ∷ rest) entries legal more = (legal.0, legal_both head (grown [] first) rest entries legal.1 more)

-- a legal journal goes on with legal entries whose steps a script can have
legal_more :
    (head : PortHead) (journal entries : List EntryView) → IsLegal head journal → AreLegal head (past_of journal) entries
    → All IsScriptEntry entries → IsLegal head (journal ++ entries)
legal_more head journal entries legal acts ranges = record {
  acts = acts_more head journal entries legal.acts acts;
  ranges = All-append IsScriptEntry journal entries legal.ranges ranges;
}

module _ (head : PortHead) where
  -- with so many rounds each legal journal settles legally
  abbrev Settles : ℕ → Type 0
  Settles rounds = (seq : ℕ) (journal : List EntryView) → IsLegal head journal → IsLegal head (journal ++ rounds_from head rounds seq (past_of journal))

  nothing_more : (journal : List EntryView) → IsLegal head journal → IsLegal head (journal ++ [])
  nothing_more journal legal = subst (IsLegal head) (sym (append-nil journal)) legal

  tick_settles :
      (rounds seq : ℕ) (journal : List EntryView) (time : Option ℕ) → coming head (past_of journal) ≡ time → Settles rounds
      → IsLegal head journal → IsLegal head (journal ++ after_tick head seq (past_of journal) (rounds_from head rounds) time)
  tick_settles rounds seq journal None is settles legal = nothing_more journal legal
  tick_settles rounds seq journal (Some t) is settles legal =
      let past : List Event = past_of journal in
      let tick : EntryView = entry_after head past Settle seq (Tick (t - clock past)) in
      let soon : t ≤ clock past + longest_wait = coming_soon head past (journal_allowed head journal legal) (journal_due head (one_place head) journal legal) t is in
      let more : IsLegal head (journal ++ tick ∷ []) =
      legal_more head journal (tick ∷ []) legal (refl, tt)
      (All-cons IsScriptEntry tick [] (record { low = omega arith; high = omega (arith, soon); small = omega (arith, soon) }) (All-nil IsScriptEntry)) in
      subst (IsLegal head) (append_assoc journal (tick ∷ []) (rounds_from head rounds (seq + 1) (grown past tick)))
      (subst (λ p. IsLegal head ((journal ++ tick ∷ []) ++ rounds_from head rounds (seq + 1) p)) (past_from_append [] journal (tick ∷ []))
      (settles (seq + 1) (journal ++ tick ∷ []) more))

  after_settles :
      (rounds seq : ℕ) (journal : List EntryView) (idle : Bool) → Settles rounds → IsLegal head journal
      → IsLegal head (journal ++ after_round head seq (past_of journal) (rounds_from head rounds) idle)
  after_settles rounds seq journal true settles legal = tick_settles rounds seq journal (coming head (past_of journal)) refl settles legal
  after_settles rounds seq journal false settles legal = settles seq journal legal

  abbrev made : ℕ → List Event → List EntryView
  made seq past = run_from head past (calls_from seq (round_steps head))

  round_settles :
      (rounds seq : ℕ) (journal : List EntryView) (over : Bool) → Settles rounds → IsLegal head journal
      → IsLegal head
      (journal
      ++ (if over then [] else
      made seq (past_of journal)
      ++ after_round head (seq + length (made seq (past_of journal))) (past_from (past_of journal) (made seq (past_of journal))) (rounds_from head rounds) (are_idle (made seq (past_of journal)))))
  round_settles rounds seq journal true settles legal = nothing_more journal legal
  round_settles rounds seq journal false settles legal =
      let past : List Event = past_of journal in
      let round : List EntryView = made seq past in
      let more : IsLegal head (journal ++ round) =
      legal_more head journal round legal (run_legal head past (calls_from seq (round_steps head))) (run_ranged head past seq (round_steps head) (round_ranged head)) in
      subst (IsLegal head)
      (append_assoc journal round (after_round head (seq + length round) (past_from past round) (rounds_from head rounds) (are_idle round)))
      (subst (λ p. IsLegal head ((journal ++ round) ++ after_round head (seq + length round) p (rounds_from head rounds) (are_idle round))) (past_from_append [] journal round)
      (after_settles rounds (seq + length round) (journal ++ round) (are_idle round) settles more))

  all_settle : (rounds : ℕ) → Settles rounds
  all_settle zero seq journal legal = nothing_more journal legal
  all_settle (suc rounds) seq journal legal = round_settles rounds seq journal (is_settled (past_of journal)) (all_settle rounds) legal

-- a legal journal with its settling is legal, whatever it holds
pub settling_is_legal :
    (head : PortHead) (journal : List EntryView) → IsLegal head journal → (rounds : ℕ)
    → IsLegal head (journal ++ settling head rounds (past_of journal))
settling_is_legal head journal legal rounds = all_settle head rounds (settle_count (past_of journal)) journal legal
