-- The settling of a calm port.
use Rattle.std.proofs.Common.{inl, inr, ◌≡◌, ◌∙◌, ℕ, ◌+◌, ◌≤◌, ◌&&◌, ◌||◌, true, not, List, [], ◌∷◌, ◌++◌, length, suc, zero, if◌then◌else◌, refl, sym, ap, subst, arith}
use Rattle.std.proofs.lemmas.Bool.{eq-eqb}
use Rattle.ata_script.specs.declared.port_head.PortHead.{PortHead}
use Rattle.ata_trace.specs.Entries.{EntryView, grown, past_from, past_of}
use Rattle.ata_trace.specs.Event.{Event}
use Rattle.port_calm.proofs.Journals.{journal_stands}
use Rattle.port_calm.proofs.Rounds.{round}
use Rattle.port_calm.proofs.Standing.{Stands, total}
use Rattle.port_calm.specs.Calm.{AreCalm, IsCalmJournal, StaysCalm, EndsWell, is_among}
use Rattle.port_past.specs.Commands.{commands, is_accepted}
use Rattle.port_past.specs.PortState.{is_recovering, is_running}
use Rattle.port_past.specs.Live.{live}
use Rattle.port_past.specs.Settlings.{settle_count}
use Rattle.port_rules.specs.Legal.{IsLegal}
use Rattle.port_rules.specs.Run.{run_from}
use Rattle.port_rules.specs.Settle.{round_steps, calls_from, are_idle, is_empty, after_round, rounds_from, settling}

-- so many rounds of the settling: the port still stands; and with as many as commands are open no command is live
record Settled (head : PortHead) (past : List Event) (rounds : ℕ) (entries : List EntryView) : Type 0 where
  pub stands : Stands head (past_from past entries)
  pub same : commands (past_from past entries) ≡ commands past
  pub calm : AreCalm entries
  pub none : total past ≤ rounds → live (past_from past entries) ≡ []

past_both : (past : List Event) (entries more : List EntryView) → past_from past (entries ++ more) ≡ past_from (past_from past entries) more
past_both past [] more = refl
past_both past (r ∷ entries) more = past_both (grown past r) entries more

calm_both : (entries more : List EntryView) → AreCalm entries → AreCalm more → AreCalm (entries ++ more)
calm_both [] more h k = k
calm_both (r ∷ entries) more h k = (h.0, calm_both entries more h.1 k)

module _ (head : PortHead) where
  unrecovering : (past : List Event) → Stands head past → not (is_recovering past) ≡ true
  unrecovering past h =
      ap (λ b. not (b || is_running past)) h.calm.still.unasked ∙ ap not h.calm.still.resting

  live_first : (past : List Event) (id : ℕ) (rest : List ℕ) → live past ≡ id ∷ rest → is_among id (live past) ≡ true
  live_first past id rest is =
      subst (λ l. is_among id l ≡ true) (sym is) (ap (λ b. b || is_among id rest) (eq-eqb id id refl))

  -- the entries of a round
  abbrev made : ℕ → List Event → List EntryView
  made seq past = run_from head past (calls_from seq (round_steps head))

  -- a round, and what follows it
  abbrev made_on : ℕ → ℕ → List Event → List EntryView
  made_on rounds seq past =
      made seq past
      ++ after_round head (seq + length (made seq past)) (past_from past (made seq past)) (rounds_from head rounds) (are_idle (made seq past))

  -- where a command is live, a round is made
  goes_on :
      (rounds seq : ℕ) (past : List Event) (id : ℕ) (rest : List ℕ) → Stands head past → live past ≡ id ∷ rest
      → ((next : ℕ) (later : List Event) → Stands head later → Settled head later rounds (rounds_from head rounds next later))
      → Settled head past (suc rounds) (made_on rounds seq past)
  goes_on rounds seq past id rest h is next =
      let r = round head past seq id h (live_first past id rest is) in
      let later = past_from past (made seq past) in
      let more = rounds_from head rounds (seq + length (made seq past)) later in
      let end = next (seq + length (made seq past)) later r.stands in
      subst (λ b. Settled head past (suc rounds) (made seq past ++ after_round head (seq + length (made seq past)) later (rounds_from head rounds) b)) (sym r.busy)
      (record {
        stands = subst (Stands head) (sym (past_both past (made seq past) more)) end.stands;
        same = ap commands (past_both past (made seq past) more) ∙ end.same ∙ r.same;
        calm = calm_both (made seq past) more r.calm end.calm;
        none = λ few. ap live (past_both past (made seq past) more) ∙ end.none (omega (arith, r.less, few));
      })

  settles : (rounds seq : ℕ) (past : List Event) → Stands head past → Settled head past rounds (rounds_from head rounds seq past)
  settles zero seq past h = record { stands = h; same = refl; calm = tt; none = λ few. by (live past) refl few } where
    by : (l : List ℕ) → live past ≡ l → total past ≤ 0 → live past ≡ []
    by [] is few = is
    by (id ∷ rest) is few =
        let r = round head past seq id h (live_first past id rest is) in absurd (omega (arith, r.less, few))
  settles (suc rounds) seq past h = by (live past) refl (settles rounds) where
    by :
        (l : List ℕ) → live past ≡ l
        → ((next : ℕ) (later : List Event) → Stands head later → Settled head later rounds (rounds_from head rounds next later))
        → Settled head past (suc rounds) (if is_empty l && not (is_recovering past) then [] else made_on rounds seq past)
    by [] is next =
        subst (λ b. Settled head past (suc rounds) (if b then [] else made_on rounds seq past))
        (sym (unrecovering past h)) (record { stands = h; same = refl; calm = tt; none = λ few. is })
    by (id ∷ rest) is next = goes_on rounds seq past id rest h is next

-- settling leaves a calm port calm, however many rounds it may make
pub settling_stays_calm :
    (head : PortHead) (journal : List EntryView) → IsLegal head journal → IsCalmJournal journal
    → (rounds : ℕ) → StaysCalm (past_of journal) (settling head rounds (past_of journal))
settling_stays_calm head journal legal calm rounds =
    let past = past_of journal in
    let end = settles head rounds (settle_count past) past (journal_stands head journal legal calm) in
    record {
      calm = end.calm;
      same = end.same;
      resting =
          ap (λ b. b || is_running (past_from past (settling head rounds past))) end.stands.calm.still.unasked
          ∙ end.stands.calm.still.resting;
      acts = end.stands.clean;
    }

-- as many rounds as commands are live are enough
pub settling_ends_well :
    (head : PortHead) (journal : List EntryView) → IsLegal head journal → IsCalmJournal journal
    → (rounds : ℕ) → length (live (past_of journal)) ≤ rounds
    → EndsWell (past_of journal) (settling head rounds (past_of journal))
settling_ends_well head journal legal calm rounds enough =
    let past = past_of journal in
    let h = journal_stands head journal legal calm in
    let end = settles head rounds (settle_count past) past h in
    let none = end.none (omega (arith, h.calm.few, enough)) in
    record {
      none_live = none;
      answered = λ id is. elim (end.stands.calm.told id (subst (λ cs. is_accepted id cs ≡ true) (sym end.same) is)) [
        | inl live ↦ let never = subst (λ l. is_among id l ≡ true) none live in absurd (cc)
        | inr answered ↦ answered
      ];
    }

-- so as many as were accepted are
pub settling_ends_well_at_last :
    (head : PortHead) (journal : List EntryView) → IsLegal head journal → IsCalmJournal journal
    → (rounds : ℕ) → length (commands (past_of journal)) ≤ rounds
    → EndsWell (past_of journal) (settling head rounds (past_of journal))
settling_ends_well_at_last head journal legal calm rounds enough =
    let h = journal_stands head journal legal calm in
    settling_ends_well head journal legal calm rounds (omega (arith, h.calm.least, enough))
