-- What one step more makes of the steps at a port and of their run, and the laws of weaves.
use Rattle.std.proofs.Common.{◌≡◌, ℕ, ◌+◌, ◌==◌, Bool, true, false, List, [], ◌∷◌, ◌++◌, refl, sym, ap, subst, ◌∙◌, append_assoc, arith}
use Rattle.std.specs.Prelude.{if◌then◌else◌}
use Rattle.std.proofs.lemmas.Bool.Decides.{nat_tests}
use Rattle.std.proofs.lemmas.List.{append-nil}
use Rattle.std.proofs.lemmas.List.Elements.{All-nil, All-cons, All-head, All-tail}
use Rattle.ata_script.specs.declared.port_head.PortHead.{PortHead}
use Rattle.ata_trace.specs.Entries.{EntryView, grown, past_from, past_of}
use Rattle.ata_trace.specs.Event.{Event}
use Rattle.ata_trace.specs.declared.step.Step.{Step}
use Rattle.ata_trace.specs.declared.who.Who.TheVariants.{Actor}
use Rattle.port_rules.specs.Boot.{boot_entry}
use Rattle.port_rules.specs.Legal.{entry_after, AreLegal, HasLegalActs, IsLegal}
use Rattle.port_rules.specs.Run.{StepCall, numbered, run, run_from}
use Rattle.port_rules.specs.Settle.{settled_journal, settling}
use Rattle.port_stands.proofs.Settled.{settling_is_legal}
use Rattle.port_core.proofs.Growing.{runs_are_legal}
use Rattle.port_core.specs.Weave.{AreLegalFor, AreScriptCalls, AreScriptSteps, IsInLineOrder, IsOfScript, IsScriptCall, asked_at, asked_by, asked_in, count_of, in_turn, journals_from, steps_at, steps_of}

-- a step behind others, numbered
abbrev pub asked_next : List (ℕ × Step) → ℕ × Step → StepCall
asked_next before taken = record { who = Actor taken.0; seq = count_of taken.0 before; step = taken.1 }

pub steps_at_push : (port : ℕ) (steps : List (ℕ × ℕ × Step)) (taken : ℕ × ℕ × Step)
    → steps_at port (steps ++ taken ∷ []) ≡ steps_at port steps ++ steps_at port (taken ∷ [])
steps_at_push port [] taken = refl
steps_at_push port (first ∷ rest) taken = chosen (first.1 == port) (steps_at_push port rest taken) where
  chosen : (b : Bool) → steps_at port (rest ++ taken ∷ []) ≡ steps_at port rest ++ steps_at port (taken ∷ [])
      → (if b then (first.0, first.2) ∷ steps_at port (rest ++ taken ∷ []) else steps_at port (rest ++ taken ∷ []))
      ≡ (if b then (first.0, first.2) ∷ steps_at port rest else steps_at port rest) ++ steps_at port (taken ∷ [])
  chosen true later = ap (λ steps. (first.0, first.2) ∷ steps) later
  chosen false later = later

pub in_turn_push : (before steps : List (ℕ × Step)) (next : ℕ × Step)
    → in_turn before (steps ++ next ∷ []) ≡ in_turn before steps ++ asked_next (before ++ steps) next ∷ []
in_turn_push before [] next = ap (λ list. asked_next list next ∷ []) (sym (append-nil before))
in_turn_push before (first ∷ rest) next =
    ap (λ asked. asked_next before first ∷ asked)
    (in_turn_push (before ++ first ∷ []) rest next
    ∙ ap (λ list. in_turn (before ++ first ∷ []) rest ++ asked_next list next ∷ []) (append_assoc before (first ∷ []) rest))

-- one step more makes one entry more
run_from_push : (head : PortHead) (past : List Event) (asked : List StepCall) (next : StepCall)
    → run_from head past (asked ++ next ∷ [])
    ≡ run_from head past asked ++ entry_after head (past_from past (run_from head past asked)) next.who next.seq next.step ∷ []
run_from_push head past [] next = refl
run_from_push head past (first ∷ rest) next =
    let entry = entry_after head past first.who first.seq first.step in
    ap (λ entries. entry ∷ entries) (run_from_push head (grown past entry) rest next)

pub run_push : (head : PortHead) (asked : List StepCall) (next : StepCall)
    → run head (asked ++ next ∷ []) ≡ run head asked ++ entry_after head (past_of (run head asked)) next.who next.seq next.step ∷ []
run_push head asked next = ap (λ entries. boot_entry head ∷ entries) (run_from_push head (grown [] (boot_entry head)) asked next)

-- legal entries are the run of what they were asked for
legal_run : (head : PortHead) (past : List Event) (entries : List EntryView) → AreLegal head past entries → entries ≡ run_from head past (asked_in entries)
legal_run head past [] legal = refl
legal_run head past (entry ∷ rest) legal =
    let next = entry_after head past entry.who entry.seq entry.step in
    ap (λ e. e ∷ rest) legal.0
    ∙ ap (λ entries. next ∷ entries) (legal_run head (grown past entry) rest legal.1)
    ∙ ap (λ e. next ∷ run_from head (grown past e) (asked_in rest)) legal.0

asked_in_run : (head : PortHead) (past : List Event) (asked : List StepCall) → asked_in (run_from head past asked) ≡ asked
asked_in_run head past [] = refl
asked_in_run head past (first ∷ rest) = ap (λ asked. first ∷ asked) (asked_in_run head (grown past (entry_after head past first.who first.seq first.step)) rest)

-- entries with legal acts before others have legal acts
legal_first : (head : PortHead) (past : List Event) (entries more : List EntryView) → AreLegal head past (entries ++ more) → AreLegal head past entries
legal_first head past [] more legal = tt
legal_first head past (entry ∷ rest) more legal = (legal.0, legal_first head (grown past entry) rest more legal.1)

-- a journal in line order is the run, settled
pub only_the_run : (rounds : ℕ) (head : PortHead) (number : ℕ) (steps : List (ℕ × ℕ × Step)) (entries : List EntryView)
    → IsInLineOrder rounds head number steps entries → entries ≡ settled_journal rounds head (asked_at number steps)
only_the_run rounds head number steps entries p =
    let boot : EntryView = boot_entry head in
    let acts : HasLegalActs head (boot ∷ p.played ++ settling head rounds (past_of (boot ∷ p.played))) = subst (HasLegalActs head) p.whole p.legal.acts in
    let made : p.played ≡ run_from head (grown [] boot) (asked_at number steps) =
    legal_run head (grown [] boot) p.played
    (legal_first head (grown [] boot) p.played (settling head rounds (past_of (boot ∷ p.played))) acts.1)
    ∙ ap (run_from head (grown [] boot)) p.asked in
    p.whole ∙ ap (λ (played : List EntryView). boot ∷ played ++ settling head rounds (past_of (boot ∷ played))) made

-- steps of a script that follow others, numbered, are calls of a script
in_turn_in_range :
    (port : ℕ) (before : List (ℕ × Step)) (steps : List (ℕ × ℕ × Step)) → AreScriptSteps steps
    → AreScriptCalls (in_turn before (steps_at port steps))
in_turn_in_range port before [] each = All-nil IsScriptCall
in_turn_in_range port before (taken ∷ rest) each =
    chosen (taken.1 == port) (λ before. in_turn_in_range port before rest (All-tail IsOfScript taken rest each)) where
      here : ℕ × Step
      here = (taken.0, taken.2)

      chosen :
          (b : Bool) → ((before : List (ℕ × Step)) → AreScriptCalls (in_turn before (steps_at port rest)))
          → AreScriptCalls (in_turn before (if b then here ∷ steps_at port rest else steps_at port rest))
      chosen true later =
          All-cons IsScriptCall (asked_next before here) (in_turn (before ++ here ∷ []) (steps_at port rest))
          (All-head IsOfScript taken rest each) (later (before ++ here ∷ []))
      chosen false later = later before

-- the run of the steps at a port is legal
pub script_runs_are_legal :
    (head : PortHead) (number : ℕ) (steps : List (ℕ × ℕ × Step)) → AreScriptSteps steps
    → IsLegal head (run head (asked_at number steps))
script_runs_are_legal head number steps each =
    runs_are_legal head (asked_at number steps) (in_turn_in_range number [] steps each)

-- and in line order, settled
pub runs_in_line_order : (rounds : ℕ) (head : PortHead) (number : ℕ) (steps : List (ℕ × ℕ × Step)) → AreScriptSteps steps
    → IsInLineOrder rounds head number steps (settled_journal rounds head (asked_at number steps))
runs_in_line_order rounds head number steps each = record {
  played = run_from head (grown [] (boot_entry head)) (asked_at number steps);
  whole = refl;
  asked = asked_in_run head (grown [] (boot_entry head)) (asked_at number steps);
  legal = settling_is_legal head (run head (asked_at number steps)) (script_runs_are_legal head number steps each) rounds;
}

-- so is each journal of the ports
pub journals_are_legal :
    (rounds number : ℕ) (heads : List PortHead) (steps : List (ℕ × ℕ × Step)) → AreScriptSteps steps
    → AreLegalFor heads (journals_from rounds number heads steps)
journals_are_legal rounds number [] steps each = tt
journals_are_legal rounds number (head ∷ rest) steps each = (
  settling_is_legal head (run head (asked_at number steps)) (script_runs_are_legal head number steps each) rounds,
  journals_are_legal rounds (number + 1) rest steps each,
)

pub count_push : (actor : ℕ) (steps : List (ℕ × Step)) (taken : ℕ × Step)
    → count_of actor (steps ++ taken ∷ []) ≡ (if taken.0 == actor then count_of actor steps + 1 else count_of actor steps)
count_push actor [] taken = refl
count_push actor (first ∷ rest) taken = chosen (first.0 == actor) (taken.0 == actor) (count_push actor rest taken) where
  chosen : (here next : Bool) → count_of actor (rest ++ taken ∷ []) ≡ (if next then count_of actor rest + 1 else count_of actor rest)
      → (if here then count_of actor (rest ++ taken ∷ []) + 1 else count_of actor (rest ++ taken ∷ []))
      ≡ (if next then (if here then count_of actor rest + 1 else count_of actor rest) + 1 else (if here then count_of actor rest + 1 else count_of actor rest))
  chosen true true e = ap (λ n. n + 1) e
  chosen true false e = ap (λ n. n + 1) e
  chosen false true e = e
  chosen false false e = e

same_number : (x y : ℕ) → (x == y) ≡ true → x ≡ y
same_number x y e = grind (arith, nat_tests)

in_turn_from : (actor : ℕ) (before steps : List (ℕ × Step))
    → asked_by actor (in_turn before steps) ≡ numbered (Actor actor) (count_of actor before) (steps_of actor steps)
in_turn_from actor before [] = refl
in_turn_from actor before (taken ∷ rest) =
    chosen (taken.0 == actor) refl (count_push actor before taken) (in_turn_from actor (before ++ taken ∷ []) rest) where
      later : List StepCall
      later = asked_by actor (in_turn (before ++ taken ∷ []) rest)

      chosen : (b : Bool) → (taken.0 == actor) ≡ b → count_of actor (before ++ taken ∷ []) ≡ (if b then count_of actor before + 1 else count_of actor before)
          → later ≡ numbered (Actor actor) (count_of actor (before ++ taken ∷ [])) (steps_of actor rest)
          → (if b then asked_next before taken ∷ later else later)
          ≡ numbered (Actor actor) (count_of actor before) (if b then taken.1 ∷ steps_of actor rest else steps_of actor rest)
      chosen true e c rest_is =
          ap (λ a. record { who = Actor a; seq = count_of a before; step = taken.1 } ∷ later) (same_number taken.0 actor e)
          ∙ ap (λ asked. record { who = Actor actor; seq = count_of actor before; step = taken.1 } ∷ asked)
          (rest_is ∙ ap (λ n. numbered (Actor actor) n (steps_of actor rest)) c)
      chosen false e c rest_is = rest_is ∙ ap (λ n. numbered (Actor actor) n (steps_of actor rest)) c

pub in_turn_by : (port actor : ℕ) (steps : List (ℕ × ℕ × Step))
    → asked_by actor (asked_at port steps) ≡ numbered (Actor actor) 0 (steps_of actor (steps_at port steps))
in_turn_by port actor steps = in_turn_from actor [] (steps_at port steps)
