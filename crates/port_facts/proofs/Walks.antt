-- The lists of acts that go over the slots: the answers of completed issues, and the finish. They are computed of the
-- past before their entry, and allowed at the moment at which each is told.
use Rattle.eh_flow.specs.declared.issue_finish.Finish.TheVariants.{NoDev, Retry, Fail}
use Rattle.eh_flow.specs.Finish.{is_retried}
use Rattle.std.proofs.Common.{◌≡◌, ◌≢◌, ◌∙◌, ℕ, ◌≤◌, ◌==◌, inr, Bool, true, false, cond, List, [], ◌∷◌, ◌++◌, map, Option, None, Some, suc, drop, refl, sym, ap, subst, arith, if◌then◌else◌}
use Rattle.std.specs.List.{count_by}
use Rattle.std.proofs.lemmas.Bool.{eqb-true, eq-eqb, ne_eqb}
use Rattle.std.proofs.lemmas.List.Sums.{sum_by-cons}
use Rattle.ata_base.specs.declared.cmd.Cmd.{Cmd}
use Rattle.ata_script.specs.declared.port_head.PortHead.{PortHead}
use Rattle.ata_trace.specs.Event.{Event}
use Rattle.ata_trace.specs.Event.Event.{Told}
use Rattle.ata_trace.specs.declared.act.Act.{Act}
use Rattle.ata_trace.specs.declared.act.Act.TheVariants.{AnsweredFailed, AnsweredNodev, Retried}
use Rattle.host_tags.specs.Numbers.{without, IsFresh, AreApart}
use Rattle.host_tags.specs.Slots.{flight_at}
use Rattle.host_tags.specs.declared.in_flight.InFlight.{InFlight}
use Rattle.port_past.specs.Commands.{commands, command_of, counted, is_gone}
use Rattle.port_past.specs.Attachment.{detachments}
use Rattle.port_past.specs.Completions.{completions}
use Rattle.port_past.specs.PortState.{is_running}
use Rattle.port_past.specs.Judged.{judged}
use Rattle.port_past.specs.Slots.{slots, without_left}
use Rattle.port_past.specs.declared.completion.Completion.{Completion}
use Rattle.port_past.specs.declared.judgement.Judgement.{Judgement}
use Rattle.port_rules.specs.Finish.{told_finish, registers_told, issue_finish, finishes}
use Rattle.port_rules.specs.Sorting.{ok_act, ok_answers}
use Rattle.port_facts.specs.Once.{is_issue_of, one_if}
use Rattle.port_facts.specs.Allowed.{AreAllowed, MayFinish}
use Rattle.host_tags.proofs.FlightLemmas.{each_weaker, each_both, at_front, at_rest, rest_without}
use Rattle.port_past.proofs.LeavingSlots.{rest_set_where}
use Rattle.port_past.proofs.KnownCommands.{found_id}
use Rattle.host_tags.specs.EachFlight.{kept_at, EachFlight}

-- ---- the answers of completed issues

answer_by :
    (head : PortHead) (p : List Event) (k : ℕ) (f : InFlight) (e : Completion) (more : List Act) (owned : Bool) → f.owned ≡ owned
    → flight_at (slots p) k ≡ Some f → kept_at (completions head p) k ≡ Some e
    → AreAllowed head p more → AreAllowed head (Told (ok_act f e) ∷ p) more
    → AreAllowed head p (if owned then more else ok_act f e ∷ more)
answer_by head p k f e more true is here found skipped answered = skipped
answer_by head p k f e more false is here found skipped answered = (
  record {
    flies = record { tag = k; flight = f; here = here; same = refl; numbered = refl };
    unowned = is;
    end = e;
    found = found;
    registers = record { status_same = refl; error_same = refl; lba_same = refl; count_same = refl };
    stamps_same = refl;
  },
  answered,
)

-- the answers from a tag on
pub answers_allowed :
    (head : PortHead) (k : ℕ) (rest : List (Option InFlight)) (more : List (Option Completion)) (p : List Event)
    → AreApart rest → drop k (slots p) ≡ rest → drop k (completions head p) ≡ more
    → AreAllowed head p (ok_answers rest more)
answers_allowed head k [] more p apart is same = tt
answers_allowed head k (None ∷ rest) [] p apart is same = tt
answers_allowed head k (Some f ∷ rest) [] p apart is same = tt
answers_allowed head k (None ∷ rest) (e ∷ more) p apart is same =
    answers_allowed head (suc k) rest more p apart (at_rest (slots p) k None rest is) (at_rest (completions head p) k e more same)
answers_allowed head k (Some f ∷ rest) (None ∷ more) p apart is same =
    answers_allowed head (suc k) rest more p apart.1 (at_rest (slots p) k (Some f) rest is) (at_rest (completions head p) k None more same)
answers_allowed head k (Some f ∷ rest) (Some e ∷ more) p apart is same =
    let later = at_rest (slots p) k (Some f) rest is in
    let after = at_rest (completions head p) k (Some e) more same in
    answer_by head p k f e (ok_answers rest more) f.owned refl
    (at_front (slots p) k (Some f) rest is) (at_front (completions head p) k (Some e) more same)
    (answers_allowed head (suc k) rest more p apart.1 later after)
    (answers_allowed head (suc k) rest more (Told (ok_act f e) ∷ p) apart.1
    (rest_without f.number.n (suc k) (slots p) rest later apart.0)
    (rest_set_where f.number.n None (suc k) (slots p) rest (completions head p) more later after apart.0))

-- ---- the finish

-- no two issues in flight are of one command
abbrev pub HaveOwn : List (Option InFlight) → Type 0
HaveOwn [] = Unit {0}
HaveOwn (None ∷ slots) = HaveOwn slots
HaveOwn (Some f ∷ slots) = EachFlight (λ g. g.id ≢ f.id) slots × HaveOwn slots

none_other :
    (id : ℕ) (slots : List (Option InFlight)) → count_by (is_issue_of id) slots ≡ 0 → EachFlight (λ g. g.id ≢ id) slots
none_other id [] none = tt
none_other id (None ∷ slots) none =
    none_other id slots (omega (arith, none, sum_by-cons (λ x. one_if (is_issue_of id x)) None slots))
none_other id (Some g ∷ slots) none = (
  λ same. absurd (omega (arith, none, sum_by-cons (λ x. one_if (is_issue_of id x)) (Some g) slots, ap one_if (eq-eqb g.id id same))),
  none_other id slots (omega (arith, none, sum_by-cons (λ x. one_if (is_issue_of id x)) (Some g) slots)),
)

pub have_own : (slots : List (Option InFlight)) → ((id : ℕ) → count_by (is_issue_of id) slots ≤ 1) → HaveOwn slots
have_own [] once = tt
have_own (None ∷ slots) once =
    have_own slots (λ id. omega (arith, once id, sum_by-cons (λ x. one_if (is_issue_of id x)) None slots))
have_own (Some f ∷ slots) once = (
  none_other f.id slots
      (omega (arith, once f.id, sum_by-cons (λ x. one_if (is_issue_of f.id x)) (Some f) slots, ap one_if (eq-eqb f.id f.id refl))),
  have_own slots (λ id. omega (arith, once id, sum_by-cons (λ x. one_if (is_issue_of id x)) (Some f) slots)),
)

other_by :
    (id other : ℕ) (raised : Bool) (c : Cmd) (b : Bool) (rest was : List Cmd) → id ≢ other → (c.id == other) ≡ b
    → command_of id rest ≡ command_of id was
    → command_of id ((if b then counted raised c else c) ∷ rest) ≡ command_of id (c ∷ was)
other_by id other raised c true rest was differs is same =
    let unlike : (c.id == id) ≡ false = ne_eqb c.id id (λ e. differs (sym e ∙ eqb-true c.id other is)) in
    rw unlike same
other_by id other raised c false rest was differs is same =
    ap (λ found. cond (c.id == id) (Some c) found) same

-- a retry changes nothing of other commands
other_counted :
    (id other : ℕ) (raised : Bool) (was : List Cmd) → id ≢ other
    → command_of id (map (λ c. if c.id == other then counted raised c else c) was) ≡ command_of id was
other_counted id other raised [] differs = refl
other_counted id other raised (c ∷ was) differs =
    other_by id other raised c (c.id == other) _ was differs refl (other_counted id other raised was differs)

-- how a walk of the finish stands at a tag, once the acts of earlier tags are told
record IsFinishing (known : List Cmd) (parted : List ℕ) (k : ℕ) (rest : List (Option InFlight)) (more : List (Option Judgement)) (p : List Event) : Type 0 where
  pub slots_rest : drop k (slots p) ≡ rest
  pub judged_rest : drop k (judged p) ≡ more
  pub detachments_same : detachments p ≡ parted
  pub runs : is_running p ≡ true
  pub commands_same : EachFlight (λ f. command_of f.id (commands p) ≡ command_of f.id known) rest

passes :
    (known : List Cmd) (parted : List ℕ) (k : ℕ) (slot : Option InFlight) (rest : List (Option InFlight)) (j : Option Judgement)
    (more : List (Option Judgement)) (p : List Event) → IsFinishing known parted k (slot ∷ rest) (j ∷ more) p
    → EachFlight (λ f. command_of f.id (commands p) ≡ command_of f.id known) rest
    → IsFinishing known parted (suc k) rest more p
passes known parted k slot rest j more p w later = record {
  slots_rest = at_rest (slots p) k slot rest w.slots_rest;
  judged_rest = at_rest (judged p) k j more w.judged_rest;
  detachments_same = w.detachments_same;
  runs = w.runs;
  commands_same = later;
}

-- the act of an issue is told
tells :
    (known : List Cmd) (parted : List ℕ) (k n : ℕ) (rest : List (Option InFlight)) (more : List (Option Judgement)) (p after : List Event)
    → IsFinishing known parted k rest more p → IsFresh n rest
    → slots after ≡ without n (slots p) → judged after ≡ judged p → detachments after ≡ detachments p → is_running after ≡ is_running p
    → EachFlight (λ f. command_of f.id (commands after) ≡ command_of f.id (commands p)) rest
    → IsFinishing known parted k rest more after
tells known parted k n rest more p after w fresh left judgement parting runs keeps = record {
  slots_rest = ap (drop k) left ∙ rest_without n k (slots p) rest w.slots_rest fresh;
  judged_rest = ap (drop k) judgement ∙ w.judged_rest;
  detachments_same = parting ∙ w.detachments_same;
  runs = runs ∙ w.runs;
  commands_same = each_both _ _ _ (λ f new was. new ∙ was) rest keeps w.commands_same;
}

-- what the walk finds of an owned issue that is judged
finds :
    (known : List Cmd) (parted : List ℕ) (k : ℕ) (f : InFlight) (rest : List (Option InFlight)) (j : Judgement)
    (more : List (Option Judgement)) (p : List Event) (c : Cmd) → IsFinishing known parted k (Some f ∷ rest) (Some j ∷ more) p
    → f.owned ≡ true → command_of f.id known ≡ Some c → MayFinish c.id f.number c j p
finds known parted k f rest j more p c w owned is =
    let same : f.id ≡ c.id = sym (found_id f.id known c is) in
    record {
      flies = record { tag = k; flight = f; here = at_front (slots p) k (Some f) rest w.slots_rest; same = same; numbered = refl };
      owned = owned;
      running = w.runs;
      found = at_front (judged p) k (Some j) more w.judged_rest;
      known = subst (λ id. command_of id (commands p) ≡ Some c) same (w.commands_same.0 ∙ is);
    }

each_same :
    (slots : List (Option InFlight)) (p : List Event)
    → EachFlight (λ f. command_of f.id (commands p) ≡ command_of f.id (commands p)) slots
each_same [] p = tt
each_same (None ∷ slots) p = each_same slots p
each_same (Some f ∷ slots) p = (refl, each_same slots p)

act_allowed :
    (head : PortHead) (known : List Cmd) (parted : List ℕ) (k : ℕ) (f : InFlight) (rest : List (Option InFlight)) (j : Judgement)
    (more : List (Option Judgement)) (p : List Event) (c : Cmd) (acts : List Act) (gone again : Bool)
    → IsFinishing known parted k (Some f ∷ rest) (Some j ∷ more) p
    → f.owned ≡ true → command_of f.id known ≡ Some c → IsFresh f.number.n rest → EachFlight (λ g. g.id ≢ f.id) rest
    → (f.number.n == 0) ≡ false → is_gone c parted ≡ gone → is_retried c j.kinds ≡ again
    → ((after : List Event) → IsFinishing known parted (suc k) rest more after → AreAllowed head after acts)
    → AreAllowed head p
    ((told_finish c f.number j (if gone then NoDev else if again then Retry (j.kinds.0 == 0) else Fail)) ∷ acts)
act_allowed head known parted k f rest j more p c acts true again w owned is fresh others some loses tries later =
    let found = finds known parted k f rest j more p c w owned is in (
      record {
        command = c;
        known = found.known;
        gone = ap (is_gone c) w.detachments_same ∙ loses;
        here = inr found.flies;
      },
      later (Told (AnsweredNodev c.id f.number) ∷ p)
          (tells known parted (suc k) f.number.n rest more p (Told (AnsweredNodev c.id f.number) ∷ p)
          (passes known parted k (Some f) rest (Some j) more p w w.commands_same.1) fresh
          (ap (λ b. without_left (if b then None else Some f.number.n) (slots p)) some) refl refl refl
          (each_same rest p)),
    )
act_allowed head known parted k f rest j more p c acts false true w owned is fresh others some loses tries later =
    let found = finds known parted k f rest j more p c w owned is in
    let act = Retried c.id f.number (j.kinds.0 == 0) in (
      record {
        command = c;
        judgement = j;
        finish = found;
        stays = ap (is_gone c) w.detachments_same ∙ loses;
        again = tries;
        raises = refl;
      },
      later (Told act ∷ p)
          (tells known parted (suc k) f.number.n rest more p (Told act ∷ p)
          (passes known parted k (Some f) rest (Some j) more p w w.commands_same.1) fresh refl refl refl refl
          (each_weaker (λ g. g.id ≢ f.id) (λ g. command_of g.id (commands (Told act ∷ p)) ≡ command_of g.id (commands p))
          (λ g other. other_counted g.id c.id (j.kinds.0 == 0) (commands p) (λ e. other (e ∙ found_id f.id known c is))) rest others)),
    )
act_allowed head known parted k f rest j more p c acts false false w owned is fresh others some loses tries later =
    let found = finds known parted k f rest j more p c w owned is in
    let act = AnsweredFailed c.id f.number j.kinds (registers_told j.regs).status (registers_told j.regs).error (registers_told j.regs).lba (registers_told j.regs).count in (
      record {
        command = c;
        judgement = j;
        finish = found;
        stays = ap (is_gone c) w.detachments_same ∙ loses;
        over = tries;
        kinds_same = refl;
        registers = record { status_same = refl; error_same = refl; lba_same = refl; count_same = refl };
      },
      later (Told act ∷ p)
          (tells known parted (suc k) f.number.n rest more p (Told act ∷ p)
          (passes known parted k (Some f) rest (Some j) more p w w.commands_same.1) fresh refl refl refl refl
          (each_same rest p)),
    )

finish_by :
    (head : PortHead) (known : List Cmd) (parted : List ℕ) (k : ℕ) (f : InFlight) (rest : List (Option InFlight)) (j : Judgement)
    (more : List (Option Judgement)) (p : List Event) (acts : List Act) (owned : Bool) (found : Option Cmd)
    → IsFinishing known parted k (Some f ∷ rest) (Some j ∷ more) p
    → f.owned ≡ owned → command_of f.id known ≡ found → IsFresh f.number.n rest → EachFlight (λ g. g.id ≢ f.id) rest → (f.number.n == 0) ≡ false
    → ((after : List Event) → IsFinishing known parted (suc k) rest more after → AreAllowed head after acts)
    → AreAllowed head p ((if owned then issue_finish parted f.number j found else []) ++ acts)
finish_by head known parted k f rest j more p acts false found w owned is fresh others some later =
    later p (passes known parted k (Some f) rest (Some j) more p w w.commands_same.1)
finish_by head known parted k f rest j more p acts true None w owned is fresh others some later =
    later p (passes known parted k (Some f) rest (Some j) more p w w.commands_same.1)
finish_by head known parted k f rest j more p acts true (Some c) w owned is fresh others some later =
    act_allowed head known parted k f rest j more p c acts (is_gone c parted) (is_retried c j.kinds) w owned is fresh others some refl refl later

finishes_from :
    (head : PortHead) (known : List Cmd) (parted : List ℕ) (k : ℕ) (rest : List (Option InFlight)) (more : List (Option Judgement))
    (p : List Event) → AreApart rest → HaveOwn rest → EachFlight (λ f. (f.number.n == 0) ≡ false) rest → IsFinishing known parted k rest more p
    → AreAllowed head p (finishes known parted rest more)
finishes_from head known parted k [] more p apart own some w = tt
finishes_from head known parted k (None ∷ rest) [] p apart own some w = tt
finishes_from head known parted k (Some f ∷ rest) [] p apart own some w = tt
finishes_from head known parted k (None ∷ rest) (j ∷ more) p apart own some w =
    finishes_from head known parted (suc k) rest more p apart own some (passes known parted k None rest j more p w w.commands_same)
finishes_from head known parted k (Some f ∷ rest) (None ∷ more) p apart own some w =
    finishes_from head known parted (suc k) rest more p apart.1 own.1 some.1
    (passes known parted k (Some f) rest None more p w w.commands_same.1)
finishes_from head known parted k (Some f ∷ rest) (Some j ∷ more) p apart own some w =
    finish_by head known parted k f rest j more p (finishes known parted rest more) f.owned (command_of f.id known) w refl refl
    apart.0 own.0 some.0 (λ after later. finishes_from head known parted (suc k) rest more after apart.1 own.1 some.1 later)

-- the finish of all issues
pub finishes_allowed :
    (head : PortHead) (p : List Event) → AreApart (slots p) → HaveOwn (slots p) → EachFlight (λ f. (f.number.n == 0) ≡ false) (slots p) → is_running p ≡ true
    → AreAllowed head p (finishes (commands p) (detachments p) (slots p) (judged p))
finishes_allowed head p apart own some runs =
    finishes_from head (commands p) (detachments p) 0 (slots p) (judged p) p apart own some
    (record { slots_rest = refl; judged_rest = refl; detachments_same = refl; runs = runs; commands_same = each_same (slots p) p })
