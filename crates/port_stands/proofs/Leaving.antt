-- No issue in flight was answered or given back, and all that were have numbers that were given out.
use Rattle.eh_flow.specs.Finish.{is_retried}
use Rattle.std.proofs.Common.{◌≡◌, ◌∙◌, ℕ, ◌≤◌, Bool, true, false, ◌||◌, ◌==◌, nat_le, List, [], ◌∷◌, Option, None, Some, suc, zero, refl, sym, ap, subst, arith, if◌then◌else◌}
use Rattle.std.specs.List.{list_all}
use Rattle.std.specs.Option.{option_map_or}
use Rattle.std.proofs.lemmas.Bool.{eqb-true, eq-eqb, le-leb, leb-true}
use Rattle.ata_base.specs.declared.cmd.Cmd.{Cmd}
use Rattle.ata_base.specs.declared.issue_no.IssueNo.{IssueNo}
use Rattle.ata_trace.specs.Event.{Event, onto}
use Rattle.ata_trace.specs.Event.Event.{Told}
use Rattle.ata_trace.specs.declared.act.Act.{Act}
use Rattle.ata_trace.specs.declared.act.Act.TheVariants.{Condemned, Expired}
use Rattle.host_tags.specs.Slots.{flight_at}
use Rattle.host_tags.specs.declared.in_flight.InFlight.{InFlight}
use Rattle.port_past.specs.Answers.{issue_told, left_issue}
use Rattle.port_past.specs.Commands.{commands, command_of, is_gone}
use Rattle.port_past.specs.Completions.{completions}
use Rattle.port_past.specs.Issues.{issue_count}
use Rattle.port_past.specs.Slots.{slots}
use Rattle.port_past.specs.declared.completion.Completion.{Completion}
use Rattle.port_past.specs.declared.judgement.Judgement.{Judgement}
use Rattle.eh_flow.specs.declared.issue_finish.Finish.TheVariants.{NoDev, Retry, Fail}
use Rattle.port_rules.specs.Finish.{told_finish, finish_act, issue_finish, finishes}
use Rattle.port_rules.specs.Sorting.{ok_act, ok_answers}
use Rattle.ata_base.proofs.Truth.{both}
use Rattle.port_stands.proofs.Blocks.{all_append, flight_step}
use Rattle.port_stands.proofs.Lists.{all_if, all_more}
use Rattle.port_stands.proofs.Marks.{was_there}
use Rattle.port_stands.proofs.Numbers.{issues_step}
use Rattle.port_stands.specs.Gate.{AreAll}
use Rattle.port_stands.specs.Silence.{leaves_by, has_left}
use Rattle.port_stands.specs.Words.{slot_after, left_by, is_no_issue}

-- no issue in flight has left, and those that have were numbered
pub record AreOut (past : List Event) : Type 0 where
  pub flying : AreAll (λ f. has_left f.number.n past ≡ false) (slots past)
  pub early : (number : ℕ) → has_left number past ≡ true → number ≤ issue_count past

-- an act by which only issues up to a number leave
abbrev pub leaves_up_to : ℕ → Act → Bool
leaves_up_to n act = option_map_or (λ number. nat_le number n) (left_issue act) true

-- ---- one act

apart_by : (a b : ℕ) (e : Bool) → (a == b) ≡ e → (b == a) ≡ false → e ≡ false
apart_by a b false is other = refl
apart_by a b true is other = absurd (cc (other, eq-eqb b a (sym (eqb-true a b is))))

-- an issue that is still there after an act didn't leave by it
left_stays : (left : Option ℕ) (f g : InFlight) → left_by left (Some f) ≡ Some g → option_map_or (λ n. n == g.number.n) left false ≡ false
left_stays None f g is = refl
left_stays (Some number) f g is = by (f.number.n == number) refl is
  where
    by : (b : Bool) → (f.number.n == number) ≡ b → (if b then None else Some f) ≡ Some g → (number == g.number.n) ≡ false
    by true e is = absurd (cc (is))
    by false e is =
        let same : f ≡ g = cc (is) in
        apart_by number g.number.n (number == g.number.n) refl (ap (λ (x : InFlight). x.number.n == number) (sym same) ∙ e)

still_there : (act : Act) (f g : InFlight) → is_no_issue act ≡ true → slot_after act (Some f) ≡ Some g → leaves_by act g.number.n ≡ false
still_there (Condemned number kinds) f g none is = refl
still_there (Expired id number) f g none is = refl
still_there act f g none is = left_stays (left_issue act) f g is

left_up_to :
    (left : Option ℕ) (n number : ℕ) → option_map_or (λ m. nat_le m n) left true ≡ true → option_map_or (λ m. m == number) left false ≡ true
    → number ≤ n
left_up_to None n number up is = absurd (cc)
left_up_to (Some m) n number up is = omega (arith, leb-true m n up, eqb-true m number is)

by_up_to : (act : Act) (n number : ℕ) → leaves_up_to n act ≡ true → leaves_by act number ≡ true → number ≤ n
by_up_to act n number up is = left_up_to (left_issue act) n number up is

out_step : (p : List Event) (act : Act) → is_no_issue act ≡ true → leaves_up_to (issue_count p) act ≡ true → AreOut p → AreOut (Told act ∷ p)
out_step p act none up was = record {
  flying = λ tag g here.
      let after : slot_after act (flight_at (slots p) tag) ≡ Some g = sym (flight_step act (commands p) (slots p) tag none) ∙ here in
      let a = was_there (act ∷ []) (flight_at (slots p) tag) g after in
      let stays : leaves_by act g.number.n ≡ false = still_there act a.0 g none (ap (slot_after act) (sym a.1.0) ∙ after) in
      ap (λ b. b || has_left g.number.n p) stays ∙ ap (λ (m : IssueNo). has_left m.n p) a.1.1.n ∙ was.flying tag a.0 a.1.0;
  early = λ number is. subst (λ n. number ≤ n) (sym (issues_step p act none)) (by number (leaves_by act number) refl is);
}
  where
    by : (number : ℕ) (b : Bool) → leaves_by act number ≡ b → (b || has_left number p) ≡ true → number ≤ issue_count p
    by number true e is = by_up_to act (issue_count p) number up e
    by number false e is = was.early number is

pub out_onto :
    (n : ℕ) (p : List Event) (acts : List Act) → issue_count p ≡ n → list_all is_no_issue acts ≡ true → list_all (leaves_up_to n) acts ≡ true
    → AreOut p → AreOut (onto p acts)
out_onto n p [] at none up was = was
out_onto n p (act ∷ rest) at none up was =
    let a = both (is_no_issue act) (list_all is_no_issue rest) none in
    let b = both (leaves_up_to n act) (list_all (leaves_up_to n) rest) up in
    out_onto n (Told act ∷ p) rest (issues_step p act a.0 ∙ at) a.1 b.1
    (out_step p act a.0 (ap (λ m. leaves_up_to m act) at ∙ b.0) was)

-- ---- lists of answers

pub answers_up_to :
    (n : ℕ) (slots : List (Option InFlight)) (completions : List (Option Completion)) → AreAll (λ f. f.number.n ≤ n) slots
    → list_all (leaves_up_to n) (ok_answers slots completions) ≡ true
answers_up_to n [] completions all = refl
answers_up_to n (None ∷ slots) [] all = refl
answers_up_to n (Some f ∷ slots) [] all = refl
answers_up_to n (None ∷ slots) (end ∷ completions) all = answers_up_to n slots completions (λ tag f here. all (suc tag) f here)
answers_up_to n (Some f ∷ slots) (None ∷ completions) all = answers_up_to n slots completions (λ tag f here. all (suc tag) f here)
answers_up_to n (Some f ∷ slots) (Some end ∷ completions) all =
    let rest = answers_up_to n slots completions (λ tag g here. all (suc tag) g here) in
    all_if (leaves_up_to n) f.owned (ok_answers slots completions) (ok_act f end ∷ ok_answers slots completions) rest
    (all_more (leaves_up_to n) (ok_act f end) (ok_answers slots completions) (le-leb f.number.n n (all zero f refl)) rest)

told_up_to : (n number : ℕ) → number ≤ n → option_map_or (λ m. nat_le m n) (issue_told number) true ≡ true
told_up_to n number low = by (number == 0)
  where
    by : (b : Bool) → option_map_or (λ m. nat_le m n) (if b then None else Some number) true ≡ true
    by true = refl
    by false = le-leb number n low

finish_up_to :
    (n : ℕ) (c : Cmd) (number : IssueNo) (j : Judgement) (gone retried : Bool) → number.n ≤ n
    → leaves_up_to n (told_finish c number j (if gone then NoDev else if retried then Retry (j.kinds.0 == 0) else Fail)) ≡ true
finish_up_to n c number j true retried low = told_up_to n number.n low
finish_up_to n c number j false true low = le-leb number.n n low
finish_up_to n c number j false false low = le-leb number.n n low

issue_up_to :
    (n : ℕ) (counts : List ℕ) (number : IssueNo) (j : Judgement) (c : Option Cmd) → number.n ≤ n
    → list_all (leaves_up_to n) (issue_finish counts number j c) ≡ true
issue_up_to n counts number j None low = refl
issue_up_to n counts number j (Some c) low =
    all_more (leaves_up_to n) (finish_act c number j (is_gone c counts)) [] (finish_up_to n c number j (is_gone c counts) (is_retried c j.kinds) low) refl

pub finishes_up_to :
    (n : ℕ) (known : List Cmd) (counts : List ℕ) (slots : List (Option InFlight)) (judged : List (Option Judgement)) → AreAll (λ f. f.number.n ≤ n) slots
    → list_all (leaves_up_to n) (finishes known counts slots judged) ≡ true
finishes_up_to n known counts [] judged all = refl
finishes_up_to n known counts (None ∷ slots) [] all = refl
finishes_up_to n known counts (Some f ∷ slots) [] all = refl
finishes_up_to n known counts (None ∷ slots) (j ∷ judged) all = finishes_up_to n known counts slots judged (λ tag f here. all (suc tag) f here)
finishes_up_to n known counts (Some f ∷ slots) (None ∷ judged) all = finishes_up_to n known counts slots judged (λ tag f here. all (suc tag) f here)
finishes_up_to n known counts (Some f ∷ slots) (Some j ∷ judged) all =
    let own : List Act = issue_finish counts f.number j (command_of f.id known) in
    all_append (leaves_up_to n) (if f.owned then own else []) (finishes known counts slots judged)
    (all_if (leaves_up_to n) f.owned own [] (issue_up_to n counts f.number j (command_of f.id known) (all zero f refl)) refl)
    (finishes_up_to n known counts slots judged (λ tag g here. all (suc tag) g here))
