-- What the finish leaves: where each issue in flight is judged, nothing is in flight after it.
use Rattle.eh_flow.specs.declared.issue_finish.Finish.TheVariants.{NoDev, Retry, Fail}
use Rattle.eh_flow.specs.Finish.{is_retried}
use Rattle.std.proofs.Common.{◌≡◌, ◌∙◌, ℕ, ◌==◌, ◌&&◌, ◌⊎◌, inl, inr, Bool, true, false, List, [], ◌∷◌, ◌++◌, Option, None, Some, is_some, option_map, refl, sym, subst, if◌then◌else◌, not}
use Rattle.std.proofs.lemmas.Bool.{eqb-true, eq-eqb}
use Rattle.ata_base.specs.declared.cmd.Cmd.{Cmd}
use Rattle.ata_base.specs.declared.issue_no.IssueNo.{IssueNo}
use Rattle.ata_script.specs.declared.port_head.PortHead.{PortHead}
use Rattle.ata_trace.specs.Event.{Event, onto}
use Rattle.ata_trace.specs.Event.Event.{Entered, Told}
use Rattle.ata_trace.specs.declared.act.Act.{Act}
use Rattle.ata_trace.specs.declared.act.Act.TheVariants.{AnsweredFailed, AnsweredNodev, Retried}
use Rattle.ata_trace.specs.declared.step.Step.{Step}
use Rattle.ata_trace.specs.declared.who.Who.{Who}
use Rattle.host_tags.specs.Numbers.{without}
use Rattle.host_tags.specs.declared.in_flight.InFlight.{InFlight}
use Rattle.port_past.specs.Commands.{commands, command_of, is_gone}
use Rattle.port_past.specs.Attachment.{detachments}
use Rattle.port_past.specs.Judged.{judged}
use Rattle.port_past.specs.Slots.{slots, without_left}
use Rattle.port_past.specs.declared.judgement.Judgement.{Judgement}
use Rattle.port_rules.specs.Finish.{told_finish, issue_finish, finishes}
use Rattle.port_facts.specs.Allowed.{IsAllowed}
use Rattle.port_facts.proofs.Blocks.{HoldsOf, is_named, named_append, block_onto, holds_each}
use Rattle.ata_base.proofs.Truth.{either_left, either_right}
use Rattle.host_tags.proofs.FlightLemmas.{each_without}
use Rattle.port_past.proofs.LeavingSlots.{each_told}
use Rattle.port_facts.proofs.Known.{IsFlown, are_known}
use Rattle.port_facts.proofs.Numbered.{are_some}
use Rattle.ata_base.specs.Each.{Each}
use Rattle.ata_base.proofs.EachLemmas.{every_append}
use Rattle.host_tags.specs.EachFlight.{EachFlight, AreOwned, AreNone}
use Rattle.port_past.specs.JudgedSlots.{AreJudged}

-- whether an act ends the issue of this number
abbrev ends_issue : ℕ → Act → Bool
ends_issue n (AnsweredFailed id number kinds status error lba count) = number.n == n
ends_issue n (AnsweredNodev id number) = not (number.n == 0) && (number.n == n)
ends_issue n (Retried id number raised) = number.n == n
ends_issue n _ = false

-- the acts of a finish
abbrev IsEnding : Act → Type 0
IsEnding (AnsweredFailed id number kinds status error lba count) = Unit {0}
IsEnding (AnsweredNodev id number) = Unit {0}
IsEnding (Retried id number raised) = Unit {0}
IsEnding _ = ⊥

stays_gone :
    (n : ℕ) (past : List Event) (act : Act) → IsEnding act → HoldsOf (λ f. ⊥) n (slots past) → HoldsOf (λ f. ⊥) n (slots (Told act ∷ past))
stays_gone n past (AnsweredFailed id number kinds status error lba count) ending was = each_without (λ f. f.number.n ≡ n → ⊥) number.n (slots past) was
stays_gone n past (AnsweredNodev id number) ending was = each_told (λ f. f.number.n ≡ n → ⊥) number.n (slots past) was
stays_gone n past (Retried id number raised) ending was = each_without (λ f. f.number.n ≡ n → ⊥) number.n (slots past) was
stays_gone n past act ending was = absurd ending

left_by : (n : ℕ) (b : Bool) (f : InFlight) (rest : List (Option InFlight)) → (f.number.n == n) ≡ b → HoldsOf (λ f. ⊥) n rest → HoldsOf (λ f. ⊥) n ((if b then None else Some f) ∷ rest)
left_by n true f rest is all = all
left_by n false f rest is all = (λ same. absurd (cc (eq-eqb f.number.n n same, is)), all)

left_gone : (n : ℕ) (slots : List (Option InFlight)) → HoldsOf (λ f. ⊥) n (without n slots)
left_gone n [] = tt
left_gone n (None ∷ slots) = left_gone n slots
left_gone n (Some f ∷ slots) = left_by n (f.number.n == n) f (without n slots) refl (left_gone n slots)

left_number : (n : ℕ) (number : IssueNo) (slots : List (Option InFlight)) → (number.n == n) ≡ true → HoldsOf (λ f. ⊥) n (without number.n slots)
left_number n number slots is =
    subst (λ m. HoldsOf (λ f. ⊥) n (without m slots)) (sym (eqb-true number.n n is)) (left_gone n slots)

left_told :
    (n : ℕ) (number : IssueNo) (slots : List (Option InFlight)) (b : Bool) → (not b && (number.n == n)) ≡ true
    → HoldsOf (λ f. ⊥) n (without_left (if b then None else Some number.n) slots)
left_told n number slots true is = absurd (cc)
left_told n number slots false is = left_number n number slots is

becomes_gone : (n : ℕ) (past : List Event) (act : Act) → ends_issue n act ≡ true → HoldsOf (λ f. ⊥) n (slots (Told act ∷ past))
becomes_gone n past (AnsweredFailed id number kinds status error lba count) is = left_number n number (slots past) is
becomes_gone n past (AnsweredNodev id number) is = left_told n number (slots past) (number.n == 0) is
becomes_gone n past (Retried id number raised) is = left_number n number (slots past) is
becomes_gone n past act is = absurd (cc)

-- ---- the finish names each issue

act_names :
    (n : ℕ) (c : Cmd) (number : IssueNo) (j : Judgement) (gone again : Bool) → (number.n == 0) ≡ false → (number.n == n) ≡ true
    → ends_issue n (told_finish c number j (if gone then NoDev else if again then Retry (j.kinds.0 == 0) else Fail)) ≡ true
act_names n c number j true again some is = rw (some) is
act_names n c number j false true some is = is
act_names n c number j false false some is = is

act_ends :
    (c : Cmd) (number : IssueNo) (j : Judgement) (gone again : Bool)
    → IsEnding (told_finish c number j (if gone then NoDev else if again then Retry (j.kinds.0 == 0) else Fail))
act_ends c number j true again = tt
act_ends c number j false true = tt
act_ends c number j false false = tt

issue_names :
    (n : ℕ) (parted : List ℕ) (f : InFlight) (j : Judgement) (found : Option Cmd) (owned : Bool) → f.owned ≡ owned → owned ≡ true → is_some found ≡ true → (f.number.n == 0) ≡ false → (f.number.n == n) ≡ true
    → is_named ends_issue n (if owned then issue_finish parted f.number j found else []) ≡ true
issue_names n parted f j None owned is so there some same = absurd (cc)
issue_names n parted f j (Some c) false is so there some same = absurd (cc)
issue_names n parted f j (Some c) true is so there some same =
    either_left _ false (act_names n c f.number j (is_gone c parted) (is_retried c j.kinds) some same)

issue_ends : (parted : List ℕ) (f : InFlight) (j : Judgement) (found : Option Cmd) (owned : Bool) → Each IsEnding (if owned then issue_finish parted f.number j found else [])
issue_ends parted f j found false = tt
issue_ends parted f j None true = tt
issue_ends parted f j (Some c) true = (act_ends c f.number j (is_gone c parted) (is_retried c j.kinds), tt)

finishes_end : (known : List Cmd) (parted : List ℕ) (slots : List (Option InFlight)) (judged : List (Option Judgement)) → Each IsEnding (finishes known parted slots judged)
finishes_end known parted [] judged = tt
finishes_end known parted (None ∷ slots) [] = tt
finishes_end known parted (Some f ∷ slots) [] = tt
finishes_end known parted (None ∷ slots) (j ∷ judged) = finishes_end known parted slots judged
finishes_end known parted (Some f ∷ slots) (None ∷ judged) = finishes_end known parted slots judged
finishes_end known parted (Some f ∷ slots) (Some j ∷ judged) =
    every_append IsEnding _ _ (issue_ends parted f j (command_of f.id known) f.owned) (finishes_end known parted slots judged)

there_of : (found : Option Cmd) (s : ℕ × ℕ) → option_map (λ (c : Cmd). (c.place, c.attachment)) found ≡ Some s → is_some found ≡ true
there_of None s is = absurd (cc)
there_of (Some c) s is = refl

names_by :
    (n : ℕ) (f : InFlight) (here later : List Act) (slots : List (Option InFlight)) (same : Bool) → (f.number.n == n) ≡ same
    → (same ≡ true → is_named ends_issue n here ≡ true) → (is_named ends_issue n later ≡ true) ⊎ HoldsOf (λ f. ⊥) n slots
    → (is_named ends_issue n (here ++ later) ≡ true) ⊎ HoldsOf (λ f. ⊥) n (Some f ∷ slots)
names_by n f here later slots true is names rest =
    inl (named_append ends_issue n here later ∙ either_left (is_named ends_issue n here) _ (names refl))
names_by n f here later slots false is names (inl some) =
    inl (named_append ends_issue n here later ∙ either_right (is_named ends_issue n here) _ some)
names_by n f here later slots false is names (inr none) =
    inr (λ same. absurd (cc (eq-eqb f.number.n n same, is)), none)

none_judged : (n : ℕ) (slots : List (Option InFlight)) → AreJudged slots [] → HoldsOf (λ f. ⊥) n slots
none_judged n [] all = tt
none_judged n (None ∷ slots) all = none_judged n slots all
none_judged n (Some f ∷ slots) all = absurd all

finishes_name :
    (n : ℕ) (known : List Cmd) (parted : List ℕ) (slots : List (Option InFlight)) (judged : List (Option Judgement))
    → AreOwned slots → EachFlight (IsFlown known) slots → EachFlight (λ f. (f.number.n == 0) ≡ false) slots → AreJudged slots judged
    → (is_named ends_issue n (finishes known parted slots judged) ≡ true) ⊎ HoldsOf (λ f. ⊥) n slots
finishes_name n known parted [] judged owned flown some all = inr tt
finishes_name n known parted (None ∷ slots) [] owned flown some all = inr (none_judged n slots all)
finishes_name n known parted (Some f ∷ slots) [] owned flown some all = absurd all
finishes_name n known parted (None ∷ slots) (j ∷ judged) owned flown some all = finishes_name n known parted slots judged owned flown some all
finishes_name n known parted (Some f ∷ slots) (None ∷ judged) owned flown some all = absurd all
finishes_name n known parted (Some f ∷ slots) (Some j ∷ judged) owned flown some all =
    names_by n f (if f.owned then issue_finish parted f.number j (command_of f.id known) else []) (finishes known parted slots judged) slots (f.number.n == n) refl
    (λ same. issue_names n parted f j (command_of f.id known) f.owned refl owned.0 (there_of (command_of f.id known) (f.place, flown.0.device) flown.0.stands) some.0 same)
    (finishes_name n known parted slots judged owned.1 flown.1 some.1 all)

-- after the finishes of a recovery that owns and judged each issue nothing is in flight
pub finish_leaves_none :
    (head : PortHead) (past : List Event) → IsAllowed head past → AreOwned (slots past) → AreJudged (slots past) (judged past)
    → (time : ℕ) (who : Who) (seq : ℕ) (step : Step)
    → AreNone (slots (onto (Entered time who seq step ∷ past) (finishes (commands past) (detachments past) (slots past) (judged past))))
finish_leaves_none head past h owned all time who seq step =
    let acts = finishes (commands past) (detachments past) (slots past) (judged past) in
    holds_each (λ f. ⊥) (slots (onto (Entered time who seq step ∷ past) acts))
    (λ n.
    block_onto (λ f. ⊥) IsEnding ends_issue stays_gone becomes_gone n (Entered time who seq step ∷ past) acts
    (finishes_end (commands past) (detachments past) (slots past) (judged past))
    (finishes_name n (commands past) (detachments past) (slots past) (judged past) owned (are_known head past h).flights (are_some head past h) all))
