-- Each list of acts that the rules make has acts of these kinds alone.
use Rattle.eh_flow.specs.Finish.{is_retried}
use Rattle.std.proofs.Common.{◌≡◌, ℕ, Bool, true, false, not, ◌&&◌, ◌==◌, List, [], ◌∷◌, Option, None, Some, refl, if◌then◌else◌}
use Rattle.std.specs.List.{list_all, cons_option}
use Rattle.ata_base.specs.declared.cmd.Cmd.{Cmd}
use Rattle.ata_base.specs.declared.err_mask.ErrMask.{ErrMask}
use Rattle.ata_base.specs.declared.issue_no.IssueNo.{IssueNo}
use Rattle.ata_trace.specs.declared.act.Act.{Act}
use Rattle.ata_trace.specs.declared.act.Act.TheVariants.{Condemned, Expired, AnsweredNodev, AnsweredFailed, Retried, Frozen, Nothing, Requested}
use Rattle.host_tags.specs.declared.in_flight.InFlight.{InFlight}
use Rattle.host_timer.specs.Due.{has_due}
use Rattle.port_past.specs.Commands.{command_of, is_gone}
use Rattle.port_past.specs.declared.completion.Completion.{Completion}
use Rattle.port_past.specs.declared.judgement.Judgement.{Judgement}
use Rattle.eh_flow.specs.declared.issue_finish.Finish.TheVariants.{NoDev, Retry, Fail}
use Rattle.port_rules.specs.Finish.{told_finish, registers_told, finish_act, issue_finish, finishes}
use Rattle.port_rules.specs.Sorting.{ok_act, ok_answers, condemnations}
use Rattle.port_rules.specs.Begin.{with_freeze}
use Rattle.port_rules.specs.Time.{expiries, with_request}
use Rattle.port_rules.specs.Told.{told_if, or_nothing}
use Rattle.port_stands.proofs.Blocks.{all_append}

pub all_more : (kind : Act → Bool) (act : Act) (acts : List Act) → kind act ≡ true → list_all kind acts ≡ true → list_all kind (act ∷ acts) ≡ true
all_more kind act acts one rest = rw one rest

pub all_told : (kind : Act → Bool) (b : Bool) (act : Act) → kind act ≡ true → list_all kind (told_if b act) ≡ true
all_told kind true act one = rw one
all_told kind false act one = refl

pub all_or_nothing : (kind : Act → Bool) (acts : List Act) → kind Nothing ≡ true → list_all kind acts ≡ true → list_all kind (or_nothing acts) ≡ true
all_or_nothing kind [] one all = rw one
all_or_nothing kind (act ∷ rest) one all = all

-- of two lists the one that is chosen
pub all_if : (kind : Act → Bool) (b : Bool) (xs ys : List Act) → list_all kind xs ≡ true → list_all kind ys ≡ true → list_all kind (if b then xs else ys) ≡ true
all_if kind true xs ys all more = all
all_if kind false xs ys all more = more

pub all_answers :
    (kind : Act → Bool) → ((f : InFlight) (end : Completion) → kind (ok_act f end) ≡ true)
    → (slots : List (Option InFlight)) (ends : List (Option Completion)) → list_all kind (ok_answers slots ends) ≡ true
all_answers kind is [] ends = refl
all_answers kind is (None ∷ slots) [] = refl
all_answers kind is (Some f ∷ slots) [] = refl
all_answers kind is (None ∷ slots) (end ∷ ends) = all_answers kind is slots ends
all_answers kind is (Some f ∷ slots) (None ∷ ends) = all_answers kind is slots ends
all_answers kind is (Some f ∷ slots) (Some end ∷ ends) =
    let rest = all_answers kind is slots ends in
    all_if kind f.owned (ok_answers slots ends) (ok_act f end ∷ ok_answers slots ends) rest (all_more kind (ok_act f end) (ok_answers slots ends) (is f end) rest)

pub all_condemnations :
    (kind : Act → Bool) (test : InFlight → Bool) (kinds : ErrMask)
    → ((f : InFlight) → kind (Condemned f.number kinds) ≡ true)
    → (slots : List (Option InFlight)) (ends : List (Option Completion)) → list_all kind (condemnations test kinds slots ends) ≡ true
all_condemnations kind test kinds is [] ends = refl
all_condemnations kind test kinds is (None ∷ slots) [] = refl
all_condemnations kind test kinds is (Some f ∷ slots) [] = refl
all_condemnations kind test kinds is (None ∷ slots) (end ∷ ends) = all_condemnations kind test kinds is slots ends
all_condemnations kind test kinds is (Some f ∷ slots) (Some end ∷ ends) = all_condemnations kind test kinds is slots ends
all_condemnations kind test kinds is (Some f ∷ slots) (None ∷ ends) =
    let rest = all_condemnations kind test kinds is slots ends in
    all_if kind (not f.owned && test f) (Condemned f.number kinds ∷ condemnations test kinds slots ends) (condemnations test kinds slots ends)
    (all_more kind (Condemned f.number kinds) (condemnations test kinds slots ends) (is f) rest) rest

pub all_with_freeze :
    (kind : Act → Bool) (frozen : Bool) (acts : List Act) → kind Frozen ≡ true → list_all kind acts ≡ true
    → list_all kind (with_freeze frozen acts) ≡ true
all_with_freeze kind frozen [] one all = refl
all_with_freeze kind frozen (act ∷ rest) one all =
    all_append kind (act ∷ rest) _ all (all_told kind (not frozen) Frozen one)

pub all_with_request :
    (kind : Act → Bool) (asked : Bool) (acts : List Act) → kind Requested ≡ true → list_all kind acts ≡ true
    → list_all kind (with_request asked acts) ≡ true
all_with_request kind asked [] one all = refl
all_with_request kind asked (act ∷ rest) one all =
    all_append kind (act ∷ rest) _ all (all_told kind (not asked) Requested one)

all_cons :
    (kind : Act → Bool) (b : Bool) (act : Act) (rest : List Act) → kind act ≡ true → list_all kind rest ≡ true
    → list_all kind (cons_option (if b then Some act else None) rest) ≡ true
all_cons kind true act rest one all = rw one all
all_cons kind false act rest one all = all

pub all_expiries :
    (kind : Act → Bool) (clock : ℕ) (drained : Bool) → ((f : InFlight) → kind (Expired f.id f.number) ≡ true)
    → (slots : List (Option InFlight)) → list_all kind (expiries clock drained slots) ≡ true
all_expiries kind clock drained is [] = refl
all_expiries kind clock drained is (None ∷ slots) = all_expiries kind clock drained is slots
all_expiries kind clock drained is (Some f ∷ slots) =
    all_cons kind (has_due clock drained (Some f) && not f.expired) (Expired f.id f.number) (expiries clock drained slots) (is f)
    (all_expiries kind clock drained is slots)

-- a kind of which each act of a finish is
pub record HasFinish (kind : Act → Bool) : Type 0 where
  pub nodev : (id : ℕ) (number : IssueNo) → kind (AnsweredNodev id number) ≡ true
  pub retried : (id : ℕ) (number : IssueNo) (raised : Bool) → kind (Retried id number raised) ≡ true
  pub failed : (id : ℕ) (number : IssueNo) (j : Judgement)
      → kind (AnsweredFailed id number j.kinds (registers_told j.regs).status (registers_told j.regs).error (registers_told j.regs).lba (registers_told j.regs).count) ≡ true

finish_is :
    (kind : Act → Bool) → HasFinish kind → (c : Cmd) (number : IssueNo) (j : Judgement) (gone retried : Bool)
    → kind (told_finish c number j (if gone then NoDev else if retried then Retry (j.kinds.0 == 0) else Fail)) ≡ true
finish_is kind has c number j true retried = has.nodev c.id number
finish_is kind has c number j false true = has.retried c.id number (j.kinds.0 == 0)
finish_is kind has c number j false false = has.failed c.id number j

all_finish :
    (kind : Act → Bool) → HasFinish kind → (counts : List ℕ) (number : IssueNo) (j : Judgement) (c : Option Cmd)
    → list_all kind (issue_finish counts number j c) ≡ true
all_finish kind has counts number j None = refl
all_finish kind has counts number j (Some c) =
    all_more kind (finish_act c number j (is_gone c counts)) [] (finish_is kind has c number j (is_gone c counts) (is_retried c j.kinds)) refl

pub all_finishes :
    (kind : Act → Bool) → HasFinish kind → (commands : List Cmd) (counts : List ℕ)
    → (slots : List (Option InFlight)) (judged : List (Option Judgement)) → list_all kind (finishes commands counts slots judged) ≡ true
all_finishes kind has commands counts [] judged = refl
all_finishes kind has commands counts (None ∷ slots) [] = refl
all_finishes kind has commands counts (Some f ∷ slots) [] = refl
all_finishes kind has commands counts (None ∷ slots) (j ∷ judged) = all_finishes kind has commands counts slots judged
all_finishes kind has commands counts (Some f ∷ slots) (None ∷ judged) = all_finishes kind has commands counts slots judged
all_finishes kind has commands counts (Some f ∷ slots) (Some j ∷ judged) =
    let own : List Act = issue_finish counts f.number j (command_of f.id commands) in
    all_append kind (if f.owned then own else []) (finishes commands counts slots judged)
    (all_if kind f.owned own [] (all_finish kind has counts f.number j (command_of f.id commands)) refl)
    (all_finishes kind has commands counts slots judged)
