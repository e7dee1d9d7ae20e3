-- The entry with which recovery begins.
use Rattle.std.proofs.Common.{◌≡◌, ◌∙◌, ℕ, ◌+◌, Bool, true, false, not, ◌&&◌, nat_lt, List, [], ◌∷◌, ◌++◌, length, refl, ap, arith}
use Rattle.std.proofs.lemmas.Bool.{le-ltb, lt-ltb}
use Rattle.ata_trace.specs.Event.Event.{Told}
use Rattle.ata_trace.specs.declared.act.Act.{Act}
use Rattle.ata_trace.specs.declared.act.Act.TheVariants.{Begun, Frozen}
use Rattle.port_ledger.specs.LedgerView.{LedgerView, Goes, past}
use Rattle.port_past.specs.Completions.{completions}
use Rattle.port_past.specs.PortState.{is_frozen}
use Rattle.port_past.specs.Slots.{slots}
use Rattle.port_rules.specs.Begin.{begin_acts, timed_out, with_freeze}
use Rattle.port_rules.specs.Sorting.{ok_answers, condemnations}
use Rattle.port_rules.specs.Told.{told_if}
use Rattle.port_telling.proofs.AddLemmas.{adds_more, adds_same, adds_act}
use Rattle.port_telling.specs.Adds.{Adds}
use Rattle.port_telling.specs.Walks.{slots_in, completions_in}

-- what is told freezes the port where there is any
with_freeze_is :
    (frozen : Bool) (before after : ℕ) (acts : List Act) → before ≡ after + length acts
    → acts ++ told_if (nat_lt after before && not frozen) Frozen ≡ with_freeze frozen acts
with_freeze_is frozen before after [] room =
    let none : nat_lt after before ≡ false = le-ltb after before (omega arith) in
    rw none refl
with_freeze_is frozen before after (act ∷ rest) room =
    let some : nat_lt after before ≡ true = lt-ltb after before (omega arith) in
    rw some refl

-- the issues that are condemned where recovery begins
abbrev pub all_condemned : LedgerView → List Act
all_condemned ledger = condemnations (λ f. true) timed_out (slots_in ledger) (completions_in ledger)

pub begin_told :
    {first noted answered condemned last : LedgerView} {frozen : Bool}
    → Goes first noted 0 1 (Told Begun ∷ past first)
    → Adds noted answered (ok_answers (slots_in noted) (completions_in noted))
    → all_condemned answered ≡ all_condemned noted
    → Adds answered condemned (all_condemned answered)
    → Adds condemned last (told_if (nat_lt condemned.room answered.room && not frozen) Frozen)
    → frozen ≡ is_frozen (past first)
    → Adds first last (begin_acts first.head (past first))
begin_told {first} {noted} {answered} {condemned} {last} {frozen} goes told left blamed freeze is =
    let flights : slots_in noted ≡ slots_in first = ap slots goes.past in
    let done : completions_in noted ≡ completions_in first =
    ap (λ h. completions h (past noted)) goes.head ∙ ap (completions first.head) goes.past in
    let same : all_condemned answered ≡ all_condemned first =
    left ∙ ap (λ slots. condemnations (λ f. true) timed_out slots (completions_in noted)) flights
    ∙ ap (condemnations (λ f. true) timed_out (slots_in first)) done in
    let answers :
    ok_answers (slots_in noted) (completions_in noted) ≡ ok_answers (slots_in first) (completions_in first) =
    ap (λ slots. ok_answers slots (completions_in noted)) flights ∙ ap (ok_answers (slots_in first)) done in
    let two : Adds answered condemned (all_condemned first) = adds_same same blamed in
    let was = is_frozen (past first) in
    let frozen_too = with_freeze_is was answered.room condemned.room (all_condemned first) two.room in
    adds_more (adds_act goes)
    (adds_more (adds_same answers told) (adds_same frozen_too (adds_more two (rw is at freeze))))
