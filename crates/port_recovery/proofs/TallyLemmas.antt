-- The owned issues of a place, tag by tag.
use Rattle.std.proofs.Common.{◌≡◌, ◌∙◌, ℕ, ◌+◌, ◌<◌, ◌≤◌, ◌==◌, Bool, true, false, not, ◌&&◌, ◌||◌, List, [], ◌∷◌, ◌++◌, Option, Some, None, length, take, get_or, refl, sym, ap, subst, arith, append-nil, if◌then◌else◌}
use Rattle.std.specs.Int.RustNames.{bit_or}
use Rattle.std.specs.List.{list_any}
use Rattle.std.specs.Option.{option_to_list}
use Rattle.std.proofs.lemmas.List.{take_more, take_all, length-take-le}
use Rattle.std.proofs.lemmas.List.Folds.{list_any-append}
use Rattle.std.proofs.lemmas.List.Sums.{fold-append}
use Rattle.std.proofs.lemmas.Option.{unwrap_or-slice_get}
use Rattle.host_tags.specs.Slots.{flight_at}
use Rattle.host_tags.specs.declared.in_flight.InFlight.{InFlight}
use Rattle.port_rules.specs.Autopsy.{is_io_issue}
use Rattle.port_rules.specs.AutopsyView.{AutopsyView}
use Rattle.port_rules.specs.Blame.{JudgedIssue, final_kinds, is_owned_by, judged_from, judged_here, link_kinds}
use Rattle.port_recovery.specs.Findings.{judged_as, judged_below, judged_under}
use Rattle.port_recovery.specs.Tallies.{IsTally}
use Rattle.port_recovery.specs.declared.tallying.Tally.{Tally}

-- ---- the issues below a tag, and the next one

one_by :
    (s : AutopsyView) (tag : ℕ) (f : InFlight) (owned : Bool)
    → (if owned then record { flight = f; kinds = final_kinds s tag f } ∷ [] else [])
    ≡ option_to_list (judged_as s tag (if owned then Some f else None))
one_by s tag f true = refl
one_by s tag f false = refl

-- one issue alone
one_judged :
    (s : AutopsyView) (tag : ℕ) (slot : Option InFlight)
    → judged_from s tag (slot ∷ []) ≡ option_to_list (judged_under s tag slot)
one_judged s tag None = refl
one_judged s tag (Some f) = one_by s tag f (is_owned_by s.place f)

first_by :
    (owned : Bool) (issue : JudgedIssue) (rest more all : List JudgedIssue) → all ≡ rest ++ more
    → (if owned then issue ∷ all else all) ≡ (if owned then issue ∷ rest else rest) ++ more
first_by true issue rest more all same = ap (λ issues. issue ∷ issues) same
first_by false issue rest more all same = same

-- one issue after others
next_judged :
    (s : AutopsyView) (from tag : ℕ) (slots : List (Option InFlight)) (slot : Option InFlight) → tag ≡ from + length slots
    → judged_from s from (slots ++ slot ∷ []) ≡ judged_from s from slots ++ option_to_list (judged_under s tag slot)
next_judged s from tag [] slot at =
    let here : tag ≡ from = omega (arith, at) in
    one_judged s from slot ∙ ap (λ t. option_to_list (judged_under s t slot)) (sym here)
next_judged s from tag (None ∷ rest) slot at = next_judged s (from + 1) tag rest slot (omega (arith, at))
next_judged s from tag (Some f ∷ rest) slot at =
    first_by (is_owned_by s.place f) (record { flight = f; kinds = final_kinds s from f }) (judged_from s (from + 1) rest)
    (option_to_list (judged_under s tag slot)) (judged_from s (from + 1) (rest ++ slot ∷ []))
    (next_judged s (from + 1) tag rest slot (omega (arith, at)))

-- the issues below the next tag
pub judged_more :
    (s : AutopsyView) (tag : ℕ) → tag < length s.slots
    → judged_below s (tag + 1) ≡ judged_below s tag ++ option_to_list (judged_under s tag (flight_at s.slots tag))
judged_more s tag within =
    let size : tag ≡ 0 + length (take tag s.slots) = omega (arith, length-take-le tag s.slots (omega (arith, within))) in
    ap (judged_from s 0) (take_more s.slots tag None within)
    ∙ next_judged s 0 tag (take tag s.slots) (get_or s.slots tag None) size
    ∙ ap (λ slot. judged_below s tag ++ option_to_list (judged_under s tag slot))
    (sym (unwrap_or-slice_get s.slots tag None))

-- those below the last tag are all
pub judged_all : (s : AutopsyView) (tag : ℕ) → length s.slots ≤ tag → judged_below s tag ≡ judged_here s
judged_all s tag through = ap (judged_from s 0) (take_all tag s.slots through)

-- ---- what they come to

or_none : (b : Bool) → (b || false) ≡ b
or_none true = refl
or_none false = refl

any_more :
    (test : JudgedIssue → Bool) (issues : List JudgedIssue) (issue : JudgedIssue)
    → list_any test (issues ++ issue ∷ []) ≡ (list_any test issues || test issue)
any_more test issues issue =
    list_any-append test issues (issue ∷ []) ∙ ap (λ b. list_any test issues || b) (or_none (test issue))

-- with no issue more
pub tally_same :
    (s : AutopsyView) (issues : List JudgedIssue) (tally : Tally) → IsTally s issues tally → IsTally s (issues ++ []) tally
tally_same s issues tally is = rw (append-nil issues) is

-- with an issue more
pub tally_more :
    (s : AutopsyView) (issues : List JudgedIssue) (issue : JudgedIssue) (was now : Tally) → IsTally s issues was
    → now.kinds.0 ≡ bit_or was.kinds.0 issue.kinds → now.io ≡ (was.io || is_io_issue s issue.flight)
    → now.io_error ≡ (was.io_error || (is_io_issue s issue.flight && not (issue.kinds == 0)))
    → IsTally s (issues ++ issue ∷ []) now
tally_more s issues issue was now is kinds io io_error = record {
  kinds =
      kinds ∙ ap (λ k. bit_or k issue.kinds) is.kinds
      ∙ sym (fold-append (λ k i. bit_or k i.kinds) (link_kinds s) issues (issue ∷ []));
  io =
      io ∙ ap (λ b. b || is_io_issue s issue.flight) is.io ∙ sym (any_more (λ i. is_io_issue s i.flight) issues issue);
  io_error =
      io_error ∙ ap (λ b. b || (is_io_issue s issue.flight && not (issue.kinds == 0))) is.io_error
      ∙ sym (any_more (λ i. is_io_issue s i.flight && not (i.kinds == 0)) issues issue);
}

-- with those below the next tag
pub tally_next :
    {now : Tally} (s : AutopsyView) (tag : ℕ) → tag < length s.slots
    → IsTally s (judged_below s tag ++ option_to_list (judged_under s tag (flight_at s.slots tag))) now
    → IsTally s (judged_below s (tag + 1)) now
tally_next {now} s tag within is = subst (λ issues. IsTally s issues now) (sym (judged_more s tag within)) is

-- with all
pub tally_ends :
    {all : Tally} (s : AutopsyView) (tag : ℕ) → length s.slots ≤ tag → IsTally s (judged_below s tag) all
    → IsTally s (judged_here s) all
tally_ends {all} s tag through is = subst (λ issues. IsTally s issues all) (judged_all s tag through) is
