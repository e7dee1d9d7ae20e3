-- The owned issues of a place are judged, tag by tag.
use Rattle.std.proofs.Common.{◌≡◌, ◌∙◌, ℕ, ◌+◌, ◌<◌, ◌≤◌, List, Option, Some, None, length, sym, ap, arith}
use Rattle.std.specs.Option.{option_to_list}
use Rattle.std.proofs.lemmas.List.{map-append}
use Rattle.ata_trace.specs.declared.act.Act.{Act}
use Rattle.ata_trace.specs.declared.act.Act.TheVariants.{Judged}
use Rattle.host_tags.specs.Slots.{flight_at}
use Rattle.port_ledger.specs.LedgerView.{LedgerView, past}
use Rattle.port_past.proofs.Sizes.{length_slots}
use Rattle.port_rules.specs.AutopsyView.{AutopsyView, autopsy_view}
use Rattle.port_rules.specs.Blame.{JudgedIssue, judged_here}
use Rattle.port_telling.proofs.AddLemmas.{adds_more, adds_same}
use Rattle.port_telling.specs.Adds.{Adds}
use Rattle.port_telling.specs.Walks.{slots_in}
use Rattle.port_recovery.proofs.TallyLemmas.{judged_more, judged_all}
use Rattle.port_rules.proofs.Views.{off_views, judged_off, AreOff}
use Rattle.port_recovery.specs.Findings.{judged_below, judged_under, judgements, view_in}

-- acts off a place leave what a ledger's view of it is
pub view_left :
    {before after : LedgerView} {acts : List Act} (place : ℕ) → Adds before after acts → AreOff place acts
    → view_in after place ≡ view_in before place
view_left {before} {after} {acts} place adds off =
    ap (λ head. autopsy_view head (past after) place) adds.head
    ∙ ap (λ p. autopsy_view before.head p place) adds.past
    ∙ off_views before.head (past before) place acts off

-- a tag more
pub judge_next :
    {first mid after : LedgerView} (place tag : ℕ) → tag < 32
    → Adds first mid (judgements (judged_below (view_in first place) tag))
    → Adds mid after (judgements (option_to_list (judged_under (view_in mid place) tag (flight_at (slots_in mid) tag))))
    → Adds first after (judgements (judged_below (view_in first place) (tag + 1)))
judge_next {first} {mid} {after} place tag is_tag before more =
    let s : AutopsyView = view_in first place in
    let here : List JudgedIssue = option_to_list (judged_under s tag (flight_at s.slots tag)) in
    let left : view_in mid place ≡ s = view_left place before (judged_off place (judged_below s tag)) in
    let same = ap (λ (v : AutopsyView). judgements (option_to_list (judged_under v tag (flight_at v.slots tag)))) left in
    let within : tag < length s.slots = omega (arith, is_tag, length_slots (past first)) in
    adds_same
    (sym (map-append (λ (issue : JudgedIssue). Judged issue.flight.number (record { 0 = issue.kinds })) (judged_below s tag) here)
    ∙ ap judgements (sym (judged_more s tag within)))
    (adds_more before (adds_same same more))

-- past the last tag
pub judge_ends :
    {first last : LedgerView} (place tag : ℕ) → 32 ≤ tag
    → Adds first last (judgements (judged_below (view_in first place) tag))
    → Adds first last (judgements (judged_here (view_in first place)))
judge_ends {first} {last} place tag through told =
    let s : AutopsyView = view_in first place in
    adds_same (ap judgements (judged_all s tag (omega (arith, through, length_slots (past first))))) told

-- a tag has at most one
pub one_or_none : (issue : Option JudgedIssue) → length (judgements (option_to_list issue)) ≤ 1
one_or_none None = omega arith
one_or_none (Some issue) = omega arith
