-- The autopsy of a place, and of one place after the other.
use Rattle.std.proofs.Common.{◌≡◌, ◌∙◌, ℕ, ◌+◌, ◌≤◌, ◌==◌, Bool, true, false, not, ◌&&◌, nat_lt, List, [], ◌∷◌, ◌++◌, Option, Some, None, length, refl, ap, arith, length-append, if◌then◌else◌}
use Rattle.std.specs.List.{flat_map, range_with_len}
use Rattle.std.proofs.lemmas.Bool.{eqb-false, eqb-true, le-ltb, ltb-false, ltb-true, lt-ltb}
use Rattle.std.proofs.lemmas.List.{length-map}
use Rattle.ata_trace.specs.Event.Event.{Told}
use Rattle.ata_trace.specs.declared.act.Act.{Act}
use Rattle.ata_trace.specs.declared.act.Act.TheVariants.{Judged, Cleared, Hot, Action}
use Rattle.eh_reval.specs.Probes.{probe_limit_of}
use Rattle.eh_verdict.specs.declared.error_verdict.Verdict.{Verdict}
use Rattle.ata_base.specs.declared.speed_action.SpeedAction.{SpeedAction}
use Rattle.host_tags.specs.declared.in_flight.InFlight.{InFlight}
use Rattle.port_ledger.specs.LedgerView.{LedgerView, Goes, past}
use Rattle.port_past.proofs.Sizes.{length_slots}
use Rattle.port_past.specs.Heads.{places_of}
use Rattle.port_rules.specs.Autopsy.{action_of, all_kinds, autopsy_of, examined_acts, has_effect, is_examined, is_recorded, recorded_acts, recording_acts, speed_action, verdict_at}
use Rattle.port_rules.specs.AutopsyView.{AutopsyView, autopsy_view}
use Rattle.port_rules.specs.Blame.{JudgedIssue, final_kinds, is_hotplugged, is_owned_by, judged_from, judged_here}
use Rattle.port_rules.specs.Told.{told_if}
use Rattle.port_telling.proofs.AddLemmas.{adds_more, adds_same, adds_act, one_more}
use Rattle.port_telling.specs.Adds.{Adds}
use Rattle.port_telling.specs.Walks.{slots_in}
use Rattle.port_recovery.proofs.JudgeLemmas.{view_left}
use Rattle.port_rules.proofs.Views.{examined_off}
use Rattle.port_recovery.specs.Findings.{findings_of, judgements, recording_of, view_in}
use Rattle.port_recovery.specs.Places.{IsExaminedUpTo, owned_below, owned_of}
use Rattle.port_recovery.specs.declared.findings.Findings.{Findings}

-- ---- one place

pub dissected :
    {first judged noted heated last : LedgerView} {place : ℕ} {found : Findings} → found ≡ findings_of (view_in first place)
    → Adds first judged (judgements (judged_here (view_in first place)))
    → Adds judged noted (if found.recorded then recording_of place found else [])
    → Adds noted heated (told_if found.hot (Hot place found.limit))
    → Goes heated last 0 1 (Told (Action place found.kinds found.action) ∷ past heated)
    → Adds first last (autopsy_of (view_in first place))
dissected {first} {judged} {noted} {heated} {last} {place} {found} is issues error heat goes =
    let s : AutopsyView = view_in first place in
    let error_is : Adds judged noted (recorded_acts s) =
    adds_same (ap (λ (f : Findings). if f.recorded then recording_of place f else []) is) error in
    let heat_is : Adds noted heated (told_if (is_hotplugged s) (Hot place (probe_limit_of s.probes s.clock))) =
    adds_same (ap (λ (f : Findings). told_if f.hot (Hot place f.limit)) is) heat in
    let last_is : Adds heated last (Action place (record { 0 = all_kinds s }) (action_of s) ∷ []) =
    adds_same (ap (λ (f : Findings). Action place f.kinds f.action ∷ []) is) (adds_act goes) in
    adds_more (adds_more (adds_more issues error_is) heat_is) last_is

-- ---- how many acts a place has

counted_by :
    (owned : Bool) (issue : JudgedIssue) (rest : List JudgedIssue) (n : ℕ) → length rest ≡ n
    → length (if owned then issue ∷ rest else rest) ≡ (if owned then 1 else 0) + n
counted_by true issue rest n is = omega (arith, is)
counted_by false issue rest n is = omega (arith, is)

-- as many issues are judged as recovery owns
judged_count :
    (s : AutopsyView) (tag : ℕ) (slots : List (Option InFlight))
    → length (judged_from s tag slots) ≡ owned_of s.place slots
judged_count s tag [] = refl
judged_count s tag (None ∷ rest) = judged_count s (tag + 1) rest
judged_count s tag (Some f ∷ rest) =
    counted_by (is_owned_by s.place f) (record { flight = f; kinds = final_kinds s tag f }) (judged_from s (tag + 1) rest)
    (owned_of s.place rest) (judged_count s (tag + 1) rest)

at_most_one : (holds : Bool) (act : Act) → length (told_if holds act) ≤ 1
at_most_one true act = omega arith
at_most_one false act = omega arith

at_most_two :
    (recorded : Bool) (s : AutopsyView) (v : Verdict) (action : SpeedAction)
    → length (if recorded then recording_acts s v action else []) ≤ 2
at_most_two true s v action = omega (arith, at_most_one (has_effect action && not v.keep) (Cleared s.place))
at_most_two false s v action = omega arith

autopsy_few : (s : AutopsyView) → length (autopsy_of s) ≤ 4 + owned_of s.place s.slots
autopsy_few s =
    let issues : List Act = judgements (judged_here s) in
    let error : List Act = recorded_acts s in
    let heat : List Act = told_if (is_hotplugged s) (Hot s.place (probe_limit_of s.probes s.clock)) in
    let last : List Act = Action s.place (record { 0 = all_kinds s }) (action_of s) ∷ [] in
    let judged : length issues ≡ owned_of s.place s.slots =
    length-map (judged_here s) (λ (issue : JudgedIssue). Judged issue.flight.number (record { 0 = issue.kinds })) ∙ judged_count s 0 s.slots in
    omega (
      arith,
      judged,
      length-append issues error,
      length-append (issues ++ error) heat,
      length-append (issues ++ error ++ heat) last,
      at_most_two (is_recorded s) s (verdict_at s) (speed_action s),
      at_most_one (is_hotplugged s) (Hot s.place (probe_limit_of s.probes s.clock)),
    )

few_by : (examined : Bool) (acts : List Act) (n : ℕ) → length acts ≤ n → length (if examined then acts else []) ≤ n
few_by true acts n few = few
few_by false acts n few = omega arith

examined_few : (s : AutopsyView) → length (examined_acts s) ≤ 4 + owned_of s.place s.slots
examined_few s = few_by (is_examined s) (autopsy_of s) (4 + owned_of s.place s.slots) (autopsy_few s)

-- ---- the issues of one place more

one_by :
    (x n : ℕ) (owned here below next : Bool) (this these those : ℕ) → (x == n) ≡ here → nat_lt x n ≡ below
    → nat_lt x (n + 1) ≡ next → those ≡ these + this
    → (if owned && next then 1 else 0) + those
    ≡ ((if owned && below then 1 else 0) + these) + ((if here && owned then 1 else 0) + this)
one_by x n false true below next this these those is_here is_below is_next sum = omega (arith, sum)
one_by x n false false below next this these those is_here is_below is_next sum = omega (arith, sum)
one_by x n true true true next this these those is_here is_below is_next sum =
    absurd (omega (arith, eqb-true x n is_here, ltb-true x n is_below))
one_by x n true true false true this these those is_here is_below is_next sum = omega (arith, sum)
one_by x n true true false false this these those is_here is_below is_next sum =
    let same = eqb-true x n is_here in
    absurd (cc (is_next, lt-ltb x (n + 1) (omega (arith, same))))
one_by x n true false true true this these those is_here is_below is_next sum = omega (arith, sum)
one_by x n true false true false this these those is_here is_below is_next sum =
    let less = ltb-true x n is_below in
    absurd (cc (is_next, lt-ltb x (n + 1) (omega (arith, less))))
one_by x n true false false false this these those is_here is_below is_next sum = omega (arith, sum)
one_by x n true false false true this these those is_here is_below is_next sum =
    let above = ltb-false x n is_below in
    let least = ltb-true x (n + 1) is_next in
    absurd (eqb-false x n is_here (omega (arith, above, least)))

-- the issues of the places below the next
owned_next : (n : ℕ) (slots : List (Option InFlight)) → owned_below (n + 1) slots ≡ owned_below n slots + owned_of n slots
owned_next n [] = refl
owned_next n (None ∷ slots) = owned_next n slots
owned_next n (Some f ∷ slots) =
    one_by f.place n f.owned (f.place == n) (nat_lt f.place n) (nat_lt f.place (n + 1)) (owned_of n slots)
    (owned_below n slots) (owned_below (n + 1) slots) refl refl refl (owned_next n slots)

one_few : (b : Bool) → (if b then 1 else 0) ≤ 1
one_few true = omega arith
one_few false = omega arith

-- no more issues are owned than there are tags
owned_few : (n : ℕ) (slots : List (Option InFlight)) → owned_below n slots ≤ length slots
owned_few n [] = omega arith
owned_few n (None ∷ slots) = omega (arith, owned_few n slots)
owned_few n (Some f ∷ slots) = omega (arith, owned_few n slots, one_few (f.owned && nat_lt f.place n))

none_by : (owned : Bool) (x rest : ℕ) → rest ≡ 0 → (if owned && nat_lt x 0 then 1 else 0) + rest ≡ 0
none_by true x rest none =
    let below : nat_lt x 0 ≡ false = le-ltb x 0 (omega arith) in
    rw below (omega (arith, none))
none_by false x rest none = omega (arith, none)

owned_none : (slots : List (Option InFlight)) → owned_below 0 slots ≡ 0
owned_none [] = refl
owned_none (None ∷ slots) = owned_none slots
owned_none (Some f ∷ slots) = none_by f.owned f.place (owned_below 0 slots) (owned_none slots)

-- ---- place after place

-- before the first place
pub places_begin : (first : LedgerView) → IsExaminedUpTo 0 first first
places_begin first = record {
  adds = record { past = refl; head = refl; room = omega arith };
  views = λ other above. refl;
  spare = omega arith;
  few = omega (arith, owned_none (slots_in first));
}

-- a place more
pub places_next :
    {first mid after : LedgerView} {place here : ℕ} → here ≡ place → IsExaminedUpTo place first mid
    → Adds mid after (examined_acts (view_in mid here)) → IsExaminedUpTo (place + 1) first after
places_next {first} {mid} {after} {place} {here} is up told =
    let s : AutopsyView = view_in first place in
    let same : examined_acts (view_in mid here) ≡ examined_acts s =
    ap (λ p. examined_acts (view_in mid p)) is ∙ ap examined_acts (up.views place (omega arith)) in
    let these : Adds mid after (examined_acts s) = adds_same same told in
    let next = owned_next place (slots_in first) in
    record {
      adds = adds_same (one_more (λ p. examined_acts (view_in first p)) place) (adds_more up.adds these);
      views = λ other above.
          view_left other these (examined_off other s (λ e. absurd (omega (arith, e, above))))
          ∙ up.views other (omega (arith, above));
      spare = omega (arith, up.spare, these.room, examined_few s, next);
      few = omega (arith, owned_few (place + 1) (slots_in first), length_slots (past first));
    }

-- past the last place
pub places_end :
    {first last : LedgerView} {place : ℕ} → place ≡ first.head.places → IsExaminedUpTo place first last
    → Adds first last (flat_map (λ p. examined_acts (autopsy_view first.head (past first) p)) (places_of first.head))
places_end {first} {last} {place} through up =
    adds_same (ap (λ n. flat_map (λ p. examined_acts (view_in first p)) (range_with_len 0 n)) through) up.adds
