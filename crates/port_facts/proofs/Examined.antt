-- What the autopsy leaves: each owned issue at one of the port's places is judged.
use Rattle.std.proofs.Common.{◌≡◌, ◌≢◌, ◌∙◌, ℕ, ◌+◌, ◌<◌, ◌≤◌, ◌==◌, ◌⊎◌, inl, inr, Bool, true, false, List, [], ◌∷◌, ◌++◌, map, Option, None, Some, suc, zero, length, get_or, slice_set, refl, sym, ap, subst, arith, if◌then◌else◌}
use Rattle.std.specs.List.{list_any, flat_map, range_with_len}
use Rattle.std.proofs.lemmas.Bool.{eqb-true, eq-eqb, eqb-false}
use Rattle.std.proofs.lemmas.List.Quantifiers.{position-Some}
use Rattle.std.proofs.lemmas.Option.{unwrap_or-slice_get}
use Rattle.ata_base.specs.declared.err_mask.ErrMask.{ErrMask}
use Rattle.ata_base.specs.declared.issue_no.IssueNo.{IssueNo}
use Rattle.ata_script.specs.declared.port_head.PortHead.{PortHead}
use Rattle.ata_trace.specs.Event.{Event, onto}
use Rattle.ata_trace.specs.Event.Event.{Entered, Told}
use Rattle.ata_trace.specs.declared.act.Act.{Act}
use Rattle.ata_trace.specs.declared.act.Act.TheVariants.{Judged, Recorded, Cleared, Hot, Action}
use Rattle.host_tags.proofs.NumberLemmas.{flight_of_here}
use Rattle.host_tags.specs.Numbers.{tag_of, flight_of, is_issue, IsFresh, AreApart}
use Rattle.host_tags.specs.declared.in_flight.InFlight.{InFlight}
use Rattle.port_past.specs.Judged.{judged, with_judgement}
use Rattle.port_past.specs.Logs.{logs}
use Rattle.port_past.specs.Noted.{tferr_noted}
use Rattle.port_past.specs.Slots.{slots}
use Rattle.host_tags.specs.Slots.{is_owned_at}
use Rattle.port_past.specs.declared.judgement.Judgement.{Judgement}
use Rattle.port_rules.specs.Autopsy.{all_kinds, action_of, autopsy_of, examined_acts, is_examined, recorded_acts}
use Rattle.eh_reval.specs.Probes.{probe_limit_of}
use Rattle.port_rules.specs.Told.{told_if}
use Rattle.ata_trace.specs.declared.step.Step.{Step}
use Rattle.ata_trace.specs.declared.who.Who.{Who}
use Rattle.port_rules.specs.Blame.{JudgedIssue, is_hotplugged, is_owned_by, final_kinds, judged_from, judged_here}
use Rattle.port_past.specs.Heads.{places_of}
use Rattle.port_rules.specs.AutopsyView.{AutopsyView, autopsy_view}
use Rattle.port_facts.specs.Allowed.{IsAllowed}
use Rattle.port_facts.proofs.Autopsied.{AreAt, examined_at}
use Rattle.port_facts.proofs.Blocks.{is_named, named_append}
use Rattle.ata_base.proofs.Truth.{either_left, either_right, either_true}
use Rattle.host_tags.proofs.FlightLemmas.{each_at, each_fresh}
use Rattle.host_tags.proofs.Found.{fresh_unfound, named}
use Rattle.ata_base.specs.Each.{Each}
use Rattle.ata_base.proofs.EachLemmas.{every_append}
use Rattle.port_facts.proofs.Numbered.{are_numbered}
use Rattle.port_past.proofs.Sizes.{length_slots}
use Rattle.host_tags.specs.EachFlight.{kept_at, EachFlight, AreOwned}
use Rattle.port_past.specs.JudgedSlots.{AreJudged}
use Rattle.port_past.proofs.JudgedSizes.{length_judged}

-- the issue of this number, if it is in flight, has a judgement under its tag
abbrev pub HasJudgement : ℕ → List (Option InFlight) → List (Option Judgement) → Type 0
HasJudgement n [] ys = Unit {0}
HasJudgement n (None ∷ slots) [] = HasJudgement n slots []
HasJudgement n (None ∷ slots) (y ∷ ys) = HasJudgement n slots ys
HasJudgement n (Some f ∷ slots) [] = (f.number.n ≢ n) × HasJudgement n slots []
HasJudgement n (Some f ∷ slots) (None ∷ ys) = (f.number.n ≢ n) × HasJudgement n slots ys
HasJudgement n (Some f ∷ slots) (Some y ∷ ys) = HasJudgement n slots ys

all_judged : (slots : List (Option InFlight)) (ys : List (Option Judgement)) → ((n : ℕ) → HasJudgement n slots ys) → AreJudged slots ys
all_judged [] ys has = tt
all_judged (None ∷ slots) [] has = all_judged slots [] has
all_judged (None ∷ slots) (y ∷ ys) has = all_judged slots ys has
all_judged (Some f ∷ slots) [] has = (has f.number.n).0 refl
all_judged (Some f ∷ slots) (None ∷ ys) has = (has f.number.n).0 refl
all_judged (Some f ∷ slots) (Some y ∷ ys) has = all_judged slots ys has

fresh_has : (n : ℕ) (slots : List (Option InFlight)) (ys : List (Option Judgement)) → IsFresh n slots → HasJudgement n slots ys
fresh_has n [] ys fresh = tt
fresh_has n (None ∷ slots) [] fresh = fresh_has n slots [] fresh
fresh_has n (None ∷ slots) (y ∷ ys) fresh = fresh_has n slots ys fresh
fresh_has n (Some f ∷ slots) [] fresh = (fresh.0, fresh_has n slots [] fresh.1)
fresh_has n (Some f ∷ slots) (None ∷ ys) fresh = (fresh.0, fresh_has n slots ys fresh.1)
fresh_has n (Some f ∷ slots) (Some y ∷ ys) fresh = fresh_has n slots ys fresh.1

-- one judgement more
set_has :
    (n tag : ℕ) (value : Judgement) (slots : List (Option InFlight)) (ys : List (Option Judgement)) → HasJudgement n slots ys
    → HasJudgement n slots (slice_set ys tag (Some value))
set_has n tag value [] ys has = tt
set_has n zero value (None ∷ slots) [] has = has
set_has n (suc tag) value (None ∷ slots) [] has = has
set_has n zero value (Some f ∷ slots) [] has = has
set_has n (suc tag) value (Some f ∷ slots) [] has = has
set_has n zero value (None ∷ slots) (y ∷ ys) has = has
set_has n (suc tag) value (None ∷ slots) (y ∷ ys) has = set_has n tag value slots ys has
set_has n zero value (Some f ∷ slots) (None ∷ ys) has = has.1
set_has n zero value (Some f ∷ slots) (Some y ∷ ys) has = has
set_has n (suc tag) value (Some f ∷ slots) (None ∷ ys) has = (has.0, set_has n tag value slots ys has.1)
set_has n (suc tag) value (Some f ∷ slots) (Some y ∷ ys) has = set_has n tag value slots ys has

-- one under the tag of the issue of this number
set_gives :
    (n tag : ℕ) (value : Judgement) (slots : List (Option InFlight)) (ys : List (Option Judgement)) (f : InFlight) → AreApart slots
    → length slots ≤ length ys → kept_at slots tag ≡ Some f → f.number.n ≡ n → HasJudgement n slots (slice_set ys tag (Some value))
set_gives n tag value [] ys f apart enough here is = tt
set_gives n tag value (slot ∷ slots) [] f apart enough here is = absurd (omega (arith, enough))
set_gives n zero value (None ∷ slots) (y ∷ ys) f apart enough here is = absurd (cc)
set_gives n zero value (Some g ∷ slots) (y ∷ ys) f apart enough here is =
    let same : g ≡ f = cc in
    fresh_has n slots ys (subst (λ m. IsFresh m slots) (ap (λ x. x.number.n) same ∙ is) apart.0)
set_gives n (suc tag) value (None ∷ slots) (y ∷ ys) f apart enough here is =
    set_gives n tag value slots ys f apart (omega (arith, enough)) here is
set_gives n (suc tag) value (Some g ∷ slots) (None ∷ ys) f apart enough here is =
    let other = each_at (λ x. x.number.n ≢ g.number.n) slots tag f (each_fresh g.number.n slots apart.0) here in
    ((λ e. other (is ∙ sym e)), set_gives n tag value slots ys f apart.1 (omega (arith, enough)) here is)
set_gives n (suc tag) value (Some g ∷ slots) (Some y ∷ ys) f apart enough here is =
    set_gives n tag value slots ys f apart.1 (omega (arith, enough)) here is

-- ---- an act of the autopsy

judgement_stays :
    (n : ℕ) (past : List Event) (kinds : ErrMask) (tag : Option ℕ) (found : Option InFlight) → HasJudgement n (slots past) (judged past)
    → HasJudgement n (slots past) (with_judgement kinds (tferr_noted past) (logs past) tag found (judged past))
judgement_stays n past kinds None found has = has
judgement_stays n past kinds (Some tag) None has = has
judgement_stays n past kinds (Some tag) (Some f) has = set_has n tag _ (slots past) (judged past) has

judgement_comes :
    (past : List Event) (number : IssueNo) (kinds : ErrMask) (tag : Option ℕ) (found : Option InFlight) → AreApart (slots past)
    → length (slots past) ≤ length (judged past) → tag_of number.n (slots past) ≡ tag → flight_of number.n (slots past) ≡ found
    → HasJudgement number.n (slots past) (with_judgement kinds (tferr_noted past) (logs past) tag found (judged past))
judgement_comes past number kinds None found apart enough tag_is found_is =
    fresh_has number.n (slots past) (judged past) (fresh_unfound number.n (slots past) tag_is)
judgement_comes past number kinds (Some tag) None apart enough tag_is found_is =
    let at = position-Some (is_issue number.n) (slots past) tag None tag_is in
    let f = named number.n (get_or (slots past) tag None) at.1 in
    let here : kept_at (slots past) tag ≡ Some f.0 = unwrap_or-slice_get (slots past) tag None ∙ f.1.0 in
    absurd (cc (flight_of_here tag f.0 (slots past) apart here, f.1.1, found_is))
judgement_comes past number kinds (Some tag) (Some g) apart enough tag_is found_is =
    let at = position-Some (is_issue number.n) (slots past) tag None tag_is in
    let f = named number.n (get_or (slots past) tag None) at.1 in
    let here : kept_at (slots past) tag ≡ Some f.0 = unwrap_or-slice_get (slots past) tag None ∙ f.1.0 in
    set_gives number.n tag _ (slots past) (judged past) f.0 apart enough here f.1.1

-- the acts of an autopsy, and which judges an issue
abbrev IsAutopsying : Act → Type 0
IsAutopsying (Judged number kinds) = Unit {0}
IsAutopsying (Recorded place io doubt kinds ncq_off speed_down pio keep action) = Unit {0}
IsAutopsying (Cleared place) = Unit {0}
IsAutopsying (Hot place generation) = Unit {0}
IsAutopsying (Action place kinds chosen) = Unit {0}
IsAutopsying _ = ⊥

abbrev pub judges : ℕ → Act → Bool
judges n (Judged number kinds) = number.n == n
judges n _ = false

-- they leave the slots
same_slots : (past : List Event) (act : Act) → IsAutopsying act → slots (Told act ∷ past) ≡ slots past
same_slots past (Judged number kinds) of = refl
same_slots past (Recorded place io doubt kinds ncq_off speed_down pio keep action) of = refl
same_slots past (Cleared place) of = refl
same_slots past (Hot place generation) of = refl
same_slots past (Action place kinds chosen) of = refl
same_slots past act of = absurd of

act_stays : (n : ℕ) (past : List Event) (act : Act) → IsAutopsying act → HasJudgement n (slots past) (judged past) → HasJudgement n (slots (Told act ∷ past)) (judged (Told act ∷ past))
act_stays n past (Judged number kinds) of has = judgement_stays n past kinds (tag_of number.n (slots past)) (flight_of number.n (slots past)) has
act_stays n past (Recorded place io doubt kinds ncq_off speed_down pio keep action) of has = has
act_stays n past (Cleared place) of has = has
act_stays n past (Hot place generation) of has = has
act_stays n past (Action place kinds chosen) of has = has
act_stays n past act of has = absurd of

act_comes : (n : ℕ) (past : List Event) (act : Act) → AreApart (slots past) → judges n act ≡ true → HasJudgement n (slots (Told act ∷ past)) (judged (Told act ∷ past))
act_comes n past (Judged number kinds) apart is =
    subst (λ m. HasJudgement m (slots past) (judged (Told (Judged number kinds) ∷ past))) (eqb-true number.n n is)
    (judgement_comes past number kinds (tag_of number.n (slots past)) (flight_of number.n (slots past)) apart
    (omega (arith, length_slots past, length_judged past)) refl refl)
act_comes n past act apart is = absurd (cc)

-- after a block of such acts
judged_onto :
    (n : ℕ) (past : List Event) (acts : List Act) → AreApart (slots past) → Each IsAutopsying acts
    → (is_named judges n acts ≡ true) ⊎ HasJudgement n (slots past) (judged past)
    → HasJudgement n (slots (onto past acts)) (judged (onto past acts))
judged_onto n past [] apart of (inl none) = absurd (cc)
judged_onto n past [] apart of (inr was) = was
judged_onto n past (act ∷ rest) apart of (inr was) =
    judged_onto n (Told act ∷ past) rest (subst AreApart (sym (same_slots past act of.0)) apart) of.1 (inr (act_stays n past act of.0 was))
judged_onto n past (act ∷ rest) apart of (inl some) =
    elim (either_true (judges n act) (is_named judges n rest) some) [
      | inl here ↦ judged_onto n (Told act ∷ past) rest (subst AreApart (sym (same_slots past act of.0)) apart) of.1 (inr (act_comes n past act apart here))
      | inr later ↦ judged_onto n (Told act ∷ past) rest (subst AreApart (sym (same_slots past act of.0)) apart) of.1 (inl later)
    ]

-- ---- which acts an autopsy has

at_autopsying : (y : ℕ) (acts : List Act) → AreAt y acts → Each IsAutopsying acts
at_autopsying y [] at = tt
at_autopsying y (Judged number kinds ∷ rest) at = (tt, at_autopsying y rest at.1)
at_autopsying y (Recorded place io doubt kinds ncq_off speed_down pio keep action ∷ rest) at = (tt, at_autopsying y rest at.1)
at_autopsying y (Cleared place ∷ rest) at = (tt, at_autopsying y rest at.1)
at_autopsying y (Hot place generation ∷ rest) at = (tt, at_autopsying y rest at.1)
at_autopsying y (Action place kinds chosen ∷ rest) at = (tt, at_autopsying y rest at.1)
at_autopsying y (act ∷ rest) at = absurd at.0

all_autopsying :
    (head : PortHead) (past : List Event) (places : List ℕ) → Each IsAutopsying (flat_map (λ place. examined_acts (autopsy_view head past place)) places)
all_autopsying head past [] = tt
all_autopsying head past (k ∷ places) =
    every_append IsAutopsying (examined_acts (autopsy_view head past k)) _
    (at_autopsying k (examined_acts (autopsy_view head past k)) (examined_at head past k)) (all_autopsying head past places)

abbrev judging : JudgedIssue → Act
judging issue = Judged issue.flight.number (record { 0 = issue.kinds })

judged_by :
    (n : ℕ) (s : AutopsyView) (tag : ℕ) (g : InFlight) (more : List (JudgedIssue)) (mine : Bool) → is_named judges n (map judging more) ≡ true
    → is_named judges n (map judging (if mine then record { flight = g; kinds = final_kinds s tag g } ∷ more else more)) ≡ true
judged_by n s tag g more true is = either_right (g.number.n == n) _ is
judged_by n s tag g more false is = is

judged_first :
    (s : AutopsyView) (tag : ℕ) (f : InFlight) (more : List (JudgedIssue)) (mine : Bool) → mine ≡ true
    → is_named judges f.number.n (map judging (if mine then record { flight = f; kinds = final_kinds s tag f } ∷ more else more)) ≡ true
judged_first s tag f more true is = either_left (f.number.n == f.number.n) _ (eq-eqb f.number.n f.number.n refl)
judged_first s tag f more false is = absurd (cc)

-- an owned issue of a place is judged there
judged_names :
    (s : AutopsyView) (tag : ℕ) (rest : List (Option InFlight)) (i : ℕ) (f : InFlight) → kept_at rest i ≡ Some f → is_owned_by s.place f ≡ true
    → is_named judges f.number.n (map judging (judged_from s tag rest)) ≡ true
judged_names s tag [] i f here mine = absurd (cc)
judged_names s tag (None ∷ rest) zero f here mine = absurd (cc)
judged_names s tag (None ∷ rest) (suc i) f here mine = judged_names s (tag + 1) rest i f here mine
judged_names s tag (Some g ∷ rest) zero f here mine =
    let same : f ≡ g = cc in
    subst (λ x. is_named judges f.number.n (map judging (judged_from s tag (Some x ∷ rest))) ≡ true) same
    (judged_first s tag f (judged_from s (tag + 1) rest) (is_owned_by s.place f) mine)
judged_names s tag (Some g ∷ rest) (suc i) f here mine =
    judged_by f.number.n s tag g (judged_from s (tag + 1) rest) (is_owned_by s.place g) (judged_names s (tag + 1) rest i f here mine)

any_at : (place : ℕ) (slots : List (Option InFlight)) (i : ℕ) (f : InFlight) → kept_at slots i ≡ Some f → is_owned_by place f ≡ true
    → list_any (is_owned_at place) slots ≡ true
any_at place [] i f here mine = absurd (cc)
any_at place (slot ∷ slots) zero f here mine =
    let same : Some f ≡ slot = cc in
    either_left (is_owned_at place slot) _ (subst (λ x. is_owned_at place x ≡ true) same mine)
any_at place (slot ∷ slots) (suc i) f here mine = either_right (is_owned_at place slot) _ (any_at place slots i f here mine)

named_first : (n : ℕ) (acts more : List Act) → is_named judges n acts ≡ true → is_named judges n (acts ++ more) ≡ true
named_first n acts more is = named_append judges n acts more ∙ either_left (is_named judges n acts) (is_named judges n more) is

named_last : (n : ℕ) (acts more : List Act) → is_named judges n more ≡ true → is_named judges n (acts ++ more) ≡ true
named_last n acts more is = named_append judges n acts more ∙ either_right (is_named judges n acts) (is_named judges n more) is

examined_names_by :
    (n : ℕ) (s : AutopsyView) (examined : Bool) → examined ≡ true → is_named judges n (map judging (judged_here s)) ≡ true
    → is_named judges n (if examined then autopsy_of s else []) ≡ true
examined_names_by n s false is named_here = absurd (cc)
examined_names_by n s true is named_here =
    let told : List Act = map judging (judged_here s) in
    let heat : List Act = told_if (is_hotplugged s) (Hot s.place (probe_limit_of s.probes s.clock)) in
    named_first n (told ++ recorded_acts s ++ heat) (Action s.place (record { 0 = all_kinds s }) (action_of s) ∷ [])
    (named_first n (told ++ recorded_acts s) heat (named_first n told (recorded_acts s) named_here))

examined_names :
    (head : PortHead) (past : List Event) (tag : ℕ) (f : InFlight) → kept_at (slots past) tag ≡ Some f → f.owned ≡ true
    → is_named judges f.number.n (examined_acts (autopsy_view head past f.place)) ≡ true
examined_names head past tag f here owned =
    let s = autopsy_view head past f.place in
    let mine : is_owned_by f.place f ≡ true = rw (eq-eqb f.place f.place refl) owned in
    examined_names_by f.number.n s (is_examined s) (either_left _ _ (either_left _ _ (any_at f.place (slots past) tag f here mine)))
    (judged_names s 0 (slots past) tag f here mine)

above : (k x : ℕ) → (x ≡ k → ⊥) → k ≤ x → k + 1 ≤ x
above k x other from = omega (arith, other, from)

here_or_later :
    (n : ℕ) (told : ℕ → List Act) (k x : ℕ) (more : List Act) (same : Bool) → (x == k) ≡ same → k ≤ x → is_named judges n (told x) ≡ true
    → (k + 1 ≤ x → is_named judges n more ≡ true) → is_named judges n (told k ++ more) ≡ true
here_or_later n told k x more true e from is later =
    named_first n (told k) more (subst (λ y. is_named judges n (told y) ≡ true) (eqb-true x k e) is)
here_or_later n told k x more false e from is later =
    named_last n (told k) more (later (above k x (λ same. eqb-false x k e same) from))

places_name :
    (n : ℕ) (told : ℕ → List Act) (m k x : ℕ) → k ≤ x → x < k + m → is_named judges n (told x) ≡ true
    → is_named judges n (flat_map told (range_with_len k m)) ≡ true
places_name n told zero k x from to is = absurd (omega (arith, from, to))
places_name n told (suc m) k x from to is =
    here_or_later n told k x (flat_map told (range_with_len (k + 1) m)) (x == k) refl from is
    (λ above. places_name n told m (k + 1) x above (omega (arith, to)) is)

abbrev pub examinations : PortHead → List Event → List Act
examinations head past = flat_map (λ place. examined_acts (autopsy_view head past place)) (places_of head)

autopsy_names :
    (head : PortHead) (past : List Event) (tag : ℕ) (f : InFlight) → kept_at (slots past) tag ≡ Some f → f.owned ≡ true → f.place < head.places
    → is_named judges f.number.n (examinations head past) ≡ true
autopsy_names head past tag f here owned within =
    places_name f.number.n (λ place. examined_acts (autopsy_view head past place)) head.places 0 f.place (omega arith) (omega (arith, within))
    (examined_names head past tag f here owned)

-- each number is one that the autopsy names, or none of the issues has it
number_named :
    (head : PortHead) (past : List Event) → AreOwned (slots past) → EachFlight (λ f. f.place < head.places) (slots past) → (n : ℕ) (tag : Option ℕ)
    → tag_of n (slots past) ≡ tag → (is_named judges n (examinations head past) ≡ true) ⊎ HasJudgement n (slots past) (judged past)
number_named head past owned within n None is = inr (fresh_has n (slots past) (judged past) (fresh_unfound n (slots past) is))
number_named head past owned within n (Some tag) is =
    let at = position-Some (is_issue n) (slots past) tag None is in
    let f = named n (get_or (slots past) tag None) at.1 in
    let here : kept_at (slots past) tag ≡ Some f.0 = unwrap_or-slice_get (slots past) tag None ∙ f.1.0 in
    inl (subst (λ m. is_named judges m (examinations head past) ≡ true) f.1.1
    (autopsy_names head past tag f.0 here (each_at (λ g. g.owned ≡ true) (slots past) tag f.0 owned here)
    (each_at (λ g. g.place < head.places) (slots past) tag f.0 within here)))

-- after the examinations of a recovery that owns each issue, each at one of the port's places, each is judged
pub autopsy_judges :
    (head : PortHead) (past : List Event) → IsAllowed head past → AreOwned (slots past) → EachFlight (λ f. f.place < head.places) (slots past)
    → (time : ℕ) (who : Who) (seq : ℕ) (step : Step)
    → AreJudged (slots (onto (Entered time who seq step ∷ past) (examinations head past))) (judged (onto (Entered time who seq step ∷ past) (examinations head past)))
autopsy_judges head past h owned within time who seq step =
    let of = all_autopsying head past (places_of head) in
    all_judged (slots (onto (Entered time who seq step ∷ past) (examinations head past))) (judged (onto (Entered time who seq step ∷ past) (examinations head past)))
    (λ n. judged_onto n (Entered time who seq step ∷ past) (examinations head past) (are_numbered head past h).apart of
    (number_named head past owned within n (tag_of n (slots past)) refl))
