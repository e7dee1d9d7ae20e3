-- Each issue in flight is judged by the autopsy.
use Rattle.std.proofs.Common.{◌≡◌, ◌≢◌, ◌∙◌, ℕ, ◌+◌, ◌<◌, ◌≤◌, Bool, true, false, not, ◌&&◌, ◌||◌, ◌==◌, nat_lt, cond, List, [], ◌∷◌, ◌++◌, Option, None, Some, inl, inr, suc, zero, length, map, flat_map, find, unwrap_or, slice_set, refl, sym, ap, subst, arith, if◌then◌else◌}
use Rattle.std.specs.List.{list_all, list_any, range_with_len, position_or_len}
use Rattle.std.proofs.lemmas.Bool.{eqb-true, eq-eqb, lt-ltb}
use Rattle.std.proofs.lemmas.List.Folds.{list_any-append}
use Rattle.ata_base.specs.declared.cmd.Cmd.{Cmd}
use Rattle.ata_base.specs.declared.err_mask.ErrMask.{ErrMask}
use Rattle.ata_script.specs.declared.port_head.PortHead.{PortHead}
use Rattle.ata_trace.specs.Event.{Event, onto}
use Rattle.ata_trace.specs.Event.Event.{Entered, Told}
use Rattle.ata_trace.specs.declared.act.Act.{Act}
use Rattle.ata_trace.specs.declared.act.Act.TheVariants.{Judged, Recorded, Cleared, Hot, Action, Autopsied, Begun, Ended, Issued}
use Rattle.ata_trace.specs.declared.step.Step.{Step}
use Rattle.ata_trace.specs.declared.who.Who.{Who}
use Rattle.host_tags.specs.Numbers.{is_issue, tag_of, flight_of}
use Rattle.host_tags.specs.Slots.{flight_at, is_owned_at}
use Rattle.host_tags.specs.declared.in_flight.InFlight.{InFlight}
use Rattle.port_past.specs.Commands.{commands, command_of}
use Rattle.port_past.specs.PortState.{is_running, is_autopsied}
use Rattle.port_past.specs.Issues.{issue_count}
use Rattle.port_past.specs.Judged.{judged, with_judgement}
use Rattle.port_past.specs.Logs.{logs}
use Rattle.port_past.specs.Noted.{tferr_noted}
use Rattle.port_past.specs.Slots.{slots}
use Rattle.eh_autopsy.specs.declared.failed_issue.FailedIssue.{FailedIssue}
use Rattle.port_past.specs.declared.judgement.Judgement.{Judgement}
use Rattle.drive_model.specs.declared.log_told.LogTold.{LogTold}
use Rattle.port_rules.specs.Autopsy.{recorded_acts, autopsy_of, is_examined, examined_acts, autopsy_acts}
use Rattle.port_rules.specs.Blame.{JudgedIssue, is_owned_by, final_kinds, judged_from, judged_here}
use Rattle.port_past.specs.Heads.{places_of}
use Rattle.port_rules.specs.AutopsyView.{AutopsyView, autopsy_view}
use Rattle.port_stands.proofs.Autopsies.{judged_acts, hot_acts, action_act, before_action}
use Rattle.ata_base.proofs.Truth.{both, either_right, either_true}
use Rattle.port_stands.proofs.Blocks.{left_alone, all_wider, flight_step}
use Rattle.ata_trace.proofs.Pasts.{onto_append}
use Rattle.port_stands.proofs.GuardAutopsy.{is_autopsy_act, autopsy_all}
use Rattle.port_past.proofs.Sizes.{length_slots, flight_within}
use Rattle.port_stands.proofs.Marks.{was_there}
use Rattle.port_stands.specs.Gate.{AreNumbered}
use Rattle.ata_base.specs.Each.{Each}
use Rattle.port_stands.specs.Known.{AreKnown}
use Rattle.port_stands.specs.Stands.{IsJudged, AreJudged}
use Rattle.port_stands.specs.Within.{IsWithin}
use Rattle.port_stands.specs.Words.{is_no_issue}
use Rattle.port_past.proofs.JudgedSizes.{length_judged}

set_keeps : (xs : List (Option Judgement)) (i j : ℕ) (x : Judgement) → IsJudged xs j → IsJudged (slice_set xs i (Some x)) j
set_keeps [] i j x is = is
set_keeps (y ∷ xs) zero zero x is = record { judgement = x; told = refl }
set_keeps (y ∷ xs) zero (suc j) x is = record { judgement = is.judgement; told = is.told }
set_keeps (y ∷ xs) (suc i) zero x is = record { judgement = is.judgement; told = is.told }
set_keeps (y ∷ xs) (suc i) (suc j) x is =
    let later = set_keeps xs i j x (record { judgement = is.judgement; told = is.told }) in
    record { judgement = later.judgement; told = later.told }

set_judges : (xs : List (Option Judgement)) (i : ℕ) (x : Judgement) → i < length xs → IsJudged (slice_set xs i (Some x)) i
set_judges [] i x within = absurd (omega arith)
set_judges (y ∷ xs) zero x within = record { judgement = x; told = refl }
set_judges (y ∷ xs) (suc i) x within =
    let later = set_judges xs i x (omega arith) in
    record { judgement = later.judgement; told = later.told }

with_keeps :
    (kinds : ErrMask) (tferr_noted : List (Option FailedIssue)) (logs : List (Option LogTold)) (tag : Option ℕ) (f : Option InFlight) (was : List (Option Judgement)) (j : ℕ)
    → IsJudged was j → IsJudged (with_judgement kinds tferr_noted logs tag f was) j
with_keeps kinds tferr_noted logs None f was j is = is
with_keeps kinds tferr_noted logs (Some tag) None was j is = is
with_keeps kinds tferr_noted logs (Some tag) (Some f) was j is = set_keeps was tag j _ is

-- an act by which recovery neither begins nor ends
abbrev pub is_within_recovery : Act → Bool
is_within_recovery Begun = false
is_within_recovery Ended = false
is_within_recovery act = true

pub judged_step : (past : List Event) (act : Act) (tag : ℕ) → is_within_recovery act ≡ true → IsJudged (judged past) tag → IsJudged (judged (Told act ∷ past)) tag
judged_step past Begun tag none is = absurd (cc)
judged_step past Ended tag none is = absurd (cc)
judged_step past (Judged number kinds) tag none is =
    with_keeps kinds (tferr_noted past) (logs past) (tag_of number.n (slots past)) (flight_of number.n (slots past)) (judged past) tag is
judged_step past act tag none is = is

pub judged_onto : (past : List Event) (acts : List Act) (tag : ℕ) → list_all is_within_recovery acts ≡ true → IsJudged (judged past) tag → IsJudged (judged (onto past acts)) tag
judged_onto past [] tag all is = is
judged_onto past (act ∷ rest) tag all is =
    let parts = both (is_within_recovery act) (list_all is_within_recovery rest) all in
    judged_onto (Told act ∷ past) rest tag parts.1 (judged_step past act tag parts.0 is)

-- ---- an issue is found by its number

pub record IsFound (n : ℕ) (slots : List (Option InFlight)) (tag : ℕ) (f : InFlight) : Type 0 where
  pub under : position_or_len (is_issue n) slots ≡ tag
  pub issue : find (is_issue n) slots ≡ Some (Some f)

plus_one : (n : ℕ) → 1 + n ≡ suc n
plus_one n = omega arith

found_later :
    (b : Bool) (n : ℕ) (slot : Option InFlight) (slots : List (Option InFlight)) (tag : ℕ) (f : InFlight) → is_issue n slot ≡ false
    → IsFound n slots tag f → IsFound n (slot ∷ slots) (suc tag) f
found_later b n slot slots tag f none found = record {
  under = ap (λ c. cond (not c) (1 + position_or_len (is_issue n) slots) 0) none ∙ ap (λ k. 1 + k) found.under ∙ plus_one tag;
  issue = ap (λ c. cond c (Some slot) (find (is_issue n) slots)) none ∙ found.issue;
}

pub found_by_number :
    (slots : List (Option InFlight)) (tag : ℕ) (f : InFlight) → flight_at slots tag ≡ Some f
    → ((u : ℕ) (g : InFlight) → flight_at slots u ≡ Some g → g.number.n ≡ f.number.n → u ≡ tag) → IsFound f.number.n slots tag f
found_by_number [] tag f here apart = absurd (cc)
found_by_number (None ∷ slots) zero f here apart = absurd (cc)
found_by_number (Some g ∷ slots) zero f here apart =
    let same : g ≡ f = cc in
    let one : (g.number.n == f.number.n) ≡ true = eq-eqb g.number.n f.number.n (ap (λ x. x.number.n) same) in
    record {
      under = ap (λ c. cond (not c) (1 + position_or_len (is_issue f.number.n) slots) 0) one;
      issue = ap (λ c. cond c (Some (Some g)) (find (is_issue f.number.n) slots)) one ∙ ap Some here;
    }
found_by_number (None ∷ slots) (suc tag) f here apart =
    found_later false f.number.n None slots tag f refl
    (found_by_number slots tag f here (λ u g at same. suc_same u tag (apart (suc u) g at same)))
  where
    suc_same : (u t : ℕ) → suc u ≡ suc t → u ≡ t
    suc_same u t e = omega (arith, e)
found_by_number (Some h ∷ slots) (suc tag) f here apart =
    found_later false f.number.n (Some h) slots tag f (is_other (h.number.n == f.number.n) refl)
    (found_by_number slots tag f here (λ u g at same. suc_same u tag (apart (suc u) g at same)))
  where
    suc_same : (u t : ℕ) → suc u ≡ suc t → u ≡ t
    suc_same u t e = omega (arith, e)

    is_other : (b : Bool) → (h.number.n == f.number.n) ≡ b → (h.number.n == f.number.n) ≡ false
    is_other true e = absurd (zero_suc tag (apart 0 h refl (eqb-true h.number.n f.number.n e)))
      where
        zero_suc : (t : ℕ) → 0 ≡ suc t → ⊥
        zero_suc t e = omega (arith, e)
    is_other false e = e

-- ---- the acts of the autopsy

-- whether an act judges the issue of a number
abbrev pub is_judging : ℕ → Act → Bool
is_judging n (Judged number kinds) = number.n == n
is_judging n act = false

judging_sets :
    (past : List Event) (act : Act) (tag : ℕ) (f : InFlight) → is_judging f.number.n act ≡ true
    → IsFound f.number.n (slots past) tag f → tag < 32 → IsJudged (judged (Told act ∷ past)) tag
judging_sets past (Judged number kinds) tag f is found within =
    let same : number.n ≡ f.number.n = eqb-true number.n f.number.n is in
    let t : tag_of number.n (slots past) ≡ Some tag =
    ap (λ n. tag_of n (slots past)) same
    ∙ ap (λ k. cond (nat_lt k (length (slots past))) (Some k) None) found.under
    ∙ ap (λ b. cond b (Some tag) None) (lt-ltb tag (length (slots past)) (omega (arith, within, length_slots past))) in
    let g : flight_of number.n (slots past) ≡ Some f =
    ap (λ n. flight_of n (slots past)) same ∙ ap (λ o. unwrap_or o None) found.issue in
    rw (t, g) (set_judges (judged past) tag _ (omega (arith, within, length_judged past)))
judging_sets past act tag f is found within = absurd (cc)

autopsy_slots : (past : List Event) (act : Act) → is_autopsy_act act ≡ true → slots (Told act ∷ past) ≡ slots past
autopsy_slots past (Judged number kinds) is = refl
autopsy_slots past (Recorded place io dubious kinds ncq_off speed_down pio keep action) is = refl
autopsy_slots past (Cleared place) is = refl
autopsy_slots past (Hot place generation) is = refl
autopsy_slots past (Action place kinds chosen) is = refl
autopsy_slots past act is = absurd (cc)

autopsy_begins : (act : Act) → is_autopsy_act act ≡ true → is_within_recovery act ≡ true
autopsy_begins Begun is = absurd (cc)
autopsy_begins Ended is = absurd (cc)
autopsy_begins act is = refl

pub named_judged :
    (past : List Event) (acts : List Act) (tag : ℕ) (f : InFlight) → list_all is_autopsy_act acts ≡ true
    → list_any (is_judging f.number.n) acts ≡ true → IsFound f.number.n (slots past) tag f → tag < 32 → IsJudged (judged (onto past acts)) tag
named_judged past [] tag f all any found within = absurd (cc)
named_judged past (act ∷ rest) tag f all any found within =
    let parts = both (is_autopsy_act act) (list_all is_autopsy_act rest) all in
    elim (either_true (is_judging f.number.n act) (list_any (is_judging f.number.n) rest) any) [
      | inl here ↦ judged_onto (Told act ∷ past) rest tag
          (all_wider is_autopsy_act is_within_recovery autopsy_begins rest parts.1)
          (judging_sets past act tag f here found within)
      | inr later ↦ named_judged (Told act ∷ past) rest tag f parts.1 later
          (subst (λ s. IsFound f.number.n s tag f) (sym (autopsy_slots past act parts.0)) found) within
    ]

-- ---- each owned issue is named

any_left : {A : Type 0} (p : A → Bool) (xs ys : List A) → list_any p xs ≡ true → list_any p (xs ++ ys) ≡ true
any_left p xs ys is = list_any-append p xs ys ∙ ap (λ b. b || list_any p ys) is

any_right : {A : Type 0} (p : A → Bool) (xs ys : List A) → list_any p ys ≡ true → list_any p (xs ++ ys) ≡ true
any_right p xs ys is = list_any-append p xs ys ∙ either_right (list_any p xs) (list_any p ys) is

any_flat :
    (p : Act → Bool) (f : ℕ → List Act) (from n x : ℕ) → from ≤ x → x < from + n → list_any p (f x) ≡ true
    → list_any p (flat_map f (range_with_len from n)) ≡ true
any_flat p f from zero x low high is = absurd (omega (arith, low, high))
any_flat p f from (suc n) x low high is = flat_by (from == x) refl (λ more. any_flat p f (from + 1) n x more (omega (arith, high)) is)
  where
    flat_by :
        (b : Bool) → (from == x) ≡ b → (from + 1 ≤ x → list_any p (flat_map f (range_with_len (from + 1) n)) ≡ true)
        → list_any p (f from ++ flat_map f (range_with_len (from + 1) n)) ≡ true
    flat_by true e later =
        any_left p (f from) (flat_map f (range_with_len (from + 1) n)) (subst (λ i. list_any p (f i) ≡ true) (sym (eqb-true from x e)) is)
    flat_by false e later =
        any_right p (f from) (flat_map f (range_with_len (from + 1) n)) (later (differ_above from x low e))
      where
        differ_above : (a b : ℕ) → a ≤ b → (a == b) ≡ false → a + 1 ≤ b
        differ_above a b low e = omega (arith, low, differ a b e)
          where
            differ : (a b : ℕ) → (a == b) ≡ false → a ≢ b
            differ a b e same = cc (e, eq-eqb a b same)

any_judged :
    (n : ℕ) (issues : List JudgedIssue) → list_any (λ issue. issue.flight.number.n == n) issues ≡ true
    → list_any (is_judging n) (map (λ (issue : JudgedIssue). Judged issue.flight.number (record { 0 = issue.kinds })) issues) ≡ true
any_judged n [] is = absurd (cc)
any_judged n (issue ∷ rest) is =
    elim (either_true (issue.flight.number.n == n) (list_any (λ issue. issue.flight.number.n == n) rest) is) [
      | inl here ↦ rw here
      | inr later ↦ either_right (issue.flight.number.n == n) _ (any_judged n rest later)
    ]

mine_judged :
    (s : AutopsyView) (k : ℕ) (slots : List (Option InFlight)) (tag : ℕ) (f : InFlight) → flight_at slots tag ≡ Some f
    → is_owned_by s.place f ≡ true → list_any (λ issue. issue.flight.number.n == f.number.n) (judged_from s k slots) ≡ true
mine_judged s k [] tag f here mine = absurd (cc)
mine_judged s k (None ∷ slots) zero f here mine = absurd (cc)
mine_judged s k (None ∷ slots) (suc tag) f here mine = mine_judged s (k + 1) slots tag f here mine
mine_judged s k (Some g ∷ slots) zero f here mine =
    let same : g ≡ f = cc in
    rw (ap (is_owned_by s.place) same ∙ mine, eq-eqb g.number.n f.number.n (ap (λ x. x.number.n) same)) refl
mine_judged s k (Some g ∷ slots) (suc tag) f here mine =
    mine_by (is_owned_by s.place g) (mine_judged s (k + 1) slots tag f here mine)
  where
    mine_by :
        (b : Bool) → list_any (λ issue. issue.flight.number.n == f.number.n) (judged_from s (k + 1) slots) ≡ true
        → list_any (λ issue. issue.flight.number.n == f.number.n) (if b then record { flight = g; kinds = final_kinds s k g } ∷ judged_from s (k + 1) slots else judged_from s (k + 1) slots) ≡ true
    mine_by true later = either_right (g.number.n == f.number.n) _ later
    mine_by false later = later

pub owned_seen : (place tag : ℕ) (slots : List (Option InFlight)) (f : InFlight) → flight_at slots tag ≡ Some f → ((f.place == place) && f.owned) ≡ true → list_any (is_owned_at place) slots ≡ true
owned_seen place tag [] f here own = absurd (cc)
owned_seen place zero (None ∷ slots) f here own = absurd (cc)
owned_seen place zero (Some g ∷ slots) f here own =
    let same : g ≡ f = cc in
    ap (λ b. b || list_any (is_owned_at place) slots) (ap (λ x. (x.place == place) && x.owned) same ∙ own)
owned_seen place (suc tag) (slot ∷ slots) f here own = either_right (is_owned_at place slot) _ (owned_seen place tag slots f here own)

pub or_first : (a b c : Bool) → a ≡ true → (a || b || c) ≡ true
or_first true b c e = refl
or_first false b c e = absurd (cc)

-- an owned issue at a place of the port is judged by the autopsy of its place
owned_named :
    (head : PortHead) (past : List Event) (tag : ℕ) (f : InFlight) → flight_at (slots past) tag ≡ Some f → f.owned ≡ true → f.place < head.places
    → list_any (is_judging f.number.n) (flat_map (λ place. examined_acts (autopsy_view head past place)) (places_of head)) ≡ true
owned_named head past tag f here own within =
    let s : AutopsyView = autopsy_view head past f.place in
    let mine : ((f.place == f.place) && f.owned) ≡ true = ap (λ b. b && f.owned) (eq-eqb f.place f.place refl) ∙ own in
    let seen : is_examined s ≡ true =
    or_first (list_any (is_owned_at f.place) (slots past)) (not (s.serror == 0)) ((s.place == 0) && not s.pmp && s.frozen)
    (owned_seen f.place tag (slots past) f here mine) in
    let named : list_any (is_judging f.number.n) (autopsy_of s) ≡ true =
    any_left (is_judging f.number.n) (before_action s) (action_act s ∷ [])
    (any_left (is_judging f.number.n) (judged_acts s ++ recorded_acts s) (hot_acts s)
    (any_left (is_judging f.number.n) (judged_acts s) (recorded_acts s)
    (any_judged f.number.n (judged_here s) (mine_judged s 0 (slots past) tag f here mine)))) in
    any_flat (is_judging f.number.n) (λ place. examined_acts (autopsy_view head past place)) 0 head.places f.place (omega arith) (omega (arith, within))
    (ap (λ b. list_any (is_judging f.number.n) (if b then autopsy_of s else [])) seen ∙ named)

pub each_found : (P : Cmd → Type 0) (id : ℕ) (was : List Cmd) (c : Cmd) → command_of id was ≡ Some c → Each P was → P c
each_found P id [] c is each = absurd (cc)
each_found P id (d ∷ was) c is each = found_by (d.id == id) is (λ later. each_found P id was c later each.1)
  where
    found_by : (b : Bool) → cond b (Some d) (command_of id was) ≡ Some c → (command_of id was ≡ Some c → P c) → P c
    found_by true is later = let same : d ≡ c = cc in subst P same each.0
    found_by false is later = later is

-- an issue in flight is at a place of the port
pub flying_within :
    (head : PortHead) (past : List Event) → AreKnown past → IsWithin head past → (tag : ℕ) (f : InFlight)
    → flight_at (slots past) tag ≡ Some f → f.place < head.places
flying_within head past known within tag f here =
    let k = known.flying tag f here in
    subst (λ p. p < head.places) k.there
    (each_found (λ c. c.place < head.places) f.id (commands past) k.cmd k.found within.commands)

-- an act by which recovery neither begins nor gets its autopsy, and nothing is issued
abbrev pub is_no_turn : Act → Bool
is_no_turn Begun = false
is_no_turn Autopsied = false
is_no_turn (Issued id number tag deadline fis) = false
is_no_turn act = true

turn_begins : (past : List Event) (act : Act) → is_no_turn act ≡ true → is_running (Told act ∷ past) ≡ true → is_within_recovery act ≡ true
turn_begins past Begun is runs = is
turn_begins past Ended is runs = runs
turn_begins past act is runs = refl

turn_issues : (act : Act) → is_no_turn act ≡ true → is_no_issue act ≡ true
turn_issues (Issued id number tag deadline fis) is = is
turn_issues act is = refl

turn_runs : (past : List Event) (act : Act) → is_no_turn act ≡ true → is_running (Told act ∷ past) ≡ true → is_running past ≡ true
turn_runs past Begun none is = absurd (cc)
turn_runs past Ended none is = absurd (cc)
turn_runs past act none is = is

turn_autopsied : (past : List Event) (act : Act) → is_no_turn act ≡ true → is_autopsied (Told act ∷ past) ≡ true → is_autopsied past ≡ true
turn_autopsied past Begun none is = absurd (cc)
turn_autopsied past Autopsied none is = absurd (cc)
turn_autopsied past act none is = is

are_judged_step : (past : List Event) (act : Act) → is_no_turn act ≡ true → AreJudged past → AreJudged (Told act ∷ past)
are_judged_step past act none was = record {
  judged = λ runs done tag g here.
      let a = was_there (act ∷ []) (flight_at (slots past) tag) g (sym (flight_step act (commands past) (slots past) tag (turn_issues act none)) ∙ here) in
      judged_step past act tag (turn_begins past act none runs)
      (was.judged (turn_runs past act none runs) (turn_autopsied past act none done) tag a.0 a.1.0);
}

pub are_judged_onto : (past : List Event) (acts : List Act) → list_all is_no_turn acts ≡ true → AreJudged past → AreJudged (onto past acts)
are_judged_onto past [] all was = was
are_judged_onto past (act ∷ rest) all was =
    let parts = both (is_no_turn act) (list_all is_no_turn rest) all in
    are_judged_onto (Told act ∷ past) rest parts.1 (are_judged_step past act parts.0 was)

module _ (head : PortHead) (past : List Event) (time : ℕ) (who : Who) (seq : ℕ) (step : Step) where
  pub judged_entry :
      (acts : List Act) → list_all is_no_turn acts ≡ true → AreJudged past → AreJudged (onto (Entered time who seq step ∷ past) acts)
  judged_entry acts all was = are_judged_onto (Entered time who seq step ∷ past) acts all (record { judged = was.judged })

  -- the autopsy judges all that it finds
  pub autopsy_judges :
      AreNumbered (issue_count past) (slots past) → AreKnown past → IsWithin head past
      → ((tag : ℕ) (f : InFlight) → flight_at (slots past) tag ≡ Some f → f.owned ≡ true)
      → AreJudged (onto (Entered time who seq step ∷ past) (autopsy_acts head past))
  autopsy_judges numbered known within owned =
      let start : List Event = Entered time who seq step ∷ past in
      let told : List Act = flat_map (λ place. examined_acts (autopsy_view head past place)) (places_of head) in
      let same : slots (onto start told) ≡ slots past = left_alone is_autopsy_act slots autopsy_slots start told (autopsy_all head past) in
      subst AreJudged (sym (onto_append start told (Autopsied ∷ [])))
      (record {
        judged = λ runs done tag f here.
            let at : flight_at (slots past) tag ≡ Some f = subst (λ s. flight_at s tag ≡ Some f) same here in
            named_judged start told tag f (autopsy_all head past)
            (owned_named head past tag f at (owned tag f at) (flying_within head past known within tag f at))
            (found_by_number (slots past) tag f at (λ u g there number. numbered.apart u tag g f there at number))
            (omega (arith, flight_within (slots past) tag f at, length_slots past));
      })
