-- The acts of the autopsy: each is told of the view as it is then, since what is told of a place changes no other's view.
use Rattle.std.proofs.Common.{◌≡◌, ◌≢◌, ◌∙◌, ℕ, ◌+◌, ◌≤◌, ◌==◌, ◌&&◌, min, not, Bool, true, false, List, [], ◌∷◌, ◌++◌, map, Option, None, Some, suc, zero, drop, add-one, get_or, slice_index, refl, sym, ap, arith, if◌then◌else◌, ◌<◌}
use Rattle.std.specs.List.{flat_map, range_with_len, slice_index_or}
use Rattle.std.proofs.lemmas.Bool.{eqb-true}
use Rattle.ata_base.specs.declared.err_mask.ErrMask.{ErrMask}
use Rattle.ata_script.specs.declared.port_head.PortHead.{PortHead}
use Rattle.ata_trace.specs.Event.{Event, onto}
use Rattle.ata_trace.specs.Event.Event.{Told}
use Rattle.ata_trace.specs.declared.act.Act.{Act}
use Rattle.ata_trace.specs.declared.act.Act.TheVariants.{Judged, Recorded, Cleared, Hot, Action}
use Rattle.ata_base.specs.declared.speed_action.SpeedAction.{SpeedAction}
use Rattle.ata_base.specs.declared.speed_action.SpeedAction.TheVariants.{NoChange, NcqOff, Speed, Mode}
use Rattle.eh_reval.specs.Probes.{no_probes, probe_limit_of, with_probe as noted_at}
use Rattle.eh_reval.specs.declared.probe_times.ProbeTimes.{ProbeTimes}
use Rattle.eh_ring.specs.declared.entry.RingEntry.{RingEntry}
use Rattle.eh_ring.specs.Marks.{old_entry, with_entry}
use Rattle.host_tags.specs.declared.in_flight.InFlight.{InFlight}
use Rattle.link_model.specs.LinkView.{LinkView, empty_link}
use Rattle.port_past.specs.Clock.{clock}
use Rattle.port_past.specs.Commands.{commands}
use Rattle.port_past.specs.Attachment.{attached}
use Rattle.port_past.specs.PortState.{is_frozen}
use Rattle.port_past.specs.Hot.{probes}
use Rattle.port_past.specs.Judged.{judged}
use Rattle.port_past.specs.Identified.{generation_at}
use Rattle.port_past.specs.Links.{links, link_at, limited}
use Rattle.port_past.specs.Logs.{logs}
use Rattle.port_past.specs.Doubt.{dubious}
use Rattle.port_past.specs.Modes.{ncq_on}
use Rattle.port_past.specs.Lowerings.{lowerings}
use Rattle.port_past.specs.Noted.{tferr_noted}
use Rattle.port_past.specs.Places.{changed_at}
use Rattle.port_past.specs.Rings.{rings, no_entries}
use Rattle.port_past.specs.Slots.{slots}
use Rattle.eh_autopsy.specs.Kinds.{is_hotplug}
use Rattle.port_facts.specs.Judgements.{told_before_action}
use Rattle.port_rules.specs.Autopsy.{action_of, all_kinds, has_io, is_recorded, has_effect, verdict_at, speed_action, recording_acts, recorded_acts, autopsy_of, is_examined, examined_acts, autopsy_acts}
use Rattle.port_rules.specs.Blame.{JudgedIssue, is_owned_by, is_hotplugged, final_kinds, judged_from, judged_here}
use Rattle.port_past.specs.Heads.{places_of}
use Rattle.port_rules.specs.AutopsyView.{AutopsyView, autopsy_view}
use Rattle.port_rules.specs.Told.{told_if}
use Rattle.port_facts.specs.Allowed.{AreAllowed}
use Rattle.port_facts.proofs.Allowed.{allowed_append}
use Rattle.host_tags.proofs.FlightLemmas.{at_front, at_rest}
use Rattle.port_facts.proofs.Owned.{AreSteady, append_steady}
use Rattle.port_rules.proofs.Views.{IsOff, off_view}
use Rattle.host_tags.specs.EachFlight.{kept_at}
use Rattle.port_past.specs.JudgedSlots.{AreJudged}

-- ---- what the autopsy of a place leaves

-- an act of the autopsy of a place
abbrev pub IsAt : ℕ → Act → Type 0
IsAt y (Judged number kinds) = Unit {0}
IsAt y (Recorded place io doubt kinds ncq_off speed_down pio keep action) = place ≡ y
IsAt y (Cleared place) = place ≡ y
IsAt y (Hot place generation) = place ≡ y
IsAt y (Action place kinds chosen) = place ≡ y
IsAt y _ = ⊥

abbrev pub AreAt : ℕ → List Act → Type 0
AreAt y [] = Unit {0}
AreAt y (act ∷ rest) = IsAt y act × AreAt y rest

at_append : (y : ℕ) (acts more : List Act) → AreAt y acts → AreAt y more → AreAt y (acts ++ more)
at_append y [] more first later = later
at_append y (act ∷ rest) more first later = (first.0, at_append y rest more first.1 later)

at_steady : (y : ℕ) (acts : List Act) → AreAt y acts → AreSteady acts
at_steady y [] at = tt
at_steady y (Judged number kinds ∷ rest) at = (tt, at_steady y rest at.1)
at_steady y (Recorded place io doubt kinds ncq_off speed_down pio keep action ∷ rest) at = (tt, at_steady y rest at.1)
at_steady y (Cleared place ∷ rest) at = (tt, at_steady y rest at.1)
at_steady y (Hot place generation ∷ rest) at = (tt, at_steady y rest at.1)
at_steady y (Action place kinds chosen ∷ rest) at = (tt, at_steady y rest at.1)
at_steady y (act ∷ rest) at = absurd at.0

-- it is told of no other place
off_of : (y x : ℕ) (act : Act) → x ≢ y → IsAt y act → IsOff x act
off_of y x (Judged number kinds) other at = tt
off_of y x (Recorded place io doubt kinds ncq_off speed_down pio keep action) other at = λ e. other (e ∙ at)
off_of y x (Cleared place) other at = λ e. other (e ∙ at)
off_of y x (Hot place generation) other at = λ e. other (e ∙ at)
off_of y x (Action place kinds chosen) other at = λ e. other (e ∙ at)
off_of y x act other at = absurd at

other_view :
    (head : PortHead) (p : List Event) (y x : ℕ) (act : Act) → x ≢ y → IsAt y act
    → autopsy_view head (Told act ∷ p) x ≡ autopsy_view head p x
other_view head p y x act other at = off_view head p x act (off_of y x act other at)

views_onto :
    (head : PortHead) (y x : ℕ) (p : List Event) (acts : List Act) → x ≢ y → AreAt y acts
    → autopsy_view head (onto p acts) x ≡ autopsy_view head p x
views_onto head y x p [] other at = refl
views_onto head y x p (act ∷ rest) other at =
    views_onto head y x (Told act ∷ p) rest other at.1 ∙ other_view head p y x act other at.0

-- ---- one place

one_later : (tag : ℕ) (xs : List (Option InFlight)) (x : Option InFlight) (rest : List (Option InFlight))
    → drop tag xs ≡ x ∷ rest → drop (tag + 1) xs ≡ rest
one_later tag xs x rest is = ap (λ j. drop j xs) (add-one tag) ∙ at_rest xs tag x rest is

both_true : (b c : Bool) (k place : ℕ) → (b && c) ≡ true → (b ≡ true → place ≡ k) → (place ≡ k) × (c ≡ true)
both_true true c k place is at = (at refl, is)
both_true false c k place is at = absurd (cc)

judges_by :
    (head : PortHead) (past : List Event) (k tag : ℕ) (f : InFlight) (p : List Event) (more : List (JudgedIssue)) (mine : Bool)
    → is_owned_by k f ≡ mine → autopsy_view head p k ≡ autopsy_view head past k → kept_at (slots p) tag ≡ Some f
    → ((after : List Event) → slots after ≡ slots p → autopsy_view head after k ≡ autopsy_view head past k
    → AreAllowed head after (map (λ (issue : JudgedIssue). Judged issue.flight.number (record { 0 = issue.kinds })) more))
    → AreAllowed head p (map (λ (issue : JudgedIssue). Judged issue.flight.number (record { 0 = issue.kinds }))
    (if mine then record { flight = f; kinds = final_kinds (autopsy_view head past k) tag f } ∷ more else more))
judges_by head past k tag f p more false is same here later = later p refl same
judges_by head past k tag f p more true is same here later =
    let mine : (f.place ≡ k) × (f.owned ≡ true) = both_true (f.place == k) f.owned k f.place is (eqb-true f.place k) in (
      record {
        tag = tag;
        flight = f;
        here = here;
        numbered = refl;
        owned = mine.1;
        final = ap (λ s. final_kinds s tag f) (sym same) ∙ ap (λ x. final_kinds (autopsy_view head p x) tag f) (sym mine.0);
      },
      later (Told (Judged f.number (record { 0 = final_kinds (autopsy_view head past k) tag f })) ∷ p) refl same,
    )

judged_allowed :
    (head : PortHead) (past : List Event) (k tag : ℕ) (rest : List (Option InFlight)) (p : List Event)
    → drop tag (slots p) ≡ rest → autopsy_view head p k ≡ autopsy_view head past k
    → AreAllowed head p (map (λ (issue : JudgedIssue). Judged issue.flight.number (record { 0 = issue.kinds })) (judged_from (autopsy_view head past k) tag rest))
judged_allowed head past k tag [] p is same = tt
judged_allowed head past k tag (None ∷ rest) p is same =
    judged_allowed head past k (tag + 1) rest p (one_later tag (slots p) None rest is) same
judged_allowed head past k tag (Some f ∷ rest) p is same =
    judges_by head past k tag f p (judged_from (autopsy_view head past k) (tag + 1) rest) (is_owned_by k f) refl same (at_front (slots p) tag (Some f) rest is)
    (λ after slots_same view_same. judged_allowed head past k (tag + 1) rest after
    (ap (drop (tag + 1)) slots_same ∙ one_later tag (slots p) (Some f) rest is) view_same)

judged_at : (k : ℕ) (issues : List (JudgedIssue)) → AreAt k (map (λ (issue : JudgedIssue). Judged issue.flight.number (record { 0 = issue.kinds })) issues)
judged_at k [] = tt
judged_at k (issue ∷ issues) = (tt, judged_at k issues)

-- what is told of issues leaves each view
judged_view :
    (head : PortHead) (p : List Event) (x : ℕ) (issues : List (JudgedIssue))
    → autopsy_view head (onto p (map (λ (issue : JudgedIssue). Judged issue.flight.number (record { 0 = issue.kinds })) issues)) x ≡ autopsy_view head p x
judged_view head p x [] = refl
judged_view head p x (issue ∷ issues) = judged_view head (Told (Judged issue.flight.number (record { 0 = issue.kinds })) ∷ p) x issues

-- after an error whose action has an effect, and whose verdict doesn't keep the entries, they become old
cleared_by :
    (head : PortHead) (p : List Event) (place : ℕ) (io dubious : Bool) (kinds : ErrMask) (ncq_off speed_down pio keep : Bool) (action : SpeedAction)
    (effect : Bool) → has_effect action ≡ effect
    → AreAllowed head (Told (Recorded place io dubious kinds ncq_off speed_down pio keep action) ∷ p) (told_if (effect && not keep) (Cleared place))
cleared_by head p place io dubious kinds ncq_off speed_down pio keep action false is = tt
cleared_by head p place io dubious kinds ncq_off speed_down pio true action true is = tt
cleared_by head p place io dubious kinds ncq_off speed_down pio false action true is = (
  record {
    io = io;
    dubious = dubious;
    kinds = kinds;
    ncq_off = ncq_off;
    speed_down = speed_down;
    pio = pio;
    action = action;
    before = p;
    told = refl;
    effect = is;
  },
  tt,
)

records_by :
    (head : PortHead) (past p : List Event) (k : ℕ) (recorded : Bool) → is_recorded (autopsy_view head past k) ≡ recorded
    → autopsy_view head p k ≡ autopsy_view head past k
    → AreAllowed head p (if recorded then recording_acts (autopsy_view head past k) (verdict_at (autopsy_view head past k)) (speed_action (autopsy_view head past k)) else [])
records_by head past p k false is same = tt
records_by head past p k true is same =
    let s = autopsy_view head past k in (
      record {
        counted = ap is_recorded same ∙ is;
        io_same = ap has_io (sym same);
        doubt = ap (λ x. x.dubious) (sym same);
        all = ap all_kinds (sym same);
        ncq_off_same = ap (λ x. (verdict_at x).ncq_off) (sym same);
        speed_down_same = ap (λ x. (verdict_at x).speed_down) (sym same);
        pio_same = ap (λ x. (verdict_at x).pio) (sym same);
        keep_same = ap (λ x. (verdict_at x).keep) (sym same);
        action_same = ap (λ x. speed_action x) (sym same);
      },
      cleared_by head p k (has_io s) s.dubious (record { 0 = all_kinds s }) (verdict_at s).ncq_off (verdict_at s).speed_down (verdict_at s).pio
          (verdict_at s).keep (speed_action s) (has_effect (speed_action s)) refl,
    )

recorded_at_by : (b : Bool) (k : ℕ) (acts : List Act) → AreAt k acts → AreAt k (if b then acts else [])
recorded_at_by true k acts at = at
recorded_at_by false k acts at = tt

if_at : (b : Bool) (k : ℕ) (act : Act) → IsAt k act → AreAt k (told_if b act)
if_at true k act at = (at, tt)
if_at false k act at = tt

pub examined_at : (head : PortHead) (past : List Event) (k : ℕ) → AreAt k (examined_acts (autopsy_view head past k))
examined_at head past k =
    let s = autopsy_view head past k in
    recorded_at_by (is_examined s) k (autopsy_of s)
    (at_append k _ _
    (at_append k _ _
    (at_append k _ _ (judged_at k (judged_here s))
    (recorded_at_by (is_recorded s) k _ (refl, if_at (has_effect (speed_action s) && not (verdict_at s).keep) k (Cleared k) refl)))
    (if_at (is_hotplugged s) k (Hot k (probe_limit_of s.probes s.clock)) refl))
    (refl, tt))

examined_by :
    (head : PortHead) (past p : List Event) (k : ℕ) (examined : Bool) → AreAllowed head p (autopsy_of (autopsy_view head past k))
    → AreAllowed head p (if examined then autopsy_of (autopsy_view head past k) else [])
examined_by head past p k true allowed = allowed
examined_by head past p k false allowed = tt

-- ---- what `hot X` goes by, which what is told of issues and of the error leaves

abbrev heat : PortHead → List Event → ℕ → ℕ × Bool × ProbeTimes × ℕ
heat head p x = ((link_at (links head p) x).serror, slice_index_or (attached p) x false, slice_index_or (probes p) x no_probes, clock p)

abbrev IsCool : Act → Type 0
IsCool (Judged number kinds) = Unit {0}
IsCool (Recorded place io doubt kinds ncq_off speed_down pio keep action) = Unit {0}
IsCool (Cleared place) = Unit {0}
IsCool _ = ⊥

abbrev AreCool : List Act → Type 0
AreCool [] = Unit {0}
AreCool (act ∷ rest) = IsCool act × AreCool rest

cool_append : (acts more : List Act) → AreCool acts → AreCool more → AreCool (acts ++ more)
cool_append [] more first later = later
cool_append (act ∷ rest) more first later = (first.0, cool_append rest more first.1 later)

cool_if : (b : Bool) (act : Act) → IsCool act → AreCool (told_if b act)
cool_if true act cool = (cool, tt)
cool_if false act cool = tt

cool_either : (b : Bool) (acts : List Act) → AreCool acts → AreCool (if b then acts else [])
cool_either true acts cool = cool
cool_either false acts cool = tt

judged_cool : (issues : List JudgedIssue) → AreCool (map (λ (issue : JudgedIssue). Judged issue.flight.number (record { 0 = issue.kinds })) issues)
judged_cool [] = tt
judged_cool (issue ∷ issues) = (tt, judged_cool issues)

serror_limited : (g place x : ℕ) (ls : List LinkView) → (get_or (changed_at place (limited g) ls) x empty_link).serror ≡ (get_or ls x empty_link).serror
serror_limited g place x [] = refl
serror_limited g zero zero (l ∷ ls) = refl
serror_limited g zero (suc x) (l ∷ ls) = refl
serror_limited g (suc place) zero (l ∷ ls) = refl
serror_limited g (suc place) (suc x) (l ∷ ls) = serror_limited g place x ls

heat_step : (head : PortHead) (p : List Event) (x : ℕ) (act : Act) → IsCool act → heat head (Told act ∷ p) x ≡ heat head p x
heat_step head p x (Judged number kinds) cool = refl
heat_step head p x (Recorded place io doubt kinds ncq_off speed_down pio keep NoChange) cool = refl
heat_step head p x (Recorded place io doubt kinds ncq_off speed_down pio keep NcqOff) cool = refl
heat_step head p x (Recorded place io doubt kinds ncq_off speed_down pio keep (Speed g)) cool =
    ap (λ (s : ℕ). (s, slice_index_or (attached p) x false, slice_index_or (probes p) x no_probes, clock p)) (serror_limited g place x (links head p))
heat_step head p x (Recorded place io doubt kinds ncq_off speed_down pio keep (Mode udma)) cool = refl
heat_step head p x (Cleared place) cool = refl
heat_step head p x act cool = absurd cool

heat_onto : (head : PortHead) (p : List Event) (x : ℕ) (acts : List Act) → AreCool acts → heat head (onto p acts) x ≡ heat head p x
heat_onto head p x [] cool = refl
heat_onto head p x (act ∷ rest) cool = heat_onto head (Told act ∷ p) x rest cool.1 ∙ heat_step head p x act cool.0

told_cool : (s : AutopsyView) → AreCool (map (λ (issue : JudgedIssue). Judged issue.flight.number (record { 0 = issue.kinds })) (judged_here s) ++ recorded_acts s)
told_cool s =
    cool_append (map (λ (issue : JudgedIssue). Judged issue.flight.number (record { 0 = issue.kinds })) (judged_here s)) (recorded_acts s)
    (judged_cool (judged_here s))
    (cool_either (is_recorded s) (recording_acts s (verdict_at s) (speed_action s))
    (tt, cool_if (has_effect (speed_action s) && not (verdict_at s).keep) (Cleared s.place) tt))

heat_allowed :
    (head : PortHead) (past q : List Event) (k : ℕ) (hot : Bool) → is_hotplugged (autopsy_view head past k) ≡ hot
    → heat head q k ≡ heat head past k → k < head.places
    → AreAllowed head q (told_if hot (Hot k (probe_limit_of (autopsy_view head past k).probes (autopsy_view head past k).clock)))
heat_allowed head past q k true is same within = (
  (
    within,
    record {
      hotplugged = ap (λ (h : ℕ × Bool × ProbeTimes × ℕ). is_hotplug h.0 h.1 head.pmp) same ∙ is;
      limit = ap (λ (h : ℕ × Bool × ProbeTimes × ℕ). probe_limit_of h.2 h.3) (sym same);
    },
  ),
  tt,
)
heat_allowed head past q k false is same within = tt

place_allowed :
    (head : PortHead) (past p : List Event) (k : ℕ) → autopsy_view head p k ≡ autopsy_view head past k → k < head.places
    → AreAllowed head p (examined_acts (autopsy_view head past k))
place_allowed head past p k same within =
    let s = autopsy_view head past k in
    let judges = map (λ (issue : JudgedIssue). Judged issue.flight.number (record { 0 = issue.kinds })) (judged_here s) in
    examined_by head past p k (is_examined s)
    (allowed_append head p (judges ++ recorded_acts s ++ told_if (is_hotplugged s) (Hot k (probe_limit_of s.probes s.clock))) _
    (allowed_append head p (judges ++ recorded_acts s) _
    (allowed_append head p judges (recorded_acts s)
    (judged_allowed head past k 0 (slots past) p (ap (λ x. x.slots) same) same)
    (records_by head past (onto p judges) k (is_recorded s) refl (judged_view head p k (judged_here s) ∙ same)))
    (heat_allowed head past (onto p (judges ++ recorded_acts s)) k (is_hotplugged s) refl
    (heat_onto head p k (judges ++ recorded_acts s) (told_cool s) ∙ ap (λ (x : AutopsyView). (x.serror, x.attached, x.probes, x.clock)) same) within)) (
      (
        within,
        record {
          before = p;
          told = ap (λ x. onto p (told_before_action x)) (sym same);
          all = ap all_kinds (sym same);
          action_same = ap action_of (sym same);
        },
      ),
      tt,
    ))

-- ---- all places

places_allowed :
    (head : PortHead) (past : List Event) (n k : ℕ) (p : List Event) → k + n ≤ head.places
    → ((x : ℕ) → k ≤ x → autopsy_view head p x ≡ autopsy_view head past x)
    → AreAllowed head p (flat_map (λ place. examined_acts (autopsy_view head past place)) (range_with_len k n))
places_allowed head past zero k p fits same = tt
places_allowed head past (suc n) k p fits same =
    allowed_append head p (examined_acts (autopsy_view head past k)) _
    (place_allowed head past p k (same k (omega arith)) (omega (arith, fits)))
    (places_allowed head past n (k + 1) (onto p (examined_acts (autopsy_view head past k))) (omega (arith, fits))
    (λ x above. views_onto head k x p (examined_acts (autopsy_view head past k)) (λ e. absurd (omega (arith, e, above))) (examined_at head past k)
    ∙ same x (omega (arith, above))))

places_steady :
    (head : PortHead) (past : List Event) (places : List ℕ) → AreSteady (flat_map (λ place. examined_acts (autopsy_view head past place)) places)
places_steady head past [] = tt
places_steady head past (k ∷ places) =
    append_steady (examined_acts (autopsy_view head past k)) _ (at_steady k (examined_acts (autopsy_view head past k)) (examined_at head past k))
    (places_steady head past places)

pub autopsy_allowed :
    (head : PortHead) (past p : List Event) → ((x : ℕ) → autopsy_view head p x ≡ autopsy_view head past x)
    → AreJudged (slots (onto p (flat_map (λ place. examined_acts (autopsy_view head past place)) (places_of head))))
    (judged (onto p (flat_map (λ place. examined_acts (autopsy_view head past place)) (places_of head))))
    → AreAllowed head p (autopsy_acts head past)
autopsy_allowed head past p same all =
    allowed_append head p (flat_map (λ place. examined_acts (autopsy_view head past place)) (places_of head)) _
    (places_allowed head past head.places 0 p (omega arith) (λ x above. same x)) (all, tt)

pub autopsy_steady : (head : PortHead) (past : List Event) → AreSteady (autopsy_acts head past)
autopsy_steady head past = append_steady _ _ (places_steady head past (places_of head)) (tt, tt)
