-- All that recovery speaks of is at the port's places; and an autopsied recovery has judged each issue.
use Rattle.port_rules.proofs.RecoverByPhase.{open_ident_acts, unanswered_acts}
use Rattle.std.proofs.Common.{◌≡◌, ℕ, ◌+◌, ◌<◌, ◌≤◌, ◌||◌, ◌&&◌, ◌==◌, nat_lt, Bool, true, false, List, [], ◌∷◌, Option, None, Some, is_some, option_map, suc, zero, slice_set, slice_index, refl, arith, if◌then◌else◌, unwrap_or}
use Rattle.std.specs.List.{flat_map, range_with_len, slice_index_or}
use Rattle.ata_base.specs.declared.err_mask.ErrMask.{ErrMask}
use Rattle.ata_base.specs.declared.identity.Identity.{Identity}
use Rattle.ata_script.specs.declared.port_head.PortHead.{PortHead}
use Rattle.ata_trace.specs.Event.{Event}
use Rattle.ata_trace.specs.Event.Event.{Told}
use Rattle.ata_trace.specs.declared.act.Act.{Act}
use Rattle.ata_trace.specs.declared.act.Act.TheVariants.{Accepted, Issued, AnsweredOk, AnsweredFailed, AnsweredNodev, Retried, Condemned, Expired, Begun, Ended, Judged, Autopsied, Attached, Detached, Disabled, Same, Hot, Action}
use Rattle.ata_base.specs.declared.link_action.LinkAction.{LinkAction}
use Rattle.ata_base.specs.declared.link_action.LinkAction.TheVariants.{NoAction, Revalidate, Reset as RemedyReset}
use Rattle.drive_model.specs.View.{DriveView}
use Rattle.eh_reval.specs.IdentWaits.{ident_tries}
use Rattle.eh_flow.specs.declared.phase.Phase.{Phase}
use Rattle.eh_flow.specs.declared.phase.Phase.TheVariants.{Idle, Logs, ResetOwed, IdentOwed, IdentOpen}
use Rattle.host_tags.specs.Marks.{condemned, expired}
use Rattle.host_tags.specs.Numbers.{without, changed_by_number, flight_of, tag_of}
use Rattle.host_tags.specs.declared.in_flight.InFlight.{InFlight}
use Rattle.port_past.specs.IdentAnswers.{is_ident_answered}
use Rattle.port_past.specs.Commands.{commands}
use Rattle.port_past.specs.Attachment.{attached}
use Rattle.port_past.specs.PortState.{is_asked, is_frozen, is_running, is_autopsied}
use Rattle.port_past.specs.Heads.{places_of}
use Rattle.port_past.specs.Hot.{was_hot}
use Rattle.port_past.specs.Judged.{judged, with_judgement}
use Rattle.port_past.specs.Logs.{logs}
use Rattle.port_past.specs.Noted.{tferr_noted}
use Rattle.port_past.specs.PlaceTold.{place_told, host_told, ident_lates}
use Rattle.port_past.specs.Slots.{slots, without_left}
use Rattle.port_past.specs.Tasks.{actions, with_action, action_tasks, reset_tasks, tasks_made, tasks}
use Rattle.port_past.specs.declared.judgement.Judgement.{Judgement}
use Rattle.port_past.specs.declared.place_told.HostTold.{HostTold}
use Rattle.port_past.specs.declared.place_told.HostTold.TheVariants.{NotBegun as HostNotBegun, ResetBegun as ToldHostBegun, ResetEnded as ToldHostEnded}
use Rattle.port_past.specs.declared.place_told.PlaceTold.{PlaceTold}
use Rattle.port_past.specs.declared.place_told.PlaceTold.TheVariants.{NotBegun, ResetBegun as ToldResetBegun, ResetLate as ToldResetLate, ResetEnded as ToldResetEnded, ResetFailed as ToldResetFailed, IdentAsked as ToldIdentAsked, IdentLate as ToldIdentLate, Mode as ToldMode}
use Rattle.port_past.specs.declared.task.Task.{Task}
use Rattle.port_past.specs.declared.task.Task.TheVariants.{Host, Reset, Revalidate as IdentityTask}
use Rattle.port_rules.specs.Boot.{found_acts, found_at, boot_acts}
use Rattle.port_rules.specs.Identities.{attach_acts, is_attached_drive, identity_read_acts}
use Rattle.port_rules.specs.Phase.{host_phase, place_phase, is_wanted, task_phase, first_phase, phase}
use Rattle.port_rules.specs.Told.{or_nothing}
use Rattle.port_facts.specs.Allowed.{IsAllowed, AreAllowed}
use Rattle.port_facts.proofs.Allowed.{allowed_append, or_nothing_allowed}
use Rattle.host_tags.proofs.FlightLemmas.{each_weaker}
use Rattle.port_facts.proofs.Known.{IsFlown, are_known, standing_within, places_submitted}
use Rattle.port_past.proofs.KnownCommands.{places_counted}
use Rattle.ata_base.specs.Each.{Each}
use Rattle.port_past.proofs.EachAt.{EachAt, at_weaker, at_same, at_set}
use Rattle.port_facts.proofs.Owned.{AreSteady, append_steady, plain_steady, recovers_not}
use Rattle.port_facts.proofs.Plain.{plain_allowed}
use Rattle.port_facts.proofs.Rows.{unheard_plain}
use Rattle.host_tags.specs.EachFlight.{EachFlight}
use Rattle.port_past.specs.JudgedSlots.{AreJudged}

-- ---- the acts that attach

attach_allowed :
    (head : PortHead) (p : List Event) (place : ℕ) (same there : Bool) → place < head.places
    → AreAllowed head p (if same then Same place ∷ [] else if there then Detached place ∷ Attached place ∷ [] else Attached place ∷ [])
attach_allowed head p place true there within = (tt, tt)
attach_allowed head p place false true within = (tt, (within, tt))
attach_allowed head p place false false within = (within, tt)

attach_steady :
    (place : ℕ) (same there : Bool)
    → AreSteady (if same then Same place ∷ [] else if there then Detached place ∷ Attached place ∷ [] else Attached place ∷ [])
attach_steady place true there = (tt, tt)
attach_steady place false true = (tt, (tt, tt))
attach_steady place false false = (tt, tt)

heard_by :
    (head : PortHead) (past p : List Event) (place attempt deadline : ℕ) (i : Identity) (is_heard : Bool) → place < head.places
    → AreAllowed head p (if is_heard then identity_read_acts past place i (is_attached_drive past place i) else unanswered_acts past place attempt deadline)
heard_by head past p place attempt deadline i true within =
    let same = is_attached_drive past place i in (
      tt,
      allowed_append head _ (attach_acts past place same) _
          (attach_allowed head _ place same (slice_index_or (attached past) place false) within) (tt, tt),
    )
heard_by head past p place attempt deadline i false within = plain_allowed head p _ (unheard_plain past place attempt deadline)

heard_steady :
    (head : PortHead) (past : List Event) (place attempt deadline : ℕ) (i : Identity) (is_heard : Bool)
    → AreSteady (if is_heard then identity_read_acts past place i (is_attached_drive past place i) else unanswered_acts past place attempt deadline)
heard_steady head past place attempt deadline i true =
    let same = is_attached_drive past place i in
    (tt, append_steady (attach_acts past place same) _ (attach_steady place same (slice_index_or (attached past) place false)) (tt, tt))
heard_steady head past place attempt deadline i false = plain_steady _ (unheard_plain past place attempt deadline)

pub ident_allowed :
    (head : PortHead) (past p : List Event) (place attempt deadline : ℕ) (v : Option DriveView) → place < head.places
    → AreAllowed head p (open_ident_acts head past place attempt deadline v)
ident_allowed head past p place attempt deadline None within = plain_allowed head p _ (unheard_plain past place attempt deadline)
ident_allowed head past p place attempt deadline (Some v) within =
    heard_by head past p place attempt deadline v.identity (slice_index_or (is_ident_answered head past) place false) within

pub ident_steady :
    (head : PortHead) (past : List Event) (place attempt deadline : ℕ) (v : Option DriveView) → AreSteady (open_ident_acts head past place attempt deadline v)
ident_steady head past place attempt deadline None = plain_steady _ (unheard_plain past place attempt deadline)
ident_steady head past place attempt deadline (Some v) =
    heard_steady head past place attempt deadline v.identity (slice_index_or (is_ident_answered head past) place false)

found_allowed : (head : PortHead) (p : List Event) (place : ℕ) (i : Option Identity) → place < head.places → AreAllowed head p (found_acts place i)
found_allowed head p place None within = tt
found_allowed head p place (Some i) within = (tt, (within, (tt, tt)))

found_steady : (place : ℕ) (i : Option Identity) → AreSteady (found_acts place i)
found_steady place None = tt
found_steady place (Some i) = (tt, (tt, (tt, tt)))

boot_from : (head : PortHead) (n k : ℕ) (p : List Event) → k + n ≤ head.places → AreAllowed head p (flat_map (found_at head) (range_with_len k n))
boot_from head zero k p fits = tt
boot_from head (suc n) k p fits =
    allowed_append head p (found_at head k) _ (found_allowed head p k _ (omega (arith, fits))) (boot_from head n (k + 1) _ (omega (arith, fits)))

boot_all_steady : (head : PortHead) (places : List ℕ) → AreSteady (flat_map (found_at head) places)
boot_all_steady head [] = tt
boot_all_steady head (k ∷ places) = append_steady (found_at head k) _ (found_steady k _) (boot_all_steady head places)

or_nothing_steady : (acts : List Act) → AreSteady acts → AreSteady (or_nothing acts)
or_nothing_steady [] steady = (tt, tt)
or_nothing_steady (act ∷ rest) steady = steady

pub boot_allowed : (head : PortHead) (p : List Event) → AreAllowed head p (boot_acts head)
boot_allowed head p = or_nothing_allowed head p _ (boot_from head head.places 0 p (omega arith))

pub boot_steady : (head : PortHead) → AreSteady (boot_acts head)
boot_steady head = or_nothing_steady _ (boot_all_steady head (places_of head))

-- what is true at a place is true at one of the port's
abbrev pub IsOn : ℕ → ℕ → Bool → Type 0
IsOn places x b = b ≡ true → x < places

abbrev pub IsToldOn : ℕ → ℕ → Option LinkAction → Type 0
IsToldOn places x chosen = is_some chosen ≡ true → x < places

true_on : (places : ℕ) (f : ℕ → ℕ) (xs : List Bool) (x : ℕ) → EachAt (λ k b. b ≡ true → f k < places) xs → slice_index_or xs x false ≡ true → f x < places
true_on places f [] x all is = absurd (cc)
true_on places f (b ∷ xs) zero all is = all.0 is
true_on places f (b ∷ xs) (suc x) all is = true_on places (λ k. f (suc k)) xs x all.1 is

pub attached_on : (head : PortHead) (past : List Event) → IsAllowed head past → EachAt (IsOn head.places) (attached past)
attached_on head [] h = at_same (IsOn head.places) 15 false (λ k is. absurd (cc))
attached_on head (Told (Attached x) ∷ past) h = at_set (IsOn head.places) (attached past) x true (attached_on head past h.1) (λ is. h.0)
attached_on head (Told (Detached x) ∷ past) h = at_set (IsOn head.places) (attached past) x false (attached_on head past h.1) (λ is. absurd (cc))
attached_on head (Told (Disabled x) ∷ past) h = at_set (IsOn head.places) (attached past) x false (attached_on head past h.1) (λ is. absurd (cc))
attached_on head (event ∷ past) h = attached_on head past h.1

hot_on : (head : PortHead) (past : List Event) → IsAllowed head past → EachAt (IsOn head.places) (was_hot past)
hot_on head [] h = at_same (IsOn head.places) 15 false (λ k is. absurd (cc))
hot_on head (Told Begun ∷ past) h = at_same (IsOn head.places) 15 false (λ k is. absurd (cc))
hot_on head (Told (Hot x g) ∷ past) h = at_set (IsOn head.places) (was_hot past) x true (hot_on head past h.1) (λ is. h.0.0)
hot_on head (event ∷ past) h = hot_on head past h.1

actions_on : (head : PortHead) (past : List Event) → IsAllowed head past → EachAt (IsToldOn head.places) (actions past)
actions_on head [] h = at_same (IsToldOn head.places) 15 None (λ k is. absurd (cc))
actions_on head (Told Begun ∷ past) h = at_same (IsToldOn head.places) 15 None (λ k is. absurd (cc))
actions_on head (Told (Action x kinds chosen) ∷ past) h =
    at_set (IsToldOn head.places) (actions past) x (Some chosen) (actions_on head past h.1) (λ is. h.0.0)
actions_on head (event ∷ past) h = actions_on head past h.1

-- ---- tasks

abbrev pub IsTaskOn : ℕ → Task → Type 0
IsTaskOn places Host = Unit {0}
IsTaskOn places (Reset x) = x < places
IsTaskOn places (IdentityTask x) = x < places

reset_by :
    (places k : ℕ) (a h : Bool) (rest : List Task) → (a ≡ true → k < places) → (h ≡ true → k < places) → Each (IsTaskOn places) rest
    → Each (IsTaskOn places) (if a || h then Reset k ∷ rest else rest)
reset_by places k true h rest is_at is_hot on = (is_at refl, on)
reset_by places k false true rest is_at is_hot on = (is_hot refl, on)
reset_by places k false false rest is_at is_hot on = on

shifted :
    {A : Type 0} (P : A → Type 0) (places k : ℕ) (xs : List A) → EachAt (λ j x. P x → k + suc j < places) xs → EachAt (λ j x. P x → k + 1 + j < places) xs
shifted P places k xs all =
    at_weaker (λ j x. P x → k + suc j < places) (λ j x. P x → k + 1 + j < places) (λ j x is p. omega (arith, is p)) xs all

resets_on :
    (places k : ℕ) (bs hs : List Bool) → EachAt (λ j b. b ≡ true → k + j < places) bs → EachAt (λ j b. b ≡ true → k + j < places) hs
    → Each (IsTaskOn places) (reset_tasks k bs hs)
resets_on places k [] hs on heat = tt
resets_on places k (a ∷ bs) [] on heat = tt
resets_on places k (a ∷ bs) (h ∷ hs) on heat =
    reset_by places k a h (reset_tasks (k + 1) bs hs) (λ is. omega (arith, on.0 is)) (λ is. omega (arith, heat.0 is))
    (resets_on places (k + 1) bs hs (shifted (λ b. b ≡ true) places k bs on.1) (shifted (λ b. b ≡ true) places k hs heat.1))

chosen_by : (places k : ℕ) (r : Option LinkAction) (rest : List Task) → (is_some r ≡ true → k < places) → Each (IsTaskOn places) rest → Each (IsTaskOn places) (with_action k r rest)
chosen_by places k None rest on all = all
chosen_by places k (Some NoAction) rest on all = all
chosen_by places k (Some Revalidate) rest on all = (on refl, all)
chosen_by places k (Some RemedyReset) rest on all = (on refl, all)

chosen_on : (places k : ℕ) (rs : List (Option LinkAction)) → EachAt (λ j r. is_some r ≡ true → k + j < places) rs → Each (IsTaskOn places) (action_tasks k rs)
chosen_on places k [] on = tt
chosen_on places k (r ∷ rs) on =
    chosen_by places k r (action_tasks (k + 1) rs) (λ is. omega (arith, on.0 is)) (chosen_on places (k + 1) rs (shifted (λ x. is_some x ≡ true) places k rs on.1))

made_on :
    (places : ℕ) (whole : Bool) (bs hs : List Bool) (rs : List (Option LinkAction)) → EachAt (IsOn places) bs → EachAt (IsOn places) hs → EachAt (IsToldOn places) rs
    → Each (IsTaskOn places) (tasks_made whole bs hs rs)
made_on places true bs hs rs on heat told =
    (tt, resets_on places 0 bs hs (at_weaker (IsOn places) _ (λ j b is p. omega (arith, is p)) bs on) (at_weaker (IsOn places) _ (λ j b is p. omega (arith, is p)) hs heat))
made_on places false bs hs rs on heat told = chosen_on places 0 rs (at_weaker (IsToldOn places) _ (λ j b is p. omega (arith, is p)) rs told)

tasks_on : (head : PortHead) (past : List Event) → IsAllowed head past → Each (IsTaskOn head.places) (tasks head past)
tasks_on head [] h = tt
tasks_on head (Told Begun ∷ past) h = tt
tasks_on head (Told Autopsied ∷ past) h =
    made_on head.places (head.pmp && is_frozen past) (attached past) (was_hot past) (actions past) (attached_on head past h.1) (hot_on head past h.1) (actions_on head past h.1)
tasks_on head (event ∷ past) h = tasks_on head past h.1

-- ---- the phase

abbrev pub IsPhaseOn : ℕ → Phase → Type 0
IsPhaseOn places (IdentOpen x attempt deadline) = x < places
IsPhaseOn places _ = Unit {0}

-- where there is one
abbrev IsSomeOn : ℕ → Option Phase → Type 0
IsSomeOn places None = Unit {0}
IsSomeOn places (Some p) = IsPhaseOn places p

ended_on : (places x lates : ℕ) (wanted : Bool) → IsSomeOn places (if wanted then Some (IdentOwed x (lates + 1)) else None)
ended_on places x lates true = tt
ended_on places x lates false = tt

late_on : (places x lates : ℕ) (more : Bool) → IsSomeOn places (if more then Some (ResetOwed x 1 (lates + 1)) else None)
late_on places x lates true = tt
late_on places x lates false = tt

place_on :
    (places x : ℕ) (first : Phase) (wanted : Bool) (lates : ℕ) (s : PlaceTold) → x < places → IsPhaseOn places first
    → IsSomeOn places (place_phase x first wanted lates s)
place_on places x first wanted lates NotBegun within on = on
place_on places x first wanted lates (ToldResetBegun attempt deadline) within on = tt
place_on places x first wanted lates (ToldResetLate attempt) within on = tt
place_on places x first wanted lates (ToldResetEnded true) within on = ended_on places x lates wanted
place_on places x first wanted lates (ToldResetEnded false) within on = tt
place_on places x first wanted lates ToldResetFailed within on = tt
place_on places x first wanted lates (ToldIdentAsked deadline) within on = within
place_on places x first wanted lates ToldIdentLate within on = late_on places x lates (nat_lt lates ident_tries)
place_on places x first wanted lates ToldMode within on = tt

host_on : (places : ℕ) (s : HostTold) → IsSomeOn places (host_phase s)
host_on places HostNotBegun = tt
host_on places ToldHostBegun = tt
host_on places ToldHostEnded = tt

task_on : (places : ℕ) (past : List Event) (task : Task) → IsTaskOn places task → IsSomeOn places (task_phase past task)
task_on places past Host on = host_on places (host_told past)
task_on places past (Reset x) on =
    place_on places x (ResetOwed x 1 1) (is_wanted past x) (slice_index (ident_lates past) x) (slice_index_or (place_told past) x NotBegun) on tt
task_on places past (IdentityTask x) on =
    place_on places x (IdentOwed x 1) (is_wanted past x) (slice_index (ident_lates past) x) (slice_index_or (place_told past) x NotBegun) on tt

unless_on : (places : ℕ) (p : Option Phase) (next : Phase) → IsSomeOn places p → IsPhaseOn places next → IsPhaseOn places (unwrap_or p next)
unless_on places None next on later = later
unless_on places (Some p) next on later = on

first_on : (places : ℕ) (past : List Event) (todo : List Task) → Each (IsTaskOn places) todo → IsPhaseOn places (first_phase past todo)
first_on places past [] on = tt
first_on places past (task ∷ todo) on =
    unless_on places (task_phase past task) (first_phase past todo) (task_on places past task on.0) (first_on places past todo on.1)

phase_by : (places : ℕ) (runs done : Bool) (p : Phase) → IsPhaseOn places p → IsPhaseOn places (if runs then (if done then p else Logs) else Idle)
phase_by places true true p on = on
phase_by places true false p on = tt
phase_by places false done p on = tt

-- an open identity is at one of the port's places
pub phase_on : (head : PortHead) (past : List Event) → IsAllowed head past → IsPhaseOn head.places (phase head past)
phase_on head past h =
    phase_by head.places (is_running past) (is_autopsied past) (first_phase past (tasks head past))
    (first_on head.places past (tasks head past) (tasks_on head past h))

-- ---- commands and issues

commands_on : (head : PortHead) (past : List Event) → IsAllowed head past → Each (λ c. c.place < head.places) (commands past)
commands_on head [] h = tt
commands_on head (Told (Accepted id) ∷ past) h =
    places_submitted head.places past id h.0 (true_on head.places (λ k. k) (attached past) h.0.place (attached_on head past h.1) h.0.there) (commands_on head past h.1)
commands_on head (Told (Retried id number raised) ∷ past) h = places_counted head.places id raised (commands past) (commands_on head past h.1)
commands_on head (event ∷ past) h = commands_on head past h.1

-- each issue in flight is at one of the port's places
pub flights_on : (head : PortHead) (past : List Event) → IsAllowed head past → EachFlight (λ f. f.place < head.places) (slots past)
flights_on head past h =
    each_weaker (IsFlown (commands past)) (λ f. f.place < head.places)
    (λ f is. standing_within head.places (commands past) (commands_on head past h) f.id f.place is.device is.stands) (slots past) (are_known head past h).flights

-- ---- judged once autopsied

judged_gone_by : (b : Bool) (f : InFlight) (slots : List (Option InFlight)) (j : Judgement) (ys : List (Option Judgement)) → AreJudged slots ys → AreJudged ((if b then None else Some f) ∷ slots) (Some j ∷ ys)
judged_gone_by true f slots j ys all = all
judged_gone_by false f slots j ys all = all

judged_gone : (n : ℕ) (slots : List (Option InFlight)) (ys : List (Option Judgement)) → AreJudged slots ys → AreJudged (without n slots) ys
judged_gone n [] ys all = tt
judged_gone n (None ∷ slots) [] all = judged_gone n slots [] all
judged_gone n (None ∷ slots) (y ∷ ys) all = judged_gone n slots ys all
judged_gone n (Some f ∷ slots) [] all = absurd all
judged_gone n (Some f ∷ slots) (None ∷ ys) all = absurd all
judged_gone n (Some f ∷ slots) (Some j ∷ ys) all = judged_gone_by (f.number.n == n) f (without n slots) j ys (judged_gone n slots ys all)

judged_told : (b : Bool) (n : ℕ) (slots : List (Option InFlight)) (ys : List (Option Judgement)) → AreJudged slots ys → AreJudged (without_left (if b then None else Some n) slots) ys
judged_told true n slots ys all = all
judged_told false n slots ys all = judged_gone n slots ys all

judged_marked_by :
    (change : InFlight → InFlight) (b : Bool) (f : InFlight) (slots : List (Option InFlight)) (j : Judgement) (ys : List (Option Judgement)) → AreJudged slots ys
    → AreJudged ((if b then option_map change (Some f) else Some f) ∷ slots) (Some j ∷ ys)
judged_marked_by change true f slots j ys all = all
judged_marked_by change false f slots j ys all = all

judged_marked : (change : InFlight → InFlight) (n : ℕ) (slots : List (Option InFlight)) (ys : List (Option Judgement)) → AreJudged slots ys → AreJudged (changed_by_number change n slots) ys
judged_marked change n [] ys all = tt
judged_marked change n (None ∷ slots) [] all = judged_marked change n slots [] all
judged_marked change n (None ∷ slots) (y ∷ ys) all = judged_marked change n slots ys all
judged_marked change n (Some f ∷ slots) [] all = absurd all
judged_marked change n (Some f ∷ slots) (None ∷ ys) all = absurd all
judged_marked change n (Some f ∷ slots) (Some j ∷ ys) all = judged_marked_by change (f.number.n == n) f (changed_by_number change n slots) j ys (judged_marked change n slots ys all)

judged_set : (tag : ℕ) (j : Judgement) (slots : List (Option InFlight)) (ys : List (Option Judgement)) → AreJudged slots ys → AreJudged slots (slice_set ys tag (Some j))
judged_set tag j [] ys all = tt
judged_set zero j (None ∷ slots) [] all = all
judged_set (suc tag) j (None ∷ slots) [] all = all
judged_set zero j (None ∷ slots) (y ∷ ys) all = all
judged_set (suc tag) j (None ∷ slots) (y ∷ ys) all = judged_set tag j slots ys all
judged_set tag j (Some f ∷ slots) [] all = absurd all
judged_set tag j (Some f ∷ slots) (None ∷ ys) all = absurd all
judged_set zero j (Some f ∷ slots) (Some y ∷ ys) all = all
judged_set (suc tag) j (Some f ∷ slots) (Some y ∷ ys) all = judged_set tag j slots ys all

judged_more : (past : List Event) (kinds : ErrMask) (tag : Option ℕ) (found : Option InFlight) → AreJudged (slots past) (judged past)
    → AreJudged (slots past) (with_judgement kinds (tferr_noted past) (logs past) tag found (judged past))
judged_more past kinds None found all = all
judged_more past kinds (Some tag) None all = all
judged_more past kinds (Some tag) (Some f) all = judged_set tag _ (slots past) (judged past) all

-- a recovery that has its autopsy has judged each issue
pub autopsied_judged :
    (head : PortHead) (past : List Event) → IsAllowed head past → is_running past ≡ true → is_autopsied past ≡ true → AreJudged (slots past) (judged past)
autopsied_judged head [] h runs done = absurd (cc)
autopsied_judged head (Told Begun ∷ past) h runs done = absurd (cc)
autopsied_judged head (Told Ended ∷ past) h runs done = absurd (cc)
autopsied_judged head (Told Autopsied ∷ past) h runs done = h.0
autopsied_judged head (Told (Issued id number tag deadline fis) ∷ past) h runs done =
    absurd (recovers_not (is_asked past) (is_running past) h.0.open_gate.settled runs)
autopsied_judged head (Told (Judged number kinds) ∷ past) h runs done =
    judged_more past kinds (tag_of number.n (slots past)) (flight_of number.n (slots past)) (autopsied_judged head past h.1 runs done)
autopsied_judged head (Told (AnsweredOk id number status error lba count stamps) ∷ past) h runs done = judged_gone number.n (slots past) (judged past) (autopsied_judged head past h.1 runs done)
autopsied_judged head (Told (AnsweredFailed id number kinds status error lba count) ∷ past) h runs done = judged_gone number.n (slots past) (judged past) (autopsied_judged head past h.1 runs done)
autopsied_judged head (Told (AnsweredNodev id number) ∷ past) h runs done = judged_told (number.n == 0) number.n (slots past) (judged past) (autopsied_judged head past h.1 runs done)
autopsied_judged head (Told (Retried id number raised) ∷ past) h runs done = judged_gone number.n (slots past) (judged past) (autopsied_judged head past h.1 runs done)
autopsied_judged head (Told (Condemned number kinds) ∷ past) h runs done = judged_marked (condemned kinds) number.n (slots past) (judged past) (autopsied_judged head past h.1 runs done)
autopsied_judged head (Told (Expired id number) ∷ past) h runs done = judged_marked expired number.n (slots past) (judged past) (autopsied_judged head past h.1 runs done)
autopsied_judged head (event ∷ past) h runs done = autopsied_judged head past h.1 runs done
