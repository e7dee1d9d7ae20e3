-- The reading of a place's log, and the issues that its drive drops.
use Rattle.std.proofs.Common.{◌≡◌, ◌≢◌, ◌∙◌, ℕ, zero, suc, ◌+◌, ◌%◌, ◌^◌, ◌≤◌, ◌==◌, nat_eq, Bool, true, false, not, List, [], ◌∷◌, Option, Some, None, map, slice_get, if◌then◌else◌, IsTrue, IsBitSet, ◌↔◌, refl, sym, ap, subst, arith}
use Rattle.std.specs.Prelude.{bit_and, filter, flat_map, is_some, option_and_then}
use Rattle.std.specs.List.{range_with_len}
use Rattle.std.proofs.lemmas.Bool.{eqb-true}
use Rattle.std.proofs.lemmas.Bool.Decides.{nat_tests}
use Rattle.std.proofs.Math.Nat.{zero-div}
use Rattle.ata_base.proofs.MaskLemmas.{bit_says}
use Rattle.ata_base.specs.Each.{Each}
use Rattle.ata_base.specs.Limits.{tag_count}
use Rattle.ata_script.specs.declared.port_head.PortHead.{PortHead}
use Rattle.ata_trace.specs.Event.{Event}
use Rattle.ata_trace.specs.Event.Event.{Told}
use Rattle.ata_trace.specs.declared.act.Act.{Act}
use Rattle.ata_trace.specs.declared.act.Act.TheVariants.{Aborted}
use Rattle.drive_model.specs.Holding.{has_tag}
use Rattle.drive_model.specs.Log.{log_fault_of, log_said, page_with}
use Rattle.drive_model.specs.Single.{AreSingle}
use Rattle.drive_model.specs.View.{DriveView}
use Rattle.drive_model.specs.declared.held.Held.{Held}
use Rattle.drive_model.specs.declared.log_fault.LogFault.{LogFault}
use Rattle.drive_model.specs.declared.log_fault.LogFault.TheVariants.{Fail, Sum, NotQueued, Idle}
use Rattle.drive_model.specs.declared.queued_error.QueuedError.{QueuedError}
use Rattle.host_tags.specs.Numbers.{is_issue}
use Rattle.host_tags.specs.Slots.{flight_at, lowest_free}
use Rattle.host_tags.specs.declared.in_flight.InFlight.{InFlight}
use Rattle.port_ledger.specs.LedgerView.{LedgerView, Goes, past}
use Rattle.port_ledger.specs.Sound.{IsSound}
use Rattle.port_past.specs.Drives.{drive_at, drives}
use Rattle.port_past.specs.Links.{links, linked_at}
use Rattle.port_past.specs.Slots.{slots}
use Rattle.port_recovery.specs.Reading.{HoldFlights, IsInFlight, aborted_by, aborted_of, all_aborted, dropped, is_in, log_act, reading_act, stopped_act}
use Rattle.port_rules.specs.Logs.{aborted_acts, drive_log_acts, log_acts, log_read_acts, stopped_acts}
use Rattle.port_telling.proofs.AddLemmas.{adds_more, adds_same, adds_act, one_more}
use Rattle.port_telling.specs.Adds.{Adds}
use Rattle.port_telling.specs.Walks.{slots_in}

-- ---- a fault is to come

-- ---- the act, and then what is dropped

read_are :
    (place : ℕ) (holds : List Held) (e : QueuedError) (fault : Option LogFault)
    → log_read_acts place holds e fault
    ≡ reading_act place e fault ∷ aborted_acts (if is_some (page_with fault e) then holds else [])
read_are place holds e None = refl
read_are place holds e (Some Fail) = refl
read_are place holds e (Some Sum) = refl
read_are place holds e (Some NotQueued) = refl
read_are place holds e (Some (Idle tag)) = refl

stopped_are :
    (place : ℕ) (idle : Option ℕ) (v : DriveView) (stopped : Option QueuedError)
    → stopped_acts place idle v stopped
    ≡ stopped_act place (log_fault_of v.counts idle) stopped
    ∷ aborted_acts (if is_some (log_said stopped v.counts idle) then v.held else [])
stopped_are place idle v None = refl
stopped_are place idle v (Some e) = read_are place v.held e (log_fault_of v.counts idle)

acts_are :
    (place : ℕ) (idle : Option ℕ) (v : Option DriveView)
    → drive_log_acts place idle v ≡ log_act place idle v ∷ aborted_acts (dropped idle v)
acts_are place idle None = refl
acts_are place idle (Some v) = stopped_are place idle v v.stopped

-- ---- what is told of a reading is sound, and leaves the issues in flight

sound_reading :
    (head : PortHead) (past : List Event) (place : ℕ) (e : QueuedError) (fault : Option LogFault)
    → IsSound head past (reading_act place e fault)
sound_reading head past place e None =
    record { new = tt; next = tt; counted = tt; put = tt; low = tt; limited = tt; early = tt }
sound_reading head past place e (Some Fail) =
    record { new = tt; next = tt; counted = tt; put = tt; low = tt; limited = tt; early = tt }
sound_reading head past place e (Some Sum) =
    record { new = tt; next = tt; counted = tt; put = tt; low = tt; limited = tt; early = tt }
sound_reading head past place e (Some NotQueued) =
    record { new = tt; next = tt; counted = tt; put = tt; low = tt; limited = tt; early = tt }
sound_reading head past place e (Some (Idle tag)) =
    record { new = tt; next = tt; counted = tt; put = tt; low = tt; limited = tt; early = tt }

sound_stopped :
    (head : PortHead) (past : List Event) (place : ℕ) (fault : Option LogFault) (stopped : Option QueuedError)
    → IsSound head past (stopped_act place fault stopped)
sound_stopped head past place fault None =
    record { new = tt; next = tt; counted = tt; put = tt; low = tt; limited = tt; early = tt }
sound_stopped head past place fault (Some e) = sound_reading head past place e fault

pub log_is_sound :
    (head : PortHead) (past : List Event) (place : ℕ) (idle : Option ℕ) (v : Option DriveView)
    → IsSound head past (log_act place idle v)
log_is_sound head past place idle None =
    record { new = tt; next = tt; counted = tt; put = tt; low = tt; limited = tt; early = tt }
log_is_sound head past place idle (Some v) = sound_stopped head past place (log_fault_of v.counts idle) v.stopped

flights_read :
    (past : List Event) (place : ℕ) (e : QueuedError) (fault : Option LogFault)
    → slots (Told (reading_act place e fault) ∷ past) ≡ slots past
flights_read past place e None = refl
flights_read past place e (Some Fail) = refl
flights_read past place e (Some Sum) = refl
flights_read past place e (Some NotQueued) = refl
flights_read past place e (Some (Idle tag)) = refl

flights_stopped :
    (past : List Event) (place : ℕ) (fault : Option LogFault) (stopped : Option QueuedError)
    → slots (Told (stopped_act place fault stopped) ∷ past) ≡ slots past
flights_stopped past place fault None = refl
flights_stopped past place fault (Some e) = flights_read past place e fault

flights_stay :
    (past : List Event) (place : ℕ) (idle : Option ℕ) (v : Option DriveView)
    → slots (Told (log_act place idle v) ∷ past) ≡ slots past
flights_stay past place idle None = refl
flights_stay past place idle (Some v) = flights_stopped past place (log_fault_of v.counts idle) v.stopped

-- ---- what is dropped, by the tags of issues in flight

-- no tag is in the mask 0
pub no_tag : (t : ℕ) → IsBitSet 0 t ↔ IsTrue (has_tag t [])
no_tag t = bit_says 0 t false (ap (λ q. q % 2) (zero-div (2 ^ t)))

same_number : (slot : Option InFlight) (n m : ℕ) → is_issue n slot ≡ true → is_issue m slot ≡ true → n ≡ m
same_number None n m is other = absurd (cc)
same_number (Some f) n m is other = sym (eqb-true f.number.n n is) ∙ eqb-true f.number.n m other

told_of :
    (slot : Option InFlight) (h : Held) → is_issue h.number.n slot ≡ true
    → aborted_of true slot ≡ Aborted h.number ∷ []
told_of None h is = absurd (cc)
told_of (Some f) h is = ap (λ (n : ℕ). Aborted (record { n = n }) ∷ []) (eqb-true f.number.n h.number.n is)

-- what is told of the held issues with a tag
abbrev told_at : ℕ → List Held → List Act
told_at tag holds = map (λ (h : Held). Aborted h.number) (filter (λ (h : Held). h.tag == tag) holds)

none_by :
    (flights : List (Option InFlight)) (tag n : ℕ) (g : Held) (holds : List Held) (b : Bool) → (g.tag == tag) ≡ b
    → is_issue n (flight_at flights tag) ≡ true → g.number.n ≢ n → IsInFlight flights g → told_at tag holds ≡ []
    → told_at tag (g ∷ holds) ≡ []
none_by flights tag n g holds true is here other flies rest =
    let there : is_issue g.number.n (flight_at flights tag) ≡ true =
    subst (λ t. is_issue g.number.n (flight_at flights t) ≡ true) (eqb-true g.tag tag is) flies in
    absurd (other (same_number (flight_at flights tag) g.number.n n there here))
none_by flights tag n g holds false is here other flies rest = rw is rest

-- no other issue is held with the tag of one
none_left :
    (flights : List (Option InFlight)) (tag n : ℕ) (holds : List Held) → is_issue n (flight_at flights tag) ≡ true
    → Each (λ (g : Held). g.number.n ≢ n) holds → Each (IsInFlight flights) holds → told_at tag holds ≡ []
none_left flights tag n [] here others flying = refl
none_left flights tag n (g ∷ holds) here others flying =
    none_by flights tag n g holds (g.tag == tag) refl here others.0 flying.0
    (none_left flights tag n holds here others.1 flying.1)

turned : (a b : ℕ) (e : Bool) → (a == b) ≡ e → nat_eq b a ≡ e
turned a b true is = grind (arith, nat_tests)
turned a b false is = grind (arith, nat_tests)

told_by :
    (flights : List (Option InFlight)) (tag : ℕ) (h : Held) (holds : List Held) (b : Bool) → (h.tag == tag) ≡ b
    → AreSingle (h ∷ holds) → Each (IsInFlight flights) (h ∷ holds)
    → told_at tag holds ≡ aborted_of (has_tag tag holds) (flight_at flights tag)
    → told_at tag (h ∷ holds) ≡ aborted_of (has_tag tag (h ∷ holds)) (flight_at flights tag)
told_by flights tag h holds true is single flying rest =
    let there : is_issue h.number.n (flight_at flights tag) ≡ true =
    subst (λ t. is_issue h.number.n (flight_at flights t) ≡ true) (eqb-true h.tag tag is) flying.0 in
    rw (is, turned h.tag tag true is)
    (ap (λ (acts : List Act). Aborted h.number ∷ acts) (none_left flights tag h.number.n holds there single.0 flying.1)
    ∙ sym (told_of (flight_at flights tag) h there))
told_by flights tag h holds false is single flying rest = rw (is, turned h.tag tag false is) rest

-- at each tag is told what the drive held there
told_here :
    (flights : List (Option InFlight)) (tag : ℕ) (holds : List Held) → AreSingle holds
    → Each (IsInFlight flights) holds
    → told_at tag holds ≡ aborted_of (has_tag tag holds) (flight_at flights tag)
told_here flights tag [] single flying = refl
told_here flights tag (h ∷ holds) single flying =
    told_by flights tag h holds (h.tag == tag) refl single flying (told_here flights tag holds single.1 flying.1)

flat_map_same : {A : Type 0} (f g : ℕ → List A) → ((x : ℕ) → f x ≡ g x) → (xs : List ℕ) → flat_map f xs ≡ flat_map g xs
flat_map_same f g same [] = refl
flat_map_same f g same (x ∷ xs) = rw (same x, flat_map_same f g same xs) refl

in_or_not : (n : ℕ) (b : Bool) → (n ≢ 0) ↔ IsTrue b → not (n == 0) ≡ b
in_or_not zero true both = absurd (both.1 refl refl)
in_or_not zero false both = refl
in_or_not (suc n) true both = grind (arith, nat_tests)
in_or_not (suc n) false both = absurd (cc (both.0 (λ e. absurd (omega (arith, e)))))

-- a mask of the tags of held issues
aborted_told :
    (flights : List (Option InFlight)) (holds : List Held) (mask : ℕ)
    → ((t : ℕ) → IsBitSet mask t ↔ IsTrue (has_tag t holds)) → AreSingle holds → Each (IsInFlight flights) holds
    → all_aborted mask flights ≡ aborted_acts holds
aborted_told flights holds mask bits single flying =
    flat_map_same (aborted_by mask flights) (λ tag. told_at tag holds)
    (λ tag.
    ap (λ held. aborted_of held (flight_at flights tag))
    (in_or_not (bit_and mask (2 ^ tag)) (has_tag tag holds) (bits tag))
    ∙ sym (told_here flights tag holds single flying))
    (range_with_len 0 tag_count)

by_page : (P : List Held → Type 0) (holds : List Held) (b : Bool) → P holds → P [] → P (if b then holds else [])
by_page P holds true all none = all
by_page P holds false all none = none

-- what holds of what each drive holds, holds of what is dropped
all_dropped :
    (P : List Held → Type 0) (idle : Option ℕ) (found : Option DriveView)
    → ((v : DriveView) → found ≡ Some v → P v.held) → P [] → P (dropped idle found)
all_dropped P idle None all none = none
all_dropped P idle (Some v) all none = by_page P v.held (is_some (log_said v.stopped v.counts idle)) (all v refl) none

linked_dropped :
    (P : List Held → Type 0) (idle number : Option ℕ) (views : List DriveView)
    → ((d : ℕ) (v : DriveView) → slice_get views d ≡ Some v → P v.held) → P []
    → P (dropped idle (option_and_then (slice_get views) number))
linked_dropped P idle None views all none = none
linked_dropped P idle (Some d) views all none = all_dropped P idle (slice_get views d) (all d) none

-- ---- one tag more

pub abort_next :
    {first mid after : LedgerView} (mask tag : ℕ) (held : Bool)
    → Adds first mid (flat_map (aborted_by mask (slots_in first)) (range_with_len 0 tag))
    → slots_in mid ≡ slots_in first → held ≡ is_in mask tag
    → Adds mid after (aborted_of held (flight_at (slots_in mid) tag))
    → Adds first after (flat_map (aborted_by mask (slots_in first)) (range_with_len 0 (tag + 1)))
abort_next {first} {mid} {after} mask tag held before stays is more =
    let same : aborted_of held (flight_at (slots_in mid) tag) ≡ aborted_by mask (slots_in first) tag =
    ap (λ b. aborted_of b (flight_at (slots_in mid) tag)) is
    ∙ ap (λ flights. aborted_of (is_in mask tag) (flight_at flights tag)) stays in
    adds_same (one_more (aborted_by mask (slots_in first)) tag) (adds_more before (adds_same same more))

pub aborted_all :
    {first last : LedgerView} (mask tag : ℕ) → tag ≤ 32 → 32 ≤ tag
    → Adds first last (flat_map (aborted_by mask (slots_in first)) (range_with_len 0 tag))
    → Adds first last (all_aborted mask (slots_in first))
aborted_all {first} {last} mask tag most least told =
    let all : tag ≡ 32 = omega arith in
    subst (λ n. Adds first last (flat_map (aborted_by mask (slots_in first)) (range_with_len 0 n))) all told

-- ---- the whole entry

-- the drive that is linked at a place, and the least tag that isn't in flight
abbrev found_in : LedgerView → ℕ → Option DriveView
found_in ledger place = drive_at ledger.head (past ledger) place

abbrev idle_in : LedgerView → Option ℕ
idle_in ledger = lowest_free (slots (past ledger))

pub log_told :
    {first noted last : LedgerView} (place mask : ℕ)
    → Goes first noted 0 1 (Told (log_act place (idle_in first) (found_in first place)) ∷ past first)
    → ((t : ℕ) → IsBitSet mask t ↔ IsTrue (has_tag t (dropped (idle_in first) (found_in first place))))
    → HoldFlights (slots (past first)) (drives first.head (past first))
    → Adds noted last (all_aborted mask (slots_in noted))
    → Adds first last (log_acts first.head (past first) place)
log_told {first} {noted} {last} place mask goes bits held told =
    let flights = slots (past first) in
    let idle = idle_in first in
    let views = drives first.head (past first) in
    let found = found_in first place in
    let number = linked_at (links first.head (past first)) place in
    let stays : slots_in noted ≡ flights = ap slots goes.past ∙ flights_stay (past first) place idle found in
    let drops : all_aborted mask (slots_in noted) ≡ aborted_acts (dropped idle found) =
    ap (all_aborted mask) stays
    ∙ aborted_told flights (dropped idle found) mask bits
    (linked_dropped AreSingle idle number views held.single tt)
    (linked_dropped (Each (IsInFlight flights)) idle number views held.flying tt) in
    adds_same (sym (acts_are place idle found)) (adds_more (adds_act goes) (adds_same drops told))
