-- What lists of acts do to the readings.
use Rattle.std.proofs.Common.{◌≡◌, ◌∙◌, ℕ, Bool, true, List, [], ◌∷◌, ◌++◌, Option, None, Some, option_map, map, suc, zero, refl, sym, ap, if◌then◌else◌}
use Rattle.std.specs.List.{list_all}
use Rattle.ata_base.specs.declared.cmd.Cmd.{Cmd}
use Rattle.ata_trace.specs.Event.{Event, onto}
use Rattle.ata_trace.specs.Event.Event.{Told}
use Rattle.ata_trace.specs.declared.act.Act.{Act}
use Rattle.ata_trace.specs.declared.act.Act.TheVariants.{Issued, Expired, Condemned}
use Rattle.host_tags.specs.Marks.{condemned, expired}
use Rattle.host_tags.specs.Numbers.{is_issue}
use Rattle.host_tags.specs.Slots.{flight_at}
use Rattle.host_tags.specs.declared.in_flight.InFlight.{InFlight}
use Rattle.port_past.specs.Answers.{left_issue}
use Rattle.port_past.specs.Commands.{commands}
use Rattle.port_past.specs.Slots.{slots, slots_after, without_left}
use Rattle.port_stands.specs.Words.{left_by, slot_after, slot_onto, is_no_issue}
use Rattle.ata_base.proofs.Truth.{both}

-- a reading that none_issued act of a kind moves is left by a list of such acts
pub left_alone :
    {A : Type 0} (kind : Act → Bool) (reading : List Event → A)
    → ((past : List Event) (act : Act) → kind act ≡ true → reading (Told act ∷ past) ≡ reading past)
    → (past : List Event) (acts : List Act) → list_all kind acts ≡ true → reading (onto past acts) ≡ reading past
left_alone kind reading leaves past [] all = refl
left_alone kind reading leaves past (act ∷ rest) all =
    let parts = both (kind act) (list_all kind rest) all in
    left_alone kind reading leaves (Told act ∷ past) rest parts.1 ∙ leaves past act parts.0

-- two lists of acts of a kind
pub all_append :
    (kind : Act → Bool) (xs ys : List Act) → list_all kind xs ≡ true → list_all kind ys ≡ true
    → list_all kind (xs ++ ys) ≡ true
all_append kind [] ys all more = more
all_append kind (x ∷ xs) ys all more =
    let parts = both (kind x) (list_all kind xs) all in
    rw parts.0 (all_append kind xs ys parts.1 more)

-- ---- slots, one at a time

pub flight_map :
    (change : Option InFlight → Option InFlight) → change None ≡ None → (slots : List (Option InFlight)) (tag : ℕ)
    → flight_at (map change slots) tag ≡ change (flight_at slots tag)
flight_map change none [] tag = sym none
flight_map change none (slot ∷ slots) zero = refl
flight_map change none (slot ∷ slots) (suc tag) = flight_map change none slots tag

flight_left :
    (left : Option ℕ) (slots : List (Option InFlight)) (tag : ℕ)
    → flight_at (without_left left slots) tag ≡ left_by left (flight_at slots tag)
flight_left None slots tag = refl
flight_left (Some number) slots tag =
    flight_map (λ slot. if is_issue number slot then None else slot) refl slots tag

pub flight_step :
    (act : Act) (commands : List Cmd) (was : List (Option InFlight)) (tag : ℕ) → is_no_issue act ≡ true
    → flight_at (slots_after (Told act) commands was) tag ≡ slot_after act (flight_at was tag)
flight_step (Issued id number at deadline fis) commands was tag none_issued = absurd (cc)
flight_step (Condemned number kinds) commands was tag none_issued =
    flight_map (λ slot. if is_issue number.n slot then option_map (condemned kinds) slot else slot) refl was tag
flight_step (Expired id number) commands was tag none_issued =
    flight_map (λ slot. if is_issue number.n slot then option_map expired slot else slot) refl was tag
flight_step act commands was tag none_issued = flight_left (left_issue act) was tag

-- what acts that issue nothing make of the slot of a tag
pub flight_onto :
    (past : List Event) (acts : List Act) (tag : ℕ) → list_all is_no_issue acts ≡ true
    → flight_at (slots (onto past acts)) tag ≡ slot_onto acts (flight_at (slots past) tag)
flight_onto past [] tag none_issued = refl
flight_onto past (act ∷ rest) tag none_issued =
    let parts = both (is_no_issue act) (list_all is_no_issue rest) none_issued in
    flight_onto (Told act ∷ past) rest tag parts.1
    ∙ ap (slot_onto rest) (flight_step act (commands past) (slots past) tag parts.0)

-- acts of a kind are of each wider kind
pub all_wider :
    (kind wide : Act → Bool) → ((act : Act) → kind act ≡ true → wide act ≡ true) → (acts : List Act)
    → list_all kind acts ≡ true → list_all wide acts ≡ true
all_wider kind wide wider [] all = refl
all_wider kind wide wider (act ∷ rest) all =
    let parts = both (kind act) (list_all kind rest) all in
    rw (wider act parts.0) (all_wider kind wide wider rest parts.1)
