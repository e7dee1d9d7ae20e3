-- How long the readings by place and by tag are.
use Rattle.std.proofs.Common.{◌≡◌, ◌∙◌, ℕ, ◌<◌, ◌==◌, Bool, true, false, List, [], ◌∷◌, Option, None, Some, suc, zero, length, refl, arith, length-set, if◌then◌else◌}
use Rattle.std.specs.List.{slice_index_or}
use Rattle.std.proofs.lemmas.List.{length-map}
use Rattle.ata_base.specs.declared.cmd.Cmd.{Cmd}
use Rattle.ata_script.specs.declared.port_head.PortHead.{PortHead}
use Rattle.ata_trace.specs.Event.{Event}
use Rattle.ata_trace.specs.Event.Event.{Told}
use Rattle.ata_trace.specs.declared.act.Act.TheVariants.{Accepted, Issued, AnsweredOk, AnsweredFailed, AnsweredNodev, Retried, Condemned, Expired, Ended, Attached, Detached, Disabled, Done, ResetBegun}
use Rattle.host_queue.specs.Waiting.{front_of, without_front}
use Rattle.host_tags.specs.Slots.{flight_at, is_flight_at}
use Rattle.host_tags.specs.declared.in_flight.InFlight.{InFlight}
use Rattle.port_past.specs.Commands.{commands, place_of, submitted}
use Rattle.port_past.specs.Attachment.{attached, detachments}
use Rattle.port_past.specs.Queues.{queues, retried, with_submitted, with_retried}
use Rattle.port_past.specs.Slots.{slots, without_left}
use Rattle.port_past.specs.ByTag.{set_where}
use Rattle.drive_model.specs.Told.{is_good_end}
use Rattle.port_past.specs.Completions.{completions, with_completion, but_left}
use Rattle.port_past.specs.declared.completion.Completion.{Completion}
use Rattle.host_tags.specs.Numbers.{is_issue}
use Rattle.port_past.specs.Steps.{last_step}

length_told : (b : Bool) (n : ℕ) (slots : List (Option InFlight)) → length (without_left (if b then None else Some n) slots) ≡ length slots
length_told true n slots = refl
length_told false n slots = length-map slots _

-- there are 32 tags
pub length_slots : (past : List Event) → length (slots past) ≡ 32
length_slots [] = refl
length_slots (Told (Issued id number tag deadline fis) ∷ past) = length-set (slots past) tag _ ∙ length_slots past
length_slots (Told (AnsweredOk id number status error lba count stamps) ∷ past) = length-map (slots past) _ ∙ length_slots past
length_slots (Told (AnsweredFailed id number kinds status error lba count) ∷ past) = length-map (slots past) _ ∙ length_slots past
length_slots (Told (AnsweredNodev id number) ∷ past) = length_told (number.n == 0) number.n (slots past) ∙ length_slots past
length_slots (Told (Retried id number raised) ∷ past) = length-map (slots past) _ ∙ length_slots past
length_slots (Told (Condemned number kinds) ∷ past) = length-map (slots past) _ ∙ length_slots past
length_slots (Told (Expired id number) ∷ past) = length-map (slots past) _ ∙ length_slots past
length_slots (event ∷ past) = length_slots past

-- a tag with an issue is one of them
pub flight_within :
    (slots : List (Option InFlight)) (tag : ℕ) (f : InFlight) → flight_at slots tag ≡ Some f → tag < length slots
flight_within [] tag f here = absurd (cc)
flight_within (slot ∷ slots) zero f here = omega arith
flight_within (slot ∷ slots) (suc tag) f here = omega (arith, flight_within slots tag f here)

length_joined : (c : Option Cmd) (was : List (List Cmd)) → length (with_submitted c was) ≡ length was
length_joined None was = refl
length_joined (Some c) was = length-set was c.place _

length_served : (b : Bool) (x : ℕ) (was : List (List Cmd)) → length (if b then without_front x was else was) ≡ length was
length_served true x was = length-set was x _
length_served false x was = refl

pub length_returned : (back : List Cmd) (was : List (List Cmd)) → length (with_retried back was) ≡ length was
length_returned [] was = refl
length_returned (c ∷ back) was = length-set (with_retried back was) c.place _ ∙ length_returned back was

-- there are 15 queues
pub length_queues : (past : List Event) → length (queues past) ≡ 15
length_queues [] = refl
length_queues (Told (Accepted id) ∷ past) = length_joined (submitted id (last_step past) (detachments past)) (queues past) ∙ length_queues past
length_queues (Told (Issued id number tag deadline fis) ∷ past) = length-set (queues past) (place_of id (commands past)) _ ∙ length_queues past
length_queues (Told (AnsweredNodev id number) ∷ past) = length_served (number.n == 0) (place_of id (commands past)) (queues past) ∙ length_queues past
length_queues (Told Ended ∷ past) = length_returned (retried past) (queues past) ∙ length_queues past
length_queues (event ∷ past) = length_queues past

-- a place at which a command waits is one of the queues
pub front_within : (queues : List (List Cmd)) (x : ℕ) (front : Cmd) → front_of queues x ≡ Some front → x < length queues
front_within [] x front is = absurd (cc)
front_within (q ∷ queues) zero front is = omega arith
front_within (q ∷ queues) (suc x) front is = omega (arith, front_within queues x front is)

pub length_attached : (past : List Event) → length (attached past) ≡ 15
length_attached [] = refl
length_attached (Told (Attached x) ∷ past) = length-set (attached past) x true ∙ length_attached past
length_attached (Told (Detached x) ∷ past) = length-set (attached past) x false ∙ length_attached past
length_attached (Told (Disabled x) ∷ past) = length-set (attached past) x false ∙ length_attached past
length_attached (event ∷ past) = length_attached past

pub true_within : (xs : List Bool) (x : ℕ) → slice_index_or xs x false ≡ true → x < length xs
true_within [] x is = absurd (cc)
true_within (b ∷ xs) zero is = omega arith
true_within (b ∷ xs) (suc x) is = omega (arith, true_within xs x is)

-- a device can only be attached at one of 15 places
pub attached_within : (past : List Event) (x : ℕ) → slice_index_or (attached past) x false ≡ true → x < 15
attached_within past x is = omega (arith, true_within (attached past) x is, length_attached past)

pub length_where : {A : Type 0} (test : Option InFlight → Bool) (value : A) (slots : List (Option InFlight)) (xs : List A)
    → length (set_where test value slots xs) ≡ length xs
length_where test value [] [] = refl
length_where test value [] (x ∷ xs) = refl
length_where test value (slot ∷ slots) [] = refl
length_where test value (slot ∷ slots) (x ∷ xs) = omega (arith, length_where test value slots xs)

length_end : (n : ℕ) (good : Bool) (e : Completion) (slots : List (Option InFlight)) (was : List (Option Completion)) → length (with_completion n good e slots was) ≡ length was
length_end n true e slots was = length_where (is_issue n) (Some e) slots was
length_end n false e slots was = refl

length_end_told : (b : Bool) (n : ℕ) (slots : List (Option InFlight)) (was : List (Option Completion)) → length (but_left (if b then None else Some n) slots was) ≡ length was
length_end_told true n slots was = refl
length_end_told false n slots was = length_where (is_issue n) None slots was

-- ends are kept under 32 tags
pub length_ends : (head : PortHead) (past : List Event) → length (completions head past) ≡ 32
length_ends head [] = refl
length_ends head (Told (Done number status error lba count) ∷ past) = length_end number.n (is_good_end status error lba) _ (slots past) (completions head past) ∙ length_ends head past
length_ends head (Told (Issued id number tag deadline fis) ∷ past) = length-set (completions head past) tag None ∙ length_ends head past
length_ends head (Told (Retried id number raised) ∷ past) = length_where (is_issue number.n) None (slots past) (completions head past) ∙ length_ends head past
length_ends head (Told (ResetBegun (Some place) attempt deadline) ∷ past) = length_where (is_flight_at place) None (slots past) (completions head past) ∙ length_ends head past
length_ends head (Told (ResetBegun None attempt deadline) ∷ past) = refl
length_ends head (Told (AnsweredOk id number status error lba count stamps) ∷ past) = length_where (is_issue number.n) None (slots past) (completions head past) ∙ length_ends head past
length_ends head (Told (AnsweredFailed id number kinds status error lba count) ∷ past) = length_where (is_issue number.n) None (slots past) (completions head past) ∙ length_ends head past
length_ends head (Told (AnsweredNodev id number) ∷ past) = length_end_told (number.n == 0) number.n (slots past) (completions head past) ∙ length_ends head past
length_ends head (event ∷ past) = length_ends head past
